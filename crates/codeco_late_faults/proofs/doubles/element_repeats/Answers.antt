use Rattle.std.proofs.Common.{rules}
use Rattle.codeco_late_faults.proofs.OrderLemmas.{back_first, back_second, noback_all}
use Rattle.codeco_late_faults.proofs.doubles.element_repeats.Goals as goal

pub patterns_repeat-requires : goal.patterns_repeat-requires
patterns_repeat-requires c = back_first c.args.element.now _ _ c.as_slice.result.now c.in-Back.is c.requires (search rules)

pub patterns_repeat-requires-else-patterns_repeat : goal.patterns_repeat-requires-else-patterns_repeat
patterns_repeat-requires-else-patterns_repeat c =
    back_second c.args.element.now _ _ c.as_slice-else-patterns_repeat.result.now c.in-Back.is c.requires (search rules)

pub patterns_repeat-requires-in-NoBack : goal.patterns_repeat-requires-in-NoBack
patterns_repeat-requires-in-NoBack c = noback_all c.args.element.now _ c.as_slice-in-NoBack.result.now c.in-NoBack.is c.requires (search rules)
