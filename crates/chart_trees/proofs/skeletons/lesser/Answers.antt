use Rattle.std.proofs.Common.{◌≡◌, false, rules, sym, ◌∙◌}
use Rattle.derivation_trees.proofs.TruthLemmas.{true_is_false}
use Rattle.derivations.proofs.LeastLemmas.{lesser_none, lesser_other, lesser_old}
use Rattle.chart_trees.proofs.skeletons.lesser.Goals as goal

pub returns-in-None : goal.returns-in-None
returns-in-None c = lesser_none c.args.other c.args.least c.in-None.is

pub returns-then-branch : goal.returns-then-branch
returns-then-branch c =
    lesser_other c.in-Some.old c.args.other c.args.least c.in-Some.is (c.in_ok-is_below-in-Some.ensures.0 (search rules))

pub returns-else-branch : goal.returns-else-branch
returns-else-branch c =
    let no : c.in_ok-is_below-in-Some.field-0 ≡ false = search rules in
    lesser_old c.in-Some.old c.args.other c.args.least c.in-Some.is (λ h. true_is_false (sym (c.in_ok-is_below-in-Some.ensures.1 h) ∙ no))
