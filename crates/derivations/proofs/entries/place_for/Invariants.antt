use Rattle.std.proofs.Common.{◌≡◌, ℕ, ◌-◌, ◌<◌, ◌≤◌, length, map, List}
use Rattle.std.specs.Prelude.{slice_index_or}
use Rattle.std.specs.declared.cmp.Ordering.TheVariants.{Less}
use Rattle.derivation_trees.specs.declared.menus.Group.{Group}
use Rattle.derivation_trees.specs.Menus.{entry_cmp}
use Rattle.derivations.specs.Entries.{shown}
use Rattle.derivations.proofs.EntryLemmas.{Between}
use Rattle.derivations.proofs.entries.place_for.Given as goal

abbrev pub invariant-loop-low : goal.invariant-loop-low
invariant-loop-low l = Between (map shown l.entries) (shown l.entry) l.low l.high

abbrev pub decreases-loop-low : goal.decreases-loop-low
decreases-loop-low l = l.high - l.low
