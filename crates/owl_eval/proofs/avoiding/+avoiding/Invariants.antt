use Rattle.std.proofs.Common.{◌≡◌, true, take}
use Rattle.std.specs.List.{list_all}
use Rattle.logic_terms.specs.Shown.{concepts_of}
use Rattle.owl_eval.specs.Avoiding.{avoids}
use Rattle.owl_eval.proofs.avoiding.+avoiding.Given as goal

abbrev pub invariant-each_avoids-loop-place : goal.invariant-each_avoids-loop-place
invariant-each_avoids-loop-place l = list_all (avoids l.numbers) (take l.place (concepts_of l.classes)) ≡ true
