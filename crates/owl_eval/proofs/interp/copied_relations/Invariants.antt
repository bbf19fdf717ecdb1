use Rattle.std.proofs.Common.{◌≡◌, take}
use Rattle.owl_eval.proofs.interp.copied_relations.Given as goal

abbrev pub invariant-loop-relation : goal.invariant-loop-relation
invariant-loop-relation l = l.copied.items ≡ take l.relation-index l.relations
