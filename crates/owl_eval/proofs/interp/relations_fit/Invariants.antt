use Rattle.std.proofs.Common.{◌≡◌, ◌&&◌, ltb, true, take}
use Rattle.std.specs.List.{list_all}
use Rattle.owl_eval.proofs.interp.relations_fit.Given as goal

abbrev pub invariant-loop-entry : goal.invariant-loop-entry
invariant-loop-entry l = list_all (λ e. list_all (λ p. ltb p.0 l.size && ltb p.1 l.size) e.1.items) (take l.entry-index l.relations) ≡ true
