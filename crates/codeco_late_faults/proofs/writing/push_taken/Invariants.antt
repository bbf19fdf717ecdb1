use Rattle.std.proofs.Common.{◌≡◌, ◌++◌, drop, map}
use Rattle.codeco_terms.specs.declared.values.Term.TheVariants.{Var}
use Rattle.codeco_late_faults.proofs.writing.push_taken.Given as goal

abbrev pub invariant-loop-feature : goal.invariant-loop-feature
invariant-loop-feature l = l.feats.items ++ map (λ t. (t.0, Var t.1)) (drop l.feature-index l.taken)
    ≡ l.initial.feats.items ++ map (λ t. (t.0, Var t.1)) l.taken
