use Rattle.std.proofs.Common.{◌≡◌, ℕ, ◌+◌, ◌*◌, [], ◌∷◌, ◌++◌, take, drop, map}
use Rattle.derivations.specs.Enumeration as enumeration
use Rattle.derivations.proofs.choices.fixed_at.Given as goal

abbrev pub invariant-loop-feature : goal.invariant-loop-feature
invariant-loop-feature l =
    enumeration.fixed_at l.pairs l.variable (drop l.feature-index l.terms) ≡ enumeration.fixed_at l.pairs l.variable l.terms
