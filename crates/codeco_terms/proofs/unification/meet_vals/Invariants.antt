use Rattle.std.proofs.Common.{◌≡◌, All, take}
use Rattle.codeco_terms.specs.Unification.{IsLeastExtension, Meets}
use Rattle.codeco_terms.proofs.unification.meet_vals.Given as goal

abbrev pub invariant-loop-other : goal.invariant-loop-other
invariant-loop-other l = IsLeastExtension (λ m. All (Meets m l.feature l.term) (take l.other-index l.vals)) l.initial.env l.env
