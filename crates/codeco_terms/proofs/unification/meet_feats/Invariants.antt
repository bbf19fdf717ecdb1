use Rattle.std.proofs.Common.{◌≡◌, take}
use Rattle.codeco_terms.specs.Unification.{IsLeastExtension, AgreeOnShared}
use Rattle.codeco_terms.proofs.unification.meet_feats.Given as goal

abbrev pub invariant-loop-feature : goal.invariant-loop-feature
invariant-loop-feature l = IsLeastExtension (λ m. AgreeOnShared m (take l.feature-index l.feats) l.vals) l.initial.env l.env
