-- What explanations carry.
use Rattle.std.specs.Prelude.{ℕ, List, map}
use Rattle.logic_terms.specs.Concept.{Claim}
use Rattle.logic_terms.specs.Shown.{claims_of}
use Rattle.owl_eval.specs.declared.checked.CheckedModel.{CheckedModel}
use Rattle.tableau_rules.specs.declared.step.Closed.{Closed}
use Rattle.explain.specs.declared.part.Part.{Part}
use Rattle.explain.specs.declared.why.Why.{Why}
use Rattle.explain.specs.declared.why.Why.TheVariants.{Reason, Consistent, Spent}

-- the axioms of each part
abbrev pub claims_in : List Part → List (List Claim)
claims_in parts = map (λ part. claims_of part.axioms) parts

-- facts of what one kind of answer carries
abbrev pub IfReason : Why → (List ℕ → Closed → List CheckedModel → Type 0) → Type 0
IfReason (Reason kept closed models) P = P kept closed models
IfReason (Consistent model) P = Unit {0}
IfReason (Spent asked) P = Unit {0}

abbrev pub IfConsistent : Why → (CheckedModel → Type 0) → Type 0
IfConsistent (Reason kept closed models) P = Unit {0}
IfConsistent (Consistent model) P = P model
IfConsistent (Spent asked) P = Unit {0}

abbrev pub IfSpent : Why → (List ℕ → Type 0) → Type 0
IfSpent (Reason kept closed models) P = Unit {0}
IfSpent (Consistent model) P = Unit {0}
IfSpent (Spent asked) P = P asked
