-- What a checked model holds.
use Rattle.std.specs.Prelude.{List}
use Rattle.logic_terms.specs.Concept.{Claim}
use Rattle.logic_terms.specs.Shown.{claims_of}
use Rattle.logic_terms.specs.Interpretation.{Interpretation}
use Rattle.owl_eval.specs.declared.checked.CheckedModel.{CheckedModel}

-- its interpretation, and the claims of its axioms
abbrev pub kept_interp : CheckedModel → Interpretation
kept_interp checked = checked.interp

abbrev pub kept_claims : CheckedModel → List Claim
kept_claims checked = claims_of checked.axioms
