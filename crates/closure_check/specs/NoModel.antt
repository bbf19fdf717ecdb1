-- Knowledge without a finite model.
use Rattle.std.specs.Prelude.{◌≡◌, true}
use Rattle.logic_terms.specs.Interpretation.{Interpretation, is_interpretation}
use Rattle.logic_terms.specs.Theory.{Theory, IsModelOf}

-- no finite interpretation is a model
abbrev pub HasNoModel : Theory → Type 0
HasNoModel k = (i : Interpretation) → is_interpretation i ≡ true → ¬ IsModelOf i k
