-- Knowledge that is not plain may have a search without end: a union without members is resolved again and again by `unit`,
-- which has nothing to add.
use Rattle.std.proofs.Common.{◌≡◌, ℕ, zero, suc, [], ◌∷◌, Some, refl, ap, ◌∙◌}
use Rattle.std.specs.Prelude.{is_some}
use Rattle.std.specs.Option.{option_and_then}
use Rattle.logic_terms.specs.Concept.{UnionOf, no_concept}
use Rattle.logic_terms.specs.Theory.{Theory}
use Rattle.tableau_rules.specs.Searching.{begun_search, next_search, searched, IsLonger}

-- the knowledge that each element is in a union without members
abbrev nowhere : Theory
nowhere = record {
  names = [];
  hierarchy = [];
  transitive = [];
  assertions = [];
  edges = [];
  differences = [];
  unfoldings = [];
  general = UnionOf no_concept ∷ [];
}

as_before : next_search nowhere (begun_search nowhere) ≡ Some (begun_search nowhere)
as_before = refl

begins_again : (n : ℕ) → searched nowhere n ≡ Some (begun_search nowhere)
begins_again zero = refl
begins_again (suc n) = ap (option_and_then (next_search nowhere)) (begins_again n) ∙ as_before

pub never_ends : (n : ℕ) → IsLonger nowhere n
never_ends n = ap is_some (begins_again (suc n))
