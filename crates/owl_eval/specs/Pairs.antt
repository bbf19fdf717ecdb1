-- Pairs of elements.
use Rattle.std.specs.Prelude.{ℕ, ◌==◌, ◌&&◌, Bool, List, [], map, unwrap_or, if◌then◌else◌, IsSorted, IsPermutation}
use Rattle.std.specs.List.{list_any, list_all}
use Rattle.std.specs.Map.{lookup}
use Rattle.std.specs.declared.cmp.Ordering.{Ordering}
use Rattle.std.specs.Ordering.{nat_cmp, ordering_then}
use Rattle.wiki_base.specs.declared.numbers.WordId.{WordId}
use Rattle.logic_terms.specs.declared.expressions.Role.{Role}
use Rattle.logic_terms.specs.Interpretation.{is_word}
use Rattle.logic_terms.specs.Meaning.{implies}

-- by the first element, then by the second
abbrev pub pair_cmp : ℕ × ℕ → ℕ × ℕ → Ordering
pair_cmp p q = ordering_then (nat_cmp p.0 q.0) (nat_cmp p.1 q.1)

abbrev pub swapped : ℕ × ℕ → ℕ × ℕ
swapped p = (p.1, p.0)

-- pairs in rising order, and the same pairs swapped, in rising order too
pub record AreIndexed (pairs inverse : List (ℕ × ℕ)) : Type 0 where
  pub rising : IsSorted pair_cmp pairs
  pub inverse_rising : IsSorted pair_cmp inverse
  pub same : IsPermutation (map swapped pairs) inverse

-- the pairs of a role
abbrev pub pairs_along : Role → List (WordId × List (ℕ × ℕ)) → List (ℕ × ℕ)
pairs_along role relations =
    let pairs = unwrap_or (lookup (is_word role.id) relations) [] in
    if role.inverted then map swapped pairs else pairs

-- whether two elements are one of these pairs
abbrev pub is_paired : List (ℕ × ℕ) → ℕ → ℕ → Bool
is_paired pairs x y = list_any (λ p. (p.0 == x) && (p.1 == y)) pairs

-- whether (x, z) is a pair wherever (x, y) and (y, z) are
abbrev pub leads_on : List (ℕ × ℕ) → Bool
leads_on pairs = list_all (λ p. list_all (λ q. implies (q.0 == p.1) (is_paired pairs p.0 q.1)) pairs) pairs
