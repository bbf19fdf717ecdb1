-- Finite interpretations, and what they give to a name, a class word, a relation word and a role.
-- After OWL 2, Direct Semantics, section 2.2, with finitely many elements. A word that an interpretation lacks
-- stands for element 0, no elements, or no pairs.
use Rattle.std.specs.Prelude.{ℕ, ◌==◌, ◌&&◌, Bool, true, List, [], ◌∷◌, nat_lt, if◌then◌else◌, unwrap_or, Contains, MatchBool}
use Rattle.std.specs.List.{list_any, list_all}
use Rattle.std.specs.Map.{lookup}
use Rattle.wiki_base.specs.declared.numbers.WordId.{WordId}
use Rattle.logic_terms.specs.declared.expressions.Role.{Role}

-- the elements are the numbers below the size
pub record Interpretation : Type 0 where
  pub size : ℕ
  pub names : List (WordId × ℕ)
  pub classes : List (WordId × List ℕ)
  pub relations : List (WordId × List (ℕ × ℕ))

-- the words of a finite map rise: each is named once
abbrev pub words_above : {X : Type 0} → WordId → List (WordId × X) → Bool
words_above word [] = true
words_above word (e ∷ es) = nat_lt word.0 e.0.0 && words_above e.0 es

abbrev pub words_rise : {X : Type 0} → List (WordId × X) → Bool
words_rise [] = true
words_rise (e ∷ es) = words_above e.0 es

-- what makes the lists an interpretation: there is an element, the maps are finite maps, and they speak of elements
abbrev pub is_interpretation : Interpretation → Bool
is_interpretation i =
    nat_lt 0 i.size
    && words_rise i.names
    && words_rise i.classes
    && words_rise i.relations
    && list_all (λ e. nat_lt e.1 i.size) i.names
    && list_all (λ e. list_all (λ x. nat_lt x i.size) e.1) i.classes
    && list_all (λ e. list_all (λ p. nat_lt p.0 i.size && nat_lt p.1 i.size) e.1) i.relations

abbrev pub is_word : WordId → WordId → Bool
is_word word other = word.0 == other.0

-- the element of a name
abbrev pub element_of : Interpretation → WordId → ℕ
element_of i name = unwrap_or (lookup (is_word name) i.names) 0

-- the elements of a class word
abbrev pub elements_of : Interpretation → WordId → List ℕ
elements_of i word = unwrap_or (lookup (is_word word) i.classes) []

-- the pairs of a relation word
abbrev pub pairs_of : Interpretation → WordId → List (ℕ × ℕ)
pairs_of i word = unwrap_or (lookup (is_word word) i.relations) []

-- whether an element is in a class word, and two elements are a pair of a relation word
abbrev pub has_element : Interpretation → WordId → ℕ → Bool
has_element i word x = list_any (λ y. y == x) (elements_of i word)

abbrev pub has_pair : Interpretation → WordId → ℕ → ℕ → Bool
has_pair i word x y = list_any (λ p. (p.0 == x) && (p.1 == y)) (pairs_of i word)

-- whether two elements are a pair of a role, which swaps the pairs of its word where it is inverted
abbrev pub relates : Interpretation → Role → ℕ → ℕ → Bool
relates i role x y = if role.inverted then has_pair i role.id y x else has_pair i role.id x y

-- the same as a fact
abbrev pub Relates : Interpretation → Role → ℕ → ℕ → Type 0
Relates i role x y = MatchBool role.inverted (Contains (pairs_of i role.id) (y, x)) (Contains (pairs_of i role.id) (x, y))
