-- Which elements a branch's model relates: those of neighbours, and those that steps by a transitive role lead to.
use Rattle.std.specs.Prelude.{ℕ, zero, suc, ◌≡◌, ◌&&◌, ◌⊎◌, ◌↔◌, true, false, List, [], Contains, IsTrue, Some, Option, unwrap_or, nat_lt, if◌then◌else◌}
use Rattle.std.specs.BTreeSet.{BTreeSet, contains}
use Rattle.std.specs.List.{list_all}
use Rattle.std.specs.Map.{lookup}
use Rattle.wiki_base.specs.declared.numbers.WordId.{WordId}
use Rattle.logic_terms.specs.declared.expressions.Role.{Role}
use Rattle.logic_terms.specs.Interpretation.{is_word, words_rise}
use Rattle.logic_terms.specs.Theory.{Theory, is_below, is_transitive}
use Rattle.owl_eval.specs.Pairs.{pair_cmp, is_paired}
use Rattle.tableau_rules.specs.Graph.{Graph}
use Rattle.tableau_rules.specs.Neighbours.{is_neighbour}

-- b is reached from a by so many steps and one more
abbrev pub Steps : (ℕ → ℕ → Type 0) → ℕ → ℕ → ℕ → Type 0
Steps step zero a b = step a b
Steps step (suc n) a b = (m : ℕ) × Steps step n a m × step m b

-- the transitive closure: b is reached from a by one step or more
abbrev pub Reaches : (ℕ → ℕ → Type 0) → ℕ → ℕ → Type 0
Reaches step a b = (n : ℕ) × Steps step n a b

-- two elements are those of neighbours by a role
abbrev pub AreJoined : Theory → Graph → (ℕ → Option ℕ) → Role → ℕ → ℕ → Type 0
AreJoined k g stands role a b = (x y : ℕ) × (stands x ≡ Some a) × (stands y ≡ Some b) × IsTrue (is_neighbour k g role x y)

-- two elements are a pair of a role: they are joined by it, or steps by a transitive role that is the role or below it lead
-- from the one to the other
abbrev pub AreRelated : Theory → Graph → (ℕ → Option ℕ) → Role → ℕ → ℕ → Type 0
AreRelated k g stands role a b =
    AreJoined k g stands role a b
    ⊎ ((t : Role) × IsTrue (is_transitive k t) × IsTrue (is_below k t role) × Reaches (AreJoined k g stands t) a b)

-- the relation is transitive
abbrev pub IsTransitive : (ℕ → ℕ → Type 0) → Type 0
IsTransitive related = (a b c : ℕ) → related a b → related b c → related a c

-- a is an element, or related to it; b is one, or it is related to b
abbrev pub AtOrBefore : (ℕ → ℕ → Type 0) → ℕ → ℕ → Type 0
AtOrBefore related a element = (a ≡ element) ⊎ related a element

abbrev pub AtOrBehind : (ℕ → ℕ → Type 0) → ℕ → ℕ → Type 0
AtOrBehind related element b = (element ≡ b) ⊎ related element b

-- a set has exactly these pairs
abbrev pub Knows : BTreeSet (ℕ × ℕ) → List (ℕ × ℕ) → Type 0
Knows known pairs = (p : ℕ × ℕ) → contains pair_cmp known p ≡ is_paired pairs p.0 p.1

-- the pairs of a word among these
abbrev pub pairs_in : List (WordId × List (ℕ × ℕ)) → WordId → List (ℕ × ℕ)
pairs_in relations word = unwrap_or (lookup (is_word word) relations) []

-- a word as a role that is not inverted
abbrev pub straight : WordId → Role
straight word = record { id = word; inverted = false }

-- a pair that transitive words add to these pairs: that of a role which a transitive word is or is below, where steps by the
-- pairs of the word lead
abbrev pub IsLed : Theory → List (WordId × List (ℕ × ℕ)) → WordId → ℕ × ℕ → Type 0
IsLed k relations v p =
    (word : WordId) × (role : Role) × (a : ℕ) × (b : ℕ) × IsTrue (is_transitive k (straight word)) × IsTrue (is_below k (straight word) role)
    × Reaches (λ c d. Contains (pairs_in relations word) (c, d)) a b × (v ≡ role.id) × ((if role.inverted then (b, a) else (a, b)) ≡ p)

-- relations have what others have and what transitive words add to that, between the elements below a size
pub record Closes (k : Theory) (old new : List (WordId × List (ℕ × ℕ))) : Type 0 where
  pub rises : words_rise new ≡ true
  pub pairs : (v : WordId) (p : ℕ × ℕ) → Contains (pairs_in new v) p ↔ (Contains (pairs_in old v) p ⊎ IsLed k old v p)
  pub within : (size : ℕ) → list_all (λ e. list_all (λ p. nat_lt p.0 size && nat_lt p.1 size) e.1) old ≡ true
      → list_all (λ e. list_all (λ p. nat_lt p.0 size && nat_lt p.1 size) e.1) new ≡ true
