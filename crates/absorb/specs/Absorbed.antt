-- What absorption makes of axioms.
use Rattle.std.specs.Prelude.{ℕ, ◌≡◌, ◌≤◌, ◌⊎◌, ◌↔◌, false, ◌&&◌, List, map, All, AllPairs, Contains, IsTrue}
use Rattle.wiki_base.specs.declared.numbers.WordId.{WordId}
use Rattle.logic_terms.specs.declared.expressions.Role.{Role}
use Rattle.logic_terms.specs.Concept.{Claim}
use Rattle.logic_terms.specs.Names.{names_rise}
use Rattle.logic_terms.specs.Same.{same_role, inverse}
use Rattle.logic_terms.specs.Theory.{Theory, is_below}
use Rattle.absorb.specs.Closure.{Reaches}
use Rattle.absorb.specs.Sorted.{sorted}

-- one of these equalities is of these two names, in either order
abbrev pub AreEquated : List (WordId × WordId) → WordId → WordId → Type 0
AreEquated equalities one other = Contains equalities (one, other) ⊎ Contains equalities (other, one)

-- the representative of a name is the least of the names that equalities join to it
pub record Represents (equalities : List (WordId × WordId)) (name representative : WordId) : Type 0 where
  pub joined : Reaches (AreEquated equalities) name representative
  pub least : (other : WordId) → Reaches (AreEquated equalities) name other → representative.0 ≤ other.0

-- an inclusion puts one role below the other, as it stands or with both sides inverted
abbrev pub IsPutBelow : List (Role × Role) → Role → Role → Type 0
IsPutBelow inclusions below above = Contains inclusions (below, above) ⊎ Contains inclusions (inverse below, inverse above)

-- the knowledge that absorption makes of axioms and all given names: each name has its representative; the hierarchy is
-- the closure of the inclusions of roles, as pairs of different roles, each once; the transitive words are in order of
-- number, each once; all else is in the order of the axioms
pub record IsAbsorbed (claims : List Claim) (names : List WordId) (k : Theory) : Type 0 where
  pub given : map (λ e. e.0) k.names ≡ names
  pub representatives : All (λ e. Represents (sorted claims).equalities e.0 e.1) k.names
  pub hierarchy : (r s : Role) → IsTrue (is_below k r s) ↔ Reaches (IsPutBelow (sorted claims).role_inclusions) r s
  pub different : All (λ p. same_role p.0 p.1 ≡ false) k.hierarchy
  pub once : AllPairs (λ p q. (same_role p.0 q.0 && same_role p.1 q.1) ≡ false) k.hierarchy
  pub rising : IsTrue (names_rise k.transitive)
  pub transitive : (word : WordId) → Contains k.transitive word ↔ Contains (sorted claims).transitive word
  pub assertions : k.assertions ≡ (sorted claims).assertions
  pub edges : k.edges ≡ (sorted claims).edges
  pub differences : k.differences ≡ (sorted claims).differences
  pub unfoldings : k.unfoldings ≡ (sorted claims).unfoldings
  pub general : k.general ≡ (sorted claims).general
