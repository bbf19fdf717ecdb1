-- What each kind of class has as members, by the parts that a recursion goes through.
use Rattle.std.proofs.Common.{◌≡◌, ℕ, Bool, ◌&&◌, ◌||◌, List, [], ◌∷◌, refl, sym, ap, ◌∙◌}
use Rattle.std.specs.List.{list_any, list_all}
use Rattle.std.specs.declared.alloc.Global.{Global}
use Rattle.std.specs.declared.boxed.Box.{Box}
use Rattle.wiki_base.specs.declared.numbers.WordId.{WordId}
use Rattle.logic_terms.specs.declared.expressions.Role.{Role}
use Rattle.logic_terms.specs.declared.expressions.Class.{Class}
use Rattle.logic_terms.specs.declared.expressions.Classes.{Classes}
use Rattle.logic_terms.specs.declared.expressions.Class.TheVariants as class
use Rattle.logic_terms.specs.Concept.{Concept, concepts_from}
use Rattle.logic_terms.specs.Shown.{concept_of, concepts_of}
use Rattle.logic_terms.specs.Interpretation.{Interpretation, element_of, relates}
use Rattle.logic_terms.specs.Meaning.{implies, some_below, each_below, is_in, is_in_each, is_in_some}
use Rattle.logic_terms.proofs.ShownLemmas.{concept_of-And, concept_of-Or, concept_of-Some, concept_of-All, concept_of-Value}

each_member : (i : Interpretation) (cs : List Concept) (x : ℕ) → list_all (λ c. is_in i c x) cs ≡ is_in_each i (concepts_from cs) x
each_member i [] x = refl
each_member i (c ∷ cs) x = ap (λ b. is_in i c x && b) (each_member i cs x)

some_member : (i : Interpretation) (cs : List Concept) (x : ℕ) → list_any (λ c. is_in i c x) cs ≡ is_in_some i (concepts_from cs) x
some_member i [] x = refl
some_member i (c ∷ cs) x = ap (λ b. is_in i c x || b) (some_member i cs x)

-- the element x of i, and a class that is of a kind
module _ (i : Interpretation) (x : ℕ) (whole : Class) where
  shown : (kind : Class) (k : Concept) → whole ≡ kind → concept_of kind ≡ k → is_in i k x ≡ is_in i (concept_of whole) x
  shown kind k is shows = sym (ap (λ w. is_in i (concept_of w) x) is ∙ ap (λ w. is_in i w x) shows)

  pub in_and : (members : Classes) (r : Bool) → r ≡ list_all (λ c. is_in i c x) (concepts_of members) → whole ≡ class.And members
      → r ≡ is_in i (concept_of whole) x
  in_and members r h is = h ∙ (each_member i (concepts_of members) x ∙ shown _ _ is (concept_of-And members))

  pub in_or : (members : Classes) (r : Bool) → r ≡ list_any (λ c. is_in i c x) (concepts_of members) → whole ≡ class.Or members
      → r ≡ is_in i (concept_of whole) x
  in_or members r h is = h ∙ (some_member i (concepts_of members) x ∙ shown _ _ is (concept_of-Or members))

  pub in_some : (role : Role) (b : Box Class Global) (inner : Class) (pairs : List (ℕ × ℕ)) (r : Bool)
      → r ≡ list_any (λ p. is_in i (concept_of inner) p.1) pairs
      → ((test : ℕ → Bool) → list_any (λ p. test p.1) pairs ≡ some_below i.size (λ y. relates i role x y && test y)) → inner ≡ b.value
      → whole ≡ class.Some role b → r ≡ is_in i (concept_of whole) x
  in_some role b inner pairs r h along same is =
      h ∙ (along (λ y. is_in i (concept_of inner) y)
      ∙ (ap (λ c. some_below i.size (λ y. relates i role x y && is_in i (concept_of c) y)) same
      ∙ shown _ _ is (concept_of-Some role b)))

  pub in_all : (role : Role) (b : Box Class Global) (inner : Class) (pairs : List (ℕ × ℕ)) (r : Bool) → r ≡ list_all (λ p. is_in i (concept_of inner) p.1) pairs
      → ((test : ℕ → Bool) → list_all (λ p. test p.1) pairs ≡ each_below i.size (λ y. implies (relates i role x y) (test y))) → inner ≡ b.value
      → whole ≡ class.All role b → r ≡ is_in i (concept_of whole) x
  in_all role b inner pairs r h along same is =
      h ∙ (along (λ y. is_in i (concept_of inner) y)
      ∙ (ap (λ c. each_below i.size (λ y. implies (relates i role x y) (is_in i (concept_of c) y))) same
      ∙ shown _ _ is (concept_of-All role b)))

  pub in_value : (role : Role) (name : WordId) (y : ℕ) (r : Bool) → r ≡ relates i role x y → y ≡ element_of i name → whole ≡ class.Value role name
      → r ≡ is_in i (concept_of whole) x
  in_value role name y r h at is = h ∙ (ap (relates i role x) at ∙ shown _ _ is (concept_of-Value role name))
