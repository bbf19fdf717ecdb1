-- What the pieces of axioms say is what the axioms say.
use Rattle.std.proofs.Common.{◌≡◌, ℕ, zero, suc, ◌<◌, ◌&&◌, ◌||◌, Bool, true, false, List, [], ◌∷◌, ◌++◌, Option, Some, None, refl, sym, ap, ◌∙◌}
use Rattle.std.specs.Prelude.{not, if◌then◌else◌, MatchBool}
use Rattle.std.specs.List.{list_all}
use Rattle.std.specs.Option.{option_map_or}
use Rattle.std.proofs.lemmas.List.Folds.{list_all-append}
use Rattle.std.proofs.lemmas.Bool.Decides.{same_from_decides}
use Rattle.std.proofs.Math.Bool.{or-false, and-true as and_true}
use Rattle.wiki_base.specs.declared.numbers.WordId.{WordId}
use Rattle.wiki_base.proofs.BoolLaws.{and-swap}
use Rattle.logic_terms.specs.declared.expressions.Role.{Role}
use Rattle.logic_terms.specs.Concept.{Concept, Concepts, Everything, Atomic, ComplementOf, IntersectionOf, UnionOf, SomeValuesFrom, AllValuesFrom, HasValue, no_concept, also_concept, Claim, SubClassOf, SubPropertyOf, ClassAssertion, PropertyAssertion, NegativePropertyAssertion, SameIndividual, DifferentIndividuals, TransitiveProperty}
use Rattle.logic_terms.specs.Interpretation.{Interpretation, element_of, relates, Relates, has_pair}
use Rattle.logic_terms.specs.Meaning.{each_below, implies, is_in, is_in_each, is_in_some, holds, all_hold}
use Rattle.logic_terms.specs.Reading.{Holds}
use Rattle.logic_terms.specs.Complement.{complement}
use Rattle.logic_terms.proofs.ComplementLemmas.{is_in-complement}
use Rattle.logic_terms.proofs.MeaningLemmas.{holds-Decides}
use Rattle.logic_terms.specs.Same.{inverse}
use Rattle.logic_terms.specs.Parts.{word_part}
use Rattle.absorb.specs.Pieces.{Piece, either, first_word, without_first_word, together, general, guarded, inclusion, inclusions, pieces_of, all_pieces}
use Rattle.absorb.proofs.PieceClaims.{claim_in}

-- whether a piece is true
abbrev pub piece_holds : Interpretation → Piece → Bool
piece_holds i p = holds i (claim_in p)

-- a role and its inverse relate the same elements, the other way round
turned : (b x y : Bool) → (if not b then x else y) ≡ (if b then y else x)
turned true x y = refl
turned false x y = refl

pub relates-inverse : (i : Interpretation) (role : Role) (x y : ℕ) → relates i (inverse role) x y ≡ relates i role y x
relates-inverse i role x y = turned role.inverted (has_pair i role.id y x) (has_pair i role.id x y)

turned_fact : (b : Bool) (P Q : Type 0) → MatchBool b P Q → MatchBool (not b) Q P
turned_fact true P Q p = p
turned_fact false P Q q = q

turned_back : (b : Bool) (P Q : Type 0) → MatchBool (not b) Q P → MatchBool b P Q
turned_back true P Q p = p
turned_back false P Q q = q

pub Relates-inverse : (i : Interpretation) (role : Role) (x y : ℕ) → Relates i role x y → Relates i (inverse role) y x
Relates-inverse i role x y h = turned_fact role.inverted _ _ h

pub Relates-turned : (i : Interpretation) (role : Role) (x y : ℕ) → Relates i (inverse role) y x → Relates i role x y
Relates-turned i role x y h = turned_back role.inverted _ _ h

pub each_below-same : (n : ℕ) (f g : ℕ → Bool) → ((x : ℕ) → f x ≡ g x) → each_below n f ≡ each_below n g
each_below-same n f g same = ap (each_below n) (λ j x. same x j)

swap_four : (a b c d : Bool) → ((a && b) && (c && d)) ≡ ((a && c) && (b && d))
swap_four true true c d = refl
swap_four true false true d = refl
swap_four true false false d = refl
swap_four false b true d = refl
swap_four false b false d = refl

each_below-and : (n : ℕ) (f g : ℕ → Bool) → each_below n (λ x. f x && g x) ≡ (each_below n f && each_below n g)
each_below-and zero f g = refl
each_below-and (suc n) f g =
    ap (λ b. (f n && g n) && b) (each_below-and n f g) ∙ swap_four (f n) (g n) (each_below n f) (each_below n g)

implies_or : (a b c : Bool) → implies (a || b) c ≡ (implies a c && implies b c)
implies_or true true true = refl
implies_or true true false = refl
implies_or true false true = refl
implies_or true false false = refl
implies_or false b c = refl

each_true : (n : ℕ) → each_below n (λ x. true) ≡ true
each_true zero = refl
each_true (suc n) = each_true n

-- the general form of an inclusion
is_in-either : (i : Interpretation) (c d : Concept) (x : ℕ) → is_in i (either c d) x ≡ (is_in i c x || is_in i d x)
is_in-either i c d x = ap (λ b. is_in i c x || b) (or-false (is_in i d x))

is_in-general : (i : Interpretation) (c d : Concept) (x : ℕ) → is_in i (either (complement c) d) x ≡ implies (is_in i c x) (is_in i d x)
is_in-general i c d x = is_in-either i (complement c) d x ∙ ap (λ b. b || is_in i d x) (is_in-complement i c x)

holds-general : (i : Interpretation) (c d : Concept) → piece_holds i (general c d) ≡ holds i (SubClassOf c d)
holds-general i c d = each_below-same i.size (λ x. is_in i (either (complement c) d) x) (λ x. implies (is_in i c x) (is_in i d x)) (is_in-general i c d)

-- an intersection without its first class word, and that word
is_in-together : (i : Interpretation) (cs : Concepts) (x : ℕ) → is_in i (together cs) x ≡ is_in_each i cs x
is_in-together i no_concept x = refl
is_in-together i (also_concept c no_concept) x = sym (and_true (is_in i c x))
  where
    and_true : (a : Bool) → (a && true) ≡ a
    and_true true = refl
    and_true false = refl
is_in-together i (also_concept c (also_concept d cs)) x = refl

word_of_is : (c : Concept) (word : WordId) → word_part c ≡ Some word → c ≡ Atomic word
word_of_is Everything word h = cc
word_of_is (Atomic other) word h = let e : other ≡ word = cc in ap Atomic e
word_of_is (ComplementOf c) word h = cc
word_of_is (IntersectionOf cs) word h = cc
word_of_is (UnionOf cs) word h = cc
word_of_is (SomeValuesFrom role c) word h = cc
word_of_is (AllValuesFrom role c) word h = cc
word_of_is (HasValue role name) word h = cc

first_step : (i : Interpretation) (c : Concept) (cs : Concepts) (word : WordId) (x : ℕ) (o : Option WordId) → word_part c ≡ o
    → (first_word cs ≡ Some word → is_in_each i cs x ≡ (is_in i (Atomic word) x && is_in_each i (without_first_word cs) x))
    → option_map_or (λ w. Some w) o (first_word cs) ≡ Some word
    → (is_in i c x && is_in_each i cs x) ≡ (is_in i (Atomic word) x && is_in_each i (option_map_or (λ w. cs) o (also_concept c (without_first_word cs))) x)
first_step i c cs word x None e later h =
    ap (λ b. is_in i c x && b) (later h) ∙ and-swap (is_in i c x) (is_in i (Atomic word) x) (is_in_each i (without_first_word cs) x)
first_step i c cs word x (Some w) e later h =
    let same : w ≡ word = cc in
    ap (λ k. is_in i k x && is_in_each i cs x) (word_of_is c w e ∙ ap Atomic same)

pub is_in_each-first : (i : Interpretation) (cs : Concepts) (word : WordId) (x : ℕ) → first_word cs ≡ Some word
    → is_in_each i cs x ≡ (is_in i (Atomic word) x && is_in_each i (without_first_word cs) x)
is_in_each-first i no_concept word x h = cc
is_in_each-first i (also_concept c cs) word x h =
    first_step i c cs word x (word_part c) refl (is_in_each-first i cs word x) h

implies_twice : (a b c : Bool) → implies a (implies b c) ≡ implies (a && b) c
implies_twice true b c = refl
implies_twice false b c = refl

holds-guarded : (i : Interpretation) (cs : Concepts) (d : Concept) (word : WordId) → first_word cs ≡ Some word
    → piece_holds i (guarded cs d word) ≡ holds i (SubClassOf (IntersectionOf cs) d)
holds-guarded i cs d word h =
    each_below-same i.size
    (λ x. implies (is_in i (Atomic word) x) (is_in i (either (complement (together (without_first_word cs))) d) x))
    (λ x. implies (is_in_each i cs x) (is_in i d x))
    (λ x. ap (implies (is_in i (Atomic word) x))
    (is_in-general i (together (without_first_word cs)) d x ∙ ap (λ b. implies b (is_in i d x)) (is_in-together i (without_first_word cs) x))
    ∙ implies_twice (is_in i (Atomic word) x) (is_in_each i (without_first_word cs) x) (is_in i d x)
    ∙ ap (λ b. implies b (is_in i d x)) (sym (is_in_each-first i cs word x h)))

holds_by_word : (i : Interpretation) (cs : Concepts) (d : Concept) (o : Option WordId) → first_word cs ≡ o
    → list_all (piece_holds i) (option_map_or (guarded cs d) o (general (IntersectionOf cs) d) ∷ []) ≡ holds i (SubClassOf (IntersectionOf cs) d)
holds_by_word i cs d None h = and_true (piece_holds i (general (IntersectionOf cs) d)) ∙ holds-general i (IntersectionOf cs) d
holds_by_word i cs d (Some word) h = and_true (piece_holds i (guarded cs d word)) ∙ holds-guarded i cs d word h

-- an inclusion of the elements with a successor in c is one of c in those whose predecessors are all in d
holds-turned : (i : Interpretation) (role : Role) (c d : Concept)
    → holds i (SubClassOf c (AllValuesFrom (inverse role) d)) ≡ holds i (SubClassOf (SomeValuesFrom role c) d)
holds-turned i role c d =
    same_from_decides {P = Holds i (SubClassOf (SomeValuesFrom role c) d)} (holds i (SubClassOf c (AllValuesFrom (inverse role) d)))
    (holds i (SubClassOf (SomeValuesFrom role c) d)) (
      λ t x lt w. (holds-Decides i (SubClassOf c (AllValuesFrom (inverse role) d))).0 t w.0 w.1 w.3 x lt (Relates-inverse i role x w.0 w.2),
      λ all. (holds-Decides i (SubClassOf c (AllValuesFrom (inverse role) d))).1
          (λ x lt inside y below related. all y below (x, lt, Relates-turned i role y x related, inside)),
    )
    (holds-Decides i (SubClassOf (SomeValuesFrom role c) d))

holds-value : (i : Interpretation) (role : Role) (name : WordId) (d : Concept)
    → holds i (ClassAssertion (AllValuesFrom (inverse role) d) name) ≡ holds i (SubClassOf (HasValue role name) d)
holds-value i role name d =
    each_below-same i.size (λ y. implies (relates i (inverse role) (element_of i name) y) (is_in i d y))
    (λ x. implies (relates i role x (element_of i name)) (is_in i d x))
    (λ x. ap (λ b. implies b (is_in i d x)) (relates-inverse i role (element_of i name) x))

-- the pieces of an inclusion say the same
mutual
  pub holds-inclusion : (i : Interpretation) (c d : Concept) → list_all (piece_holds i) (inclusion c d) ≡ holds i (SubClassOf c d)
  holds-inclusion i Everything d = and_true (holds i (SubClassOf Everything d))
  holds-inclusion i (Atomic word) d = and_true (holds i (SubClassOf (Atomic word) d))
  holds-inclusion i (ComplementOf c) d = and_true (piece_holds i (general (ComplementOf c) d)) ∙ holds-general i (ComplementOf c) d
  holds-inclusion i (IntersectionOf cs) d = holds_by_word i cs d (first_word cs) refl
  holds-inclusion i (UnionOf cs) d = holds-inclusions i cs d
  holds-inclusion i (SomeValuesFrom role c) d = holds-inclusion i c (AllValuesFrom (inverse role) d) ∙ holds-turned i role c d
  holds-inclusion i (AllValuesFrom role c) d = and_true (piece_holds i (general (AllValuesFrom role c) d)) ∙ holds-general i (AllValuesFrom role c) d
  holds-inclusion i (HasValue role name) d = and_true (holds i (ClassAssertion (AllValuesFrom (inverse role) d) name)) ∙ holds-value i role name d

  pub holds-inclusions : (i : Interpretation) (cs : Concepts) (d : Concept) → list_all (piece_holds i) (inclusions cs d) ≡ holds i (SubClassOf (UnionOf cs) d)
  holds-inclusions i no_concept d = sym (each_true i.size)
  holds-inclusions i (also_concept c cs) d =
      list_all-append (piece_holds i) (inclusion c d) (inclusions cs d)
      ∙ ap (λ b. b && list_all (piece_holds i) (inclusions cs d)) (holds-inclusion i c d)
      ∙ ap (λ b. holds i (SubClassOf c d) && b) (holds-inclusions i cs d)
      ∙ sym (each_below-same i.size (λ x. implies (is_in i c x || is_in_some i cs x) (is_in i d x))
      (λ x. implies (is_in i c x) (is_in i d x) && implies (is_in_some i cs x) (is_in i d x))
      (λ x. implies_or (is_in i c x) (is_in_some i cs x) (is_in i d x))
      ∙ each_below-and i.size (λ x. implies (is_in i c x) (is_in i d x)) (λ x. implies (is_in_some i cs x) (is_in i d x)))

holds-pieces_of : (i : Interpretation) (claim : Claim) → list_all (piece_holds i) (pieces_of claim) ≡ holds i claim
holds-pieces_of i (SubClassOf c d) = holds-inclusion i c d
holds-pieces_of i (SubPropertyOf r s) = and_true (holds i (SubPropertyOf r s))
holds-pieces_of i (ClassAssertion c name) = and_true (holds i (ClassAssertion c name))
holds-pieces_of i (PropertyAssertion r from to) = and_true (holds i (PropertyAssertion r from to))
holds-pieces_of i (NegativePropertyAssertion r from to) = and_true (holds i (NegativePropertyAssertion r from to))
holds-pieces_of i (SameIndividual one other) = and_true (holds i (SameIndividual one other))
holds-pieces_of i (DifferentIndividuals one other) = and_true (holds i (DifferentIndividuals one other))
holds-pieces_of i (TransitiveProperty word) = and_true (holds i (TransitiveProperty word))

-- each piece is true exactly where each axiom is
pub holds-all_pieces : (i : Interpretation) (claims : List Claim) → list_all (piece_holds i) (all_pieces claims) ≡ all_hold i claims
holds-all_pieces i [] = refl
holds-all_pieces i (claim ∷ claims) =
    list_all-append (piece_holds i) (pieces_of claim) (all_pieces claims)
    ∙ ap (λ b. b && list_all (piece_holds i) (all_pieces claims)) (holds-pieces_of i claim)
    ∙ ap (λ b. holds i claim && b) (holds-all_pieces i claims)
