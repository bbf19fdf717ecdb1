-- What a branch shows of each kind of class, by the parts that a recursion goes through, and that it is so in what fits it.
use Rattle.std.proofs.Common.{◌≡◌, ℕ, Bool, true, false, ◌&&◌, ◌||◌, List, [], ◌∷◌, filter, cond, Option, Some, None, refl, sym, ap, ◌∙◌, subst, inl, inr}
use Rattle.std.specs.List.{list_any, list_all}
use Rattle.std.specs.Option.{option_map_or}
use Rattle.std.specs.declared.alloc.Global.{Global}
use Rattle.std.specs.declared.boxed.Box.{Box}
use Rattle.std.proofs.lemmas.Bool.{and_from, and_parts, or_right, or_cases}
use Rattle.wiki_base.specs.declared.numbers.WordId.{WordId}
use Rattle.logic_terms.specs.declared.expressions.Role.{Role}
use Rattle.logic_terms.specs.declared.expressions.Class.{Class}
use Rattle.logic_terms.specs.declared.expressions.Classes.{Classes}
use Rattle.logic_terms.specs.declared.expressions.Class.TheVariants as class
use Rattle.logic_terms.specs.Concept.{Concept, Concepts, Everything, Atomic, ComplementOf, IntersectionOf, UnionOf, SomeValuesFrom, AllValuesFrom, HasValue, no_concept, also_concept, concepts_from, SubPropertyOf}
use Rattle.logic_terms.specs.Shown.{concept_of, concepts_of}
use Rattle.logic_terms.specs.Interpretation.{Interpretation, element_of, relates}
use Rattle.logic_terms.specs.Meaning.{is_in, is_in_each, is_in_some, holds}
use Rattle.logic_terms.specs.Same.{has_concept}
use Rattle.logic_terms.specs.Theory.{Theory}
use Rattle.logic_terms.proofs.Places.{some_below_passes}
use Rattle.logic_terms.proofs.ShownLemmas.{concept_of-Named, concept_of-Not, concept_of-And, concept_of-Or, concept_of-Some, concept_of-All, concept_of-Value}
use Rattle.tableau_rules.specs.declared.branch.Edge.{Edge}
use Rattle.tableau_rules.specs.Graph.{Graph, label_at}
use Rattle.tableau_rules.specs.Neighbours.{makes_neighbour, is_neighbour, node_of}
use Rattle.tableau_rules.specs.Touching.{touches, edges_at, far_end}
use Rattle.wiki_base.proofs.BoolLaws.{and_first, and_second}
use Rattle.closure_check.proofs.Basics.{any_with_all}
use Rattle.closure_check.proofs.Fitting.{Fits, pairs_up, has_fits, makes_pair, neighbours_pair}
use Rattle.consequences.specs.Shows.{shows, shows_each, shows_some}

module _ (k : Theory) (g : Graph) (x : ℕ) where
  each_shown : (cs : List Concept) → list_all (λ c. shows k g c x) cs ≡ shows_each k g (concepts_from cs) x
  each_shown [] = refl
  each_shown (c ∷ cs) = ap (λ b. shows k g c x && b) (each_shown cs)

  some_shown : (cs : List Concept) → list_any (λ c. shows k g c x) cs ≡ shows_some k g (concepts_from cs) x
  some_shown [] = refl
  some_shown (c ∷ cs) = ap (λ b. shows k g c x || b) (some_shown cs)

-- the node x of g, and a class that is of a kind
module _ (k : Theory) (g : Graph) (x : ℕ) (whole : Class) where
  shown : (kind : Class) (c : Concept) → whole ≡ kind → concept_of kind ≡ c → shows k g c x ≡ shows k g (concept_of whole) x
  shown kind c is shows_c = sym (ap (λ w. shows k g (concept_of w) x) is ∙ ap (λ w. shows k g w x) shows_c)

  labelled : (kind : Class) (c : Concept) (r : Bool) → r ≡ has_concept (label_at g x) (concept_of whole) → whole ≡ kind → concept_of kind ≡ c
      → r ≡ has_concept (label_at g x) c
  labelled kind c r h is shows_c = h ∙ (ap (λ w. has_concept (label_at g x) (concept_of w)) is ∙ ap (has_concept (label_at g x)) shows_c)

  pub shown_named : (word : WordId) (r : Bool) → r ≡ has_concept (label_at g x) (concept_of whole) → whole ≡ class.Named word
      → r ≡ shows k g (concept_of whole) x
  shown_named word r h is = labelled _ _ r h is (concept_of-Named word) ∙ shown _ _ is (concept_of-Named word)

  pub shown_not : (inner : Box Class Global) (r : Bool) → r ≡ has_concept (label_at g x) (concept_of whole) → whole ≡ class.Not inner
      → r ≡ shows k g (concept_of whole) x
  shown_not inner r h is = labelled _ _ r h is (concept_of-Not inner) ∙ shown _ _ is (concept_of-Not inner)

  pub shown_all : (role : Role) (inner : Box Class Global) (r : Bool) → r ≡ has_concept (label_at g x) (concept_of whole) → whole ≡ class.All role inner
      → r ≡ shows k g (concept_of whole) x
  shown_all role inner r h is = labelled _ _ r h is (concept_of-All role inner) ∙ shown _ _ is (concept_of-All role inner)

  pub shown_and : (members : Classes) (r : Bool) → r ≡ list_all (λ c. shows k g c x) (concepts_of members) → whole ≡ class.And members
      → r ≡ shows k g (concept_of whole) x
  shown_and members r h is = h ∙ (each_shown k g x (concepts_of members) ∙ shown _ _ is (concept_of-And members))

  pub shown_or : (members : Classes) (r : Bool) → r ≡ list_any (λ c. shows k g c x) (concepts_of members) → whole ≡ class.Or members
      → r ≡ shows k g (concept_of whole) x
  shown_or members r h is = h ∙ (some_shown k g x (concepts_of members) ∙ shown _ _ is (concept_of-Or members))

  pub shown_some : (role : Role) (b : Box Class Global) (inner : Class) (edges : List Edge) (r : Bool)
      → r ≡ list_any (λ e. makes_neighbour k role x (far_end x e) e && shows k g (concept_of inner) (far_end x e)) edges → edges ≡ edges_at g.edges x
      → inner ≡ b.value → whole ≡ class.Some role b → r ≡ shows k g (concept_of whole) x
  shown_some role b inner edges r h at same is =
      h ∙ (ap (λ es. list_any (λ e. makes_neighbour k role x (far_end x e) e && shows k g (concept_of inner) (far_end x e)) es) at
      ∙ (ap (λ c. list_any (λ e. makes_neighbour k role x (far_end x e) e && shows k g (concept_of c) (far_end x e)) (edges_at g.edges x)) same
      ∙ shown _ _ is (concept_of-Some role b)))

  pub shown_value : (role : Role) (name : WordId) (r : Bool) → r ≡ option_map_or (λ y. is_neighbour k g role x y) (node_of k name) false
      → whole ≡ class.Value role name → r ≡ shows k g (concept_of whole) x
  shown_value role name r h is = h ∙ shown _ _ is (concept_of-Value role name)

-- what all items pass those pass that are kept
all_kept : {X : Type 0} (test keep : X → Bool) (xs : List X) → list_all test xs ≡ true → list_all test (filter keep xs) ≡ true
all_kept test keep [] h = refl
all_kept test keep (x ∷ xs) h =
    go (all_kept test keep xs (and_second (test x) (list_all test xs) h)) (keep x)
  where
    go : list_all test (filter keep xs) ≡ true → (b : Bool) → list_all test (cond b (x ∷ filter keep xs) (filter keep xs)) ≡ true
    go rest true = and_from (test x) (list_all test (filter keep xs)) (and_first (test x) (list_all test xs) h) rest
    go rest false = rest

-- what a branch shows is so in each interpretation that fits it
module _ (i : Interpretation) (k : Theory) (g : Graph) (f : ℕ → ℕ) (fits : Fits i k g f)
    (hierarchy : list_all (λ p. holds i (SubPropertyOf p.0 p.1)) k.hierarchy ≡ true) where
  value_fits : (role : Role) (name : WordId) (x : ℕ) (o : Option ℕ) → node_of k name ≡ o → option_map_or (λ y. is_neighbour k g role x y) o false ≡ true
      → relates i role (f x) (element_of i name) ≡ true
  value_fits role name x None is h = cc
  value_fits role name x (Some y) is h =
      subst (λ a. relates i role (f x) a ≡ true) (fits.names name y is) (neighbours_pair i k f fits.elements hierarchy g fits.edges role x y h)

  mutual
    pub shown_fits : (c : Concept) (x : ℕ) → shows k g c x ≡ true → is_in i c (f x) ≡ true
    shown_fits Everything x h = refl
    shown_fits (Atomic word) x h = has_fits i k g f fits x (Atomic word) h
    shown_fits (ComplementOf c) x h = has_fits i k g f fits x (ComplementOf c) h
    shown_fits (IntersectionOf cs) x h = each_fits cs x h
    shown_fits (UnionOf cs) x h = some_fits cs x h
    shown_fits (SomeValuesFrom role c) x h =
        let w = any_with_all (λ e. makes_neighbour k role x (far_end x e) e && shows k g c (far_end x e)) (pairs_up i f) (edges_at g.edges x) h
        (all_kept (pairs_up i f) (touches x) g.edges fits.edges) in
        let y : ℕ = far_end x w.0 in
        let both_are = and_parts (makes_neighbour k role x y w.0) (shows k g c y) w.1 in
        some_below_passes (λ z. relates i role (f x) z && is_in i c z) (f y) i.size (fits.elements y)
        (and_from (relates i role (f x) (f y)) (is_in i c (f y)) (makes_pair i k f fits.elements hierarchy role x y w.0 both_are.0 w.2)
        (shown_fits c y both_are.1))
    shown_fits (AllValuesFrom role c) x h = has_fits i k g f fits x (AllValuesFrom role c) h
    shown_fits (HasValue role name) x h = value_fits role name x (node_of k name) refl h

    each_fits : (cs : Concepts) (x : ℕ) → shows_each k g cs x ≡ true → is_in_each i cs (f x) ≡ true
    each_fits no_concept x h = refl
    each_fits (also_concept c cs) x h =
        and_from (is_in i c (f x)) (is_in_each i cs (f x)) (shown_fits c x (and_first (shows k g c x) (shows_each k g cs x) h))
        (each_fits cs x (and_second (shows k g c x) (shows_each k g cs x) h))

    some_fits : (cs : Concepts) (x : ℕ) → shows_some k g cs x ≡ true → is_in_some i cs (f x) ≡ true
    some_fits no_concept x h = cc
    some_fits (also_concept c cs) x h = elim (or_cases (shows k g c x) (shows_some k g cs x) h) [
      | inl here ↦ ap (λ b. b || is_in_some i cs (f x)) (shown_fits c x here)
      | inr there ↦ or_right (is_in i c (f x)) (is_in_some i cs (f x)) (some_fits cs x there)
    ]
