-- Lists of nodes and edges that change, and the classes of a label.
use Rattle.std.proofs.Common.{◌≡◌, ℕ, zero, suc, ◌<◌, ◌||◌, Bool, true, false, List, [], ◌∷◌, ◌++◌, length, set, Some, slice_get, refl, sym, ap, ◌∙◌, subst, inl, inr, arith}
use Rattle.std.specs.List.{list_all, list_any}
use Rattle.std.specs.Option.{option_map_or}
use Rattle.std.proofs.lemmas.Bool.{cases_Bool, cases_lt, or_cases, or_left, or_right, and_parts, cond-true, cond-false}
use Rattle.std.proofs.lemmas.Option.{slice_get_past}
use Rattle.std.proofs.lemmas.List.Folds.{list_any-append}
use Rattle.wiki_base.proofs.BoolLaws.{not_both}
use Rattle.logic_terms.specs.declared.expressions.Role.{Role}
use Rattle.logic_terms.specs.Concept.{Concept}
use Rattle.logic_terms.specs.Same.{same_concept, has_concept}
use Rattle.logic_terms.specs.Theory.{Theory}
use Rattle.logic_terms.proofs.SameLemmas.{same_concept-equal, same_concept-self}
use Rattle.tableau_rules.specs.declared.branch.Edge.{Edge}
use Rattle.tableau_rules.specs.Graph.{Graph, label_at}
use Rattle.tableau_rules.specs.Neighbours.{makes_neighbour}
use Rattle.tableau_rules.specs.Rules.{with_class}

module _ {X : Type 0} where
  pub get_set_same : (xs : List X) (i : ℕ) (v w : X) → slice_get xs i ≡ Some v → slice_get (set xs i w) i ≡ Some w
  get_set_same [] i v w at = absurd (nothing i at)
    where
      nothing : (i : ℕ) → slice_get {X = X} [] i ≡ Some v → ⊥
      nothing i e = cc
  get_set_same (x ∷ xs) zero v w at = refl
  get_set_same (x ∷ xs) (suc i) v w at = get_set_same xs i v w at

  pub get_set_other : (xs : List X) (i j : ℕ) (w : X) → (i ≡ j → ⊥) → slice_get (set xs i w) j ≡ slice_get xs j
  get_set_other [] i j w ne = refl
  get_set_other (x ∷ xs) zero zero w ne = absurd (ne refl)
  get_set_other (x ∷ xs) zero (suc j) w ne = refl
  get_set_other (x ∷ xs) (suc i) zero w ne = refl
  get_set_other (x ∷ xs) (suc i) (suc j) w ne = get_set_other xs i j w (λ e. ne (ap suc e))

  pub get_push_old : (xs : List X) (v : X) (i : ℕ) → i < length xs → slice_get (xs ++ v ∷ []) i ≡ slice_get xs i
  get_push_old [] v i lt = absurd (omega arith)
  get_push_old (x ∷ xs) v zero lt = refl
  get_push_old (x ∷ xs) v (suc i) lt = get_push_old xs v i (omega arith)

  pub get_push_new : (xs : List X) (v : X) → slice_get (xs ++ v ∷ []) (length xs) ≡ Some v
  get_push_new [] v = refl
  get_push_new (x ∷ xs) v = get_push_new xs v

  pub there_is : (xs : List X) (i : ℕ) → i < length xs → (x : X) × (slice_get xs i ≡ Some x)
  there_is [] i lt = absurd (omega arith)
  there_is (x ∷ xs) zero lt = (x, refl)
  there_is (x ∷ xs) (suc i) lt = there_is xs i (omega arith)

pub has-append : (cs ds : List Concept) (c : Concept) → has_concept (cs ++ ds) c ≡ (has_concept cs c || has_concept ds c)
has-append cs ds c = list_any-append (λ d. same_concept d c) cs ds

pub has_here : (cs : List Concept) (i : ℕ) (c : Concept) → slice_get cs i ≡ Some c → has_concept cs c ≡ true
has_here [] i c h = absurd (nothing i h)
  where
    nothing : (i : ℕ) → slice_get {X = Concept} [] i ≡ Some c → ⊥
    nothing i e = cc
has_here (d ∷ ds) zero c h =
    let same : d ≡ c = one d c h in or_left (same_concept d c) (has_concept ds c) (subst (λ z. same_concept z c ≡ true) (sym same) (same_concept-self c))
  where
    one : (a b : Concept) → Some a ≡ Some b → a ≡ b
    one a b e = cc
has_here (d ∷ ds) (suc i) c h = or_right (same_concept d c) (has_concept ds c) (has_here ds i c h)

-- what each class of a list is, a class that it has is
pub each_has : (test : Concept → Bool) (cs : List Concept) (c : Concept) → list_all test cs ≡ true → has_concept cs c ≡ true → test c ≡ true
each_has test [] c all h = cc
each_has test (d ∷ ds) c all h =
    let parts = and_parts (test d) (list_all test ds) all in
    elim (or_cases (same_concept d c) (has_concept ds c) h) [
      | inl same ↦ subst (λ z. test z ≡ true) (same_concept-equal d c same) parts.0
      | inr later ↦ each_has test ds c parts.1 later
    ]

-- a label with one more class has that class
pub new_one : (label : List Concept) (c : Concept) → has_concept (with_class label c) c ≡ true
new_one label c = elim (cases_Bool (has_concept label c)) [
  | inl t ↦ ap (λ l. has_concept l c) (cond-true (has_concept label c) label (label ++ c ∷ []) t) ∙ t
  | inr f ↦ ap (λ l. has_concept l c) (cond-false (has_concept label c) label (label ++ c ∷ []) f) ∙ has-append label (c ∷ []) c
      ∙ or_right (has_concept label c) (has_concept (c ∷ []) c) (or_left (same_concept c c) false (same_concept-self c))
]

-- a node with a class in its label is there
pub has_node : (g : Graph) (x : ℕ) (c : Concept) → has_concept (label_at g x) c ≡ true → x < length g.nodes
has_node g x c h = elim (cases_lt x (length g.nodes)) [
  | inl lt ↦ lt
  | inr past ↦ (let none : has_concept (label_at g x) c ≡ false = ap (λ o. has_concept (option_map_or (λ v. v.label) o []) c) (slice_get_past g.nodes x past) in
      absurd (not_both h none))
]

-- neighbours stay so with one more edge
pub neighbour_more : (k : Theory) (es : List Edge) (e : Edge) (role : Role) (x y : ℕ) → list_any (makes_neighbour k role x y) es ≡ true
    → list_any (makes_neighbour k role x y) (es ++ e ∷ []) ≡ true
neighbour_more k es e role x y h = list_any-append (makes_neighbour k role x y) es (e ∷ [])
    ∙ or_left (list_any (makes_neighbour k role x y) es) (list_any (makes_neighbour k role x y) (e ∷ [])) h
