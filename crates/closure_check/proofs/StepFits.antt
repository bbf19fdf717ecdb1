-- Where an interpretation is a model of the knowledge and fits a branch, it fits one of the branches after a step.
use Rattle.std.proofs.Common.{◌≡◌, ℕ, ◌<◌, ◌==◌, ◌&&◌, ◌||◌, Bool, true, false, List, [], ◌∷◌, length, map, filter, cond, Option, Some, None, slice_get, subst, refl, sym, ap, ◌∙◌, inl, inr, arith}
use Rattle.std.specs.Prelude.{not, nat_lt, if◌then◌else◌}
use Rattle.std.specs.List.{list_any, list_all}
use Rattle.std.specs.Option.{option_map_or, option_and_then, option_or, option_to_list}
use Rattle.std.proofs.lemmas.Bool.{eqb-true, and_from, cases_Bool}
use Rattle.wiki_base.specs.declared.numbers.WordId.{WordId}
use Rattle.wiki_base.proofs.BoolLaws.{and_first, and_second}
use Rattle.closure_check.proofs.ClashFits.{word_in}
use Rattle.tableau_rules.proofs.Reaching.{some_below_found}
use Rattle.tableau_rules.proofs.Roots.{node_within}
use Rattle.logic_terms.specs.declared.expressions.Role.{Role}
use Rattle.logic_terms.specs.Concept.{Concept, Concepts, Everything, Atomic, IntersectionOf, UnionOf, SomeValuesFrom, AllValuesFrom, HasValue, no_concept, also_concept, SubClassOf, SubPropertyOf, TransitiveProperty}
use Rattle.logic_terms.specs.Interpretation.{Interpretation, element_of, has_element, relates, is_word}
use Rattle.logic_terms.specs.Meaning.{is_in, is_in_each, is_in_some, implies, holds}
use Rattle.logic_terms.specs.Parts.{members_in, word_part, intersection_part, union_part, some_part, all_part, value_part}
use Rattle.logic_terms.specs.Complement.{complement}
use Rattle.logic_terms.specs.Same.{has_concept}
use Rattle.logic_terms.specs.Theory.{Theory}
use Rattle.logic_terms.proofs.ComplementLemmas.{is_in-complement}
use Rattle.logic_terms.proofs.SameLemmas.{word_equal}
use Rattle.tableau_rules.specs.declared.step.Rule.{Rule}
use Rattle.tableau_rules.specs.declared.step.Rule.TheVariants as rule
use Rattle.tableau_rules.specs.declared.step.Step.{Step}
use Rattle.tableau_rules.specs.First.{first_below, where_true}
use Rattle.tableau_rules.specs.Graph.{Graph, label_at, class_at}
use Rattle.tableau_rules.specs.Neighbours.{node_of, is_neighbour}
use Rattle.tableau_rules.specs.Blocking.{is_indirectly_blocked}
use Rattle.tableau_rules.specs.Carrying.{role_of_all, carried}
use Rattle.tableau_rules.specs.Rules.{lacks_all, unfoldings_of, open_members, unit_member, needs, row, site, applies, with_classes, adding, with_edge, with_node, choices_for, choices, effect, after}
use Rattle.closure_check.proofs.Basics.{implied, not_both, any_at, any_kept, only_one, each_at, first_passes, where_holds}
use Rattle.closure_check.proofs.CarryFits.{carried_in}
use Rattle.closure_check.proofs.Fitting.{Fits, class_fits, class_within, has_fits, with_classes_all, adding_fits, neighbours_pair, with_edge_fits, and_at, with_node_fits}

each_in : (i : Interpretation) (cs : Concepts) (a : ℕ) → is_in_each i cs a ≡ list_all (λ c. is_in i c a) (members_in cs)
each_in i no_concept a = refl
each_in i (also_concept c cs) a = ap (λ b. is_in i c a && b) (each_in i cs a)

some_in : (i : Interpretation) (cs : Concepts) (a : ℕ) → is_in_some i cs a ≡ list_any (λ c. is_in i c a) (members_in cs)
some_in i no_concept a = refl
some_in i (also_concept c cs) a = ap (λ b. is_in i c a || b) (some_in i cs a)

-- what an element of a class says of the class's parts
intersection_in : (i : Interpretation) (c : Concept) (cs : List Concept) (a : ℕ) → intersection_part c ≡ Some cs → is_in i c a ≡ true
    → list_all (λ d. is_in i d a) cs ≡ true
intersection_in i (IntersectionOf ds) cs a e h =
    let same : members_in ds ≡ cs = cc in
    ap (list_all (λ d. is_in i d a)) (sym same) ∙ (sym (each_in i ds a) ∙ h)
intersection_in i _ cs a e h = cc

union_in : (i : Interpretation) (c : Concept) (cs : List Concept) (a : ℕ) → union_part c ≡ Some cs → is_in i c a ≡ true → list_any (λ d. is_in i d a) cs ≡ true
union_in i (UnionOf ds) cs a e h =
    let same : members_in ds ≡ cs = cc in
    ap (list_any (λ d. is_in i d a)) (sym same) ∙ (sym (some_in i ds a) ∙ h)
union_in i _ cs a e h = cc

all_in : (i : Interpretation) (c : Concept) (p : Role × Concept) (a b : ℕ) → all_part c ≡ Some p → is_in i c a ≡ true → b < i.size → relates i p.0 a b ≡ true
    → is_in i p.1 b ≡ true
all_in i (AllValuesFrom r d) p a b e h lt pair =
    let same : (r, d) ≡ p = cc in
    let pair_r : relates i r a b ≡ true = subst (λ q. relates i q.0 a b ≡ true) (sym same) pair in
    subst (λ q. is_in i q.1 b ≡ true) same
    (implied (relates i r a b) (is_in i d b) (each_at i.size (λ y. implies (relates i r a y) (is_in i d y)) b h lt) pair_r)
all_in i _ p a b e h lt pair = cc

value_in : (i : Interpretation) (c : Concept) (p : Role × WordId) (a : ℕ) → value_part c ≡ Some p → is_in i c a ≡ true
    → relates i p.0 a (element_of i p.1) ≡ true
value_in i (HasValue r name) p a e h =
    let same : (r, name) ≡ p = cc in subst (λ q. relates i q.0 a (element_of i q.1) ≡ true) same h
value_in i _ p a e h = cc

some_values_in : (i : Interpretation) (c : Concept) (p : Role × Concept) (a : ℕ) → some_part c ≡ Some p → is_in i c a ≡ true
    → (b : ℕ) × (b < i.size) × (relates i p.0 a b ≡ true) × (is_in i p.1 b ≡ true)
some_values_in i (SomeValuesFrom r d) p a e h =
    let same : (r, d) ≡ p = cc in
    let w = some_below_found (λ y. relates i r a y && is_in i d y) i.size h in (
      w.0,
      w.1,
      subst (λ q. relates i q.0 a w.0 ≡ true) same (and_first (relates i r a w.0) (is_in i d w.0) w.2),
      subst (λ q. is_in i q.1 w.0 ≡ true) same (and_second (relates i r a w.0) (is_in i d w.0) w.2),
    )
some_values_in i _ p a e h = cc

-- what an element of a class word unfolds to
unfolded_in : (i : Interpretation) (word : WordId) (a : ℕ) → a < i.size → has_element i word a ≡ true → (es : List (WordId × Concept))
    → list_all (λ e. holds i (SubClassOf (Atomic e.0) e.1)) es ≡ true → list_all (λ d. is_in i d a) (map (λ e. e.1) (filter (λ e. is_word word e.0) es)) ≡ true
unfolded_in i word a lt is [] h = refl
unfolded_in i word a lt is (e ∷ es) h =
    go (unfolded_in i word a lt is es (and_second (holds i (SubClassOf (Atomic e.0) e.1)) (list_all (λ d. holds i (SubClassOf (Atomic d.0) d.1)) es) h))
    (is_word word e.0) refl
  where
    go : list_all (λ d. is_in i d a) (map (λ d. d.1) (filter (λ d. is_word word d.0) es)) ≡ true → (b : Bool) → is_word word e.0 ≡ b
        → list_all (λ d. is_in i d a) (map (λ d. d.1) (cond b (e ∷ filter (λ d. is_word word d.0) es) (filter (λ d. is_word word d.0) es))) ≡ true
    go rest true same =
        and_from (is_in i e.1 a) (list_all (λ d. is_in i d a) (map (λ d. d.1) (filter (λ d. is_word word d.0) es)))
        (implied (has_element i e.0 a) (is_in i e.1 a)
        (each_at i.size (λ x. implies (has_element i e.0 x) (is_in i e.1 x)) a
        (and_first (holds i (SubClassOf (Atomic e.0) e.1)) (list_all (λ d. holds i (SubClassOf (Atomic d.0) d.1)) es) h) lt)
        (subst (λ v. has_element i v a ≡ true) (word_equal word e.0 same) is))
        rest
    go rest false other = rest

-- each element is in each general class
pub general_in : (i : Interpretation) (a : ℕ) → a < i.size → (cs : List Concept) → list_all (λ c. holds i (SubClassOf Everything c)) cs ≡ true
    → list_all (λ c. is_in i c a) cs ≡ true
general_in i a lt [] h = refl
general_in i a lt (c ∷ cs) h =
    and_from (is_in i c a) (list_all (λ d. is_in i d a) cs)
    (each_at i.size (λ x. implies true (is_in i c x)) a (and_first (holds i (SubClassOf Everything c)) (list_all (λ d. holds i (SubClassOf Everything d)) cs) h)
    lt)
    (general_in i a lt cs (and_second (holds i (SubClassOf Everything c)) (list_all (λ d. holds i (SubClassOf Everything d)) cs) h))

-- the parts of a model that the rules rest on
pub record Obeys (i : Interpretation) (k : Theory) : Type 0 where
  pub hierarchy : list_all (λ p. holds i (SubPropertyOf p.0 p.1)) k.hierarchy ≡ true
  pub transitive : list_all (λ w. holds i (TransitiveProperty w)) k.transitive ≡ true
  pub named : (name : WordId) → element_of i name < i.size
  pub unfoldings : list_all (λ e. holds i (SubClassOf (Atomic e.0) e.1)) k.unfoldings ≡ true
  pub general : list_all (λ c. holds i (SubClassOf Everything c)) k.general ≡ true

module _ (i : Interpretation) (k : Theory) (obeys : Obeys i k) (g : Graph) (f : ℕ → ℕ) (fits : Fits i k g f) (x : ℕ) (c : Concept)
    (inside : is_in i c (f x) ≡ true) where
  and_fits : (o : Option (List Concept)) → intersection_part c ≡ o → Fits i k (option_map_or (adding g x) o g) f
  and_fits None e = fits
  and_fits (Some cs) e = adding_fits i k g f fits x cs (intersection_in i c cs (f x) e inside)

  unfold_fits : (o : Option WordId) → word_part c ≡ o → Fits i k (option_map_or (λ word. adding g x (unfoldings_of k word)) o g) f
  unfold_fits None e = fits
  unfold_fits (Some word) e =
      adding_fits i k g f fits x (unfoldings_of k word)
      (unfolded_in i word (f x) (fits.elements x) (word_in i c word (f x) e inside) k.unfoldings obeys.unfoldings)

  all_fits : (y : ℕ) (o : Option (Role × Concept)) → all_part c ≡ o
      → option_and_then (λ p. first_below (length g.nodes) (λ z. where_true (needs k g p.0 p.1 x z) z)) o ≡ Some y
      → Fits i k (option_map_or (λ p. adding g y (p.1 ∷ [])) o g) f
  all_fits y None e h = fits
  all_fits y (Some p) e h =
      let need : needs k g p.0 p.1 x y ≡ true = first_passes (length g.nodes) (needs k g p.0 p.1 x) y h in
      let pair : relates i p.0 (f x) (f y) ≡ true =
      neighbours_pair i k f fits.elements obeys.hierarchy g fits.edges p.0 x y
      (and_first (is_neighbour k g p.0 x y) (not (is_indirectly_blocked k g y) && not (has_concept (label_at g y) p.1)) need) in
      adding_fits i k g f fits y (p.1 ∷ []) (and_from (is_in i p.1 (f y)) true (all_in i c p (f x) (f y) e inside (fits.elements y) pair) refl)

  trans_fits : (y : ℕ) (o : Option Role) → role_of_all c ≡ o → Fits i k (option_map_or (λ role. adding g y (carried k g role c x y)) o g) f
  trans_fits y None e = fits
  trans_fits y (Some role) e =
      adding_fits i k g f fits y (carried k g role c x y)
      (carried_in i k obeys.hierarchy obeys.named c role e (f x) (f y) (fits.elements x) inside (λ t. is_neighbour k g t x y)
      (λ t near. neighbours_pair i k f fits.elements obeys.hierarchy g fits.edges t x y near) k.transitive obeys.transitive)

  value_fits : x < length g.nodes → (o : Option (Role × WordId)) → value_part c ≡ o
      → Fits i k (option_map_or (λ p. option_map_or (λ z. with_edge g (record { from = x; role = p.0; to = z })) (node_of k p.1) g) o g) f
  value_fits lt None e = fits
  value_fits lt (Some p) e = go (node_of k p.1) refl
    where
      go : (n : Option ℕ) → node_of k p.1 ≡ n → Fits i k (option_map_or (λ z. with_edge g (record { from = x; role = p.0; to = z })) n g) f
      go None is = fits
      go (Some z) is =
          with_edge_fits i k g f fits (record { from = x; role = p.0; to = z })
          (subst (λ a. relates i p.0 (f x) a ≡ true) (sym (fits.names p.1 z is)) (value_in i c p (f x) e inside))
          lt (omega (arith, node_within k p.1 z is, fits.named))

  -- a member that holds is not denied by the label
  not_denied : (d : Concept) → is_in i d (f x) ≡ true → not (has_concept (label_at g x) (complement d)) ≡ true
  not_denied d holds_here = elim (cases_Bool (has_concept (label_at g x) (complement d))) [
    | inl denied ↦ absurd (not_both (is_in i d (f x)) holds_here (sym (is_in-complement i d (f x)) ∙ has_fits i k g f fits x (complement d) denied))
    | inr free ↦ ap not free
  ]

  unit_fits : (o : Option (List Concept)) → union_part c ≡ o → (y : ℕ)
      → option_and_then (λ cs. where_true (lacks_all (label_at g x) cs && nat_lt (length (open_members (label_at g x) cs)) 2) 0) o ≡ Some y
      → Fits i k (option_map_or (λ cs. adding g x (option_to_list (unit_member (label_at g x) cs))) o g) f
  unit_fits None e y h = fits
  unit_fits (Some cs) e y h =
      let few : nat_lt (length (open_members (label_at g x) cs)) 2 ≡ true =
      and_second (lacks_all (label_at g x) cs) (nat_lt (length (open_members (label_at g x) cs)) 2)
      (where_holds (lacks_all (label_at g x) cs && nat_lt (length (open_members (label_at g x) cs)) 2) 0 y h) in
      let some_open : list_any (λ d. is_in i d (f x)) (open_members (label_at g x) cs) ≡ true =
      any_kept (λ d. is_in i d (f x)) (λ d. not (has_concept (label_at g x) (complement d))) not_denied cs (union_in i c cs (f x) e inside) in
      let w = only_one (λ d. is_in i d (f x)) (open_members (label_at g x) cs) some_open few in
      let chosen : unit_member (label_at g x) cs ≡ Some w.0 = ap (λ q. option_or q (slice_get cs 0)) w.1 in
      subst (λ q. Fits i k (adding g x (option_to_list q)) f) (sym chosen)
      (adding_fits i k g f fits x (w.0 ∷ []) (and_from (is_in i w.0 (f x)) true w.2 refl))

  or_fits : (o : Option (List Concept)) → union_part c ≡ o
      → (choice : ℕ) × (choice < option_map_or length o 1) × Fits i k (option_map_or (λ cs. adding g x (option_to_list (slice_get cs choice))) o g) f
  or_fits None e = (0, omega arith, fits)
  or_fits (Some cs) e =
      let w = any_at (λ d. is_in i d (f x)) cs (union_in i c cs (f x) e inside) in (
        w.0,
        w.1,
        subst (λ q. Fits i k (adding g x (option_to_list q)) f) (sym w.2.1)
            (adding_fits i k g f fits x (w.2.0 ∷ []) (and_from (is_in i w.2.0 (f x)) true w.2.2 refl)),
      )

  some_fits : x < length g.nodes → (o : Option (Role × Concept)) → some_part c ≡ o
      → (h : ℕ → ℕ) × Fits i k (option_map_or
      (λ p. with_node g (record { parent = Some x; label = with_classes [] (p.1 ∷ k.general) }) (record { from = x; role = p.0; to = length g.nodes })) o g) h
  some_fits lt None e = (f, fits)
  some_fits lt (Some p) e =
      let w = some_values_in i c p (f x) e inside in (
        and_at (length g.nodes) w.0 f,
        with_node_fits i k g f fits (record { parent = Some x; label = with_classes [] (p.1 ∷ k.general) })
            (record { from = x; role = p.0; to = length g.nodes }) w.0 w.1
            (with_classes_all (λ d. is_in i d w.0) [] (p.1 ∷ k.general) refl
            (and_from (is_in i p.1 w.0) (list_all (λ d. is_in i d w.0) k.general) w.3 (general_in i w.0 w.1 k.general obeys.general)))
            w.2 lt refl,
      )

  -- some choice of the rule gives a branch that the interpretation fits
  rule_fits : x < length g.nodes → (r : Rule) (y : ℕ) → row k g r x c ≡ Some y
      → (choice : ℕ) × (choice < choices_for r c) × ((h : ℕ → ℕ) × Fits i k (effect k g r x c y choice) h)
  rule_fits lt rule.And y h = (0, omega arith, (f, and_fits (intersection_part c) refl))
  rule_fits lt rule.Unfold y h = (0, omega arith, (f, unfold_fits (word_part c) refl))
  rule_fits lt rule.All y h = (0, omega arith, (f, all_fits y (all_part c) refl h))
  rule_fits lt rule.Trans y h = (0, omega arith, (f, trans_fits y (role_of_all c) refl))
  rule_fits lt rule.Value y h = (0, omega arith, (f, value_fits lt (value_part c) refl))
  rule_fits lt rule.Unit y h = (0, omega arith, (f, unit_fits (union_part c) refl y h))
  rule_fits lt rule.Or y h = let w = or_fits (union_part c) refl in (w.0, w.1, (f, w.2))
  rule_fits lt rule.Some y h = (0, omega arith, some_fits lt (some_part c) refl)

site_row : (k : Theory) (g : Graph) (r : Rule) (x : ℕ) (c : Concept) (y : ℕ) → site k g r x c ≡ Some y → row k g r x c ≡ Some y
site_row k g r x c y h = go (is_indirectly_blocked k g x) h
  where
    go : (b : Bool) → (if b then None else row k g r x c) ≡ Some y → row k g r x c ≡ Some y
    go true e = cc
    go false e = e

-- a step that applies is one of a row, for the class at its place
pub applied_row : (k : Theory) (g : Graph) (s : Step) → applies k g s ≡ true
    → (c : Concept) × (class_at g s.node s.class ≡ Some c) × (row k g s.rule s.node c ≡ Some s.other)
applied_row k g s h = go (class_at g s.node s.class) refl h
  where
    other : (o : Option ℕ) → option_map_or (λ y. y == s.other) o false ≡ true → o ≡ Some s.other
    other None e = cc
    other (Some y) e = ap Some (eqb-true y s.other e)

    go : (o : Option Concept) → class_at g s.node s.class ≡ o → option_map_or (λ y. y == s.other) (option_and_then (site k g s.rule s.node) o) false ≡ true
        → (c : Concept) × (class_at g s.node s.class ≡ Some c) × (row k g s.rule s.node c ≡ Some s.other)
    go None e t = cc
    go (Some c) e t = (c, e, site_row k g s.rule s.node c s.other (other (site k g s.rule s.node c) t))

-- the law of the rules
pub step_fits : (i : Interpretation) (k : Theory) → Obeys i k → (g : Graph) (f : ℕ → ℕ) → Fits i k g f → (s : Step) → applies k g s ≡ true
    → (choice : ℕ) × (choice < choices g s) × ((h : ℕ → ℕ) × Fits i k (after k g s choice) h)
step_fits i k obeys g f fits s h =
    let row_at = applied_row k g s h in
    let c : Concept = row_at.0 in
    let at : class_at g s.node s.class ≡ Some c = row_at.1 in
    let w = rule_fits i k obeys g f fits s.node c (class_fits i k g f fits s.node s.class c at) (class_within g s.node s.class c at)
    s.rule s.other row_at.2 in (
      w.0,
      subst (λ o. w.0 < option_map_or (choices_for s.rule) o 1) (sym at) w.1,
      (w.2.0, subst (λ o. Fits i k (option_map_or (λ d. effect k g s.rule s.node d s.other w.0) o g) w.2.0) (sym at) w.2.1),
    )
