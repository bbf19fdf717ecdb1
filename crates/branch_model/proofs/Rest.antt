-- What a branch has where no step applies and no clash is there.
use Rattle.std.proofs.Common.{◌≡◌, ℕ, zero, suc, ◌+◌, ◌<◌, ◌≤◌, ◌==◌, ◌&&◌, ◌||◌, Bool, true, false, List, [], ◌∷◌, length, Option, Some, None, refl, sym, ap, ◌∙◌, inl, inr, arith}
use Rattle.std.specs.Prelude.{not}
use Rattle.std.specs.List.{list_any, list_all}
use Rattle.std.specs.Option.{option_map, option_and_then, option_or}
use Rattle.std.proofs.lemmas.Bool.{cases_eq, and_parts, and_from, and_cases, or_parts, or_left, or_right, not-false, not-true, cond-false}
use Rattle.wiki_base.specs.declared.numbers.WordId.{WordId}
use Rattle.wiki_base.proofs.OptionLaws.{option_or-first_none, option_or-second_none, option_map-none}
use Rattle.tableau_rules.proofs.Reaching.{some_below_found, some_below_fails}
use Rattle.tableau_rules.proofs.Firsts.{where_none}
use Rattle.tableau_rules.proofs.Labels.{each_has}
use Rattle.logic_terms.specs.declared.expressions.Role.{Role}
use Rattle.logic_terms.specs.Concept.{Concept, Concepts, Everything, Atomic, ComplementOf, IntersectionOf, UnionOf, SomeValuesFrom, AllValuesFrom, HasValue}
use Rattle.logic_terms.specs.Meaning.{some_below}
use Rattle.logic_terms.specs.Parts.{members_in}
use Rattle.logic_terms.specs.Same.{same_role, same_concept, has_concept}
use Rattle.logic_terms.specs.Theory.{Theory}
use Rattle.tableau_rules.proofs.Carriers.{none_there}
use Rattle.tableau_rules.specs.Carrying.{role_of_all, along, carriers}
use Rattle.tableau_rules.specs.declared.step.Rule.{Rule}
use Rattle.tableau_rules.specs.declared.step.Rule.TheVariants as rule
use Rattle.tableau_rules.specs.First.{first_below, where_true}
use Rattle.tableau_rules.specs.Graph.{Graph, label_at}
use Rattle.tableau_rules.specs.Neighbours.{node_of, is_neighbour}
use Rattle.tableau_rules.specs.Blocking.{is_blocked, is_indirectly_blocked}
use Rattle.tableau_rules.specs.Rules.{lacks_some, lacks_all, unfoldings_of, serves, needs, row, site, site_at, first_at, first_by, first_step}
use Rattle.tableau_rules.specs.Clashes.{passes, are_joined, clashes_at, has_clash}
use Rattle.branch_model.proofs.Same.{place_of}

first_none : {X : Type 0} (n : ℕ) (f : ℕ → Option X) → first_below n f ≡ None → (m : ℕ) → m < n → f m ≡ None
first_none zero f h m lt = absurd (omega arith)
first_none (suc n) f h m lt = elim (cases_eq m n) [
  | inl same ↦ ap f same ∙ option_or-second_none (first_below n f) (f n) h
  | inr other ↦ first_none n f (option_or-first_none (first_below n f) (f n) h) m (omega arith)
]

-- each class is there where none is lacking, and one is there where not all are lacking
each_there : (label cs : List Concept) → lacks_some label cs ≡ false → list_all (has_concept label) cs ≡ true
each_there label [] h = refl
each_there label (c ∷ cs) h =
    let two = or_parts (not (has_concept label c)) (lacks_some label cs) h in
    and_from (has_concept label c) (list_all (has_concept label) cs) (not-false (has_concept label c) two.0) (each_there label cs two.1)

one_there : (label cs : List Concept) → lacks_all label cs ≡ false → list_any (has_concept label) cs ≡ true
one_there label [] h = cc
one_there label (c ∷ cs) h = elim (and_cases (not (has_concept label c)) (lacks_all label cs) h) [
  | inl here ↦ or_left (has_concept label c) (list_any (has_concept label) cs) (not-false (has_concept label c) here)
  | inr later ↦ or_right (has_concept label c) (list_any (has_concept label) cs) (one_there label cs later)
]

module _ (k : Theory) (g : Graph) (done : first_step k g ≡ None) where
  -- the rules before each one have no step
  past_and : option_or (first_by k g rule.Unfold) (option_or (first_by k g rule.All) (option_or (first_by k g rule.Trans) (option_or (first_by k g rule.Value)
      (option_or (first_by k g rule.Unit) (option_or (first_by k g rule.Or) (first_by k g rule.Some)))))) ≡ None
  past_and = option_or-second_none (first_by k g rule.And) _ done

  past_unfold : option_or (first_by k g rule.All) (option_or (first_by k g rule.Trans) (option_or (first_by k g rule.Value)
      (option_or (first_by k g rule.Unit) (option_or (first_by k g rule.Or) (first_by k g rule.Some))))) ≡ None
  past_unfold = option_or-second_none (first_by k g rule.Unfold) _ past_and

  past_all : option_or (first_by k g rule.Trans) (option_or (first_by k g rule.Value)
      (option_or (first_by k g rule.Unit) (option_or (first_by k g rule.Or) (first_by k g rule.Some)))) ≡ None
  past_all = option_or-second_none (first_by k g rule.All) _ past_unfold

  past_trans : option_or (first_by k g rule.Value) (option_or (first_by k g rule.Unit) (option_or (first_by k g rule.Or) (first_by k g rule.Some))) ≡ None
  past_trans = option_or-second_none (first_by k g rule.Trans) _ past_all

  past_value : option_or (first_by k g rule.Unit) (option_or (first_by k g rule.Or) (first_by k g rule.Some)) ≡ None
  past_value = option_or-second_none (first_by k g rule.Value) _ past_trans

  past_unit : option_or (first_by k g rule.Or) (first_by k g rule.Some) ≡ None
  past_unit = option_or-second_none (first_by k g rule.Unit) _ past_value

  no_first : (r : Rule) → first_by k g r ≡ None
  no_first rule.And = option_or-first_none (first_by k g rule.And) _ done
  no_first rule.Unfold = option_or-first_none (first_by k g rule.Unfold) _ past_and
  no_first rule.All = option_or-first_none (first_by k g rule.All) _ past_unfold
  no_first rule.Trans = option_or-first_none (first_by k g rule.Trans) _ past_all
  no_first rule.Value = option_or-first_none (first_by k g rule.Value) _ past_trans
  no_first rule.Unit = option_or-first_none (first_by k g rule.Unit) _ past_value
  no_first rule.Or = option_or-first_none (first_by k g rule.Or) _ past_unit
  no_first rule.Some = option_or-second_none (first_by k g rule.Or) _ past_unit

  -- no rule has a row for a class of the label of a node that is not indirectly blocked
  no_row : (r : Rule) (x : ℕ) (c : Concept) → x < length g.nodes → is_indirectly_blocked k g x ≡ false → has_concept (label_at g x) c ≡ true
      → row k g r x c ≡ None
  no_row r x c lt free has =
      let at = place_of (label_at g x) c has in
      let here = first_none (length g.nodes) (first_at k g r) (no_first r) x lt in
      let site_none = option_map-none (λ y. record { rule = r; node = x; class = at.0; other = y }) (site_at k g r x at.0)
      (first_none (length (label_at g x)) (λ place. option_map (λ y. record { rule = r; node = x; class = place; other = y }) (site_at k g r x place)) here at.0
      at.1) in
      sym (cond-false (is_indirectly_blocked k g x) None (row k g r x c) free)
      ∙ sym (ap (λ o. option_and_then (site k g r x) o) at.2) ∙ site_none

  module _ (x : ℕ) (lt : x < length g.nodes) (free : is_indirectly_blocked k g x ≡ false) where
    pub and_done : (cs : Concepts) → has_concept (label_at g x) (IntersectionOf cs) ≡ true → list_all (has_concept (label_at g x)) (members_in cs) ≡ true
    and_done cs has =
        each_there (label_at g x) (members_in cs) (where_none (lacks_some (label_at g x) (members_in cs)) 0 (no_row rule.And x (IntersectionOf cs) lt free has))

    pub unfold_done : (word : WordId) → has_concept (label_at g x) (Atomic word) ≡ true → list_all (has_concept (label_at g x)) (unfoldings_of k word) ≡ true
    unfold_done word has =
        each_there (label_at g x) (unfoldings_of k word)
        (where_none (lacks_some (label_at g x) (unfoldings_of k word)) 0 (no_row rule.Unfold x (Atomic word) lt free has))

    pub or_done : (cs : Concepts) → has_concept (label_at g x) (UnionOf cs) ≡ true → list_any (has_concept (label_at g x)) (members_in cs) ≡ true
    or_done cs has =
        one_there (label_at g x) (members_in cs) (where_none (lacks_all (label_at g x) (members_in cs)) 0 (no_row rule.Or x (UnionOf cs) lt free has))

    -- a neighbour that is not in need has the class
    not_in_need : (role : Role) (c : Concept) (y : ℕ) → needs k g role c x y ≡ false → is_neighbour k g role x y ≡ true → is_indirectly_blocked k g y ≡ false
        → has_concept (label_at g y) c ≡ true
    not_in_need role c y none near clear =
        elim (and_cases (is_neighbour k g role x y) (not (is_indirectly_blocked k g y) && not (has_concept (label_at g y) c)) none) [
          | inl far ↦ absurd (both near far)
          | inr rest ↦ elim (and_cases (not (is_indirectly_blocked k g y)) (not (has_concept (label_at g y) c)) rest) [
            | inl blocked ↦ absurd (both (not-false (is_indirectly_blocked k g y) blocked) clear)
            | inr there ↦ not-false (has_concept (label_at g y) c) there
          ]
        ]
      where
        both : {b : Bool} → b ≡ true → b ≡ false → ⊥
        both t f = cc

    pub all_done : (role : Role) (c : Concept) → has_concept (label_at g x) (AllValuesFrom role c) ≡ true → (y : ℕ) → y < length g.nodes
        → is_neighbour k g role x y ≡ true → is_indirectly_blocked k g y ≡ false → has_concept (label_at g y) c ≡ true
    all_done role c has y below near clear =
        not_in_need role c y
        (where_none (needs k g role c x y) y
        (first_none (length g.nodes) (λ y. where_true (needs k g role c x y) y) (no_row rule.All x (AllValuesFrom role c) lt free has) y below))
        near clear

    pub trans_done : (c : Concept) (role t : Role) → has_concept (label_at g x) c ≡ true → role_of_all c ≡ Some role
        → list_any (λ s. same_role s t) (carriers k role) ≡ true → (y : ℕ) → y < length g.nodes → is_neighbour k g t x y ≡ true
        → is_indirectly_blocked k g y ≡ false → has_concept (label_at g y) (along t c) ≡ true
    trans_done c role t has is carries y below near clear =
        not_in_need t (along t c) y
        (none_there (λ s. needs k g s (along s c) x y) (carriers k role) t
        (where_none (list_any (λ s. needs k g s (along s c) x y) (carriers k role)) y
        (first_none (length g.nodes) (λ z. where_true (list_any (λ s. needs k g s (along s c) x z) (carriers k role)) z) none y below))
        carries)
        near clear
      where
        none : first_below (length g.nodes) (λ z. where_true (list_any (λ s. needs k g s (along s c) x z) (carriers k role)) z) ≡ None
        none =
            sym (ap (λ o. option_and_then
            (λ r. first_below (length g.nodes) (λ z. where_true (list_any (λ s. needs k g s (along s c) x z) (carriers k r)) z)) o) is)
            ∙ no_row rule.Trans x c lt free has

    pub value_done : (role : Role) (name : WordId) (y : ℕ) → has_concept (label_at g x) (HasValue role name) ≡ true → is_blocked k g x ≡ false
        → node_of k name ≡ Some y → is_neighbour k g role x y ≡ true
    value_done role name y has clear node =
        let none = where_none (not (is_blocked k g x) && not (is_neighbour k g role x y)) 0
        (sym (ap (λ o. option_and_then (λ y. where_true (not (is_blocked k g x) && not (is_neighbour k g role x y)) 0) o) node)
        ∙ no_row rule.Value x (HasValue role name) lt free has) in
        elim (and_cases (not (is_blocked k g x)) (not (is_neighbour k g role x y)) none) [
          | inl blocked ↦ (let t : is_blocked k g x ≡ true = not-false (is_blocked k g x) blocked in absurd (both t clear))
          | inr near ↦ not-false (is_neighbour k g role x y) near
        ]
      where
        both : {b : Bool} → b ≡ true → b ≡ false → ⊥
        both t f = cc

    pub some_done : (role : Role) (c : Concept) → has_concept (label_at g x) (SomeValuesFrom role c) ≡ true → is_blocked k g x ≡ false
        → (y : ℕ) × (y < length g.nodes) × (is_neighbour k g role x y ≡ true) × (is_indirectly_blocked k g y ≡ false) × (has_concept (label_at g y) c ≡ true)
    some_done role c has clear =
        let none = where_none (not (is_blocked k g x) && not (some_below (length g.nodes) (serves k g role c x))) 0
        (no_row rule.Some x (SomeValuesFrom role c) lt free has) in
        elim (and_cases (not (is_blocked k g x)) (not (some_below (length g.nodes) (serves k g role c x))) none) [
          | inl blocked ↦ (let t : is_blocked k g x ≡ true = not-false (is_blocked k g x) blocked in absurd (both t clear))
          | inr there ↦ (let found = some_below_found (serves k g role c x) (length g.nodes)
              (not-false (some_below (length g.nodes) (serves k g role c x)) there) in
              let one = and_parts (is_neighbour k g role x found.0) (not (is_indirectly_blocked k g found.0) && has_concept (label_at g found.0) c) found.2 in
              let two = and_parts (not (is_indirectly_blocked k g found.0)) (has_concept (label_at g found.0) c) one.1 in
              (found.0, found.1, one.0, not-true (is_indirectly_blocked k g found.0) two.0, two.1))
        ]
      where
        both : {b : Bool} → b ≡ true → b ≡ false → ⊥
        both t f = cc

module _ (k : Theory) (g : Graph) (calm : has_clash k g ≡ false) where
  none_joined : list_any (λ d. are_joined k d.0 d.1) k.differences ≡ false
  none_joined = (or_parts (list_any (λ d. are_joined k d.0 d.1) k.differences) (some_below (length g.nodes) (λ x. list_any (clashes_at k g x) (label_at g x)))
      calm).0

  pub differ : (d : WordId × WordId) → Rattle.std.proofs.Common.Contains k.differences d → are_joined k d.0 d.1 ≡ false
  differ d h = go k.differences none_joined h
    where
      go : (ds : List (WordId × WordId)) → list_any (λ d. are_joined k d.0 d.1) ds ≡ false → Rattle.std.proofs.Common.Contains ds d
          → are_joined k d.0 d.1 ≡ false
      go [] none (j, lt, at) = absurd (omega arith)
      go (e ∷ ds) none (zero, lt, at) = ap (λ q. are_joined k q.0 q.1) (sym at)
          ∙ (or_parts (are_joined k e.0 e.1) (list_any (λ d. are_joined k d.0 d.1) ds) none).0
      go (e ∷ ds) none (suc j, lt, at) = go ds (or_parts (are_joined k e.0 e.1) (list_any (λ d. are_joined k d.0 d.1) ds) none).1 (j, omega arith, at)

  no_clash_at : (x : ℕ) (c : Concept) → x < length g.nodes → has_concept (label_at g x) c ≡ true → clashes_at k g x c ≡ false
  no_clash_at x c lt has =
      let none = some_below_fails (length g.nodes) (λ x. list_any (clashes_at k g x) (label_at g x))
      (or_parts (list_any (λ d. are_joined k d.0 d.1) k.differences) (some_below (length g.nodes) (λ x. list_any (clashes_at k g x) (label_at g x))) calm).1
      x lt in
      not-true (clashes_at k g x c) (each_has (λ d. not (clashes_at k g x d)) (label_at g x) c (none_all (label_at g x) none) has)
    where
      none_all : (cs : List Concept) → list_any (clashes_at k g x) cs ≡ false → list_all (λ d. not (clashes_at k g x d)) cs ≡ true
      none_all [] h = refl
      none_all (d ∷ cs) h =
          let two = or_parts (clashes_at k g x d) (list_any (clashes_at k g x) cs) h in
          and_from (not (clashes_at k g x d)) (list_all (λ d. not (clashes_at k g x d)) cs)
          (Rattle.std.proofs.lemmas.Bool.not_from_false (clashes_at k g x d) two.0) (none_all cs two.1)

  module _ (x : ℕ) (lt : x < length g.nodes) where
    pub no_pair : (word : WordId) → has_concept (label_at g x) (Atomic word) ≡ true → has_concept (label_at g x) (ComplementOf (Atomic word)) ≡ true → ⊥
    no_pair word has denied =
        let f : has_concept (label_at g x) (ComplementOf (Atomic word)) ≡ false =
        (or_parts (has_concept (label_at g x) (ComplementOf (Atomic word))) (same_concept (Atomic word) (ComplementOf Everything) || false)
        (no_clash_at x (Atomic word) lt has)).0 in
        cc

    pub no_nothing : has_concept (label_at g x) (ComplementOf Everything) ≡ true → ⊥
    no_nothing has =
        let f : clashes_at k g x (ComplementOf Everything) ≡ false = no_clash_at x (ComplementOf Everything) lt has in
        let t : clashes_at k g x (ComplementOf Everything) ≡ true = refl in
        cc

    pub no_value : (role : Role) (name : WordId) (y : ℕ) → has_concept (label_at g x) (ComplementOf (HasValue role name)) ≡ true → node_of k name ≡ Some y
        → is_neighbour k g role x y ≡ false
    no_value role name y has node =
        sym (ap (λ o. passes o (is_neighbour k g role x)) node)
        ∙ no_clash_at x (ComplementOf (HasValue role name)) lt has
