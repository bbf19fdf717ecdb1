-- Lists of nodes that wait for others.
use Rattle.std.proofs.Common.{◌≡◌, ℕ, zero, ◌+◌, ◌-◌, ◌<◌, ◌≤◌, ◌==◌, ◌||◌, Bool, true, false, List, [], ◌∷◌, ◌++◌, length, set, take, get_or, Some, None, subst, refl, sym, ap, ◌∙◌, inl, inr, arith}
use Rattle.std.specs.Prelude.{OnOk}
use Rattle.std.specs.BTreeSet.{BTreeSet, contains}
use Rattle.std.specs.Ordering.{nat_cmp}
use Rattle.std.specs.List.{list_any}
use Rattle.std.specs.declared.result.Result.{Result}
use Rattle.std.specs.declared.result.Result.TheVariants.{Ok, Err}
use Rattle.std.proofs.lemmas.Bool.{and_parts, and_from, or_cases, or_left, or_right, cases_eq, cases_lt, eq-eqb, eqb-true}
use Rattle.std.proofs.lemmas.List.{take_all, take_more, get_or-set_same, get_or-set_other}
use Rattle.std.proofs.lemmas.List.Folds.{list_any-append}
use Rattle.logic_terms.specs.declared.expressions.Role.{Role}
use Rattle.logic_terms.specs.Theory.{Theory}
use Rattle.tableau_rules.specs.declared.branch.Edge.{Edge}
use Rattle.std.proofs.lemmas.Option.{slice_get_past}
use Rattle.tableau_rules.specs.Graph.{Graph, label_at, class_at, parent_of}
use Rattle.tableau_rules.specs.Neighbours.{makes_neighbour}
use Rattle.tableau_rules.specs.Blocking.{climb, is_indirectly_blocked}
use Rattle.tableau_rules.specs.Touching.{edges_at, far_end}
use Rattle.tableau_rules.proofs.Climbing.{climb-on, climb-top}
use Rattle.tableau_rules.proofs.Reaching.{far_is, neighbours_at}
use Rattle.agenda.specs.Resting.{waits_for, way_up}
use Rattle.agenda.specs.Views.{is_listed, Lists, AreWaitedFor, IsWaitedFor}

last_listed : (xs : List ℕ) (x : ℕ) → list_any (λ y. y == x) (xs ++ x ∷ []) ≡ true
last_listed xs x =
    list_any-append (λ y. y == x) xs (x ∷ []) ∙ or_right (list_any (λ y. y == x) xs) ((x == x) || false) (or_left (x == x) false (eq-eqb x x refl))

-- one more in the list of a node
module _ (old new : List (List ℕ)) (node item : ℕ) (lt : node < length old) (is : new ≡ set old node (get_or old node [] ++ item ∷ [])) where
  pub added_there : is_listed new node item ≡ true
  added_there =
      ap (λ l. is_listed l node item) is
      ∙ (ap (list_any (λ y. y == item)) (get_or-set_same old node (get_or old node [] ++ item ∷ []) [] lt) ∙ last_listed (get_or old node []) item)

  pub added_more : Lists old new
  added_more z x h = ap (λ l. is_listed l z x) is ∙ elim (cases_eq z node) [
    | inl same ↦ subst (λ w. is_listed (set old node (get_or old node [] ++ item ∷ [])) w x ≡ true) (sym same)
        (ap (list_any (λ y. y == x)) (get_or-set_same old node (get_or old node [] ++ item ∷ []) [] lt)
        ∙ (list_any-append (λ y. y == x) (get_or old node []) (item ∷ [])
        ∙ or_left (list_any (λ y. y == x) (get_or old node [])) (list_any (λ y. y == x) (item ∷ [])) (subst (λ w. is_listed old w x ≡ true) same h)))
    | inr other ↦ ap (list_any (λ y. y == x)) (get_or-set_other old node z (get_or old node [] ++ item ∷ []) [] other) ∙ h
  ]

-- the same lists
pub lists_same : (old new : List (List ℕ)) → ((z : ℕ) → get_or new z [] ≡ get_or old z []) → Lists old new
lists_same old new same z x h = ap (list_any (λ y. y == x)) (same z) ∙ h

-- more is waited for
pub waits_more : (waits then : ℕ → ℕ → Bool) (x : ℕ) → ((z y : ℕ) → waits z y ≡ true → then z y ≡ true) → (zs : List ℕ) → waits_for waits x zs ≡ true
    → waits_for then x zs ≡ true
waits_more waits then x more [] all = refl
waits_more waits then x more (z ∷ zs) all =
    let parts = and_parts (waits z x) (waits_for waits x zs) all in
    and_from (then z x) (waits_for then x zs) (more z x parts.0) (waits_more waits then x more zs parts.1)

-- on the way up
abbrev pub Decides : Graph → ℕ → ℕ → (ℕ → ℕ → Bool) → ℕ → ℕ → Type 0
Decides g item from now left at =
    (waits : ℕ → ℕ → Bool) → ((z x : ℕ) → now z x ≡ true → waits z x ≡ true) → waits_for waits item (climb left g at) ≡ true
    → waits_for waits item (way_up g from) ≡ true

module _ (g : Graph) (item from : ℕ) where
  pub decides_first : (now : ℕ → ℕ → Bool) → now from item ≡ true → Decides g item from now from from
  decides_first now here waits more rest = and_from (waits from item) (waits_for waits item (climb from g from)) (more from item here) rest

  pub decides_on : (now then : ℕ → ℕ → Bool) (left at parent : ℕ) → 0 < left → parent_of g at ≡ Some parent → ((z x : ℕ) → now z x ≡ true → then z x ≡ true)
      → then parent item ≡ true → Decides g item from now left at → Decides g item from then (left - 1) parent
  decides_on now then left at parent lt up grown here before waits more rest =
      before waits (λ z x h. more z x (grown z x h))
      (ap (waits_for waits item) (climb-on left g at parent lt up)
      ∙ and_from (waits parent item) (waits_for waits item (climb (left - 1) g parent)) (more parent item here) rest)

  pub decided_end : (now : ℕ → ℕ → Bool) (left at : ℕ) → left ≤ 0 → Decides g item from now left at → waits_for now item (way_up g from) ≡ true
  decided_end now left at past before = before now (λ z x h. h) (ap (λ n. waits_for now item (climb n g at)) (zero_is left past))
    where
      zero_is : (n : ℕ) → n ≤ 0 → n ≡ zero
      zero_is n le = omega arith

  pub decided_top : (now : ℕ → ℕ → Bool) (left at : ℕ) → parent_of g at ≡ None → Decides g item from now left at → waits_for now item (way_up g from) ≡ true
  decided_top now left at up before = before now (λ z x h. h) (ap (waits_for now item) (climb-top left g at up))

-- indirectly blocked neighbours over some edges
abbrev pub AreWaitedBy : Theory → Graph → (ℕ → ℕ → Bool) → ℕ → List Edge → Type 0
AreWaitedBy k g waits x es =
    (role : Role) (y : ℕ) → list_any (makes_neighbour k role x y) es ≡ true → is_indirectly_blocked k g y ≡ true → waits_for waits x (way_up g y) ≡ true

pub waited_first : (k : Theory) (g : Graph) (waits : ℕ → ℕ → Bool) (x : ℕ) (es : List Edge) → AreWaitedBy k g waits x (take 0 es)
waited_first k g waits x es role y h stops = cc

module _ (k : Theory) (g : Graph) (x : ℕ) (items : List Edge) (i : ℕ) (d : Edge) (lt : i < length items) where
  pub waited_more : (waits then : ℕ → ℕ → Bool) → ((z y : ℕ) → waits z y ≡ true → then z y ≡ true) → AreWaitedBy k g waits x (take i items) → (other : ℕ)
      → other ≡ far_end x (get_or items i d) → (is_indirectly_blocked k g other ≡ true → waits_for then x (way_up g other) ≡ true)
      → AreWaitedBy k g then x (take (i + 1) items)
  waited_more waits then more before other far here role y h stops =
      elim (or_cases (list_any (makes_neighbour k role x y) (take i items)) (makes_neighbour k role x y (get_or items i d) || false) split) [
        | inl old ↦ waits_more waits then x more (way_up g y) (before role y old stops)
        | inr new ↦ elim (or_cases (makes_neighbour k role x y (get_or items i d)) false new) [
          | inl it ↦
              let same : other ≡ y = far ∙ sym (far_is k role x y (get_or items i d) it) in
              subst (λ z. waits_for then x (way_up g z) ≡ true) same (here (subst (λ z. is_indirectly_blocked k g z ≡ true) (sym same) stops))
          | inr off ↦ cc
        ]
      ]
    where
      split : (list_any (makes_neighbour k role x y) (take i items) || (makes_neighbour k role x y (get_or items i d) || false)) ≡ true
      split = sym (ap (list_any (makes_neighbour k role x y)) (take_more items i d lt)
          ∙ list_any-append (makes_neighbour k role x y) (take i items) (get_or items i d ∷ [])) ∙ h

pub waited_all : (k : Theory) (g : Graph) (waits : ℕ → ℕ → Bool) (x : ℕ) (items : List Edge) (i : ℕ) → items ≡ edges_at g.edges x → length items ≤ i
    → AreWaitedBy k g waits x (take i items) → AreWaitedFor k g waits x
waited_all k g waits x items i given past before role y near stops =
    before role y (ap (list_any (makes_neighbour k role x y)) (take_all i items past ∙ given) ∙ (neighbours_at k role x y g.edges ∙ near)) stops

-- neighbours that serve
pub waited_still : (k : Theory) (g : Graph) (waits then : ℕ → ℕ → Bool) (x place : ℕ) → ((z y : ℕ) → waits z y ≡ true → then z y ≡ true)
    → IsWaitedFor k g waits x place → IsWaitedFor k g then x place
waited_still k g waits then x place more before c p at part = elim (before c p at part) [
  | inl none ↦ inl none
  | inr (y, lt, served, all) ↦ inr (y, lt, served, waits_more waits then x more (way_up g y) all)
]

-- one item more
pub all_more : (nodes : List ℕ) (i d : ℕ) → i < length nodes → (old new : BTreeSet ℕ)
    → ((x : ℕ) → list_any (λ y. y == x) (take i nodes) ≡ true → contains nat_cmp old x ≡ true)
    → ((x : ℕ) → contains nat_cmp old x ≡ true → contains nat_cmp new x ≡ true) → contains nat_cmp new (get_or nodes i d) ≡ true → (x : ℕ)
    → list_any (λ y. y == x) (take (i + 1) nodes) ≡ true → contains nat_cmp new x ≡ true
all_more nodes i d lt old new before kept here x h =
    let split : (list_any (λ y. y == x) (take i nodes) || ((get_or nodes i d == x) || false)) ≡ true =
    sym (ap (list_any (λ y. y == x)) (take_more nodes i d lt) ∙ list_any-append (λ y. y == x) (take i nodes) (get_or nodes i d ∷ [])) ∙ h in
    elim (or_cases (list_any (λ y. y == x) (take i nodes)) ((get_or nodes i d == x) || false) split) [
      | inl old_one ↦ kept x (before x old_one)
      | inr new_one ↦ elim (or_cases (get_or nodes i d == x) false new_one) [
        | inl it ↦ subst (λ z. contains nat_cmp new z ≡ true) (eqb-true (get_or nodes i d) x it) here
        | inr off ↦ cc
      ]
    ]

-- each place of a label
pub places_more : (k : Theory) (g : Graph) (waits then : ℕ → ℕ → Bool) (x n : ℕ) → ((z y : ℕ) → waits z y ≡ true → then z y ≡ true)
    → ((place : ℕ) → place < n → IsWaitedFor k g waits x place) → IsWaitedFor k g then x n → (place : ℕ) → place < n + 1 → IsWaitedFor k g then x place
places_more k g waits then x n more before here place lt = elim (cases_eq place n) [
  | inl same ↦ subst (IsWaitedFor k g then x) (sym same) here
  | inr other ↦ waited_still k g waits then x place more (before place (omega arith))
]

pub places_all : (k : Theory) (g : Graph) (waits : ℕ → ℕ → Bool) (x n : ℕ) → length (label_at g x) ≤ n
    → ((place : ℕ) → place < n → IsWaitedFor k g waits x place) → (place : ℕ) → IsWaitedFor k g waits x place
places_all k g waits x n past all place = elim (cases_lt place n) [
  | inl lt ↦ all place lt
  | inr beyond ↦ (λ c p at part. let none : class_at g x place ≡ None = slice_get_past (label_at g x) place (omega arith) in let never : None ≡ Some c =
      sym none ∙ at in cc)
]

-- two facts of one result
pub on_both : {T E A B C : Type 0} (r : Result T E) → (A → B → C) → OnOk r A → OnOk r B → OnOk r C
on_both (Ok x) f a b = f a b
on_both (Err e) f a b = tt
