-- Neighbours as the other ends of a node's edges.
use Rattle.std.proofs.Common.{◌≡◌, ℕ, zero, suc, ◌+◌, ◌<◌, ◌≤◌, ◌==◌, ◌&&◌, ◌||◌, ◌⊎◌, Bool, true, false, List, [], ◌∷◌, ◌++◌, length, take, get_or, Option, Some, None, subst, refl, sym, ap, ◌∙◌, inl, inr, arith}
use Rattle.std.specs.Prelude.{nat_lt, min}
use Rattle.std.specs.List.{list_any}
use Rattle.std.specs.Option.{option_map_or}
use Rattle.std.proofs.Math.Bool.{and_assoc}
use Rattle.std.proofs.lemmas.Bool.{eqb-true, ltb-true, lt-ltb, or_cases, or_left, or_right, and_parts, and_from, and_right, or_from, cases_Bool, cond-true, cond-false, false_from_ne_true, or_parts, cases_eq}
use Rattle.std.proofs.lemmas.List.{take_all, take_more}
use Rattle.std.proofs.lemmas.List.Folds.{list_any-append, list_any_more, list_any_at}
use Rattle.wiki_base.proofs.BoolLaws.{same_tests}
use Rattle.wiki_base.proofs.ListLaws.{any_same, list_any-filter}
use Rattle.logic_terms.specs.declared.expressions.Role.{Role}
use Rattle.logic_terms.specs.Meaning.{some_below}
use Rattle.logic_terms.specs.Theory.{Theory, is_below}
use Rattle.logic_terms.specs.Same.{inverse}
use Rattle.logic_terms.proofs.Places.{some_below_passes}
use Rattle.tableau_rules.specs.declared.branch.Edge.{Edge}
use Rattle.tableau_rules.specs.First.{first_below, where_true}
use Rattle.tableau_rules.specs.Neighbours.{makes_neighbour}
use Rattle.tableau_rules.specs.Touching.{touches, edges_at, far_end, reaches}
use Rattle.tableau_rules.proofs.Firsts.{first_found, first_none, where_is, where_not}

pub last_fails : (a b c d : Bool) → d ≡ false → false ≡ (a && (b && (c && d)))
last_fails a b c d e = sym (and_right a (b && (c && d)) (and_right b (c && d) (and_right c d e)))

pub first_fails : (a b t : Bool) → (a && b) ≡ false → false ≡ (a && (b && t))
first_fails a b t e = sym (ap (λ z. z && t) e) ∙ and_assoc a b t

pub some_below_found : (test : ℕ → Bool) (n : ℕ) → some_below n test ≡ true → (y : ℕ) × (y < n) × (test y ≡ true)
some_below_found test zero h = cc
some_below_found test (suc n) h = elim (or_cases (test n) (some_below n test) h) [
  | inl here ↦ (n, omega arith, here)
  | inr below ↦ let found = some_below_found test n below in (found.0, (let lt : found.0 < n = found.1 in omega arith), found.2)
]

pub some_below_fails : (n : ℕ) (test : ℕ → Bool) → some_below n test ≡ false → (m : ℕ) → m < n → test m ≡ false
some_below_fails zero test h m lt = absurd (omega arith)
some_below_fails (suc n) test h m lt =
    let two = or_parts (test n) (some_below n test) h in
    elim (cases_eq m n) [
      | inl same ↦ ap test same ∙ two.0
      | inr other ↦ some_below_fails n test two.1 m (omega arith)
    ]

module _ (k : Theory) (role : Role) (x : ℕ) where
  pub far_is : (y : ℕ) (e : Edge) → makes_neighbour k role x y e ≡ true → y ≡ far_end x e
  far_is y e h = elim (or_cases ((e.from == x) && ((e.to == y) && is_below k e.role role)) ((e.from == y) && ((e.to == x) && is_below k (inverse e.role) role))
      h) [
        | inl there ↦
            let first = and_parts (e.from == x) ((e.to == y) && is_below k e.role role) there in
            let second = and_parts (e.to == y) (is_below k e.role role) first.1 in
            sym (eqb-true e.to y second.0) ∙ sym (cond-true (e.from == x) e.to e.from first.0)
        | inr back ↦
            let first = and_parts (e.from == y) ((e.to == x) && is_below k (inverse e.role) role) back in
            let second = and_parts (e.to == x) (is_below k (inverse e.role) role) first.1 in
            elim (cases_Bool (e.from == x)) [
              | inl loop ↦ sym (eqb-true e.from y first.0)
                  ∙ (eqb-true e.from x loop ∙ (sym (eqb-true e.to x second.0) ∙ sym (cond-true (e.from == x) e.to e.from loop)))
              | inr other ↦ sym (eqb-true e.from y first.0) ∙ sym (cond-false (e.from == x) e.to e.from other)
            ]
      ]

  pub touching : (y : ℕ) (e : Edge) → makes_neighbour k role x y e ≡ true → touches x e ≡ true
  touching y e h = elim (or_cases ((e.from == x) && ((e.to == y) && is_below k e.role role))
      ((e.from == y) && ((e.to == x) && is_below k (inverse e.role) role)) h) [
        | inl there ↦ or_left (e.from == x) (e.to == x) (and_parts (e.from == x) ((e.to == y) && is_below k e.role role) there).0
        | inr back ↦ or_right (e.from == x) (e.to == x)
            (and_parts (e.to == x) (is_below k (inverse e.role) role) (and_parts (e.from == y) ((e.to == x) && is_below k (inverse e.role) role) back).1).0
      ]

-- a test that only edges at a node pass
both_true : (a b : Bool) → (b ≡ true → a ≡ true) → (a && b) ≡ b
both_true true b h = refl
both_true false true h = h refl
both_true false false h = refl

pub any_at : (p : Edge → Bool) (x : ℕ) → ((e : Edge) → p e ≡ true → touches x e ≡ true) → (edges : List Edge) → list_any p (edges_at edges x) ≡ list_any p edges
any_at p x only edges =
    list_any-filter p (touches x) edges ∙ any_same (λ e. touches x e && p e) p (λ e. both_true (touches x e) (p e) (only e)) edges

pub neighbours_at : (k : Theory) (role : Role) (x y : ℕ) (edges : List Edge)
    → list_any (makes_neighbour k role x y) (edges_at edges x) ≡ list_any (makes_neighbour k role x y) edges
neighbours_at k role x y edges = any_at (makes_neighbour k role x y) x (touching k role x y) edges

-- the lesser of what was found before and a number
abbrev pub lower : Option ℕ → ℕ → ℕ
lower least y = option_map_or (λ own. min own y) least y

module _ (k : Theory) (role : Role) (count x : ℕ) (test : ℕ → Bool) where
  reach_parts : (e : Edge) → reaches k role count x test e ≡ true
      → (makes_neighbour k role x (far_end x e) e ≡ true) × (far_end x e < count) × (test (far_end x e) ≡ true)
  reach_parts e h =
      let first = and_parts (makes_neighbour k role x (far_end x e) e) (nat_lt (far_end x e) count && test (far_end x e)) h in
      let second = and_parts (nat_lt (far_end x e) count) (test (far_end x e)) first.1 in
      (first.0, ltb-true (far_end x e) count second.0, second.1)

  reach_from : (y : ℕ) (e : Edge) → makes_neighbour k role x y e ≡ true → y < count → test y ≡ true → reaches k role count x test e ≡ true
  reach_from y e h lt good =
      subst (λ z. (makes_neighbour k role x z e && (nat_lt z count && test z)) ≡ true) (far_is k role x y e h)
      (and_from (makes_neighbour k role x y e) (nat_lt y count && test y) h (and_from (nat_lt y count) (test y) (lt-ltb y count lt) good))

  pub reached : (edges : List Edge) → list_any (reaches k role count x test) edges ≡ true
      → (y : ℕ) × (list_any (makes_neighbour k role x y) edges ≡ true) × (y < count) × (test y ≡ true)
  reached [] h = cc
  reached (e ∷ es) h = elim (or_cases (reaches k role count x test e) (list_any (reaches k role count x test) es) h) [
    | inl here ↦
        let parts = reach_parts e here in
        (far_end x e, or_left (makes_neighbour k role x (far_end x e) e) (list_any (makes_neighbour k role x (far_end x e)) es) parts.0, parts.1, parts.2)
    | inr later ↦
        let found = reached es later in
        (found.0, or_right (makes_neighbour k role x found.0 e) (list_any (makes_neighbour k role x found.0) es) found.1, found.2, found.3)
  ]

  pub reaching : (edges : List Edge) (y : ℕ) → list_any (makes_neighbour k role x y) edges ≡ true → y < count → test y ≡ true
      → list_any (reaches k role count x test) edges ≡ true
  reaching [] y h lt good = cc
  reaching (e ∷ es) y h lt good = elim (or_cases (makes_neighbour k role x y e) (list_any (makes_neighbour k role x y) es) h) [
    | inl here ↦ or_left (reaches k role count x test e) (list_any (reaches k role count x test) es) (reach_from y e here lt good)
    | inr later ↦ or_right (reaches k role count x test e) (list_any (reaches k role count x test) es) (reaching es y later lt good)
  ]

  reach_touches : (e : Edge) → reaches k role count x test e ≡ true → touches x e ≡ true
  reach_touches e h = touching k role x (far_end x e) e (reach_parts e h).0

  -- some neighbour passes the test where some edge at the node reaches one
  pub served : (edges : List Edge) → list_any (reaches k role count x test) (edges_at edges x)
      ≡ some_below count (λ y. list_any (makes_neighbour k role x y) edges && test y)
  served edges =
      any_at (reaches k role count x test) x reach_touches edges
      ∙ same_tests (list_any (reaches k role count x test) edges) (some_below count (λ y. list_any (makes_neighbour k role x y) edges && test y))
      (λ h. let found = reached edges h in
      some_below_passes (λ y. list_any (makes_neighbour k role x y) edges && test y) found.0 count found.2
      (and_from (list_any (makes_neighbour k role x found.0) edges) (test found.0) found.1 found.3))
      (λ h. let found = some_below_found (λ y. list_any (makes_neighbour k role x y) edges && test y) count h in
      let parts = and_parts (list_any (makes_neighbour k role x found.0) edges) (test found.0) found.2 in
      reaching edges found.0 parts.0 found.1 parts.1)

  -- the least neighbour that passes the test, of those that some edges lead to
  pub record IsLeast (seen : List Edge) (least : Option ℕ) : Type 0 where
    pub attained : (y : ℕ) → least ≡ Some y → (list_any (makes_neighbour k role x y) seen ≡ true) × (y < count) × (test y ≡ true)
    pub lowest : (y : ℕ) → list_any (makes_neighbour k role x y) seen ≡ true → y < count → test y ≡ true → (z : ℕ) × (least ≡ Some z) × (z ≤ y)

  pub least_of_none : IsLeast [] None
  least_of_none = record { attained = λ y h. cc; lowest = λ y h lt good. cc }

  any_more : (p : Edge → Bool) (seen : List Edge) (e : Edge) → list_any p (seen ++ e ∷ []) ≡ (list_any p seen || (p e || false))
  any_more p seen e = list_any-append p seen (e ∷ [])

  seen_before : (seen : List Edge) (e : Edge) (y : ℕ) → list_any (makes_neighbour k role x y) seen ≡ true
      → list_any (makes_neighbour k role x y) (seen ++ e ∷ []) ≡ true
  seen_before seen e y h = any_more (makes_neighbour k role x y) seen e
      ∙ or_left (list_any (makes_neighbour k role x y) seen) (makes_neighbour k role x y e || false) h

  seen_now : (seen : List Edge) (e : Edge) (y : ℕ) → makes_neighbour k role x y e ≡ true → list_any (makes_neighbour k role x y) (seen ++ e ∷ []) ≡ true
  seen_now seen e y h =
      any_more (makes_neighbour k role x y) seen e
      ∙ or_right (list_any (makes_neighbour k role x y) seen) (makes_neighbour k role x y e || false) (or_left (makes_neighbour k role x y e) false h)

  seen_cases : (seen : List Edge) (e : Edge) (y : ℕ) → list_any (makes_neighbour k role x y) (seen ++ e ∷ []) ≡ true
      → (list_any (makes_neighbour k role x y) seen ≡ true) ⊎ (makes_neighbour k role x y e ≡ true)
  seen_cases seen e y h = elim (or_cases (list_any (makes_neighbour k role x y) seen) (makes_neighbour k role x y e || false)
      (sym (any_more (makes_neighbour k role x y) seen e) ∙ h)) [
        | inl before ↦ inl before
        | inr now ↦ elim (or_cases (makes_neighbour k role x y e) false now) [ inl it ↦ inr it | inr never ↦ cc ]
      ]

  -- an edge that reaches none
  pub least_passed : (seen : List Edge) (least : Option ℕ) (e : Edge) → IsLeast seen least → reaches k role count x test e ≡ false
      → IsLeast (seen ++ e ∷ []) least
  least_passed seen least e now not_this = record {
    attained = λ y h. let old = now.attained y h in (seen_before seen e y old.0, old.1, old.2);
    lowest = λ y h lt good. elim (seen_cases seen e y h) [
      | inl before ↦ now.lowest y before lt good
      | inr this ↦ let there : reaches k role count x test e ≡ true = reach_from y e this lt good in cc
    ];
  }

  lower_is : (least : Option ℕ) (y : ℕ) → (lower least y ≡ y) ⊎ (least ≡ Some (lower least y))
  lower_is None y = inl refl
  lower_is (Some own) y = go own y (min_is own y)
    where
      min_is : (a b : ℕ) → (min a b ≡ b) ⊎ (a ≡ min a b)
      min_is a b = grind arith

      go : (own y : ℕ) → (min own y ≡ y) ⊎ (own ≡ min own y) → (min own y ≡ y) ⊎ (Some own ≡ Some (min own y))
      go own y (inl e) = inl e
      go own y (inr e) = inr (ap Some e)

  lower_first : (least : Option ℕ) (y : ℕ) → lower least y ≤ y
  lower_first None y = omega arith
  lower_first (Some own) y = omega arith

  lower_second : (least : Option ℕ) (y z : ℕ) → least ≡ Some z → lower least y ≤ z
  lower_second None y z h = cc
  lower_second (Some own) y z h = let same : own ≡ z = cc in omega arith

  -- an edge that reaches one
  pub least_more : (seen : List Edge) (least : Option ℕ) (e : Edge) → IsLeast seen least → reaches k role count x test e ≡ true
      → IsLeast (seen ++ e ∷ []) (Some (lower least (far_end x e)))
  least_more seen least e now this = let parts = reach_parts e this in record {
    attained = λ y h. let it : lower least (far_end x e) ≡ y = cc in elim (lower_is least (far_end x e)) [
      | inl far ↦
          let same : far_end x e ≡ y = sym far ∙ it in
          subst (λ z. (list_any (makes_neighbour k role x z) (seen ++ e ∷ []) ≡ true) × (z < count) × (test z ≡ true)) same
          (seen_now seen e (far_end x e) parts.0, parts.1, parts.2)
      | inr own ↦ let old = now.attained y (own ∙ ap Some it) in (seen_before seen e y old.0, old.1, old.2)
    ];
    lowest = λ y h lt good. elim (seen_cases seen e y h) [
      | inl before ↦ let old = now.lowest y before lt good in
          (lower least (far_end x e), refl, low (lower least (far_end x e)) old.0 y (lower_second least (far_end x e) old.0 old.1) old.2)
      | inr it ↦ (lower least (far_end x e), refl, subst (λ z. lower least (far_end x e) ≤ z) (sym (far_is k role x y e it)) (lower_first least (far_end x e)))
    ];
  }
    where
      low : (a b c : ℕ) → a ≤ b → b ≤ c → a ≤ c
      low a b c h g = omega arith

  -- after all edges at the node it is the first that the rule wants
  pub least_found : (edges : List Edge) (least : Option ℕ) → IsLeast (edges_at edges x) least
      → first_below count (λ y. where_true (list_any (makes_neighbour k role x y) edges && test y) y) ≡ least
  least_found edges None now = first_none count (λ y. where_true (list_any (makes_neighbour k role x y) edges && test y) y)
      (λ y lt. where_not (list_any (makes_neighbour k role x y) edges && test y) y
      (false_from_ne_true (list_any (makes_neighbour k role x y) edges && test y) (λ h.
      let parts = and_parts (list_any (makes_neighbour k role x y) edges) (test y) h in
      let found = now.lowest y (neighbours_at k role x y edges ∙ parts.0) lt parts.1 in
      let none : None ≡ Some found.0 = found.1 in cc)))
  least_found edges (Some z) now =
      let it = now.attained z refl in
      first_found (λ y. where_true (list_any (makes_neighbour k role x y) edges && test y) y) z
      (first_none z (λ y. where_true (list_any (makes_neighbour k role x y) edges && test y) y)
      (λ y lt. where_not (list_any (makes_neighbour k role x y) edges && test y) y
      (false_from_ne_true (list_any (makes_neighbour k role x y) edges && test y) (λ h.
      let parts = and_parts (list_any (makes_neighbour k role x y) edges) (test y) h in
      let found = now.lowest y (neighbours_at k role x y edges ∙ parts.0) (less y z count lt it.1) parts.1 in
      let same : z ≡ found.0 = cc in
      never y z found.0 lt same found.2))))
      count z it.1
      (where_is (list_any (makes_neighbour k role x z) edges && test z) z
      (and_from (list_any (makes_neighbour k role x z) edges) (test z) (sym (neighbours_at k role x z edges) ∙ it.0) it.2))
    where
      less : (y z count : ℕ) → y < z → z < count → y < count
      less y z count h g = omega arith

      never : (y z w : ℕ) → y < z → z ≡ w → w ≤ y → ⊥
      never y z w lt same le = omega arith

-- what a loop over the edges at a node knows
module _ (k : Theory) (role : Role) (count x : ℕ) (test : ℕ → Bool) (edges items : List Edge) (given : items ≡ edges_at edges x) (i : ℕ) where
  pub served_here : (d : Edge) → i < length items → reaches k role count x test (get_or items i d) ≡ true
      → true ≡ some_below count (λ y. list_any (makes_neighbour k role x y) edges && test y)
  served_here d lt here =
      sym (sym (served k role count x test edges)
      ∙ (ap (list_any (reaches k role count x test)) (sym given) ∙ list_any_at (reaches k role count x test) items i d lt here))

  pub served_none : length items ≤ i → list_any (reaches k role count x test) (take i items) ≡ false
      → false ≡ some_below count (λ y. list_any (makes_neighbour k role x y) edges && test y)
  served_none past none =
      sym none ∙ (ap (list_any (reaches k role count x test)) (take_all i items past ∙ given) ∙ served k role count x test edges)

  pub least_all : (least : Option ℕ) → length items ≤ i → IsLeast k role count x test (take i items) least
      → least ≡ first_below count (λ y. where_true (list_any (makes_neighbour k role x y) edges && test y) y)
  least_all least past now =
      sym (least_found k role count x test edges least (subst (λ es. IsLeast k role count x test es least) (take_all i items past ∙ given) now))

module _ (k : Theory) (role : Role) (count x : ℕ) (test : ℕ → Bool) (items : List Edge) (i : ℕ) (d : Edge) (lt : i < length items) where
  pub served_passed : list_any (reaches k role count x test) (take i items) ≡ false → reaches k role count x test (get_or items i d) ≡ false
      → list_any (reaches k role count x test) (take (i + 1) items) ≡ false
  served_passed none here =
      list_any_more (reaches k role count x test) items i d lt
      ∙ or_from (list_any (reaches k role count x test) (take i items)) (reaches k role count x test (get_or items i d)) none here

  pub least_here : (least : Option ℕ) → IsLeast k role count x test (take i items) least → reaches k role count x test (get_or items i d) ≡ true
      → IsLeast k role count x test (take (i + 1) items) (Some (lower least (far_end x (get_or items i d))))
  least_here least now here =
      subst (λ es. IsLeast k role count x test es (Some (lower least (far_end x (get_or items i d))))) (sym (take_more items i d lt))
      (least_more k role count x test (take i items) least (get_or items i d) now here)

  pub least_on : (least : Option ℕ) → IsLeast k role count x test (take i items) least → reaches k role count x test (get_or items i d) ≡ false
      → IsLeast k role count x test (take (i + 1) items) least
  least_on least now here =
      subst (λ es. IsLeast k role count x test es least) (sym (take_more items i d lt))
      (least_passed k role count x test (take i items) least (get_or items i d) now here)
