-- The class that a tree of parts rolls up to, by the truth of the parts.
use Rattle.std.proofs.Common.{◌≡◌, ℕ, ◌+◌, ◌-◌, ◌<◌, ◌==◌, ◌&&◌, ◌||◌, Bool, true, false, List, [], ◌∷◌, length, Some, None, Result, Ok, Err, Decides, refl, sym, ap, ◌∙◌, subst, inl, inr, arith}
use Rattle.std.specs.Prelude.{◌⊎◌, if◌then◌else◌}
use Rattle.std.specs.List.{list_any, list_all}
use Rattle.std.proofs.lemmas.Bool.{cases_Bool, eq-eqb, ne_eqb, or_cases, and_from, eqb-true}
use Rattle.wiki_base.proofs.BoolLaws.{same_tests, and_first, and_second}
use Rattle.logic_terms.specs.declared.cause.Cause.{Cause}
use Rattle.logic_terms.specs.declared.cause.Cause.TheVariants.{Cycle, NoRoot}
use Rattle.logic_terms.specs.Concept.{Concept}
use Rattle.logic_terms.specs.Free.{is_bound}
use Rattle.logic_terms.specs.Interpretation.{Interpretation, has_pair}
use Rattle.logic_terms.specs.Meaning.{is_in}
use Rattle.logic_terms.specs.Truth.{some_extension}
use Rattle.logic_terms.specs.Reading.{Extends}
use Rattle.logic_terms.proofs.MeaningLemmas.{list_any-Contains}
use Rattle.logic_terms.proofs.Extensions.{some_extension-Decides}
use Rattle.ace_to_owl.specs.Parts.{Part, At, Edge, connected, has_cycle, each_reached, class_at, class_of_tree}
use Rattle.ace_to_owl.proofs.Forest.{Con, con_refl, con_cases, Among}
use Rattle.ace_to_owl.proofs.TreeTruth.{part_true, place}
use Rattle.ace_to_owl.proofs.TreeModel.{Modelled, forth, back}
use Rattle.ace_to_owl.proofs.TreeBridge.{class_at-tree}

-- the elements of the members: that of the root, and what an assignment gives to the referents
abbrev pub value : ℕ → (ℕ → ℕ) → ℕ → ℕ
value x g n = if n == 0 then x else g (n - 1)

pub value_own : (x : ℕ) (g : ℕ → ℕ) (q : ℕ) → value x g (q + 1) ≡ g q
value_own x g q =
    let apart : (q + 1 ≡ 0) → ⊥ = λ e. omega arith in
    let less : (q + 1) - 1 ≡ q = omega arith in
    ap (λ b. if b then x else g ((q + 1) - 1)) (ne_eqb (q + 1) 0 apart) ∙ ap g less

-- the root, or one of these referents
abbrev pub is_member : List ℕ → ℕ → Bool
is_member rs n = (n == 0) || list_any (λ q. (q + 1) == n) rs

abbrev pub within : List ℕ → Part → Bool
within rs (At k c) = is_member rs k
within rs (Edge word a b) = is_member rs a && is_member rs b

-- what is connected to another member is spoken of
abbrev pub spoken : Part → ℕ → Bool
spoken (At k c) n = false
spoken (Edge word a b) n = (a == n) || (b == n)

pub con_spoken : (ps : List Part) (n m : ℕ) → Con ps n m → (n ≡ m) ⊎ (list_any (λ p. spoken p m) ps ≡ true)
con_spoken [] n m h = inl (eqb-true n m h)
con_spoken (At k c ∷ ps) n m h = con_spoken ps n m h
con_spoken (Edge word a b ∷ ps) n m h =
    let more : list_any (λ p. spoken p m) ps ≡ true → (((a == m) || (b == m)) || list_any (λ p. spoken p m) ps) ≡ true =
    λ g. or_more ((a == m) || (b == m)) (list_any (λ p. spoken p m) ps) g in
    elim (con_cases word a b ps n m h) [
      | inl x ↦ elim (con_spoken ps n m x) [ inl same ↦ inl same | inr g ↦ inr (more g) ]
      | inr x ↦ elim x [
        | inl y ↦ elim (con_spoken ps b m y.1) [
          | inl same ↦ inr (ap (λ z. z || list_any (λ p. spoken p m) ps) (or_more (a == m) (b == m) (eq-eqb b m same)))
          | inr g ↦ inr (more g)
        ]
        | inr y ↦ elim (con_spoken ps a m y.1) [
          | inl same ↦ inr (ap (λ z. (z || (b == m)) || list_any (λ p. spoken p m) ps) (eq-eqb a m same))
          | inr g ↦ inr (more g)
        ]
      ]
    ]
  where
    or_more : (a b : Bool) → b ≡ true → (a || b) ≡ true
    or_more true b h = refl
    or_more false b h = h

spoken_member : (rs : List ℕ) (m : ℕ) (ps : List Part) → list_all (within rs) ps ≡ true → list_any (λ p. spoken p m) ps ≡ true → is_member rs m ≡ true
spoken_member rs m [] all any = let flip : false ≡ true = any in cc
spoken_member rs m (At k c ∷ ps) all any = spoken_member rs m ps (and_second (is_member rs k) (list_all (within rs) ps) all) any
spoken_member rs m (Edge word a b ∷ ps) all any =
    let two : (is_member rs a && is_member rs b) ≡ true = and_first (is_member rs a && is_member rs b) (list_all (within rs) ps) all in
    elim (or_cases ((a == m) || (b == m)) (list_any (λ p. spoken p m) ps) any) [
      | inl here ↦ elim (or_cases (a == m) (b == m) here) [
        | inl am ↦ subst (λ z. is_member rs z ≡ true) (eqb-true a m am) (and_first (is_member rs a) (is_member rs b) two)
        | inr bm ↦ subst (λ z. is_member rs z ≡ true) (eqb-true b m bm) (and_second (is_member rs a) (is_member rs b) two)
      ]
      | inr later ↦ spoken_member rs m ps (and_second (is_member rs a && is_member rs b) (list_all (within rs) ps) all) later
    ]

among_all : (test : Part → Bool) (ps : List Part) → list_all test ps ≡ true → (p : Part) → Among p ps → test p ≡ true
among_all test [] all p among = absurd among
among_all test (q ∷ ps) all p among = elim among [
  | inl same ↦ ap test same ∙ and_first (test q) (list_all test ps) all
  | inr later ↦ among_all test ps (and_second (test q) (list_all test ps) all) p later
]

all_among : (test : Part → Bool) (ps : List Part) → ((p : Part) → Among p ps → test p ≡ true) → list_all test ps ≡ true
all_among test [] each = refl
all_among test (q ∷ ps) each = and_from (test q) (list_all test ps) (each q (inl refl)) (all_among test ps (λ p among. each p (inr among)))

-- a member other than the root is a referent
own_of : (rs : List ℕ) (n : ℕ) → list_any (λ q. (q + 1) == n) rs ≡ true → (q : ℕ) × (q + 1 ≡ n) × (is_bound rs q ≡ true)
own_of [] n h = let flip : false ≡ true = h in cc
own_of (q ∷ rs) n h = elim (or_cases ((q + 1) == n) (list_any (λ r. (r + 1) == n) rs) h) [
  | inl here ↦ (q, eqb-true (q + 1) n here, ap (λ b. b || is_bound rs q) (eq-eqb q q refl))
  | inr later ↦ (let w : (p : ℕ) × (p + 1 ≡ n) × (is_bound rs p ≡ true) = own_of rs n later in (w.0, w.1, or_more (q == w.0) (is_bound rs w.0) w.2))
]
  where
    or_more : (a b : Bool) → b ≡ true → (a || b) ≡ true
    or_more true b h = refl
    or_more false b h = h

reached_at : (rs : List ℕ) (ps : List Part) → each_reached rs ps ≡ true → (q : ℕ) → is_bound rs q ≡ true → Con ps 0 (q + 1)
reached_at [] ps all q h = let flip : false ≡ true = h in cc
reached_at (r ∷ rs) ps all q h = elim (or_cases (r == q) (is_bound rs q) h) [
  | inl here ↦ subst (λ z. Con ps 0 (z + 1)) (eqb-true r q here) (and_first (connected ps 0 (r + 1)) (each_reached rs ps) all)
  | inr later ↦ reached_at rs ps (and_second (connected ps 0 (r + 1)) (each_reached rs ps) all) q later
]

module _ (i : Interpretation) (rs : List ℕ) (ps : List Part) (forest : has_cycle ps ≡ false) (reached : each_reached rs ps ≡ true)
    (inside : list_all (within rs) ps ≡ true) (f : ℕ → ℕ) (x : ℕ) where
  con_member : (n : ℕ) → is_member rs n ≡ true → Con ps 0 n
  con_member n h = elim (or_cases (n == 0) (list_any (λ q. (q + 1) == n) rs) h) [
    | inl zero_ ↦ subst (λ z. Con ps 0 z) (sym (eqb-true n 0 zero_)) (con_refl ps 0)
    | inr own ↦ (let w : (q : ℕ) × (q + 1 ≡ n) × (is_bound rs q ≡ true) = own_of rs n own in subst (λ z. Con ps 0 z) w.1 (reached_at rs ps reached w.0 w.2))
  ]

  con_place : (p : Part) → Among p ps → Con ps 0 (place p)
  con_place (At k c) among = con_member k (among_all (within rs) ps inside (At k c) among)
  con_place (Edge word a b) among = con_member a (and_first (is_member rs a) (is_member rs b) (among_all (within rs) ps inside (Edge word a b) among))

  pub up : (g : ℕ → ℕ) → Extends i.size rs f g → list_all (part_true i (value x g)) ps ≡ true → is_in i (class_at (length ps) ps [] 0) x ≡ true
  up g extends true_parts =
      ap (λ c. is_in i c x) (class_at-tree (length ps) ps [] 0 refl)
      ∙ back i (length ps) ps 0 (value x g) (omega arith)
      (λ u ne con. elim (con_spoken ps 0 u con) [
        | inl same ↦ absurd (ne (sym same))
        | inr said ↦ (let m : is_member rs u ≡ true = spoken_member rs u ps inside said in
            elim (or_cases (u == 0) (list_any (λ q. (q + 1) == u) rs) m) [
              | inl zero_ ↦ absurd (ne (eqb-true u 0 zero_))
              | inr own ↦ (let w : (q : ℕ) × (q + 1 ≡ u) × (is_bound rs q ≡ true) = own_of rs u own in
                  subst (λ n. n < i.size) (sym (sym (ap (value x g) w.1) ∙ value_own x g w.0)) (extends.introduced w.0 ((list_any-Contains rs w.0).0 w.2)))
            ])
      ])
      (λ p among con. among_all (part_true i (value x g)) ps true_parts p among)

  abbrev given : (ℕ → ℕ) → ℕ → ℕ
  given h q = if is_bound rs q then h (q + 1) else f q

  given_own : (h : ℕ → ℕ) (q : ℕ) → is_bound rs q ≡ true → given h q ≡ h (q + 1)
  given_own h q own = ap (λ b. if b then h (q + 1) else f q) own

  same_values : (h : ℕ → ℕ) → h 0 ≡ x → (n : ℕ) → is_member rs n ≡ true → value x (given h) n ≡ h n
  same_values h at n m = elim (or_cases (n == 0) (list_any (λ q. (q + 1) == n) rs) m) [
    | inl zero_ ↦ ap (λ b. if b then x else given h (n - 1)) zero_ ∙ sym at ∙ ap h (sym (eqb-true n 0 zero_))
    | inr own ↦ (let w : (q : ℕ) × (q + 1 ≡ n) × (is_bound rs q ≡ true) = own_of rs n own in
        ap (value x (given h)) (sym w.1) ∙ value_own x (given h) w.0 ∙ given_own h w.0 w.2 ∙ ap h w.1)
  ]

  same_part_true : (h : ℕ → ℕ) → h 0 ≡ x → (p : Part) → within rs p ≡ true → part_true i (value x (given h)) p ≡ part_true i h p
  same_part_true h at (At k c) m = ap (is_in i c) (same_values h at k m)
  same_part_true h at (Edge word a b) m =
      λ j. has_pair i word (same_values h at a (and_first (is_member rs a) (is_member rs b) m) j)
      (same_values h at b (and_second (is_member rs a) (is_member rs b) m) j)

  pub down : is_in i (class_at (length ps) ps [] 0) x ≡ true → (g : ℕ → ℕ) × Extends i.size rs f g × (list_all (part_true i (value x g)) ps ≡ true)
  down h =
      let model : Modelled i ps 0 x = forth i (length ps) ps 0 x (omega arith) forest
      (sym (ap (λ c. is_in i c x) (class_at-tree (length ps) ps [] 0 refl)) ∙ h) in (
        given model.h,
        record {
          introduced = λ q own.
              (let bound : is_bound rs q ≡ true = (list_any-Contains rs q).1 own in
              let apart : (q + 1 ≡ 0) → ⊥ = λ e. omega arith in
              subst (λ n. n < i.size) (sym (given_own model.h q bound)) (model.sized (q + 1) apart (reached_at rs ps reached q bound)));
          others = λ q out. elim (cases_Bool (is_bound rs q)) [
            | inl bound ↦ absurd (out ((list_any-Contains rs q).0 bound))
            | inr free ↦ ap (λ b. if b then model.h (q + 1) else f q) free
          ];
        },
        all_among (part_true i (value x (given model.h))) ps
            (λ p among. same_part_true model.h model.at p (among_all (within rs) ps inside p among) ∙ model.true_parts p among (con_place p among)),
      )

-- an element is in the class of a tree where some elements for its referents make the parts true
pub tree_meaning : (i : Interpretation) (rs : List ℕ) (ps : List Part) (c : Concept) → class_of_tree rs ps ≡ Ok c → list_all (within rs) ps ≡ true
    → (f : ℕ → ℕ) (x : ℕ) → is_in i c x ≡ some_extension i.size rs (λ g. list_all (part_true i (value x g)) ps) f
tree_meaning i rs ps c made inside f x = by (has_cycle ps) (each_reached rs ps) refl refl made
  where
    test : (ℕ → ℕ) → Bool
    test g = list_all (part_true i (value x g)) ps

    decided : Decides (some_extension i.size rs (λ g. list_all (part_true i (value x g)) ps) f)
        ((g : ℕ → ℕ) × Extends i.size rs f g × (list_all (part_true i (value x g)) ps ≡ true))
    decided = some_extension-Decides i.size rs (λ g. list_all (part_true i (value x g)) ps) (λ g. list_all (part_true i (value x g)) ps ≡ true)
        (λ g. (λ h. h, λ h. h)) f

    by : (cycle reached : Bool) → has_cycle ps ≡ cycle → each_reached rs ps ≡ reached
        → ◌≡◌ {A = Result Concept Cause}
        (elim (if cycle then Some Cycle else if reached then None else Some NoRoot) [ Some cause ↦ Err cause | None ↦ Ok (class_at (length ps) ps [] 0) ])
        (Ok c) → is_in i c x ≡ some_extension i.size rs (λ g. list_all (part_true i (value x g)) ps) f
    by true reached is_c is_r e = let flip : true ≡ false = ap (λ r. elim r [ Ok v ↦ false | Err v ↦ true ]) e in cc
    by false false is_c is_r e = let flip : true ≡ false = ap (λ r. elim r [ Ok v ↦ false | Err v ↦ true ]) e in cc
    by false true is_c is_r e =
        let same : class_at (length ps) ps [] 0 ≡ c = ap (λ r. elim r [ Ok v ↦ v | Err v ↦ c ]) e in
        sym (ap (λ k. is_in i k x) same)
        ∙ same_tests (is_in i (class_at (length ps) ps [] 0) x) (some_extension i.size rs (λ g. list_all (part_true i (value x g)) ps) f)
        (λ h. decided.1 (down i rs ps is_c is_r inside f x h))
        (λ h. (let w : (g : ℕ → ℕ) × Extends i.size rs f g × (list_all (part_true i (value x g)) ps ≡ true) = decided.0 h in
        up i rs ps is_c is_r inside f x w.0 w.1 w.2))
