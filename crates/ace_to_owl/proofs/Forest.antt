-- Edges without a cycle: what falls apart where one member is taken away.
use Rattle.std.proofs.Common.{◌≡◌, ℕ, ◌==◌, ◌&&◌, ◌||◌, Bool, true, false, List, [], ◌∷◌, ◌++◌, Option, Some, None, refl, sym, ap, ◌∙◌, subst, inl, inr}
use Rattle.std.specs.Prelude.{◌⊎◌, not, cond, if◌then◌else◌}
use Rattle.std.specs.List.{filter}
use Rattle.std.proofs.lemmas.Bool.{cases_eq, eq-eqb, ne_eqb, or_cases, or_right, and_from, eqb-true}
use Rattle.wiki_base.specs.declared.numbers.WordId.{WordId}
use Rattle.wiki_base.proofs.BoolLaws.{and_first, and_second}
use Rattle.ace_to_owl.specs.Parts.{Part, At, Edge, connected, has_cycle}
use Rattle.ace_to_owl.proofs.Labels.{label, connected-label}

abbrev pub Con : List Part → ℕ → ℕ → Type 0
Con ps n m = connected ps n m ≡ true

pub con_refl : (ps : List Part) (n : ℕ) → Con ps n n
con_refl ps n = connected-label ps n n ∙ eq-eqb (label ps n) (label ps n) refl

pub con_sym : (ps : List Part) (n m : ℕ) → Con ps n m → Con ps m n
con_sym ps n m h = connected-label ps m n ∙ eq-eqb (label ps m) (label ps n) (sym (eqb-true (label ps n) (label ps m) (sym (connected-label ps n m) ∙ h)))

pub con_trans : (ps : List Part) (n m k : ℕ) → Con ps n m → Con ps m k → Con ps n k
con_trans ps n m k h g =
    connected-label ps n k
    ∙ eq-eqb (label ps n) (label ps k)
    (eqb-true (label ps n) (label ps m) (sym (connected-label ps n m) ∙ h) ∙ eqb-true (label ps m) (label ps k) (sym (connected-label ps m k) ∙ g))

pub con_skip : (e : Part) (ps : List Part) (n m : ℕ) → Con ps n m → Con (e ∷ ps) n m
con_skip (At k c) ps n m h = h
con_skip (Edge word a b) ps n m h = ap (λ z. z || ((connected ps n a && connected ps b m) || (connected ps n b && connected ps a m))) h

pub con_along : (word : WordId) (a b : ℕ) (ps : List Part) (n m : ℕ) → Con ps n a → Con ps b m → Con (Edge word a b ∷ ps) n m
con_along word a b ps n m h g =
    or_right (connected ps n m) ((connected ps n a && connected ps b m) || (connected ps n b && connected ps a m))
    (ap (λ z. z || (connected ps n b && connected ps a m)) (and_from (connected ps n a) (connected ps b m) h g))

pub con_against : (word : WordId) (a b : ℕ) (ps : List Part) (n m : ℕ) → Con ps n b → Con ps a m → Con (Edge word a b ∷ ps) n m
con_against word a b ps n m h g =
    or_right (connected ps n m) ((connected ps n a && connected ps b m) || (connected ps n b && connected ps a m))
    (or_right (connected ps n a && connected ps b m) (connected ps n b && connected ps a m) (and_from (connected ps n b) (connected ps a m) h g))

pub con_cases : (word : WordId) (a b : ℕ) (ps : List Part) (n m : ℕ) → Con (Edge word a b ∷ ps) n m
    → Con ps n m ⊎ ((Con ps n a × Con ps b m) ⊎ (Con ps n b × Con ps a m))
con_cases word a b ps n m h = elim (or_cases (connected ps n m) ((connected ps n a && connected ps b m) || (connected ps n b && connected ps a m)) h) [
  | inl x ↦ inl x
  | inr x ↦ elim (or_cases (connected ps n a && connected ps b m) (connected ps n b && connected ps a m) x) [
    | inl y ↦ inr (inl (and_first (connected ps n a) (connected ps b m) y, and_second (connected ps n a) (connected ps b m) y))
    | inr y ↦ inr (inr (and_first (connected ps n b) (connected ps a m) y, and_second (connected ps n b) (connected ps a m) y))
  ]
]

-- whether a part speaks of a member, and the parts that do not
abbrev pub speaks : ℕ → Part → Bool
speaks v (At k c) = k == v
speaks v (Edge word a b) = (a == v) || (b == v)

abbrev pub apart : ℕ → List Part → List Part
apart v ps = filter (λ p. not (speaks v p)) ps

abbrev pub Among : Part → List Part → Type 0
Among p [] = ⊥
Among p (q ∷ qs) = (p ≡ q) ⊎ Among p qs

-- the other end of an edge at a member
abbrev pub far : ℕ → Part → Option ℕ
far v (At k c) = None
far v (Edge word a b) = if (a == v) && not (b == v) then Some b else if (b == v) && not (a == v) then Some a else None

-- a member is reached, without the other, from the far end of one of its edges
pub record Touched (v : ℕ) (ps : List Part) (n : ℕ) : Type 0 where
  pub end : ℕ
  pub edge : Part
  pub among : Among edge ps
  pub is : far v edge ≡ Some end
  pub on : Con (apart v ps) end n

con_at : (ps qs : List Part) (n m : ℕ) → ps ≡ qs → Con ps n m → Con qs n m
con_at ps qs n m e h = sym (ap (λ rs. connected rs n m) e) ∙ h

cond_skip : (t : Bool) (e : Part) (ps : List Part) (n m : ℕ) → Con ps n m → Con (cond t (e ∷ ps) ps) n m
cond_skip true e ps n m h = con_skip e ps n m h
cond_skip false e ps n m h = h

pub apart_skip : (v : ℕ) (e : Part) (ps : List Part) (n m : ℕ) → Con (apart v ps) n m → Con (apart v (e ∷ ps)) n m
apart_skip v e ps n m h = cond_skip (not (speaks v e)) e (apart v ps) n m h

touched_skip : (v : ℕ) (e : Part) (ps : List Part) (n : ℕ) → Touched v ps n → Touched v (e ∷ ps) n
touched_skip v e ps n t = record { end = t.end; edge = t.edge; among = inr t.among; is = t.is; on = apart_skip v e ps t.end n t.on }

-- what is known of the parts after the first
pub record Parted (v : ℕ) (ps : List Part) : Type 0 where
  pub two : (n u : ℕ) → ¬ (n ≡ v) → ¬ (u ≡ v) → Con ps n u → Con (apart v ps) n u ⊎ (Touched v ps n × Touched v ps u)
  pub one : (n : ℕ) → ¬ (n ≡ v) → Con ps v n → Touched v ps n

-- an edge that does not speak of the member
module _ (v : ℕ) (word : WordId) (a b : ℕ) (ps : List Part) (ih : Parted v ps) (na : ¬ (a ≡ v)) (nb : ¬ (b ≡ v)) where
  kept : apart v (Edge word a b ∷ ps) ≡ Edge word a b ∷ apart v ps
  kept = λ j. cond (not (ne_eqb a v na j || ne_eqb b v nb j)) (Edge word a b ∷ apart v ps) (apart v ps)

  via_along : (n : ℕ) → Touched v ps a → Con (apart v ps) b n → Touched v (Edge word a b ∷ ps) n
  via_along n t h = record {
    end = t.end;
    edge = t.edge;
    among = inr t.among;
    is = t.is;
    on = con_at (Edge word a b ∷ apart v ps) (apart v (Edge word a b ∷ ps)) t.end n (sym kept) (con_along word a b (apart v ps) t.end n t.on h);
  }

  via_against : (n : ℕ) → Touched v ps b → Con (apart v ps) a n → Touched v (Edge word a b ∷ ps) n
  via_against n t h = record {
    end = t.end;
    edge = t.edge;
    among = inr t.among;
    is = t.is;
    on = con_at (Edge word a b ∷ apart v ps) (apart v (Edge word a b ∷ ps)) t.end n (sym kept) (con_against word a b (apart v ps) t.end n t.on h);
  }

  skip : (n : ℕ) → Touched v ps n → Touched v (Edge word a b ∷ ps) n
  skip n t = touched_skip v (Edge word a b) ps n t

  beside_two : (n u : ℕ) → ¬ (n ≡ v) → ¬ (u ≡ v) → Con (Edge word a b ∷ ps) n u
      → Con (apart v (Edge word a b ∷ ps)) n u ⊎ (Touched v (Edge word a b ∷ ps) n × Touched v (Edge word a b ∷ ps) u)
  beside_two n u nn nu h = elim (con_cases word a b ps n u h) [
    | inl x ↦ elim (ih.two n u nn nu x) [
      | inl y ↦ inl (apart_skip v (Edge word a b) ps n u y)
      | inr t ↦ inr (skip n t.0, skip u t.1)
    ]
    | inr x ↦ elim x [
      | inl y ↦ elim (ih.two n a nn na y.0) [
        | inl p ↦ elim (ih.two b u nb nu y.1) [
          | inl q ↦ inl (con_at (Edge word a b ∷ apart v ps) (apart v (Edge word a b ∷ ps)) n u (sym kept) (con_along word a b (apart v ps) n u p q))
          | inr t ↦ inr (via_against n t.0 (con_sym (apart v ps) n a p), skip u t.1)
        ]
        | inr s ↦ elim (ih.two b u nb nu y.1) [
          | inl q ↦ inr (skip n s.0, via_along u s.1 q)
          | inr t ↦ inr (skip n s.0, skip u t.1)
        ]
      ]
      | inr y ↦ elim (ih.two n b nn nb y.0) [
        | inl p ↦ elim (ih.two a u na nu y.1) [
          | inl q ↦ inl (con_at (Edge word a b ∷ apart v ps) (apart v (Edge word a b ∷ ps)) n u (sym kept) (con_against word a b (apart v ps) n u p q))
          | inr t ↦ inr (via_along n t.0 (con_sym (apart v ps) n b p), skip u t.1)
        ]
        | inr s ↦ elim (ih.two a u na nu y.1) [
          | inl q ↦ inr (skip n s.0, via_against u s.1 q)
          | inr t ↦ inr (skip n s.0, skip u t.1)
        ]
      ]
    ]
  ]

  beside_one : (n : ℕ) → ¬ (n ≡ v) → Con (Edge word a b ∷ ps) v n → Touched v (Edge word a b ∷ ps) n
  beside_one n nn h = elim (con_cases word a b ps v n h) [
    | inl x ↦ skip n (ih.one n nn x)
    | inr x ↦ elim x [
      | inl y ↦ elim (ih.two b n nb nn y.1) [ inl q ↦ via_along n (ih.one a na y.0) q | inr t ↦ skip n t.1 ]
      | inr y ↦ elim (ih.two a n na nn y.1) [ inl q ↦ via_against n (ih.one b nb y.0) q | inr t ↦ skip n t.1 ]
    ]
  ]

-- an edge from the member to another
module _ (v : ℕ) (e : Part) (b : ℕ) (ps : List Part) (ih : Parted v ps) (nb : ¬ (b ≡ v)) (is : far v e ≡ Some b) (left : apart v (e ∷ ps) ≡ apart v ps)
    (cases : (n u : ℕ) → Con (e ∷ ps) n u → Con ps n u ⊎ ((Con ps n v × Con ps b u) ⊎ (Con ps n b × Con ps v u))) where
  by_it : (n : ℕ) → Con (apart v ps) b n → Touched v (e ∷ ps) n
  by_it n h = record { end = b; edge = e; among = inl refl; is = is; on = con_at (apart v ps) (apart v (e ∷ ps)) b n (sym left) h }

  past : (n : ℕ) → Touched v ps n → Touched v (e ∷ ps) n
  past n t = touched_skip v e ps n t

  from_two : (n : ℕ) → ¬ (n ≡ v) → Con ps b n → Touched v (e ∷ ps) n
  from_two n nn h = elim (ih.two b n nb nn h) [ inl q ↦ by_it n q | inr t ↦ past n t.1 ]

  at_two : (n u : ℕ) → ¬ (n ≡ v) → ¬ (u ≡ v) → Con (e ∷ ps) n u → Con (apart v (e ∷ ps)) n u ⊎ (Touched v (e ∷ ps) n × Touched v (e ∷ ps) u)
  at_two n u nn nu h = elim (cases n u h) [
    | inl x ↦ elim (ih.two n u nn nu x) [ inl y ↦ inl (apart_skip v e ps n u y) | inr t ↦ inr (past n t.0, past u t.1) ]
    | inr x ↦ elim x [
      | inl y ↦ inr (past n (ih.one n nn (con_sym ps n v y.0)), from_two u nu y.1)
      | inr y ↦ inr (from_two n nn (con_sym ps n b y.0), past u (ih.one u nu y.1))
    ]
  ]

  at_one : (n : ℕ) → ¬ (n ≡ v) → Con (e ∷ ps) v n → Touched v (e ∷ ps) n
  at_one n nn h = elim (cases v n h) [
    | inl x ↦ past n (ih.one n nn x)
    | inr x ↦ elim x [ inl y ↦ from_two n nn y.1 | inr y ↦ past n (ih.one n nn y.1) ]
  ]

-- an edge from the member to itself
module _ (v : ℕ) (e : Part) (ps : List Part) (ih : Parted v ps)
    (cases : (n u : ℕ) → Con (e ∷ ps) n u → Con ps n u ⊎ ((Con ps n v × Con ps v u) ⊎ (Con ps n v × Con ps v u))) where
  loop_two : (n u : ℕ) → ¬ (n ≡ v) → ¬ (u ≡ v) → Con (e ∷ ps) n u → Con (apart v (e ∷ ps)) n u ⊎ (Touched v (e ∷ ps) n × Touched v (e ∷ ps) u)
  loop_two n u nn nu h =
      let through : Con ps n v × Con ps v u → Touched v (e ∷ ps) n × Touched v (e ∷ ps) u =
      λ y. (touched_skip v e ps n (ih.one n nn (con_sym ps n v y.0)), touched_skip v e ps u (ih.one u nu y.1)) in
      elim (cases n u h) [
        | inl x ↦ elim (ih.two n u nn nu x) [ inl y ↦ inl (apart_skip v e ps n u y) | inr t ↦ inr (touched_skip v e ps n t.0, touched_skip v e ps u t.1) ]
        | inr x ↦ elim x [ inl y ↦ inr (through y) | inr y ↦ inr (through y) ]
      ]

  loop_one : (n : ℕ) → ¬ (n ≡ v) → Con (e ∷ ps) v n → Touched v (e ∷ ps) n
  loop_one n nn h = elim (cases v n h) [
    | inl x ↦ touched_skip v e ps n (ih.one n nn x)
    | inr x ↦ elim x [ inl y ↦ touched_skip v e ps n (ih.one n nn y.1) | inr y ↦ touched_skip v e ps n (ih.one n nn y.1) ]
  ]

con_swap : (word : WordId) (a b : ℕ) (ps : List Part) (n m : ℕ) → Con (Edge word a b ∷ ps) n m
    → Con ps n m ⊎ ((Con ps n b × Con ps a m) ⊎ (Con ps n a × Con ps b m))
con_swap word a b ps n m h = elim (con_cases word a b ps n m h) [ inl x ↦ inl x | inr x ↦ elim x [ inl y ↦ inr (inr y) | inr y ↦ inr (inl y) ] ]

-- what is connected goes round the member or comes by way of it
pub parted : (v : ℕ) (ps : List Part) → Parted v ps
parted v [] = record { two = λ n u nn nu h. inl h; one = λ n nn h. absurd (nn (sym (eqb-true v n h))) }
parted v (At k c ∷ ps) =
    let ih : Parted v ps = parted v ps in record {
      two = λ n u nn nu h. elim (ih.two n u nn nu h) [
        | inl y ↦ inl (apart_skip v (At k c) ps n u y)
        | inr t ↦ inr (touched_skip v (At k c) ps n t.0, touched_skip v (At k c) ps u t.1)
      ];
      one = λ n nn h. touched_skip v (At k c) ps n (ih.one n nn h);
    }
parted v (Edge word a b ∷ ps) =
    let ih : Parted v ps = parted v ps in
    elim (cases_eq a v) [
      | inl av ↦ elim (cases_eq b v) [
        | inl bv ↦ (let cases : (n u : ℕ) → Con (Edge word a b ∷ ps) n u → Con ps n u ⊎ ((Con ps n v × Con ps v u) ⊎ (Con ps n v × Con ps v u)) =
            λ n u h. subst (λ x. Con ps n u ⊎ ((Con ps n v × Con ps x u) ⊎ (Con ps n x × Con ps v u))) bv
            (subst (λ x. Con ps n u ⊎ ((Con ps n x × Con ps b u) ⊎ (Con ps n b × Con ps x u))) av (con_cases word a b ps n u h)) in
            record { two = loop_two v (Edge word a b) ps ih cases; one = loop_one v (Edge word a b) ps ih cases })
        | inr nb ↦ (let is : far v (Edge word a b) ≡ Some b =
            λ j. if eq-eqb a v av j && not (ne_eqb b v nb j) then Some b else if (b == v) && not (a == v) then Some a else None in
            let left : apart v (Edge word a b ∷ ps) ≡ apart v ps =
            λ j. cond (not (eq-eqb a v av j || (b == v))) (Edge word a b ∷ apart v ps) (apart v ps) in
            let cases : (n u : ℕ) → Con (Edge word a b ∷ ps) n u → Con ps n u ⊎ ((Con ps n v × Con ps b u) ⊎ (Con ps n b × Con ps v u)) =
            λ n u h. subst (λ x. Con ps n u ⊎ ((Con ps n x × Con ps b u) ⊎ (Con ps n b × Con ps x u))) av (con_cases word a b ps n u h) in
            record { two = at_two v (Edge word a b) b ps ih nb is left cases; one = at_one v (Edge word a b) b ps ih nb is left cases })
      ]
      | inr na ↦ elim (cases_eq b v) [
        | inl bv ↦ (let is : far v (Edge word a b) ≡ Some a =
            λ j. if ne_eqb a v na j && not (b == v) then Some b else if eq-eqb b v bv j && not (ne_eqb a v na j) then Some a else None in
            let left : apart v (Edge word a b ∷ ps) ≡ apart v ps =
            λ j. cond (not (ne_eqb a v na j || eq-eqb b v bv j)) (Edge word a b ∷ apart v ps) (apart v ps) in
            let cases : (n u : ℕ) → Con (Edge word a b ∷ ps) n u → Con ps n u ⊎ ((Con ps n v × Con ps a u) ⊎ (Con ps n a × Con ps v u)) =
            λ n u h. subst (λ x. Con ps n u ⊎ ((Con ps n x × Con ps a u) ⊎ (Con ps n a × Con ps x u))) bv (con_swap word a b ps n u h) in
            record { two = at_two v (Edge word a b) a ps ih na is left cases; one = at_one v (Edge word a b) a ps ih na is left cases })
        | inr nb ↦ record { two = beside_two v word a b ps ih na nb; one = beside_one v word a b ps ih na nb }
      ]
    ]

-- what is connected stays so with more parts
abbrev pub Within : List Part → List Part → Type 0
Within ps qs = (n m : ℕ) → Con ps n m → Con qs n m

pub within_cons : (e : Part) (ps qs : List Part) → Within ps qs → Within (e ∷ ps) (e ∷ qs)
within_cons (At k c) ps qs w n m h = w n m h
within_cons (Edge word a b) ps qs w n m h = elim (con_cases word a b ps n m h) [
  | inl x ↦ con_skip (Edge word a b) qs n m (w n m x)
  | inr x ↦ elim x [
    | inl y ↦ con_along word a b qs n m (w n a y.0) (w b m y.1)
    | inr y ↦ con_against word a b qs n m (w n b y.0) (w a m y.1)
  ]
]

cond_within : (t : Bool) (e : Part) (ps qs : List Part) → Within ps qs → Within (cond t (e ∷ ps) ps) (e ∷ qs)
cond_within true e ps qs w n m h = within_cons e ps qs w n m h
cond_within false e ps qs w n m h = con_skip e qs n m (w n m h)

pub apart_within : (v : ℕ) (ps : List Part) → Within (apart v ps) ps
apart_within v [] n m h = h
apart_within v (e ∷ ps) n m h = cond_within (not (speaks v e)) e (apart v ps) ps (apart_within v ps) n m h

-- no cycle stays where parts are taken away
cond_forest : (t : Bool) (e : Part) (ps qs : List Part) → Within ps qs → (has_cycle ps ≡ true → has_cycle qs ≡ true) → has_cycle (cond t (e ∷ ps) ps) ≡ true
    → has_cycle (e ∷ qs) ≡ true
cond_forest true (At k c) ps qs w f h = f h
cond_forest true (Edge word a b) ps qs w f h = elim (or_cases (connected ps a b) (has_cycle ps) h) [
  | inl x ↦ ap (λ z. z || has_cycle qs) (w a b x)
  | inr x ↦ or_right (connected qs a b) (has_cycle qs) (f x)
]
cond_forest false (At k c) ps qs w f h = f h
cond_forest false (Edge word a b) ps qs w f h = or_right (connected qs a b) (has_cycle qs) (f h)

pub apart_cycle : (v : ℕ) (ps : List Part) → has_cycle (apart v ps) ≡ true → has_cycle ps ≡ true
apart_cycle v [] h = h
apart_cycle v (e ∷ ps) h = cond_forest (not (speaks v e)) e (apart v ps) ps (apart_within v ps) (apart_cycle v ps) h

-- a member that was taken away is connected to itself alone
isolated_by : (v : ℕ) (t : Bool) (e : Part) (ps : List Part) → t ≡ not (speaks v e) → ((n : ℕ) → Con ps n v → n ≡ v) → (n : ℕ) → Con (cond t (e ∷ ps) ps) n v
    → n ≡ v
isolated_by v true (At k c) ps is ih n h = ih n h
isolated_by v true (Edge word a b) ps is ih n h = elim (con_cases word a b ps n v h) [
  | inl x ↦ ih n x
  | inr x ↦ elim x [
    | inl y ↦ (let bv : b ≡ v = ih b y.1 in let is_not : true ≡ false = is ∙ ap not (or_right (a == v) (b == v) (eq-eqb b v bv)) in cc)
    | inr y ↦ (let av : a ≡ v = ih a y.1 in let is_not : true ≡ false = is ∙ ap not (ap (λ z. z || (b == v)) (eq-eqb a v av)) in cc)
  ]
]
isolated_by v false e ps is ih n h = ih n h

pub isolated : (v : ℕ) (ps : List Part) (n : ℕ) → Con (apart v ps) n v → n ≡ v
isolated v [] n h = eqb-true n v h
isolated v (e ∷ ps) n h = isolated_by v (not (speaks v e)) e (apart v ps) refl (isolated v ps) n h

-- without a cycle an edge is the only way from one end to the other
pub cut : (before : List Part) (word : WordId) (a b : ℕ) (after : List Part) → Con (before ++ after) a b → has_cycle (before ++ Edge word a b ∷ after) ≡ true
cut [] word a b after h = ap (λ z. z || has_cycle after) h
cut (At k c ∷ before) word a b after h = cut before word a b after h
cut (Edge other x y ∷ before) word a b after h =
    let all : List Part = before ++ Edge word a b ∷ after in
    let rest : Within (before ++ after) all = within_middle before in
    let joint : Con all a b = middle before in
    elim (con_cases other x y (before ++ after) a b h) [
      | inl z ↦ or_right (connected all x y) (has_cycle all) (cut before word a b after z)
      | inr z ↦ elim z [
        | inl p ↦ ap (λ w. w || has_cycle all)
            (con_trans all x a y (con_sym all a x (rest a x p.0)) (con_trans all a b y joint (con_sym all y b (rest y b p.1))))
        | inr p ↦ ap (λ w. w || has_cycle all) (con_trans all x b y (rest x b p.1) (con_trans all b a y (con_sym all a b joint) (rest a y p.0)))
      ]
    ]
  where
    within_middle : (before : List Part) → Within (before ++ after) (before ++ Edge word a b ∷ after)
    within_middle [] n m g = con_skip (Edge word a b) after n m g
    within_middle (e ∷ es) n m g = within_cons e (es ++ after) (es ++ Edge word a b ∷ after) (within_middle es) n m g

    middle : (before : List Part) → Con (before ++ Edge word a b ∷ after) a b
    middle [] = con_along word a b after a b (con_refl after a) (con_refl after b)
    middle (e ∷ es) = con_skip e (es ++ Edge word a b ∷ after) a b (middle es)
