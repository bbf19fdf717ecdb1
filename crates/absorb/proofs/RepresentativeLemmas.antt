-- The representatives of names, as equalities join them one by one.
use Rattle.std.proofs.Common.{◌≡◌, ◌<◌, ◌≤◌, ◌==◌, ◌&&◌, ◌||◌, Bool, true, false, List, [], ◌∷◌, ◌++◌, map, get_or, All, Contains, Some, refl, sym, ap, ◌∙◌, subst, inl, inr, arith}
use Rattle.std.specs.Prelude.{◌⊎◌, nat_le, if◌then◌else◌}
use Rattle.std.specs.Option.{option_map_or}
use Rattle.std.specs.Map.{lookup}
use Rattle.std.proofs.lemmas.Bool.{cases_Bool, leb-true, leb-false, and_parts, cond-true, cond-false}
use Rattle.std.proofs.lemmas.List.Elements.{Contains-append_left, Contains-push, Contains-push_cases, All-map, All-weaker, All-contains}
use Rattle.wiki_base.specs.declared.numbers.WordId.{WordId}
use Rattle.logic_terms.specs.Interpretation.{is_word}
use Rattle.absorb.specs.Closure.{Reaches}
use Rattle.absorb.specs.Absorbed.{AreEquated, Represents}
use Rattle.absorb.specs.Mentioned.{is_among}
use Rattle.absorb.specs.Renamed.{renamed, merged, joined}
use Rattle.absorb.proofs.ClosureLemmas as closure
use Rattle.absorb.proofs.HierarchyLemmas.{is_word-Decides}

-- what an element of a slice is shown as
abbrev pub no_pair : WordId × WordId
no_pair = (record { 0 = 0 }, record { 0 = 0 })

pub same_word : (a b : WordId) → a.0 ≡ b.0 → a ≡ b
same_word a b e = λ j. record { 0 = e j }

turn : (ps : List (WordId × WordId)) (x y : WordId) → AreEquated ps x y → AreEquated ps y x
turn ps x y h = elim h [ inl one ↦ inr one | inr other ↦ inl other ]

pub joined_back : (ps : List (WordId × WordId)) (x y : WordId) → Reaches (AreEquated ps) x y → Reaches (AreEquated ps) y x
joined_back ps x y h = closure.back (AreEquated ps) (turn ps) x y h

-- one of the two steps that one more equality makes
abbrev Halfway : List (WordId × WordId) → WordId × WordId → WordId → WordId → Type 0
Halfway ps p x y = AreEquated ps x y ⊎ ((x ≡ p.0) × (y ≡ p.1))

equated_cases : (ps : List (WordId × WordId)) (p : WordId × WordId) (x y : WordId) → AreEquated (ps ++ p ∷ []) x y → Halfway ps p x y ⊎ ((x ≡ p.1) × (y ≡ p.0))
equated_cases ps p x y h = elim h [
  | inl one ↦ elim (Contains-push_cases ps p (x, y) one) [
    | inl old ↦ inl (inl (inl old))
    | inr new ↦ inl (inr (sym (ap (λ q. q.0) new), sym (ap (λ q. q.1) new)))
  ]
  | inr other ↦ elim (Contains-push_cases ps p (y, x) other) [
    | inl old ↦ inl (inl (inr old))
    | inr new ↦ inr (sym (ap (λ q. q.1) new), sym (ap (λ q. q.0) new))
  ]
]

equated_still : (ps : List (WordId × WordId)) (p : WordId × WordId) (x y : WordId) → AreEquated ps x y → AreEquated (ps ++ p ∷ []) x y
equated_still ps p x y h = elim h [
  | inl one ↦ inl (Contains-append_left ps (p ∷ []) (x, y) one)
  | inr other ↦ inr (Contains-append_left ps (p ∷ []) (y, x) other)
]

-- two names that one more equality joins were joined, or each was joined to one side of it
abbrev Splits : List (WordId × WordId) → WordId → WordId → WordId → WordId → Type 0
Splits ps a b x y =
    Reaches (AreEquated ps) x y
    ⊎ ((Reaches (AreEquated ps) x a × Reaches (AreEquated ps) b y) ⊎ (Reaches (AreEquated ps) x b × Reaches (AreEquated ps) a y))

joined_split : (ps : List (WordId × WordId)) (p : WordId × WordId) (x y : WordId) → Reaches (AreEquated (ps ++ p ∷ [])) x y → Splits ps p.0 p.1 x y
joined_split ps p x y h = elim (closure.one_more (Halfway ps p) (AreEquated (ps ++ p ∷ [])) p.1 p.0 (equated_cases ps p) x y h) [
  | inl one ↦ elim (half x y one) [ inl plain ↦ inl plain | inr both ↦ inr (inl both) ]
  | inr two ↦ elim (half x p.1 two.0) [
    | inl before ↦ elim (half p.0 y two.1) [
      | inl after ↦ inr (inr (before, after))
      | inr after ↦ inl (closure.join step x p.1 y before after.1)
    ]
    | inr before ↦ elim (half p.0 y two.1) [
      | inl after ↦ inl (closure.join step x p.0 y before.0 after)
      | inr after ↦ inr (inl (before.0, after.1))
    ]
  ]
]
  where
    step : WordId → WordId → Type 0
    step = AreEquated ps

    half : (x y : WordId) → Reaches (Halfway ps p) x y → Reaches (AreEquated ps) x y ⊎ (Reaches (AreEquated ps) x p.0 × Reaches (AreEquated ps) p.1 y)
    half x y h = closure.one_more (AreEquated ps) (Halfway ps p) p.0 p.1 (λ u v c. c) x y h

-- a name with its representative, where the representatives stays and gone of two names are joined, stays being no greater
merged_entry : (ps : List (WordId × WordId)) (p : WordId × WordId) (a b stays gone : WordId) → Represents ps a stays → Represents ps b gone → stays.0 ≤ gone.0
    → Reaches (AreEquated (ps ++ p ∷ [])) b a → ((x y : WordId) → Reaches (AreEquated (ps ++ p ∷ [])) x y → Splits ps a b x y) → (e : WordId × WordId)
    → Represents ps e.0 e.1 → Represents (ps ++ p ∷ []) e.0 (renamed gone stays e).1
merged_entry ps p a b stays gone of_a of_b below link split e of_e = elim (cases_Bool (is_word gone e.1)) [
  | inl same ↦ subst (Represents (ps ++ p ∷ []) e.0) (sym (ap (λ q. q.1) (cond-true (is_word gone e.1) (e.0, stays) e same)))
      (takes (subst (λ w. Reaches (AreEquated ps) e.0 w) (sym ((is_word-Decides gone e.1).0 same)) of_e.joined) (at_gone ((is_word-Decides gone e.1).0 same)))
  | inr other ↦ subst (Represents (ps ++ p ∷ []) e.0) (sym (ap (λ q. q.1) (cond-false (is_word gone e.1) (e.0, stays) e other)))
      (keeps (λ e'. absurd (differ other e')))
]
  where
    old : List (WordId × WordId) → WordId → WordId → Type 0
    old qs x y = Reaches (AreEquated qs) x y

    lift : (x y : WordId) → Reaches (AreEquated ps) x y → Reaches (AreEquated (ps ++ p ∷ [])) x y
    lift x y h = closure.more (AreEquated ps) (AreEquated (ps ++ p ∷ [])) (equated_still ps p) x y h

    differ : is_word gone e.1 ≡ false → gone ≡ e.1 → ⊥
    differ f e' = let t : is_word gone e.1 ≡ true = (is_word-Decides gone e.1).1 e' in cc

    at_gone : gone ≡ e.1 → (x : WordId) → Reaches (AreEquated ps) e.0 x → gone.0 ≤ x.0
    at_gone same x h = subst (λ w. w.0 ≤ x.0) (sym same) (of_e.least x h)

    takes : Reaches (AreEquated ps) e.0 gone → ((x : WordId) → Reaches (AreEquated ps) e.0 x → gone.0 ≤ x.0) → Represents (ps ++ p ∷ []) e.0 stays
    takes to least = record {
      joined = closure.join (AreEquated (ps ++ p ∷ [])) e.0 gone stays (lift e.0 gone to)
          (closure.join (AreEquated (ps ++ p ∷ [])) gone b stays (lift gone b (joined_back ps b gone of_b.joined))
          (closure.join (AreEquated (ps ++ p ∷ [])) b a stays link (lift a stays of_a.joined)));
      least = λ x h. elim (split e.0 x h) [
        | inl plain ↦ let l = least x plain in omega arith
        | inr two ↦ elim two [
          | inl via_a ↦ let l = of_b.least x via_a.1 in omega arith
          | inr via_b ↦ of_a.least x via_b.1
        ]
      ];
    }

    -- the representative of a name that is joined to a is stays
    its_is : (r : WordId) → Reaches (AreEquated ps) e.0 a → e.1.0 ≡ stays.0
    its_is r to =
        let down = of_e.least stays (closure.join (AreEquated ps) e.0 a stays to of_a.joined) in
        let up = of_a.least e.1 (closure.join (AreEquated ps) a e.0 e.1 (joined_back ps e.0 a to) of_e.joined) in
        omega arith

    is_gone : Reaches (AreEquated ps) e.0 b → gone ≡ e.1
    is_gone to =
        let down = of_e.least gone (closure.join (AreEquated ps) e.0 b gone to of_b.joined) in
        let up = of_b.least e.1 (closure.join (AreEquated ps) b e.0 e.1 (joined_back ps e.0 b to) of_e.joined) in
        same_word gone e.1 (omega arith)

    keeps : (gone ≡ e.1 → ⊥) → Represents (ps ++ p ∷ []) e.0 e.1
    keeps ne = record {
      joined = lift e.0 e.1 of_e.joined;
      least = λ x h. elim (split e.0 x h) [
        | inl plain ↦ of_e.least x plain
        | inr two ↦ elim two [
          | inl via_a ↦ (let l = of_b.least x via_a.1 in let i = its_is e.1 via_a.0 in omega arith)
          | inr via_b ↦ absurd (ne (is_gone via_b.0))
        ]
      ];
    }

swap_sides : (ps : List (WordId × WordId)) (a b x y : WordId) → Splits ps a b x y → Splits ps b a x y
swap_sides ps a b x y h = elim h [ inl plain ↦ inl plain | inr two ↦ elim two [ inl via_a ↦ inr (inr via_a) | inr via_b ↦ inr (inl via_b) ] ]

-- the look-up of a name among entries
pub lookup_given : (es : List (WordId × WordId)) (name : WordId) → is_among (map (λ (e : WordId × WordId). e.0) es) name ≡ true
    → (r : WordId) × (lookup (is_word name) es ≡ Some r) × Contains es (name, r)
lookup_given [] name h = cc
lookup_given (e ∷ es) name h = elim (cases_Bool (is_word name e.0)) [
  | inl here ↦ (
    e.1,
    cond-true (is_word name e.0) (Some e.1) (lookup (is_word name) es) here,
    (0, omega arith, λ j. (sym ((is_word-Decides name e.0).0 here) j, e.1)),
  )
  | inr past ↦ (let later : is_among (map (λ (f : WordId × WordId). f.0) es) name ≡ true =
      sym (ap (λ b. b || is_among (map (λ (f : WordId × WordId). f.0) es) name) past) ∙ h in
      let found = lookup_given es name later in (
        found.0,
        cond-false (is_word name e.0) (Some e.1) (lookup (is_word name) es) past ∙ found.1,
        Rattle.std.proofs.lemmas.List.Elements.Contains-append_right (e ∷ []) es (name, found.0) found.2,
      ))
]

-- the entries of the same names have the representatives by one more equality
abbrev pub AreEntries : List WordId → List (WordId × WordId) → List (WordId × WordId) → Type 0
AreEntries names ps es = (map (λ (e : WordId × WordId). e.0) es ≡ names) × All (λ e. Represents ps e.0 e.1) es

names_renamed : (gone stays : WordId) (es : List (WordId × WordId))
    → map (λ (e : WordId × WordId). e.0) (map (renamed gone stays) es) ≡ map (λ (e : WordId × WordId). e.0) es
names_renamed gone stays [] = refl
names_renamed gone stays (e ∷ es) =
    ap (λ n. n ∷ map (λ (f : WordId × WordId). f.0) (map (renamed gone stays) es)) (first (is_word gone e.1))
    ∙ ap (λ ns. e.0 ∷ ns) (names_renamed gone stays es)
  where
    first : (b : Bool) → (if b then (e.0, stays) else e).0 ≡ e.0
    first true = refl
    first false = refl

same_firsts : (gone stays : WordId) (e : WordId × WordId) (ps : List (WordId × WordId)) → Represents ps e.0 (renamed gone stays e).1
    → Represents ps (renamed gone stays e).0 (renamed gone stays e).1
same_firsts gone stays e ps h = subst (λ n. Represents ps n (renamed gone stays e).1) (sym (first (is_word gone e.1))) h
  where
    first : (b : Bool) → (if b then (e.0, stays) else e).0 ≡ e.0
    first true = refl
    first false = refl

merged_entries : (ps : List (WordId × WordId)) (p : WordId × WordId) (es : List (WordId × WordId)) (a b : WordId) → Represents ps p.0 a → Represents ps p.1 b
    → (names : List WordId) → AreEntries names ps es → (low : Bool) → nat_le a.0 b.0 ≡ low
    → AreEntries names (ps ++ p ∷ []) (if low then map (renamed b a) es else map (renamed a b) es)
merged_entries ps p es a b of_a of_b names given true h = (
  names_renamed b a es ∙ given.0,
  All-map (λ e. Represents (ps ++ p ∷ []) e.0 e.1) (renamed b a) es
      (All-weaker (λ e. Represents ps e.0 e.1) (λ e. Represents (ps ++ p ∷ []) (renamed b a e).0 (renamed b a e).1)
      (λ e r. same_firsts b a e (ps ++ p ∷ [])
      (merged_entry ps p p.0 p.1 a b of_a of_b (leb-true a.0 b.0 h) (1, (p.1, refl, inr (Contains-push ps p))) (joined_split ps p) e r))
      es given.1),
)
merged_entries ps p es a b of_a of_b names given false h = (
  names_renamed a b es ∙ given.0,
  All-map (λ e. Represents (ps ++ p ∷ []) e.0 e.1) (renamed a b) es
      (All-weaker (λ e. Represents ps e.0 e.1) (λ e. Represents (ps ++ p ∷ []) (renamed a b e).0 (renamed a b e).1)
      (λ e r. same_firsts a b e (ps ++ p ∷ [])
      (merged_entry ps p p.1 p.0 b a of_b of_a (smaller (leb-false a.0 b.0 h)) (1, (p.0, refl, inl (Contains-push ps p)))
      (λ x y s. swap_sides ps p.0 p.1 x y (joined_split ps p x y s)) e r))
      es given.1),
)
  where
    smaller : b.0 < a.0 → b.0 ≤ a.0
    smaller lt = omega arith

-- joining two given names keeps the entries right
pub joined_entries : (ps : List (WordId × WordId)) (p : WordId × WordId) (es : List (WordId × WordId)) (names : List WordId)
    → (is_among names p.0 && is_among names p.1) ≡ true → map (λ (e : WordId × WordId). e.0) es ≡ names → All (λ e. Represents ps e.0 e.1) es
    → AreEntries names (ps ++ p ∷ []) (joined es p.0 p.1)
joined_entries ps p es names there given all =
    let parts = and_parts (is_among names p.0) (is_among names p.1) there in
    let one = lookup_given es p.0 (ap (λ ns. is_among ns p.0) given ∙ parts.0) in
    let other = lookup_given es p.1 (ap (λ ns. is_among ns p.1) given ∙ parts.1) in
    let of_a : Represents ps p.0 one.0 = All-contains (λ e. Represents ps e.0 e.1) es (p.0, one.0) all one.2 in
    let of_b : Represents ps p.1 other.0 = All-contains (λ e. Represents ps e.0 e.1) es (p.1, other.0) all other.2 in
    subst (AreEntries names (ps ++ p ∷ []))
    (sym (ap (λ o. option_map_or (λ a. option_map_or (merged es a) (lookup (is_word p.1) es) es) o es) one.1
    ∙ ap (λ o. option_map_or (merged es one.0) o es) other.1))
    (merged_entries ps p es one.0 other.0 of_a of_b names (given, all) (nat_le one.0.0 other.0.0) refl)

-- before any equality each name represents itself
nothing_equated : (x y : WordId) → AreEquated [] x y → ⊥
nothing_equated x y h = elim h [ inl one ↦ absurd (none (x, y) one) | inr other ↦ absurd (none (y, x) other) ]
  where
    none : (q : WordId × WordId) → Contains [] q → ⊥
    none q (k, lt, e) = absurd (omega arith)

alone : (x y : WordId) → Reaches (AreEquated []) x y → x ≡ y
alone x y h = closure.kept (AreEquated []) (λ u v. u ≡ v) (λ u. refl) (λ u v w e step. absurd (nothing_equated v w step)) x y h

pub itself_represents : (names : List WordId) → AreEntries names [] (map (λ (n : WordId). (n, n)) names)
itself_represents names = (
  again names,
  All-map (λ e. Represents [] e.0 e.1) (λ (n : WordId). (n, n)) names (λ k d lt. mine (get_or names k d)),
)
  where
    again : (ns : List WordId) → map (λ (e : WordId × WordId). e.0) (map (λ (n : WordId). (n, n)) ns) ≡ ns
    again [] = refl
    again (n ∷ ns) = ap (λ ms. n ∷ ms) (again ns)

    mine : (n : WordId) → Represents [] n n
    mine n = record { joined = (0, refl); least = λ x h. subst (λ w. n.0 ≤ w.0) (alone n x h) (omega arith) }
