-- Words with lists, and one item more.
use Rattle.std.proofs.Common.{◌≡◌, ◌<◌, ◌≤◌, ◌==◌, ◌&&◌, Bool, true, false, List, [], ◌∷◌, ◌++◌, Contains, Some, None, refl, sym, ap, ◌∙◌, subst, inl, inr, arith}
use Rattle.std.specs.Prelude.{◌⊎◌, nat_lt, unwrap_or, if◌then◌else◌}
use Rattle.std.specs.List.{list_all}
use Rattle.std.specs.Map.{lookup}
use Rattle.std.proofs.lemmas.Bool.{cases_Bool, cases_eq, and_from, and_parts, cond-true, cond-false, eqb-true, eq-eqb, ne_eqb, ltb-true, ltb-false, lt-ltb}
use Rattle.std.proofs.lemmas.List.Elements.{Contains-append_left, Contains-push, Contains-push_cases}
use Rattle.std.proofs.lemmas.List.Folds.{list_all-append}
use Rattle.wiki_base.specs.declared.numbers.WordId.{WordId}
use Rattle.logic_terms.specs.Interpretation.{is_word, words_above, words_rise}
use Rattle.branch_model.specs.Entries.{placed}

module _ {X : Type 0} where
  -- the items of a word
  abbrev pub items_of : WordId → List (WordId × List X) → List X
  items_of word es = unwrap_or (lookup (is_word word) es) []

  pub placed-less : (word : WordId) (x : X) (e : WordId × List X) (es : List (WordId × List X)) → nat_lt e.0.0 word.0 ≡ true
      → placed word x (e ∷ es) ≡ e ∷ placed word x es
  placed-less word x e es less =
      cond-true (nat_lt e.0.0 word.0) (e ∷ placed word x es) (if e.0.0 == word.0 then (e.0, e.1 ++ x ∷ []) ∷ es else (word, x ∷ []) ∷ e ∷ es) less

  pub placed-same : (word : WordId) (x : X) (e : WordId × List X) (es : List (WordId × List X)) → nat_lt e.0.0 word.0 ≡ false → (e.0.0 == word.0) ≡ true
      → placed word x (e ∷ es) ≡ (e.0, e.1 ++ x ∷ []) ∷ es
  placed-same word x e es less same =
      cond-false (nat_lt e.0.0 word.0) (e ∷ placed word x es) (if e.0.0 == word.0 then (e.0, e.1 ++ x ∷ []) ∷ es else (word, x ∷ []) ∷ e ∷ es) less
      ∙ cond-true (e.0.0 == word.0) ((e.0, e.1 ++ x ∷ []) ∷ es) ((word, x ∷ []) ∷ e ∷ es) same

  pub placed-more : (word : WordId) (x : X) (e : WordId × List X) (es : List (WordId × List X)) → nat_lt e.0.0 word.0 ≡ false → (e.0.0 == word.0) ≡ false
      → placed word x (e ∷ es) ≡ (word, x ∷ []) ∷ e ∷ es
  placed-more word x e es less same =
      cond-false (nat_lt e.0.0 word.0) (e ∷ placed word x es) (if e.0.0 == word.0 then (e.0, e.1 ++ x ∷ []) ∷ es else (word, x ∷ []) ∷ e ∷ es) less
      ∙ cond-false (e.0.0 == word.0) ((e.0, e.1 ++ x ∷ []) ∷ es) ((word, x ∷ []) ∷ e ∷ es) same

  -- the three places of a word against an entry's
  three : (word : WordId) (e : WordId × List X)
      → (nat_lt e.0.0 word.0 ≡ true) ⊎ (((nat_lt e.0.0 word.0 ≡ false) × ((e.0.0 == word.0) ≡ true))
      ⊎ ((nat_lt e.0.0 word.0 ≡ false) × ((e.0.0 == word.0) ≡ false)))
  three word e = elim (cases_Bool (nat_lt e.0.0 word.0)) [
    | inl less ↦ inl less
    | inr no_less ↦ elim (cases_Bool (e.0.0 == word.0)) [ inl same ↦ inr (inl (no_less, same)) | inr other ↦ inr (inr (no_less, other)) ]
  ]

  -- words rise, one item more
  above_placed : (v word : WordId) (x : X) (es : List (WordId × List X)) → v.0 < word.0 → words_above v es ≡ true → words_above v (placed word x es) ≡ true
  above_placed v word x [] lt up = and_from (nat_lt v.0 word.0) true (lt-ltb v.0 word.0 lt) refl
  above_placed v word x (e ∷ es) lt up =
      let two = and_parts (nat_lt v.0 e.0.0) (words_above e.0 es) up in
      elim (three word e) [
        | inl less ↦ ap (words_above v) (placed-less word x e es less)
            ∙ and_from (nat_lt v.0 e.0.0) (words_above e.0 (placed word x es)) two.0 (above_placed e.0 word x es (ltb-true e.0.0 word.0 less) two.1)
        | inr rest ↦ elim rest [
          | inl same ↦ ap (words_above v) (placed-same word x e es same.0 same.1) ∙ up
          | inr more ↦ ap (words_above v) (placed-more word x e es more.0 more.1)
              ∙ and_from (nat_lt v.0 word.0) (nat_lt word.0 e.0.0 && words_above e.0 es) (lt-ltb v.0 word.0 lt)
              (and_from (nat_lt word.0 e.0.0) (words_above e.0 es) (lt-ltb word.0 e.0.0 (above_it e more)) two.1)
        ]
      ]
    where
      above_it : (e : WordId × List X) → (nat_lt e.0.0 word.0 ≡ false) × ((e.0.0 == word.0) ≡ false) → word.0 < e.0.0
      above_it e more =
          let le = ltb-false e.0.0 word.0 more.0 in
          let ne = Rattle.std.proofs.lemmas.Bool.eqb-false e.0.0 word.0 more.1 in
          elim (cases_eq e.0.0 word.0) [ inl same ↦ absurd (ne same) | inr other ↦ omega arith ]

  pub rise_placed : (word : WordId) (x : X) (es : List (WordId × List X)) → words_rise es ≡ true → words_rise (placed word x es) ≡ true
  rise_placed word x [] up = refl
  rise_placed word x (e ∷ es) up = elim (three word e) [
    | inl less ↦ ap words_rise (placed-less word x e es less) ∙ above_placed e.0 word x es (ltb-true e.0.0 word.0 less) up
    | inr rest ↦ elim rest [
      | inl same ↦ ap words_rise (placed-same word x e es same.0 same.1) ∙ up
      | inr more ↦ ap words_rise (placed-more word x e es more.0 more.1)
          ∙ and_from (nat_lt word.0 e.0.0) (words_above e.0 es) (lt-ltb word.0 e.0.0 (above_it more)) up
    ]
  ]
    where
      above_it : (nat_lt e.0.0 word.0 ≡ false) × ((e.0.0 == word.0) ≡ false) → word.0 < e.0.0
      above_it more =
          let le = ltb-false e.0.0 word.0 more.0 in
          let ne = Rattle.std.proofs.lemmas.Bool.eqb-false e.0.0 word.0 more.1 in
          elim (cases_eq e.0.0 word.0) [ inl same ↦ absurd (ne same) | inr other ↦ omega arith ]

  -- no word at or below one that is above all has items
  none_above : (v word : WordId) (es : List (WordId × List X)) → v.0 ≤ word.0 → words_above word es ≡ true → lookup (is_word v) es ≡ None
  none_above v word [] le up = refl
  none_above v word (e ∷ es) le up =
      let two = and_parts (nat_lt word.0 e.0.0) (words_above e.0 es) up in
      let lt = ltb-true word.0 e.0.0 two.0 in
      cond-false (is_word v e.0) (Some e.1) (lookup (is_word v) es) (ne_eqb v.0 e.0.0 (λ same. omega arith)) ∙ none_above v e.0 es (omega arith) two.1

  items_here : (v : WordId) (e : WordId × List X) (es : List (WordId × List X)) → v.0 ≡ e.0.0 → items_of v (e ∷ es) ≡ e.1
  items_here v e es same = ap (λ o. unwrap_or o []) (cond-true (is_word v e.0) (Some e.1) (lookup (is_word v) es) (eq-eqb v.0 e.0.0 same))

  items_past : (v : WordId) (e : WordId × List X) (es : List (WordId × List X)) → (v.0 ≡ e.0.0 → ⊥) → items_of v (e ∷ es) ≡ items_of v es
  items_past v e es other = ap (λ o. unwrap_or o []) (cond-false (is_word v e.0) (Some e.1) (lookup (is_word v) es) (ne_eqb v.0 e.0.0 other))

  -- the items of the word have one more, those of others stay
  pub items_same : (word : WordId) (x : X) (es : List (WordId × List X)) → words_rise es ≡ true → items_of word (placed word x es) ≡ items_of word es ++ x ∷ []
  items_same word x [] up = items_here word (word, x ∷ []) [] refl
  items_same word x (e ∷ es) up = elim (three word e) [
    | inl less ↦ (let lt = ltb-true e.0.0 word.0 less in
        ap (items_of word) (placed-less word x e es less) ∙ items_past word e (placed word x es) (λ same. omega arith)
        ∙ items_same word x es (tail_rises e es up) ∙ ap (λ xs. xs ++ x ∷ []) (sym (items_past word e es (λ same. omega arith))))
    | inr rest ↦ elim rest [
      | inl same ↦ (let is = eqb-true e.0.0 word.0 same.1 in
          ap (items_of word) (placed-same word x e es same.0 same.1) ∙ items_here word (e.0, e.1 ++ x ∷ []) es (sym is)
          ∙ ap (λ xs. xs ++ x ∷ []) (sym (items_here word e es (sym is))))
      | inr more ↦ (let le = ltb-false e.0.0 word.0 more.0 in
          ap (items_of word) (placed-more word x e es more.0 more.1) ∙ items_here word (word, x ∷ []) (e ∷ es) refl
          ∙ ap (λ xs. xs ++ x ∷ []) (sym
          (items_past word e es (λ same. Rattle.std.proofs.lemmas.Bool.eqb-false e.0.0 word.0 more.1 (sym same))
          ∙ ap (λ o. unwrap_or o []) (none_above word e.0 es le (tail_above e es up)))))
    ]
  ]
    where
      tail_above : (e : WordId × List X) (es : List (WordId × List X)) → words_rise (e ∷ es) ≡ true → words_above e.0 es ≡ true
      tail_above e es up = up

      tail_rises : (e : WordId × List X) (es : List (WordId × List X)) → words_rise (e ∷ es) ≡ true → words_rise es ≡ true
      tail_rises e [] up = refl
      tail_rises e (f ∷ es) up = (and_parts (nat_lt e.0.0 f.0.0) (words_above f.0 es) up).1

  pub items_other : (v word : WordId) (x : X) (es : List (WordId × List X)) → (v.0 ≡ word.0 → ⊥) → items_of v (placed word x es) ≡ items_of v es
  items_other v word x [] ne = items_past v (word, x ∷ []) [] ne
  items_other v word x (e ∷ es) ne = elim (three word e) [
    | inl less ↦ ap (items_of v) (placed-less word x e es less) ∙ elim (cases_eq v.0 e.0.0) [
      | inl same ↦ items_here v e (placed word x es) same ∙ sym (items_here v e es same)
      | inr other ↦ items_past v e (placed word x es) other ∙ items_other v word x es ne ∙ sym (items_past v e es other)
    ]
    | inr rest ↦ elim rest [
      | inl same ↦ (let is = eqb-true e.0.0 word.0 same.1 in
          ap (items_of v) (placed-same word x e es same.0 same.1) ∙ items_past v (e.0, e.1 ++ x ∷ []) es (λ at. ne (at ∙ is))
          ∙ sym (items_past v e es (λ at. ne (at ∙ is))))
      | inr more ↦ ap (items_of v) (placed-more word x e es more.0 more.1) ∙ items_past v (word, x ∷ []) (e ∷ es) ne
    ]
  ]

  -- what all items pass, one more passes
  pub all_placed : (test : X → Bool) (word : WordId) (x : X) (es : List (WordId × List X)) → test x ≡ true → list_all (λ e. list_all test e.1) es ≡ true
      → list_all (λ e. list_all test e.1) (placed word x es) ≡ true
  all_placed test word x [] here h = and_from (test x && true) true (and_from (test x) true here refl) refl
  all_placed test word x (e ∷ es) here h =
      let two = and_parts (list_all test e.1) (list_all (λ e. list_all test e.1) es) h in
      elim (three word e) [
        | inl less ↦ ap (list_all (λ e. list_all test e.1)) (placed-less word x e es less)
            ∙ and_from (list_all test e.1) (list_all (λ e. list_all test e.1) (placed word x es)) two.0 (all_placed test word x es here two.1)
        | inr rest ↦ elim rest [
          | inl same ↦ ap (list_all (λ e. list_all test e.1)) (placed-same word x e es same.0 same.1)
              ∙ and_from (list_all test (e.1 ++ x ∷ [])) (list_all (λ e. list_all test e.1) es)
              (list_all-append test e.1 (x ∷ []) ∙ and_from (list_all test e.1) (test x && true) two.0 (and_from (test x) true here refl)) two.1
          | inr more ↦ ap (list_all (λ e. list_all test e.1)) (placed-more word x e es more.0 more.1)
              ∙ and_from (test x && true) (list_all (λ e. list_all test e.1) (e ∷ es)) (and_from (test x) true here refl) h
        ]
      ]

  -- what one list of entries has more than another
  pub record Adds (es fs : List (WordId × List X)) (P : WordId → X → Type 0) : Type 0 where
    pub rises : words_rise fs ≡ true
    pub kept : (v : WordId) (y : X) → Contains (items_of v es) y → Contains (items_of v fs) y
    pub added : (v : WordId) (y : X) → P v y → Contains (items_of v fs) y
    pub only : (v : WordId) (y : X) → Contains (items_of v fs) y → Contains (items_of v es) y ⊎ P v y

  pub adds_none : (es : List (WordId × List X)) → words_rise es ≡ true → Adds es es (λ v y. ⊥)
  adds_none es up = record { rises = up; kept = λ v y h. h; added = λ v y h. absurd h; only = λ v y h. inl h }

  pub adds_placed : (word : WordId) (x : X) (es : List (WordId × List X)) → words_rise es ≡ true → Adds es (placed word x es) (λ v y. (v ≡ word) × (x ≡ y))
  adds_placed word x es up = record {
    rises = rise_placed word x es up;
    kept = λ v y h. elim (cases_eq v.0 word.0) [
      | inl same ↦ subst (λ xs. Contains xs y) (sym (at_same v same)) (Contains-append_left (items_of v es) (x ∷ []) y h)
      | inr other ↦ subst (λ xs. Contains xs y) (sym (items_other v word x es other)) h
    ];
    added = λ v y h. subst (λ xs. Contains xs y) (sym (at_same v (ap (λ w. w.0) h.0)))
        (subst (λ z. Contains (items_of v es ++ x ∷ []) z) h.1 (Contains-push (items_of v es) x));
    only = λ v y h. elim (cases_eq v.0 word.0) [
      | inl same ↦ elim (Contains-push_cases (items_of v es) x y (subst (λ xs. Contains xs y) (at_same v same) h)) [
        | inl old ↦ inl old
        | inr new ↦
            inr (word_is v same, new)
      ]
      | inr other ↦ inl (subst (λ xs. Contains xs y) (items_other v word x es other) h)
    ];
  }
    where
      word_is : (v : WordId) → v.0 ≡ word.0 → v ≡ word
      word_is v e = λ j. record { 0 = e j }

      at_same : (v : WordId) → v.0 ≡ word.0 → items_of v (placed word x es) ≡ items_of v es ++ x ∷ []
      at_same v same = subst (λ w. items_of w (placed word x es) ≡ items_of w es ++ x ∷ []) (sym (word_is v same)) (items_same word x es up)

  pub adds_then : (es fs gs : List (WordId × List X)) (P Q : WordId → X → Type 0) → Adds es fs P → Adds fs gs Q → Adds es gs (λ v y. P v y ⊎ Q v y)
  adds_then es fs gs P Q one two = record {
    rises = two.rises;
    kept = λ v y h. two.kept v y (one.kept v y h);
    added = λ v y h. elim h [ inl p ↦ two.kept v y (one.added v y p) | inr q ↦ two.added v y q ];
    only = λ v y h. elim (two.only v y h) [
      | inl before ↦ elim (one.only v y before) [ inl old ↦ inl old | inr p ↦ inr (inl p) ]
      | inr q ↦ inr (inr q)
    ];
  }

  pub adds_as : (es fs : List (WordId × List X)) (P Q : WordId → X → Type 0) → ((v : WordId) (y : X) → P v y → Q v y) → ((v : WordId) (y : X) → Q v y → P v y)
      → Adds es fs P → Adds es fs Q
  adds_as es fs P Q to from one = record {
    rises = one.rises;
    kept = one.kept;
    added = λ v y h. one.added v y (from v y h);
    only = λ v y h. elim (one.only v y h) [ inl old ↦ inl old | inr p ↦ inr (to v y p) ];
  }
