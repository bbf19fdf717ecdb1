-- What transitive words add to pairs.
use Rattle.std.proofs.Common.{◌≡◌, ℕ, zero, suc, ◌+◌, ◌<◌, ◌≤◌, ◌&&◌, true, List, [], ◌∷◌, Some, length, take, get_or, Contains, refl, sym, ap, subst, inl, inr, arith, Decides}
use Rattle.std.specs.Prelude.{◌⊎◌, ◌↔◌, nat_lt, unwrap_or}
use Rattle.std.specs.List.{list_any, list_all}
use Rattle.std.specs.Map.{lookup}
use Rattle.std.proofs.lemmas.Bool.{and_parts, eq-eqb, ltb-true, cases_Bool, cond-true, cond-false}
use Rattle.std.proofs.lemmas.Bool.Decides.{Decides-by_or}
use Rattle.std.proofs.lemmas.List.{take_more, take_all}
use Rattle.std.proofs.lemmas.List.Elements.{Contains-append_left, Contains-append_right, Contains-append_cases, Contains-push, Contains-push_cases, Decides-contains}
use Rattle.wiki_base.specs.declared.numbers.WordId.{WordId}
use Rattle.logic_terms.proofs.SameLemmas.{word_equal}
use Rattle.logic_terms.specs.declared.expressions.Role.{Role}
use Rattle.logic_terms.specs.Interpretation.{is_word, words_rise}
use Rattle.logic_terms.specs.Theory.{Theory, is_below}
use Rattle.branch_model.specs.Extents.{paired, paired_above, paired_all}
use Rattle.branch_model.specs.Related.{Steps, Reaches, pairs_in, straight, IsLed, Closes}
use Rattle.branch_model.proofs.Above.{role_above, above_role}
use Rattle.branch_model.proofs.EntriesLemmas.{Adds, adds_none, adds_then, adds_as}
use Rattle.branch_model.proofs.ExtentsLemmas.{IsPair, IsPairAbove, adds_paired, adds_above, fit, fit_paired, fit_above}

no_member : {X : Type 0} (x : X) → Contains [] x → ⊥
no_member x (j, lt, at) = absurd (omega arith)

only_member : {X : Type 0} (y x : X) → Contains (y ∷ []) x → y ≡ x
only_member y x h = elim (Contains-push_cases [] y x h) [ inl none ↦ absurd (no_member x none) | inr same ↦ same ]

-- one of these pairs, as a pair of a role or of one above it
abbrev pub AreOf : Theory → Role → List (ℕ × ℕ) → WordId → ℕ × ℕ → Type 0
AreOf k own ps v y = (a : ℕ) × (b : ℕ) × (r : Role) × Contains ps (a, b) × (is_below k own r ≡ true) × IsPair r a b v y

pub adds_all : (k : Theory) (own : Role) (ps : List (ℕ × ℕ)) (es : List (WordId × List (ℕ × ℕ))) → words_rise es ≡ true
    → Adds es (paired_all k.hierarchy own ps es) (AreOf k own ps)
adds_all k own [] es up =
    adds_as es es (λ v y. ⊥) (AreOf k own []) (λ v y h. absurd h) (λ v y h. absurd (no_member (h.0, h.1) h.3)) (adds_none es up)
adds_all k own (p ∷ ps) es up =
    let first = adds_paired own p.0 p.1 es up in
    let mid = paired_above k.hierarchy own p.0 p.1 (paired own p.0 p.1 es) in
    let one = adds_then es (paired own p.0 p.1 es) mid (IsPair own p.0 p.1) (IsPairAbove k.hierarchy own p.0 p.1) first
    (adds_above k.hierarchy own p.0 p.1 (paired own p.0 p.1 es) first.rises) in
    adds_as es (paired_all k.hierarchy own ps mid) (λ v y. (IsPair own p.0 p.1 v y ⊎ IsPairAbove k.hierarchy own p.0 p.1 v y) ⊎ AreOf k own ps v y)
    (AreOf k own (p ∷ ps)) to from
    (adds_then es mid (paired_all k.hierarchy own ps mid) (λ v y. IsPair own p.0 p.1 v y ⊎ IsPairAbove k.hierarchy own p.0 p.1 v y) (AreOf k own ps) one
    (adds_all k own ps mid one.rises))
  where
    to : (v : WordId) (y : ℕ × ℕ) → (IsPair own p.0 p.1 v y ⊎ IsPairAbove k.hierarchy own p.0 p.1 v y) ⊎ AreOf k own ps v y → AreOf k own (p ∷ ps) v y
    to v y (inl here) =
        let above = role_above k own p.0 p.1 v y here in
        (p.0, p.1, above.0, Contains-append_left (p ∷ []) ps (p.0, p.1) (Contains-push [] p), above.1, above.2)
    to v y (inr (a, b, r, there, below, pair)) = (a, b, r, Contains-append_right (p ∷ []) ps (a, b) there, below, pair)

    from : (v : WordId) (y : ℕ × ℕ) → AreOf k own (p ∷ ps) v y → (IsPair own p.0 p.1 v y ⊎ IsPairAbove k.hierarchy own p.0 p.1 v y) ⊎ AreOf k own ps v y
    from v y (a, b, r, there, below, pair) = elim (Contains-append_cases (p ∷ []) ps (a, b) there) [
      | inl here ↦ (let same = only_member p (a, b) here in
          inl (above_role k own r p.0 p.1 v y below
          (subst (λ d. IsPair r p.0 d v y) (sym (ap (λ q. q.1) same)) (subst (λ d. IsPair r d b v y) (sym (ap (λ q. q.0) same)) pair))))
      | inr later ↦ inr (a, b, r, later, below, pair)
    ]

pub fit_all : (size : ℕ) (hierarchy : List (Role × Role)) (own : Role) (ps : List (ℕ × ℕ)) (es : List (WordId × List (ℕ × ℕ)))
    → ((a b : ℕ) → Contains ps (a, b) → (a < size) × (b < size)) → fit size es ≡ true → fit size (paired_all hierarchy own ps es) ≡ true
fit_all size hierarchy own [] es below h = h
fit_all size hierarchy own (p ∷ ps) es below h =
    let here = below p.0 p.1 (Contains-append_left (p ∷ []) ps (p.0, p.1) (Contains-push [] p)) in
    fit_all size hierarchy own ps (paired_above hierarchy own p.0 p.1 (paired own p.0 p.1 es))
    (λ a b there. below a b (Contains-append_right (p ∷ []) ps (a, b) there))
    (fit_above size hierarchy own p.0 p.1 (paired own p.0 p.1 es) here.0 here.1 (fit_paired size own p.0 p.1 es here.0 here.1 h))

-- the pairs of a word that fit are below the size
fit_pairs : (size : ℕ) (ps : List (ℕ × ℕ)) → list_all (λ p. nat_lt p.0 size && nat_lt p.1 size) ps ≡ true → (a b : ℕ) → Contains ps (a, b)
    → (a < size) × (b < size)
fit_pairs size [] h a b there = absurd (no_member (a, b) there)
fit_pairs size (p ∷ ps) h a b there =
    let two = and_parts (nat_lt p.0 size && nat_lt p.1 size) (list_all (λ p. nat_lt p.0 size && nat_lt p.1 size) ps) h in
    elim (Contains-append_cases (p ∷ []) ps (a, b) there) [
      | inl here ↦ (let ends = and_parts (nat_lt p.0 size) (nat_lt p.1 size) two.0 in
          subst (λ (q : ℕ × ℕ). (q.0 < size) × (q.1 < size)) (only_member p (a, b) here) (ltb-true p.0 size ends.0, ltb-true p.1 size ends.1))
      | inr later ↦ fit_pairs size ps two.1 a b later
    ]

fit_word : (size : ℕ) (word : WordId) (es : List (WordId × List (ℕ × ℕ))) → fit size es ≡ true → (a b : ℕ) → Contains (pairs_in es word) (a, b)
    → (a < size) × (b < size)
fit_word size word [] h a b there = absurd (no_member (a, b) there)
fit_word size word (e ∷ es) h a b there =
    let two = and_parts (list_all (λ p. nat_lt p.0 size && nat_lt p.1 size) e.1) (fit size es) h in
    elim (cases_Bool (is_word word e.0)) [
      | inl same ↦ fit_pairs size e.1 two.0 a b
          (subst (λ o. Contains (unwrap_or o []) (a, b)) (cond-true (is_word word e.0) (Some e.1) (lookup (is_word word) es) same) there)
      | inr other ↦ fit_word size word es two.1 a b
          (subst (λ o. Contains (unwrap_or o []) (a, b)) (cond-false (is_word word e.0) (Some e.1) (lookup (is_word word) es) other) there)
    ]

fit_steps : (size : ℕ) (step : ℕ → ℕ → Type 0) → ((a b : ℕ) → step a b → (a < size) × (b < size)) → (n a b : ℕ) → Steps step n a b
    → (a < size) × (b < size)
fit_steps size step below zero a b one = below a b one
fit_steps size step below (suc n) a b (m, before, one) = ((fit_steps size step below n a m before).0, (below m b one).1)

-- what the first words add
abbrev pub IsLedBy : Theory → List (WordId × List (ℕ × ℕ)) → List WordId → WordId → ℕ × ℕ → Type 0
IsLedBy k old words v y =
    (word : WordId) × (r : Role) × (a : ℕ) × (b : ℕ) × Contains words word × (is_below k (straight word) r ≡ true)
    × Reaches (λ c d. Contains (pairs_in old word) (c, d)) a b × IsPair r a b v y

-- and that the pairs still fit
abbrev pub StillFit : List (WordId × List (ℕ × ℕ)) → List (WordId × List (ℕ × ℕ)) → Type 0
StillFit old es = (size : ℕ) → fit size old ≡ true → fit size es ≡ true

pub none_led : (k : Theory) (old : List (WordId × List (ℕ × ℕ))) → words_rise old ≡ true → Adds old old (IsLedBy k old [])
none_led k old up = adds_as old old (λ v y. ⊥) (IsLedBy k old []) (λ v y h. absurd h) (λ v y h. absurd (no_member h.0 h.4)) (adds_none old up)

module _ (k : Theory) (old : List (WordId × List (ℕ × ℕ))) (words : List WordId) (i : ℕ) (d : WordId) (within : i < length words)
    (led : List (ℕ × ℕ)) (are : (a b : ℕ) → Contains led (a, b) ↔ Reaches (λ x y. Contains (pairs_in old (get_or words i d)) (x, y)) a b)
    (es : List (WordId × List (ℕ × ℕ))) where
  pub more_led : Adds old es (IsLedBy k old (take i words))
      → Adds old (paired_all k.hierarchy (straight (get_or words i d)) led es) (IsLedBy k old (take (i + 1) words))
  more_led before =
      let own = straight (get_or words i d) in
      adds_as old (paired_all k.hierarchy own led es) (λ v y. IsLedBy k old (take i words) v y ⊎ AreOf k own led v y) (IsLedBy k old (take (i + 1) words)) to
      from
      (adds_then old es (paired_all k.hierarchy own led es) (IsLedBy k old (take i words)) (AreOf k own led) before (adds_all k own led es before.rises))
    where
      to : (v : WordId) (y : ℕ × ℕ) → IsLedBy k old (take i words) v y ⊎ AreOf k (straight (get_or words i d)) led v y
          → IsLedBy k old (take (i + 1) words) v y
      to v y (inl (word, r, a, b, there, below, way, pair)) = (
        word,
        r,
        a,
        b,
        subst (λ ws. Contains ws word) (sym (take_more words i d within)) (Contains-append_left (take i words) (get_or words i d ∷ []) word there),
        below,
        way,
        pair,
      )
      to v y (inr (a, b, r, there, below, pair)) = (
        get_or words i d,
        r,
        a,
        b,
        subst (λ ws. Contains ws (get_or words i d)) (sym (take_more words i d within)) (Contains-push (take i words) (get_or words i d)),
        below,
        (are a b).0 there,
        pair,
      )

      from : (v : WordId) (y : ℕ × ℕ) → IsLedBy k old (take (i + 1) words) v y
          → IsLedBy k old (take i words) v y ⊎ AreOf k (straight (get_or words i d)) led v y
      from v y (word, r, a, b, there, below, way, pair) =
          elim (Contains-push_cases (take i words) (get_or words i d) word (subst (λ ws. Contains ws word) (take_more words i d within) there)) [
            | inl before ↦ inl (word, r, a, b, before, below, way, pair)
            | inr same ↦ inr (
              a,
              b,
              r,
              (are a b).1 (subst (λ w. Reaches (λ x y. Contains (pairs_in old w) (x, y)) a b) (sym same) way),
              subst (λ w. is_below k (straight w) r ≡ true) (sym same) below,
              pair,
            )
          ]

  pub still_fit : StillFit old es → StillFit old (paired_all k.hierarchy (straight (get_or words i d)) led es)
  still_fit before size h =
      fit_all size k.hierarchy (straight (get_or words i d)) led es
      (λ a b there. let way = (are a b).0 there in
      fit_steps size (λ x y. Contains (pairs_in old (get_or words i d)) (x, y)) (fit_word size (get_or words i d) old h) way.0 a b way.1)
      (before size h)

-- the words of a list are those that its test finds
word_there : (ws : List WordId) (w : WordId) → Decides (list_any (is_word w) ws) (Contains ws w)
word_there ws w =
    Decides-contains ws w (list_any (is_word w) ws) (Decides-by_or (is_word w) (λ x. x ≡ w) (list_any (is_word w)) same refl (λ _ _. refl) ws)
  where
    same : (x : WordId) → Decides (is_word w x) (x ≡ w)
    same x = (λ h. sym (word_equal w x h), λ e. eq-eqb w.0 x.0 (sym (ap (λ (u : WordId). u.0) e)))

-- after all words the pairs are closed
pub all_close : (k : Theory) (old es : List (WordId × List (ℕ × ℕ))) (i : ℕ) → length k.transitive ≤ i → Adds old es (IsLedBy k old (take i k.transitive))
    → StillFit old es → Closes k old es
all_close k old es i le adds fits = record {
  rises = adds.rises;
  pairs = λ v p. (
    λ h. elim (adds.only v p h) [ inl before ↦ inl before | inr led ↦ inr (to v p led) ],
    λ h. elim h [ inl before ↦ adds.kept v p before | inr led ↦ adds.added v p (from v p led) ],
  );
  within = fits;
}
  where
    to : (v : WordId) (p : ℕ × ℕ) → IsLedBy k old (take i k.transitive) v p → IsLed k old v p
    to v p (word, r, a, b, there, below, way, pair) = (
      word,
      r,
      a,
      b,
      (word_there k.transitive word).1 (subst (λ ws. Contains ws word) (take_all i k.transitive le) there),
      below,
      way,
      pair.0,
      pair.1,
    )

    from : (v : WordId) (p : ℕ × ℕ) → IsLed k old v p → IsLedBy k old (take i k.transitive) v p
    from v p (word, r, a, b, transitive, below, way, ids, same) = (
      word,
      r,
      a,
      b,
      subst (λ ws. Contains ws word) (sym (take_all i k.transitive le)) ((word_there k.transitive word).0 transitive),
      below,
      way,
      (ids, same),
    )
