-- A finite map with rising words, searched by halving.
use Rattle.std.proofs.Common.{◌≡◌, ℕ, zero, suc, ◌+◌, ◌<◌, true, false, List, [], ◌∷◌, length, get_or, Some, None, Result, Ok, Err, cond, refl, sym, ap, ◌∙◌, subst, inl, inr, arith}
use Rattle.std.specs.Prelude.{nat_lt, MatchResult}
use Rattle.std.specs.declared.cmp.Ordering.TheVariants.{Less, Equal, Greater}
use Rattle.std.specs.Ordering.{nat_cmp, is_lt}
use Rattle.std.specs.Map.{lookup}
use Rattle.std.specs.List.Sorted.{IsBinarySearchResult, IsSearchInRange}
use Rattle.std.proofs.lemmas.Bool.{ltb-true, and_parts, eq-eqb, ne_eqb, cases_lt}
use Rattle.std.proofs.lemmas.Bool.Decides.{nat_tests}
use Rattle.std.proofs.lemmas.Cmp.{ranked}
use Rattle.std.proofs.lemmas.List.Sorted.{searchable_from_sorted}
use Rattle.std.specs.Cmp.{nat_cmp_total}
use Rattle.wiki_base.specs.declared.numbers.WordId.{WordId}
use Rattle.logic_terms.specs.Interpretation.{is_word, words_above, words_rise}

module _ {V : Type 0} where
  -- the words above a word are greater, and rise themselves
  above : (w : WordId) (es : List (WordId × V)) → words_above w es ≡ true → (k : ℕ) (d : WordId × V) → k < length es → w.0 < (get_or es k d).0.0
  above w [] rise k d lt = absurd (omega arith)
  above w (e ∷ es) rise zero d lt = ltb-true w.0 e.0.0 (and_parts (nat_lt w.0 e.0.0) (words_above e.0 es) rise).0
  above w (e ∷ es) rise (suc k) d lt =
      let parts = and_parts (nat_lt w.0 e.0.0) (words_above e.0 es) rise in
      omega (arith, ltb-true w.0 e.0.0 parts.0, above e.0 es parts.1 k d (omega arith))

  rise_above : (w : WordId) (es : List (WordId × V)) → words_above w es ≡ true → words_rise es ≡ true
  rise_above w [] rise = refl
  rise_above w (e ∷ es) rise = (and_parts (nat_lt w.0 e.0.0) (words_above e.0 es) rise).1

  adjacent : (es : List (WordId × V)) → words_rise es ≡ true → (k : ℕ) (d : WordId × V) → suc k < length es → (get_or es k d).0.0 < (get_or es (suc k) d).0.0
  adjacent [] rise k d lt = absurd (omega arith)
  adjacent (e ∷ es) rise zero d lt = above e.0 es rise 0 d (omega arith)
  adjacent (e ∷ es) rise (suc k) d lt = adjacent es (rise_above e.0 es rise) k d (omega arith)

  -- the word at a place is the only one of its kind
  pub at_place : (es : List (WordId × V)) → words_rise es ≡ true → (word : WordId) (k : ℕ) (d : WordId × V) → k < length es → (get_or es k d).0.0 ≡ word.0
      → lookup (is_word word) es ≡ Some (get_or es k d).1
  at_place [] rise word k d lt same = absurd (omega arith)
  at_place (e ∷ es) rise word zero d lt same =
      ap (λ b. cond b (Some e.1) (lookup (is_word word) es)) (eq-eqb word.0 e.0.0 (sym same))
  at_place (e ∷ es) rise word (suc k) d lt same =
      ap (λ b. cond b (Some e.1) (lookup (is_word word) es)) (ne_eqb word.0 e.0.0 (λ h. omega (arith, above e.0 es rise k d (omega arith))))
      ∙ at_place es (rise_above e.0 es rise) word k d (omega arith) same

  no_place : (es : List (WordId × V)) (word : WordId) → ((k : ℕ) (d : WordId × V) → k < length es → (get_or es k d).0.0 ≡ word.0 → ⊥)
      → lookup (is_word word) es ≡ None
  no_place [] word none = refl
  no_place (e ∷ es) word none =
      ap (λ b. cond b (Some e.1) (lookup (is_word word) es)) (ne_eqb word.0 e.0.0 (λ h. none 0 e (omega arith) (sym h)))
      ∙ no_place es word (λ k d lt. none (suc k) d (omega arith))

  -- what the search tells of the look-up
  pub searched : (es : List (WordId × V)) → words_rise es ≡ true → (word : WordId) (r : Result ℕ ℕ) → IsSearchInRange r (length es)
      → IsBinarySearchResult (λ e. nat_cmp e.0.0 word.0) es r
      → MatchResult r (λ k. (d : WordId × V) → lookup (is_word word) es ≡ Some (get_or es k d).1) (λ _. lookup (is_word word) es ≡ None)
  searched es rise word (Ok k) bound at = λ d. at_place es rise word k d bound (ranked (get_or es k d).0.0 word.0 Equal (sym (at d)))
  searched es rise word (Err k) bound at =
      let sorted = searchable_from_sorted nat_cmp_total (λ (e : WordId × V). e.0.0) es word.0
      (λ j d low lt. strictly (get_or es j d).0.0 (get_or es (j + 1) d).0.0
      (subst (λ n. (get_or es j d).0.0 < (get_or es n d).0.0) (one j) (adjacent es rise j d (omega arith)))) in
      let parted = at sorted in
      no_place es word (λ j d lt same. elim (cases_lt j k) [
        | inl below ↦ different_less (get_or es j d).0.0 word.0 (parted.0 j d (omega arith) below) same
        | inr past ↦ different_greater (get_or es j d).0.0 word.0 (parted.1 j d past lt) same
      ])
    where
      one : (j : ℕ) → suc j ≡ j + 1
      one j = omega arith

      strictly : (a b : ℕ) → a < b → is_lt (nat_cmp b a) ≡ false
      strictly a b h = grind (arith, nat_tests)

      different_less : (a b : ℕ) → nat_cmp a b ≡ Less → a ≡ b → ⊥
      different_less a b h e = omega (arith, ranked a b Less (sym h))

      different_greater : (a b : ℕ) → nat_cmp a b ≡ Greater → a ≡ b → ⊥
      different_greater a b h e = omega (arith, ranked a b Greater (sym h))
