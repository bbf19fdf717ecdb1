-- What a search among words that stand in order of number finds.
use Rattle.std.proofs.Common.{◌≡◌, ℕ, ◌<◌, ◌≤◌, eqb, List, [], ◌∷◌, length, get_or, Option, Some, None, Result, Ok, Err, MatchOption, is_some, true, false, AllPairs, ◌⊎◌, inl, inr, refl, sym, ap, arith}
use Rattle.std.specs.List.Sorted.{IsSearchInRange, IsBinarySearchResult, IsNonDecreasingBy}
use Rattle.std.specs.Ordering.{nat_cmp, ordering_index}
use Rattle.std.specs.Result.{result_ok}
use Rattle.std.proofs.lemmas.Cmp.{ranked}
use Rattle.std.proofs.lemmas.Bool.{cases_lt}
use Rattle.std.proofs.lemmas.Bool.Decides.{nat_tests}
use Rattle.wiki_base.specs.declared.numbers.WordId.{WordId}
use Rattle.wiki_base.proofs.ListLaws.{find_none, find_first}
use Rattle.lexicon.specs.declared.words.Word.{Word}
use Rattle.lexicon.specs.Words.{forms_of, IsPlaceOf}

module _ (live : List Word) (in_order : AllPairs (λ word later. word.id.0 < later.id.0) live) (id : WordId) where
  -- the numbers rise along the list, as a binary search asks
  numbers_rise : IsNonDecreasingBy (λ word. ordering_index (nat_cmp word.id.0 id.0)) live
  numbers_rise i j d le in_range =
      let rise : (get_or live i d).id.0 ≤ (get_or live j d).id.0 = grind (arith, in_order i j d, λ (same : i ≡ j). ap (λ k. (get_or live k d).id.0) same) in
      grind (arith, nat_tests)

  -- the word at the place of the number is the one that has it
  pub forms_at_place : (place : ℕ) (d : Word) → IsPlaceOf live id place → forms_of live id ≡ Some (get_or live place d).forms
  forms_at_place place d is_place =
      let first = find_first (λ word. eqb word.id.0 id.0) live place d is_place.in_range
      (λ k before. grind (arith, nat_tests, in_order k place d before is_place.in_range, is_place.numbered d))
      (grind (arith, nat_tests, is_place.numbered d)) in
      rw first refl

  -- a binary search by number ends at the word that has it, or no word has it
  pub searched : (r : Result ℕ ℕ) → IsSearchInRange r (length live) → IsBinarySearchResult (λ word. nat_cmp word.id.0 id.0) live r
      → MatchOption (result_ok r) (forms_of live id ≡ None) (IsPlaceOf live id)
  searched (Ok place) in_range equal = record { in_range = in_range; numbered = λ d. ranked _ id.0 _ (sym (equal d)) }
  searched (Err gap) in_range parted =
      let absent = find_none (λ word. eqb word.id.0 id.0) live (λ k d bound. unequal k d bound (cases_lt k gap)) in
      rw absent refl
    where
      -- a number before the gap is smaller, and one after it greater
      unequal : (k : ℕ) (d : Word) → k < length live → (k < gap) ⊎ (gap ≤ k) → eqb (get_or live k d).id.0 id.0 ≡ false
      unequal k d bound (inl before) =
          let smaller : (get_or live k d).id.0 < id.0 = ranked _ id.0 _ (sym ((parted numbers_rise).0 k d (omega arith) before)) in
          grind (arith, nat_tests)
      unequal k d bound (inr after) =
          let greater : id.0 < (get_or live k d).id.0 = ranked _ id.0 _ (sym ((parted numbers_rise).1 k d after bound)) in
          grind (arith, nat_tests)

  -- a place is found where the word lives
  pub found_lives : (found : Option ℕ) → MatchOption found (forms_of live id ≡ None) (IsPlaceOf live id) → is_some found ≡ is_some (forms_of live id)
  found_lives None absent = rw absent refl
  found_lives (Some place) is_place = there live refl
    where
      there : (words : List Word) → words ≡ live → true ≡ is_some (forms_of live id)
      there [] is = absurd (omega (arith, is_place.in_range, ap (length {A = Word}) is))
      there (word ∷ words) is = rw (forms_at_place place word is_place) refl
