-- Articles in order of their words' numbers: where one stands, and what a change of one makes of the list.
use Rattle.std.proofs.Common.{◌≡◌, ℕ, zero, suc, ◌<◌, ◌≤◌, eqb, List, [], ◌∷◌, length, get_or, set, Option, Some, None, Result, Ok, Err, MatchOption, IsSomeAnd, Bool, true, false, not, cond, ◌⊎◌, inl, inr, refl, sym, ap, subst, ◌∙◌, arith}
use Rattle.std.specs.List.{remove, slice_get}
use Rattle.std.specs.Option.{option_and_then}
use Rattle.std.specs.List.Sorted.{IsSearchInRange, IsBinarySearchResult, IsNonDecreasingBy}
use Rattle.std.specs.Ordering.{nat_cmp, ordering_index}
use Rattle.std.specs.Result.{result_ok}
use Rattle.std.proofs.lemmas.Cmp.{ranked}
use Rattle.std.proofs.lemmas.Bool.{cases_lt, false≢true}
use Rattle.std.proofs.lemmas.Bool.Decides.{nat_tests}
use Rattle.wiki_base.specs.declared.numbers.WordId.{WordId}
use Rattle.wiki_base.proofs.ListLaws.{find_none, find_first, AllPairs-tail, AllPairs-head, filter_all, map_same}
use Rattle.articles.specs.declared.sentences.Sentence.{Sentence}
use Rattle.articles.specs.declared.article.Article.{Article}
use Rattle.articles.specs.Articles.{AreInOrder, is_of, article_of, changed, with_change, without_article, sentence_at}
use Rattle.articles.specs.Places.{IsPlaceOf}

module _ (articles : List Article) (in_order : AreInOrder articles) (word : WordId) where
  -- the numbers rise along the list, as a binary search asks
  numbers_rise : IsNonDecreasingBy (λ article. ordering_index (nat_cmp article.word.0 word.0)) articles
  numbers_rise i j d le in_range =
      let rise : (get_or articles i d).word.0 ≤ (get_or articles j d).word.0 =
      grind (arith, in_order i j d, λ (same : i ≡ j). ap (λ k. (get_or articles k d).word.0) same) in
      grind (arith, nat_tests)

  -- the article at the place is the word's
  pub article_at : (place : ℕ) (d : Article) → IsPlaceOf articles word place → article_of articles word ≡ Some (get_or articles place d)
  article_at place d is_place =
      find_first (is_of word) articles place d is_place.in_range
      (λ k before. grind (arith, nat_tests, in_order k place d before is_place.in_range, is_place.numbered d))
      (grind (arith, nat_tests, is_place.numbered d))

  -- a binary search by number ends at the word's article, or the word has none
  pub searched : (r : Result ℕ ℕ) → IsSearchInRange r (length articles) → IsBinarySearchResult (λ article. nat_cmp article.word.0 word.0) articles r
      → MatchOption (result_ok r) (article_of articles word ≡ None) (IsPlaceOf articles word)
  searched (Ok place) in_range equal = record { in_range = in_range; numbered = λ d. ranked _ word.0 _ (sym (equal d)) }
  searched (Err gap) in_range parted = find_none (is_of word) articles (λ k d bound. unequal k d bound (cases_lt k gap))
    where
      -- a number before the gap is smaller, and one after it greater
      unequal : (k : ℕ) (d : Article) → k < length articles → (k < gap) ⊎ (gap ≤ k) → eqb (get_or articles k d).word.0 word.0 ≡ false
      unequal k d bound (inl before) =
          let smaller : (get_or articles k d).word.0 < word.0 = ranked _ word.0 _ (sym ((parted numbers_rise).0 k d (omega arith) before)) in
          grind (arith, nat_tests)
      unequal k d bound (inr after) =
          let greater : word.0 < (get_or articles k d).word.0 = ranked _ word.0 _ (sym ((parted numbers_rise).1 k d after bound)) in
          grind (arith, nat_tests)

-- an article behind the word's is another word's
other_after : (first : Article) (articles : List Article) (word : WordId) → AreInOrder (first ∷ articles) → first.word.0 ≡ word.0 → (k : ℕ) (d : Article)
    → k < length articles → is_of word (get_or articles k d) ≡ false
other_after first articles word in_order same k d in_range =
    let above : first.word.0 < (get_or articles k d).word.0 = AllPairs-head (λ (a b : Article). a.word.0 < b.word.0) first articles in_order k d in_range in
    grind (arith, nat_tests)

-- an article before the word's is another word's
other_before : (first : Article) (articles : List Article) (word : WordId) → AreInOrder (first ∷ articles) → (place : ℕ) → suc place < length (first ∷ articles)
    → (get_or articles place first).word.0 ≡ word.0 → is_of word first ≡ false
other_before first articles word in_order place in_range same =
    let below : first.word.0 < (get_or articles place first).word.0 =
    AllPairs-head (λ (a b : Article). a.word.0 < b.word.0) first articles in_order place first (omega arith) in
    grind (arith, nat_tests)

-- a change of the word's article is a change at its place
pub with_change-set : (articles : List Article) → AreInOrder articles → (word : WordId) (place : ℕ) → IsPlaceOf articles word place
    → (change : List Sentence → List Sentence) (d : Article) → with_change articles word change ≡ set articles place (changed change (get_or articles place d))
with_change-set [] in_order word place is change d = absurd (omega (arith, is.in_range))
with_change-set (first ∷ articles) in_order word zero is change d =
    by_test (is_of word first) (let same = is.numbered d in grind (arith, nat_tests))
    (map_same (λ a. cond (is_of word a) (changed change a) a) articles unchanged)
  where
    unchanged : (k : ℕ) (e : Article) → k < length articles
        → cond (is_of word (get_or articles k e)) (changed change (get_or articles k e)) (get_or articles k e) ≡ get_or articles k e
    unchanged k e in_range = rw (other_after first articles word in_order (is.numbered d) k e in_range) refl

    by_test : (b : Bool) → b ≡ true → with_change articles word change ≡ articles
        → cond b (changed change first) first ∷ with_change articles word change ≡ changed change first ∷ articles
    by_test true here rest = rw rest refl
    by_test false here rest = absurd (false≢true here)
with_change-set (first ∷ articles) in_order word (suc place) is change d =
    by_test (is_of word first) (other_before first articles word in_order place is.in_range (is.numbered first))
    (with_change-set articles (AllPairs-tail (λ (a b : Article). a.word.0 < b.word.0) first articles in_order) word place
    (record { in_range = omega (arith, is.in_range); numbered = is.numbered }) change d)
  where
    by_test : (b : Bool) → b ≡ false → with_change articles word change ≡ set articles place (changed change (get_or articles place d))
        → cond b (changed change first) first ∷ with_change articles word change ≡ first ∷ set articles place (changed change (get_or articles place d))
    by_test true failed rest = absurd (false≢true (sym failed))
    by_test false failed rest = ap (λ others. first ∷ others) rest

-- the articles but for the word's are the list without its place
pub without_article-remove : (articles : List Article) → AreInOrder articles → (word : WordId) (place : ℕ) → IsPlaceOf articles word place
    → without_article articles word ≡ remove articles place
without_article-remove [] in_order word place is = absurd (omega (arith, is.in_range))
without_article-remove (first ∷ articles) in_order word zero is =
    by_test (is_of word first) (let same = is.numbered first in grind (arith, nat_tests)) (filter_all (λ a. not (is_of word a)) articles kept)
  where
    kept : (k : ℕ) (d : Article) → k < length articles → not (is_of word (get_or articles k d)) ≡ true
    kept k d in_range = rw (other_after first articles word in_order (is.numbered first) k d in_range) refl

    by_test : (b : Bool) → b ≡ true → without_article articles word ≡ articles
        → cond (not b) (first ∷ without_article articles word) (without_article articles word) ≡ articles
    by_test true here rest = rest
    by_test false here rest = absurd (false≢true here)
without_article-remove (first ∷ articles) in_order word (suc place) is =
    by_test (is_of word first) (other_before first articles word in_order place is.in_range (is.numbered first))
    (without_article-remove articles (AllPairs-tail (λ (a b : Article). a.word.0 < b.word.0) first articles in_order) word place
    (record { in_range = omega (arith, is.in_range); numbered = is.numbered }))
  where
    by_test : (b : Bool) → b ≡ false → without_article articles word ≡ remove articles place
        → cond (not b) (first ∷ without_article articles word) (without_article articles word) ≡ first ∷ remove articles place
    by_test true failed rest = absurd (false≢true (sym failed))
    by_test false failed rest = ap (λ others. first ∷ others) rest

-- The list as it is kept, and what of it is said of the article that was found at the place of the word's.
module _ (kept articles : List Article) (same : kept ≡ articles) (in_order : AreInOrder kept) (word : WordId) (place : ℕ) (is : IsPlaceOf articles word place)
    (found : Article) (at : found ≡ get_or kept place found) where
  ordered : AreInOrder articles
  ordered = subst AreInOrder same in_order

  -- it is the word's article
  pub found_is : article_of articles word ≡ Some found
  found_is = article_at articles ordered word place found is ∙ ap Some (sym (at ∙ ap (λ (xs : List Article). get_or xs place found) same))

  -- what is known of the word's article holds of it
  pub fact_at : (P : Article → Type 0) → IsSomeAnd (article_of articles word) P → P found
  fact_at P holds = subst (λ (o : Option Article). IsSomeAnd o P) found_is holds

  -- its sentences are those of the word's article
  pub sentence_is : (n : ℕ) → sentence_at articles word n ≡ slice_get found.sentences n
  sentence_is n = ap (option_and_then (λ (article : Article). slice_get article.sentences n)) found_is

  -- with it changed at its place, the word's article is changed
  pub change_is : (change : List Sentence → List Sentence) (after : Article) → after ≡ changed change found
      → set kept place after ≡ with_change articles word change
  change_is change after is_changed =
      ap (λ (xs : List Article). set xs place after) same
      ∙ ap (set articles place) (is_changed ∙ ap (changed change) (at ∙ ap (λ (xs : List Article). get_or xs place found) same))
      ∙ sym (with_change-set articles ordered word place is change found)

-- the list without the place of the word's article is the articles but for it
pub removed_is : (kept articles : List Article) → kept ≡ articles → AreInOrder kept → (word : WordId) (place : ℕ) → IsPlaceOf articles word place
    → remove kept place ≡ without_article articles word
removed_is kept articles same in_order word place is =
    ap (λ (xs : List Article). remove xs place) same ∙ sym (without_article-remove articles (subst AreInOrder same in_order) word place is)
