-- Lists that are put in order stay what they were.
use Rattle.std.proofs.Common.{◌≡◌, ◌==◌, true, false, Some, if◌then◌else◌, ℕ, ◌&&◌, Bool, List, [], ◌∷◌, ◌++◌, IsPermutation, IsSorted, refl, sym, ap, ◌∙◌, subst}
use Rattle.std.specs.declared.alloc.Global.{Global}
use Rattle.std.specs.declared.vec.Vec.{Vec}
use Rattle.std.specs.declared.cmp.Ordering.{Ordering}
use Rattle.wiki_base.specs.declared.numbers.WordId.{WordId}
use Rattle.std.specs.Prelude.{nat_lt, unwrap_or}
use Rattle.std.specs.Map.{lookup}
use Rattle.std.proofs.lemmas.List.Sorted.{list_any-IsPermutation}
use Rattle.std.specs.Ordering.{nat_cmp}
use Rattle.std.specs.List.{list_all, list_any}
use Rattle.logic_terms.specs.Interpretation.{is_word, is_interpretation, words_above, words_rise}
use Rattle.owl_eval.specs.Given.{lists_in, AreArranged, MeansSame}
use Rattle.owl_eval.specs.Pairs.{pair_cmp}
use Rattle.owl_eval.proofs.Filters.{list_all-IsPermutation}

module _ {X : Type 0} (cmp : X → X → Ordering) where
  arranged_push : (es fs : List (WordId × List X)) (e f : WordId × List X) → AreArranged cmp es fs → e.0 ≡ f.0 → IsPermutation e.1 f.1 → IsSorted cmp f.1
      → AreArranged cmp (es ++ e ∷ []) (fs ++ f ∷ [])
  arranged_push [] [] e f all word same sorted = (record { word = word; same = same; rising = sorted }, tt)
  arranged_push [] (g ∷ fs) e f all word same sorted = absurd all
  arranged_push (g ∷ es) [] e f all word same sorted = absurd all
  arranged_push (g ∷ es) (h ∷ fs) e f all word same sorted = (all.0, arranged_push es fs e f all.1 word same sorted)

  lists_in-push : (vs : List (WordId × Vec X Global)) (v : WordId × Vec X Global) → lists_in (vs ++ v ∷ []) ≡ lists_in vs ++ (v.0, v.1.items) ∷ []
  lists_in-push [] v = refl
  lists_in-push (u ∷ vs) v = ap (λ rest. (u.0, u.1.items) ∷ rest) (lists_in-push vs v)

  -- one more word, with its list put in order
  pub arranged_more : (vs : List (WordId × Vec X Global)) (v : WordId × Vec X Global) (fs : List (WordId × List X)) (f : WordId × List X)
      → AreArranged cmp (lists_in vs) fs → f.0 ≡ v.0 → IsPermutation v.1.items f.1 → IsSorted cmp f.1 → AreArranged cmp (lists_in (vs ++ v ∷ [])) (fs ++ f ∷ [])
  arranged_more vs v fs f all word same sorted =
      subst (λ es. AreArranged cmp es (fs ++ f ∷ [])) (sym (lists_in-push vs v)) (arranged_push (lists_in vs) fs (v.0, v.1.items) f all (sym word) same sorted)

  words_above-arranged : (w : WordId) (es fs : List (WordId × List X)) → AreArranged cmp es fs → words_above w es ≡ words_above w fs
  words_above-arranged w [] [] all = refl
  words_above-arranged w [] (f ∷ fs) all = absurd all
  words_above-arranged w (e ∷ es) [] all = absurd all
  words_above-arranged w (e ∷ es) (f ∷ fs) all =
      ap (λ v. nat_lt w.0 v.0 && words_above v es) all.0.word ∙ ap (λ b. nat_lt w.0 f.0.0 && b) (words_above-arranged f.0 es fs all.1)

  words_rise-arranged : (es fs : List (WordId × List X)) → AreArranged cmp es fs → words_rise es ≡ words_rise fs
  words_rise-arranged [] [] all = refl
  words_rise-arranged [] (f ∷ fs) all = absurd all
  words_rise-arranged (e ∷ es) [] all = absurd all
  words_rise-arranged (e ∷ es) (f ∷ fs) all = ap (λ v. words_above v es) all.0.word ∙ words_above-arranged f.0 es fs all.1

  list_all-arranged : (test : X → Bool) (es fs : List (WordId × List X)) → AreArranged cmp es fs
      → list_all (λ e. list_all test e.1) es ≡ list_all (λ f. list_all test f.1) fs
  list_all-arranged test [] [] all = refl
  list_all-arranged test [] (f ∷ fs) all = absurd all
  list_all-arranged test (e ∷ es) [] all = absurd all
  list_all-arranged test (e ∷ es) (f ∷ fs) all =
      ap (λ b. b && list_all (λ g. list_all test g.1) es) (list_all-IsPermutation test e.1 f.1 all.0.same)
      ∙ ap (λ b. list_all test f.1 && b) (list_all-arranged test es fs all.1)

-- lists in order make an interpretation exactly where the given ones do
pub is_interpretation-arranged : (n : ℕ) (names : List (WordId × ℕ)) (es fs : List (WordId × List ℕ)) (ps qs : List (WordId × List (ℕ × ℕ)))
    → AreArranged nat_cmp es fs → AreArranged pair_cmp ps qs
    → is_interpretation (record { size = n; names = names; classes = es; relations = ps })
    ≡ is_interpretation (record { size = n; names = names; classes = fs; relations = qs })
is_interpretation-arranged n names es fs ps qs classes relations = λ j.
    nat_lt 0 n
    && words_rise names
    && words_rise-arranged nat_cmp es fs classes j
    && words_rise-arranged pair_cmp ps qs relations j
    && list_all (λ e. nat_lt e.1 n) names
    && list_all-arranged nat_cmp (λ x. nat_lt x n) es fs classes j
    && list_all-arranged pair_cmp (λ p. nat_lt p.0 n && nat_lt p.1 n) ps qs relations j

-- the words of lists in `Vec`s
words_above-lists_in : {X : Type 0} (w : WordId) (es : List (WordId × Vec X Global)) → words_above w (lists_in es) ≡ words_above w es
words_above-lists_in w [] = refl
words_above-lists_in w (e ∷ es) = ap (λ b. nat_lt w.0 e.0.0 && b) (words_above-lists_in e.0 es)

pub words_rise-lists_in : {X : Type 0} (es : List (WordId × Vec X Global)) → words_rise (lists_in es) ≡ words_rise es
words_rise-lists_in [] = refl
words_rise-lists_in (e ∷ es) = words_above-lists_in e.0 es

pub list_all-lists_in : {X : Type 0} (test : List X → Bool) (es : List (WordId × Vec X Global))
    → list_all (λ e. test e.1) (lists_in es) ≡ list_all (λ e. test e.1.items) es
list_all-lists_in test [] = refl
list_all-lists_in test (e ∷ es) = ap (λ b. test e.1.items && b) (list_all-lists_in test es)

-- what a test finds in the list of a word
found-arranged : {X : Type 0} (cmp : X → X → Ordering) (test : X → Bool) (word : WordId) (es fs : List (WordId × List X)) → AreArranged cmp es fs →
    list_any test (unwrap_or (lookup (is_word word) es) []) ≡ list_any test (unwrap_or (lookup (is_word word) fs) [])
found-arranged cmp test word [] [] all = refl
found-arranged cmp test word [] (f ∷ fs) all = absurd all
found-arranged cmp test word (e ∷ es) [] all = absurd all
found-arranged {X} cmp test word (e ∷ es) (f ∷ fs) all =
    let Finds : Bool → List X → List X → Type 0 = λ b xs ys.
    list_any test (unwrap_or (if b then Some xs else lookup (is_word word) es) [])
    ≡ list_any test (unwrap_or (if b then Some ys else lookup (is_word word) fs) []) in
    let cases : (b : Bool) → Finds b e.1 f.1 = λ b. elim b as (λ b. Finds b e.1 f.1) [
      | true ↦ list_any-IsPermutation test e.1 f.1 all.0.same
      | false ↦ found-arranged cmp test word es fs all.1
    ] in
    ap (λ v. list_any test (unwrap_or (if is_word word v then Some e.1 else lookup (is_word word) es) [])) all.0.word
    ∙ cases (is_word word f.0)

-- an interpretation whose lists are put in order means what it meant
pub arranged-means : (n : ℕ) (names : List (WordId × ℕ)) (es fs : List (WordId × List ℕ)) (ps qs : List (WordId × List (ℕ × ℕ))) → AreArranged nat_cmp es fs
    → AreArranged pair_cmp ps qs →
    MeansSame (record { size = n; names = names; classes = es; relations = ps }) (record { size = n; names = names; classes = fs; relations = qs })
arranged-means n names es fs ps qs classes relations = record {
  size = refl;
  names = λ name. refl;
  classes = λ word x. found-arranged nat_cmp (λ y. y == x) word es fs classes;
  relations = λ word x y. found-arranged pair_cmp (λ p. (p.0 == x) && (p.1 == y)) word ps qs relations;
}
