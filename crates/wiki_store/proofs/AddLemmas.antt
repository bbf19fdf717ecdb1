-- What adding a word with its article asks, and what it leaves.
use Rattle.std.proofs.Common.{◌≡◌, ℕ, suc, ◌+◌, ◌<◌, ◌≤◌, ◌==◌, Bool, true, false, not, cond, List, [], ◌∷◌, ◌++◌, find, get_or, All, Option, Some, None, IfSome, inl, refl, sym, ap, subst, ◌∙◌, arith, option_map, unwrap_or}
use Rattle.std.specs.List.{slice_get}
use Rattle.std.specs.Option.{IsSomeAnd, SomeIff}
use Rattle.std.proofs.lemmas.Bool.{false≢true}
use Rattle.std.proofs.lemmas.Bool.Decides.{nat_tests}
use Rattle.std.proofs.lemmas.Option.{none-some, slice_get-get_or, get_or_from_slice_get, slice_get_within, slice_get-map}
use Rattle.wiki_base.specs.declared.numbers.WordId.{WordId}
use Rattle.wiki_base.proofs.NumberLaws.{lt-eqb}
use Rattle.lexicon.specs.declared.words.Word.{Word}
use Rattle.lexicon.specs.declared.kinds.Kind.{Kind}
use Rattle.lexicon.specs.Words.{IsLexicon}
use Rattle.wiki_talk.specs.declared.requests.WikiRequest.TheVariants as of_wiki
use Rattle.articles.specs.declared.article.Article.{Article}
use Rattle.articles.specs.Articles.{is_of, new_article, without_article, IsEmptyArticle}
use Rattle.wiki_parts.specs.declared.faults.Fault.{Fault}
use Rattle.wiki_parts.specs.declared.faults.Fault.TheVariants.{Refused, Memory}
use Rattle.wiki_parts.specs.Faults.{IsCause, IsFault}
use Rattle.wiki_parts.proofs.FirstLemmas.{none_stands, nothing_stands}
use Rattle.plain_wiki.specs.State.{Stored}
use Rattle.wiki_parts.specs.Sound.{IsSound}
use Rattle.plain_wiki.specs.Against.{against_wiki}
use Rattle.plain_wiki.specs.Causes.{FirstOf, NoneOf, is_bad_word}
use Rattle.plain_wiki.specs.Words.{word_refusal}

-- the word under a number that is there
record Under (o : Option Word) (id : WordId) : Type 0 where
  word : Word
  is : o ≡ Some word
  number : word.id ≡ id

some-under : (o : Option Word) (id : WordId) → option_map (λ (w : Word). w.id) o ≡ Some id → Under o id
some-under None id is = absurd (none-some id is)
some-under (Some w) id is = record { word = w; is = refl; number = ap (λ (o : Option WordId). unwrap_or o id) is }

-- the number after the last one given is above those of all articles
pub articles-below : (state : Stored) → IsSound state → IsLexicon state.words → All (λ article. article.word.0 < state.words.last + 1) state.articles
articles-below state sound lexicon k d within =
    let here = slice_get-get_or state.articles k d within in
    let numbered = ap (λ (ids : List WordId). slice_get ids k) (sym sound.articles) ∙ slice_get-map (λ (a : Article). a.word) state.articles k
    ∙ ap (option_map (λ (a : Article). a.word)) here in
    let under = some-under (slice_get state.words.live k) (get_or state.articles k d).word
    (sym (slice_get-map (λ (w : Word). w.id) state.words.live k) ∙ numbered) in
    let given = lexicon.given k under.word (slice_get_within state.words.live k under.word under.is) in
    let known : under.word.id.0 ≤ state.words.last =
    subst (λ (w : Word). w.id.0 ≤ state.words.last) (get_or_from_slice_get state.words.live k under.word under.word under.is) given.1 in
    let same : under.word.id.0 ≡ (get_or state.articles k d).word.0 = ap (λ (w : WordId). w.0) under.number in
    omega (arith, known, same)

rest-below : (word : WordId) (article : Article) (articles : List Article) → All (λ (a : Article). a.word.0 < word.0) (article ∷ articles)
    → All (λ (a : Article). a.word.0 < word.0) articles
rest-below word article articles below k d within = below (suc k) d (omega (arith, within))

-- the new article is the word's, and it is empty
pub new-is-empty : (word : WordId) (articles : List Article) → All (λ (a : Article). a.word.0 < word.0) articles
    → IsEmptyArticle (articles ++ new_article word ∷ []) word
new-is-empty word [] below = by_test (word.0 == word.0) (grind (arith, nat_tests))
  where
    by_test : (b : Bool) → b ≡ true → IsSomeAnd (cond b (Some (new_article word)) None) (λ article. article.sentences ≡ [])
    by_test true is = refl
    by_test false is = absurd (false≢true is)
new-is-empty word (article ∷ articles) below =
    by_test (article.word.0 == word.0) (lt-eqb article.word.0 word.0 (below 0 article (omega arith)))
    (new-is-empty word articles (rest-below word article articles below))
  where
    by_test : (b : Bool) → b ≡ false → IsSomeAnd (find (is_of word) (articles ++ new_article word ∷ [])) (λ found. found.sentences ≡ [])
        → IsSomeAnd (cond b (Some article) (find (is_of word) (articles ++ new_article word ∷ []))) (λ found. found.sentences ≡ [])
    by_test true is rest = absurd (false≢true (sym is))
    by_test false is rest = rest

-- taken out again, it leaves the articles as they were
pub new-taken-out : (word : WordId) (articles : List Article) → All (λ (a : Article). a.word.0 < word.0) articles
    → without_article (articles ++ new_article word ∷ []) word ≡ articles
new-taken-out word [] below = by_test (word.0 == word.0) (grind (arith, nat_tests))
  where
    by_test : (b : Bool) → b ≡ true → cond (not b) (new_article word ∷ []) [] ≡ []
    by_test true is = refl
    by_test false is = absurd (false≢true is)
new-taken-out word (article ∷ articles) below =
    by_test (article.word.0 == word.0) (lt-eqb article.word.0 word.0 (below 0 article (omega arith)))
    (new-taken-out word articles (rest-below word article articles below))
  where
    by_test : (b : Bool) → b ≡ false → without_article (articles ++ new_article word ∷ []) word ≡ articles
        → cond (not b) (article ∷ without_article (articles ++ new_article word ∷ []) word) (without_article (articles ++ new_article word ∷ []) word)
        ≡ article ∷ articles
    by_test true is rest = absurd (false≢true (sym is))
    by_test false is rest = ap (λ (others : List Article). article ∷ others) rest

-- nothing stands against a word that isn't refused, and a refused word is told
pub word_free : (state : Stored) (kind : Kind) (texts : List (List ℕ)) → word_refusal state.words kind texts ≡ None
    → NoneOf (against_wiki state (of_wiki.Word kind texts))
word_free state kind texts none = none_stands (is_bad_word state kind texts) [] (λ refusal bad. none-some refusal (sym none ∙ bad)) nothing_stands

pub word_told : (state : Stored) (kind : Kind) (texts : List (List ℕ)) (fault : Fault) → IsCause (word_refusal state.words kind texts) fault
    → IsFault (FirstOf (against_wiki state (of_wiki.Word kind texts))) fault
word_told state kind texts (Refused refusal) is = inl is
word_told state kind texts Memory is = tt

-- the number after the last one given, where there is one, is above those of all articles
pub next-is : (state : Stored) → IsSound state → IsLexicon state.words → (last : ℕ) → last ≡ state.words.last → (o : Option ℕ)
    → SomeIff o (last + 1 < 4294967296) (last + 1)
    → IfSome o (λ next. (next ≡ state.words.last + 1) × All (λ article. article.word.0 < next) state.articles)
next-is state sound lexicon last same None none = tt
next-is state sound lexicon last same (Some next) some =
    let is : next ≡ state.words.last + 1 = some.1 ∙ ap (λ (n : ℕ). n + 1) same in
    (is, subst (λ (n : ℕ). All (λ article. article.word.0 < n) state.articles) (sym is) (articles-below state sound lexicon))
