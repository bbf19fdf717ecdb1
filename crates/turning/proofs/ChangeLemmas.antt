-- What a step of the wiki changes of what is stored.
use Rattle.std.proofs.Common.{◌≡◌, ℕ, Bool, true, false, cond, List, Option, Some, None, option_map, refl, sym, ap, subst, ◌∙◌}
use Rattle.std.specs.Option.{IsSomeAnd, option_and_then}
use Rattle.std.proofs.lemmas.Bool.{false≢true}
use Rattle.std.proofs.lemmas.Option.{none-some, same_Some}
use Rattle.wiki_base.specs.declared.numbers.WordId.{WordId}
use Rattle.lexicon.specs.declared.words.Word.{Word}
use Rattle.wiki_talk.specs.declared.replies.Reply.{Reply}
use Rattle.wiki_talk.specs.declared.replies.Reply.TheVariants as replies
use Rattle.wiki_talk.specs.declared.requests.Request.{Request}
use Rattle.wiki_talk.specs.declared.requests.Request.TheVariants as requests
use Rattle.wiki_talk.specs.declared.requests.WikiRequest.TheVariants as of_wiki
use Rattle.wiki_talk.specs.declared.requests.WordRequest.TheVariants as of_word
use Rattle.wiki_talk.specs.declared.requests.ArticleRequest.{ArticleRequest}
use Rattle.wiki_talk.specs.declared.requests.ArticleRequest.TheVariants as of_article
use Rattle.wiki_talk.specs.declared.requests.SessionRequest.{SessionRequest}
use Rattle.wiki_talk.specs.declared.requests.SessionRequest.TheVariants as of_session
use Rattle.articles.specs.declared.sentences.Sentence.{Sentence}
use Rattle.articles.specs.declared.article.Article.{Article}
use Rattle.articles.specs.Articles.{article_of, with_change}
use Rattle.plain_wiki.specs.Sessions.{PlainSession}
use Rattle.plain_wiki.specs.State.{Stored, State}
use Rattle.plain_wiki.specs.Places.{word_with, word_named, session_numbered}
use Rattle.plain_wiki.specs.Knowledge.{Spending}
use Rattle.plain_wiki.specs.Step.{DoesOnWord, DoesOnArticle, DoesOnSession, Does, Step}
use Rattle.wiki_core.specs.Keeping.{changes_words}
use Rattle.wiki_core.proofs.NamedLemmas.{SomeIs, some_is, word_is}
use Rattle.turning.specs.Turning.{changes_article, article_changed}
use Rattle.turning.specs.Laws.{is_refused}

-- the sentences of the word's article change, and nothing else of what is stored
pub record Changes (old new : Stored) (word : WordId) : Type 0 where
  pub change : List Sentence → List Sentence
  pub after : new ≡ record old { articles = with_change old.articles word change }

-- what is refused changes nothing
pub refused_stays : (IsSpent : Spending) (old new : State) (request : Request) (reply : Reply) → is_refused reply ≡ true → Step IsSpent old request reply new
    → new.stored ≡ old.stored
refused_stays IsSpent old new request (replies.Refused refusal) told step = ap (λ (s : State). s.stored) step.1
refused_stays IsSpent old new request reply told step = absurd (false≢true told)

module _ (IsSpent : Spending) (old new : State) (reply : Reply) (done : is_refused reply ≡ false) where
  -- what isn't refused is done
  does_of : (request : Request) → Step IsSpent old request reply new → Does IsSpent old request reply new
  does_of request step = by reply done step
    where
      by : (said : Reply) → is_refused said ≡ false → Step IsSpent old request said new → Does IsSpent old request said new
      by (replies.Refused refusal) done step = absurd (false≢true (sym done))
      by said done step = step.1

  -- ---- a request on an article

  article_changes : (asked : ArticleRequest) (article : Article) → changes_article asked ≡ true → DoesOnArticle IsSpent asked article old reply new
      → Changes old.stored new.stored article.word
  article_changes of_article.Read article changes does = absurd (false≢true changes)
  article_changes (of_article.Axioms place) article changes does = absurd (false≢true changes)
  article_changes of_article.Open article changes does = absurd (false≢true changes)
  article_changes (of_article.Add given text) article changes does = record { change = _; after = does.stored.after }
  article_changes (of_article.Edit place text) article changes does = record { change = _; after = does.stored.after }
  article_changes (of_article.Remove place) article changes does = record { change = _; after = does.stored.after }
  article_changes (of_article.Retract place) article changes does = record { change = _; after = does.stored.after }
  article_changes (of_article.Reassert place) article changes does = record { change = _; after = does.stored.after }

  article_stays : (asked : ArticleRequest) (article : Article) → changes_article asked ≡ false → DoesOnArticle IsSpent asked article old reply new
      → new.stored ≡ old.stored
  article_stays of_article.Read article stays does = ap (λ (s : State). s.stored) does.1
  article_stays (of_article.Axioms place) article stays does = ap (λ (s : State). s.stored) does.1
  article_stays of_article.Open article stays does = ap (λ (s : State). s.stored) does.after
  article_stays (of_article.Add given text) article stays does = absurd (false≢true (sym stays))
  article_stays (of_article.Edit place text) article stays does = absurd (false≢true (sym stays))
  article_stays (of_article.Remove place) article stays does = absurd (false≢true (sym stays))
  article_stays (of_article.Retract place) article stays does = absurd (false≢true (sym stays))
  article_stays (of_article.Reassert place) article stays does = absurd (false≢true (sym stays))

  -- what is done to the article of a word that was found
  abbrev DoesNamed : ArticleRequest → Option WordId → Type 0
  DoesNamed asked named = IsSomeAnd (option_and_then (article_of old.stored.articles) named) (λ article. DoesOnArticle IsSpent asked article old reply new)

  named_changes : (asked : ArticleRequest) (word : WordId) (named : Option WordId) → cond (changes_article asked) named None ≡ Some word
      → DoesNamed asked named → Changes old.stored new.stored word
  named_changes asked word None is does = absurd does
  named_changes asked word (Some found) is does = by (changes_article asked) refl is
    where
      there : SomeIs (article_of old.stored.articles found) (λ (a : Article). DoesOnArticle IsSpent asked a old reply new)
      there = some_is (article_of old.stored.articles found) (λ (a : Article). DoesOnArticle IsSpent asked a old reply new) does

      by : (b : Bool) → changes_article asked ≡ b → cond b (Some found) None ≡ Some word → Changes old.stored new.stored word
      by true changes is =
          subst (Changes old.stored new.stored) (word_is old.stored.articles found there.it there.named ∙ same_Some found word is)
          (article_changes asked there.it changes there.is)
      by false stays is = absurd (none-some word is)

  named_stays : (asked : ArticleRequest) (named : Option WordId) → cond (changes_article asked) named None ≡ None → DoesNamed asked named
      → new.stored ≡ old.stored
  named_stays asked None none does = absurd does
  named_stays asked (Some found) none does = by (changes_article asked) refl none
    where
      by : (b : Bool) → changes_article asked ≡ b → cond b (Some found) None ≡ None → new.stored ≡ old.stored
      by true changes none = absurd (none-some found (sym none))
      by false stays none =
          let there = some_is (article_of old.stored.articles found) (λ (a : Article). DoesOnArticle IsSpent asked a old reply new) does in
          article_stays asked there.it stays there.is

  -- ---- a request on a session

  session_there : (number : ℕ) (asked : SessionRequest) → Step IsSpent old (requests.OnSession number asked) reply new
      → SomeIs (session_numbered old number) (λ (s : PlainSession). DoesOnSession IsSpent asked s old reply new)
  session_there number asked step =
      some_is (session_numbered old number) (λ (s : PlainSession). DoesOnSession IsSpent asked s old reply new)
      (does_of (requests.OnSession number asked) step)

  -- ---- any request

  -- a done request that changes an article changes its sentences alone
  pub article_done : (request : Request) (word : WordId) → article_changed old request ≡ Some word → Step IsSpent old request reply new
      → Changes old.stored new.stored word
  article_done (requests.OnArticle form asked) word is step =
      named_changes asked word (word_named old.stored form) is (does_of (requests.OnArticle form asked) step)
  article_done (requests.OnSession number of_session.Commit) word is step =
      let there = session_there number of_session.Commit step in
      let same : there.it.article ≡ word =
      same_Some there.it.article word (sym (ap (option_map (λ (s : PlainSession). s.article)) there.named) ∙ is) in
      subst (Changes old.stored new.stored) same (record { change = _; after = ap (λ (s : State). s.stored) there.is.after })
  article_done request word is step = absurd (none-some word is)

  -- a done request that changes no words and no article leaves what is stored
  pub others_keep : (request : Request) → changes_words request ≡ false → article_changed old request ≡ None → Step IsSpent old request reply new
      → new.stored ≡ old.stored
  others_keep (requests.OnWiki (of_wiki.Word kind forms)) no_words none step = absurd (false≢true (sym no_words))
  others_keep (requests.OnWord form (of_word.Reword forms)) no_words none step = absurd (false≢true (sym no_words))
  others_keep (requests.OnWord form of_word.Unword) no_words none step = absurd (false≢true (sym no_words))
  others_keep (requests.OnWiki (of_wiki.Grammar text)) no_words none step = absurd (false≢true (sym no_words))
  others_keep (requests.OnWiki of_wiki.Words) no_words none step =
      ap (λ (s : State). s.stored) (does_of (requests.OnWiki of_wiki.Words) step).1
  others_keep (requests.OnWiki (of_wiki.Parse text)) no_words none step =
      ap (λ (s : State). s.stored) (does_of (requests.OnWiki (of_wiki.Parse text)) step).1
  others_keep (requests.OnWord form of_word.Find) no_words none step =
      let there = some_is (word_with old.stored form) (λ (w : Word). DoesOnWord of_word.Find w old reply new)
      (does_of (requests.OnWord form of_word.Find) step) in
      ap (λ (s : State). s.stored) there.is.1
  others_keep (requests.OnArticle form asked) no_words none step =
      named_stays asked (word_named old.stored form) none (does_of (requests.OnArticle form asked) step)
  others_keep (requests.OnSession number of_session.Commit) no_words none step =
      let there = session_there number of_session.Commit step in
      absurd (none-some there.it.article (sym none ∙ ap (option_map (λ (s : PlainSession). s.article)) there.named))
  others_keep (requests.OnSession number (of_session.Type text)) no_words none step =
      ap (λ (s : State). s.stored) (session_there number (of_session.Type text) step).is.after
  others_keep (requests.OnSession number of_session.Back) no_words none step =
      ap (λ (s : State). s.stored) (session_there number of_session.Back step).is.after
  others_keep (requests.OnSession number of_session.Menu) no_words none step =
      ap (λ (s : State). s.stored) (session_there number of_session.Menu step).is.1
  others_keep (requests.OnSession number of_session.Refresh) no_words none step =
      ap (λ (s : State). s.stored) (session_there number of_session.Refresh step).is.after
  others_keep (requests.OnSession number of_session.Drop) no_words none step =
      ap (λ (s : State). s.stored) (session_there number of_session.Drop step).is.after
