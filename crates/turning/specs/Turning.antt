-- The plain wiki with a history: one turn for each line of the input. Changes of sentences can be taken back, and done again.
use Rattle.std.specs.Prelude.{◌≡◌, ℕ, ◌<◌, ◌⊎◌, Bool, true, false, if◌then◌else◌, List, [], ◌∷◌, take, Option, Some, None, option_map, MatchBool, MatchOption}
use Rattle.wiki_base.specs.declared.numbers.WordId.{WordId}
use Rattle.lexicon.specs.declared.words.TheConstants.{LAST_NUMBER}
use Rattle.lexicon.specs.Words.{canonical_form_of}
use Rattle.logic_terms.specs.Interpretation.{Interpretation}
use Rattle.wiki_talk.specs.declared.limits.Limit.TheVariants as limits
use Rattle.wiki_talk.specs.declared.refusals.Refusal.{Refusal}
use Rattle.wiki_talk.specs.declared.refusals.Refusal.TheVariants.{Nothing}
use Rattle.wiki_talk.specs.declared.replies.Reply.{Reply}
use Rattle.wiki_talk.specs.declared.replies.Reply.TheVariants as replies
use Rattle.wiki_talk.specs.declared.requests.Request.{Request}
use Rattle.wiki_talk.specs.declared.requests.Request.TheVariants as requests
use Rattle.wiki_talk.specs.declared.requests.ArticleRequest.{ArticleRequest}
use Rattle.wiki_talk.specs.declared.requests.ArticleRequest.TheVariants as of_article
use Rattle.wiki_talk.specs.declared.requests.SessionRequest.TheVariants as of_session
use Rattle.wiki_talk.specs.declared.requests.LineRequest.{LineRequest}
use Rattle.wiki_talk.specs.declared.requests.LineRequest.TheVariants as lines
use Rattle.articles.specs.declared.sentences.Sentence.{Sentence}
use Rattle.articles.specs.declared.article.Article.{Article}
use Rattle.articles.specs.Articles.{article_of}
use Rattle.history.specs.declared.history.TheConstants.{MOST_ENTRIES}
use Rattle.plain_wiki.specs.Places.{word_named, session_numbered}
use Rattle.plain_wiki.specs.Words.{full_at}
use Rattle.wiki_store.specs.PuttingBack.{with_sentences}
use Rattle.wiki_core.specs.Holding.{Holding, IsKept}
use Rattle.wiki_core.specs.Keeping.{changes_words}
use Rattle.plain_wiki.specs.State.{State}
use Rattle.wiki_core.specs.Stepping.{KeptStep}

-- what stood before a change: the sentences of the word's article, and the interpretation that was kept
pub record Former : Type 0 where
  pub article : WordId
  pub sentences : List Sentence
  pub interpretation : Interpretation

-- a wiki, with what stood before the changes that can be taken back, and before those were taken back that can be done again; the newest
-- first
pub record Recalling : Type 0 where
  pub wiki : Holding
  pub past : List Former
  pub future : List Former

-- a wiki without a history
abbrev pub without_history : Holding → Recalling
without_history wiki = record { wiki = wiki; past = []; future = [] }

-- what stands of a word's article with these sentences
abbrev pub standing : Holding → WordId → List Sentence → Former
standing wiki word sentences = record { article = word; sentences = sentences; interpretation = wiki.interpretation }

-- what stands of the word's article
abbrev pub standing_of : Holding → WordId → Option Former
standing_of wiki word = option_map (λ article. standing wiki word article.sentences) (article_of wiki.state.stored.articles word)

-- ---- what a request on the wiki leaves of the history

-- the request changes the sentences of its article
abbrev pub changes_article : ArticleRequest → Bool
changes_article of_article.Read = false
changes_article (of_article.Axioms place) = false
changes_article of_article.Open = false
changes_article asked = true

-- the word of the article that a request changes, if it is done and changes one
abbrev pub article_changed : State → Request → Option WordId
article_changed state (requests.OnArticle form asked) = if changes_article asked then word_named state.stored form else None
article_changed state (requests.OnSession number of_session.Commit) = option_map (λ session. session.article) (session_numbered state number)
article_changed state request = None

-- what stood before a change of the word's article can be put back, the newest 100 of such changes; and none can be done again
pub record NotesChange (old new : Recalling) (word : WordId) : Type 0 where
  pub before : Former
  pub stood : standing_of old.wiki word ≡ Some before
  pub past : new.past ≡ take MOST_ENTRIES (before ∷ old.past)
  pub future : new.future ≡ []

-- nothing can be taken back or done again
abbrev pub Forgets : Recalling → Type 0
Forgets new = (new.past ≡ []) × (new.future ≡ [])

-- the history stays
abbrev pub Remembers : Recalling → Recalling → Type 0
Remembers old new = (new.past ≡ old.past) × (new.future ≡ old.future)

-- What becomes of the history by a request with this reply: a done change of words lets all be forgotten, a done change of an article is
-- noted, and what is refused or changes neither leaves it.
abbrev pub CarriesHistory : Recalling → Request → Reply → Recalling → Type 0
CarriesHistory old request (replies.Refused refusal) new = Remembers old new
CarriesHistory old request reply new =
    MatchBool (changes_words request) (Forgets new) (MatchOption (article_changed old.wiki.state request) (Remembers old new) (NotesChange old new))

-- ---- what is put back

-- the wiki in which it was put back what stood: the article's sentences, at its next revision, and the interpretation that was kept
abbrev pub put_back : Holding → Former → Holding
put_back wiki before = record wiki {
  state = record wiki.state { stored = with_sentences wiki.state.stored before.article before.sentences };
  interpretation = before.interpretation;
}

-- the newest of the one list is put back and leaves it, and what stood until now comes in front of the other; the article is told
pub record PutsBack (old : Holding) (from onto : List Former) (answer : List ℕ → Reply) (reply : Reply) (new : Holding) (from_after onto_after : List Former) :
    Type 0 where
  pub before : Former
  pub newest : from ≡ before ∷ from_after
  pub article : Article
  pub there : article_of old.state.stored.articles before.article ≡ Some article
  pub rises : article.revision.0 < LAST_NUMBER
  pub form : List ℕ
  pub spelled : canonical_form_of old.state.stored.words.live before.article ≡ Some form
  pub told : reply ≡ answer form
  pub after : new ≡ put_back old before
  pub other : onto_after ≡ standing old before.article article.sentences ∷ onto
  pub kept : IsKept new

-- there is nothing to be put back
pub record HasNothing (from : List Former) (refusal : Refusal) : Type 0 where
  pub none : from ≡ []
  pub told : refusal ≡ Nothing

-- the article of the newest was changed as often as may be
pub record IsAtLastRevision (old : Holding) (from : List Former) (refusal : Refusal) : Type 0 where
  pub before : Former
  pub others : List Former
  pub newest : from ≡ before ∷ others
  pub article : Article
  pub there : article_of old.state.stored.articles before.article ≡ Some article
  pub last : article.revision.0 ≡ LAST_NUMBER
  pub told : refusal ≡ full_at limits.Numbers

-- One move from the one list to the other: it is refused where there is nothing, or the article can't change, and then nothing changes;
-- else it is done.
abbrev pub Moves : Holding → List Former → List Former → (List ℕ → Reply) → Reply → Holding → List Former → List Former → Type 0
Moves old from onto answer (replies.Refused refusal) new from_after onto_after =
    (HasNothing from refusal ⊎ IsAtLastRevision old from refusal) × (new ≡ old) × (from_after ≡ from) × (onto_after ≡ onto)
Moves old from onto answer reply new from_after onto_after = PutsBack old from onto answer reply new from_after onto_after

-- One turn of the wiki with a history: a request is one step of the wiki; or the newest change is taken back, or the newest that was taken
-- back is done again.
abbrev pub KeptTurn : Recalling → LineRequest → Reply → Recalling → Type 0
KeptTurn old (lines.Step request) reply new = KeptStep old.wiki request reply new.wiki × CarriesHistory old request reply new
KeptTurn old lines.Undo reply new = Moves old.wiki old.past old.future replies.Undo reply new.wiki new.past new.future
KeptTurn old lines.Redo reply new = Moves old.wiki old.future old.past replies.Redo reply new.wiki new.future new.past
