-- The plain wiki: one step for each request.
use Rattle.std.specs.Prelude.{◌≡◌, List, IsSomeAnd}
use Rattle.wiki_base.specs.declared.numbers.WordId.{WordId}
use Rattle.lexicon.specs.declared.words.Word.{Word}
use Rattle.wiki_talk.specs.declared.replies.Reply.{Reply}
use Rattle.wiki_talk.specs.declared.replies.Reply.TheVariants as replies
use Rattle.wiki_talk.specs.declared.requests.Request.{Request}
use Rattle.wiki_talk.specs.declared.requests.Request.TheVariants as requests
use Rattle.wiki_talk.specs.declared.requests.WikiRequest.{WikiRequest}
use Rattle.wiki_talk.specs.declared.requests.WikiRequest.TheVariants as of_wiki
use Rattle.wiki_talk.specs.declared.requests.WordRequest.{WordRequest}
use Rattle.wiki_talk.specs.declared.requests.WordRequest.TheVariants as of_word
use Rattle.wiki_talk.specs.declared.requests.ArticleRequest.{ArticleRequest}
use Rattle.wiki_talk.specs.declared.requests.ArticleRequest.TheVariants as of_article
use Rattle.wiki_talk.specs.declared.requests.SessionRequest.{SessionRequest}
use Rattle.wiki_talk.specs.declared.requests.SessionRequest.TheVariants as of_session
use Rattle.articles.specs.declared.article.Article.{Article}
use Rattle.plain_wiki.specs.Sessions.{PlainSession, without_article, AreRebased}
use Rattle.plain_wiki.specs.State.{Stored, State}
use Rattle.plain_wiki.specs.Places.{word_with, article_named, session_numbered}
use Rattle.plain_wiki.specs.Knowledge.{Spending}
use Rattle.plain_wiki.specs.Against.{Refuses, IsFree}
use Rattle.plain_wiki.specs.Doing.{AddsWord, RewordsWord, RemovesWord, TakesGrammar, AddsSentence, EditsSentence, RemovesSentence, RetractsSentence, ReassertsSentence, TellsWord, TellsWords, TellsCode, TellsArticle, TellsMeaning, OpensSession, TypesToken, DropsToken, TellsMenu, CommitsSession, RefreshesSession, EndsSession}

-- ---- what becomes of sessions

-- something is told, and nothing changes
abbrev pub OnlyTells : (Reply → Type 0) → State → Reply → State → Type 0
OnlyTells tells old reply new = tells reply × (new ≡ old)

-- what is stored changes so, and sessions stay
pub record ChangesStored (changes : Stored → Reply → Stored → Type 0) (old : State) (reply : Reply) (new : State) : Type 0 where
  pub stored : changes old.stored reply new.stored
  pub sessions : new.sessions ≡ old.sessions
  pub last : new.last ≡ old.last

-- sessions are rebased to the grammar and the words that are stored
abbrev pub AreRebasedTo : Stored → List PlainSession → List PlainSession → Type 0
AreRebasedTo stored old new = AreRebased stored.grammar stored.words old new

-- the grammar or the words change so, and each session is rebased to them as they are then
pub record ChangesWords (changes : Stored → Reply → Stored → Type 0) (old : State) (reply : Reply) (new : State) : Type 0 where
  pub stored : changes old.stored reply new.stored
  pub sessions : AreRebasedTo new.stored old.sessions new.sessions
  pub last : new.last ≡ old.last

-- the same where a word goes: the sessions on its article end
pub record EndsOnArticle (word : WordId) (changes : Stored → Reply → Stored → Type 0) (old : State) (reply : Reply) (new : State) : Type 0 where
  pub stored : changes old.stored reply new.stored
  pub rebased : List PlainSession
  pub rebases : AreRebasedTo new.stored old.sessions rebased
  pub sessions : new.sessions ≡ without_article rebased word
  pub last : new.last ≡ old.last

-- ---- what a request does

-- a request on the wiki as a whole
abbrev pub DoesOnWiki : WikiRequest → State → Reply → State → Type 0
DoesOnWiki (of_wiki.Word kind texts) old reply new = ChangesWords (AddsWord kind texts) old reply new
DoesOnWiki of_wiki.Words old reply new = OnlyTells (TellsWords old.stored) old reply new
DoesOnWiki (of_wiki.Parse text) old reply new = OnlyTells (TellsCode text old.stored) old reply new
DoesOnWiki (of_wiki.Grammar text) old reply new = ChangesWords (TakesGrammar text) old reply new

-- a request on a word
abbrev pub DoesOnWord : WordRequest → Word → State → Reply → State → Type 0
DoesOnWord of_word.Find word old reply new = OnlyTells (TellsWord word) old reply new
DoesOnWord (of_word.Reword texts) word old reply new = ChangesWords (RewordsWord word texts) old reply new
DoesOnWord of_word.Unword word old reply new = EndsOnArticle word.id (RemovesWord word) old reply new

-- a request on an article
abbrev pub DoesOnArticle : Spending → ArticleRequest → Article → State → Reply → State → Type 0
DoesOnArticle IsSpent of_article.Read article old reply new = OnlyTells (TellsArticle IsSpent old.stored article) old reply new
DoesOnArticle IsSpent (of_article.Add given text) article old reply new = ChangesStored (AddsSentence IsSpent given text article) old reply new
DoesOnArticle IsSpent (of_article.Edit place text) article old reply new = ChangesStored (EditsSentence IsSpent place text article) old reply new
DoesOnArticle IsSpent (of_article.Remove place) article old reply new = ChangesStored (RemovesSentence place article) old reply new
DoesOnArticle IsSpent (of_article.Retract place) article old reply new = ChangesStored (RetractsSentence place article) old reply new
DoesOnArticle IsSpent (of_article.Reassert place) article old reply new = ChangesStored (ReassertsSentence IsSpent place article) old reply new
DoesOnArticle IsSpent (of_article.Axioms place) article old reply new = OnlyTells (TellsMeaning place old.stored article) old reply new
DoesOnArticle IsSpent of_article.Open article old reply new = OpensSession article old reply new

-- a request on a session
abbrev pub DoesOnSession : Spending → SessionRequest → PlainSession → State → Reply → State → Type 0
DoesOnSession IsSpent (of_session.Type text) session old reply new = TypesToken text session old reply new
DoesOnSession IsSpent of_session.Back session old reply new = DropsToken session old reply new
DoesOnSession IsSpent of_session.Menu session old reply new = OnlyTells (TellsMenu old.stored.grammar old.stored.words session.tokens) old reply new
DoesOnSession IsSpent of_session.Commit session old reply new = CommitsSession IsSpent session old reply new
DoesOnSession IsSpent of_session.Refresh session old reply new = RefreshesSession session old reply new
DoesOnSession IsSpent of_session.Drop session old reply new = EndsSession session old reply new

-- a request, on what it names
abbrev pub Does : Spending → State → Request → Reply → State → Type 0
Does IsSpent old (requests.OnWiki asked) reply new = DoesOnWiki asked old reply new
Does IsSpent old (requests.OnWord form asked) reply new = IsSomeAnd (word_with old.stored form) (λ word. DoesOnWord asked word old reply new)
Does IsSpent old (requests.OnArticle form asked) reply new =
    IsSomeAnd (article_named old.stored form) (λ article. DoesOnArticle IsSpent asked article old reply new)
Does IsSpent old (requests.OnSession number asked) reply new =
    IsSomeAnd (session_numbered old number) (λ session. DoesOnSession IsSpent asked session old reply new)

-- One step: the first cause that stands against a request is told, and changes nothing; a request against which nothing stands is done.
-- Whether a budget counts as spent is told from outside.
abbrev pub Step : Spending → State → Request → Reply → State → Type 0
Step IsSpent old request (replies.Refused refusal) new = Refuses old request refusal × (new ≡ old)
Step IsSpent old request reply new = IsFree old request × Does IsSpent old request reply new
