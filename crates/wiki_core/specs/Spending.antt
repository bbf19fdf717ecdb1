-- What a step says of the model that was kept before it: no budget is told as spent where that model decides.
use Rattle.std.specs.Prelude.{Option, None, option_map}
use Rattle.wiki_talk.specs.declared.statuses.Status.TheVariants.{Asserted}
use Rattle.wiki_talk.specs.declared.replies.Reply.{Reply}
use Rattle.wiki_talk.specs.declared.requests.Request.{Request}
use Rattle.wiki_talk.specs.declared.requests.Request.TheVariants as requests
use Rattle.wiki_talk.specs.declared.requests.ArticleRequest.TheVariants as of_article
use Rattle.wiki_talk.specs.declared.requests.SessionRequest.TheVariants as of_session
use Rattle.plain_wiki.specs.State.{Stored, State}
use Rattle.plain_wiki.specs.Places.{session_numbered}
use Rattle.plain_wiki.specs.Doing.{with_appended}
use Rattle.wiki_store.specs.Asking as store
use Rattle.wiki_store.specs.Spending.{SpendsBeyond, KeptHasUnknownIn}
use Rattle.wiki_core.specs.Holding.{Holding, store_held}

-- what is stored, where the sentence that a request judges, if it judges one, is taken as asserted
abbrev pub taken_by : State → Request → Option Stored
taken_by old (requests.OnArticle form asked) = store.taken_by old.stored form asked
taken_by old (requests.OnSession number of_session.Commit) =
    option_map (λ session. with_appended old.stored session.article session.tokens Asserted) (session_numbered old number)
taken_by old request = None

-- a sentence that was judged is red for the budget only where the kept interpretation is no model of what is known with it
abbrev pub SpendsBeyondKept : Holding → Request → Reply → Type 0
SpendsBeyondKept old request reply = SpendsBeyond (store_held old) (taken_by old.state request) reply

-- the names that an article that is told tells as unknown are in the classes that its questions ask for, in the kept interpretation
abbrev pub KeptHasEachUnknown : Holding → Request → Reply → Type 0
KeptHasEachUnknown old (requests.OnArticle form of_article.Read) reply = KeptHasUnknownIn (store_held old) form reply
KeptHasEachUnknown old request reply = Unit {0}
