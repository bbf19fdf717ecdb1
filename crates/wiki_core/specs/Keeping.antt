-- What the program keeps of sessions.
use Rattle.std.specs.Prelude.{◌≤◌, ℕ, Bool, true, false, List, All}
use Rattle.wiki_talk.specs.declared.requests.Request.{Request}
use Rattle.wiki_talk.specs.declared.requests.Request.TheVariants as requests
use Rattle.wiki_talk.specs.declared.requests.WikiRequest.TheVariants as of_wiki
use Rattle.wiki_talk.specs.declared.requests.WordRequest.TheVariants as of_word
use Rattle.sessions.specs.declared.session.Session.{Session}
use Rattle.sessions.specs.Sessions.{all_plain, AreKept}
use Rattle.plain_wiki.specs.State.{Stored}
use Rattle.wiki_core.specs.Holding.{IsOnArticle}

-- The editors keep the present grammar and the readings by the present words. Each session is on an article that is there, and
-- its number is at most the last that was given.
pub record AreHeld (stored : Stored) (sessions : List Session) (last : ℕ) : Type 0 where
  pub kept : AreKept stored.grammar stored.words sessions
  pub on : All (IsOnArticle stored.articles) (all_plain sessions)
  pub numbered : All (λ session. session.number.0 ≤ last) (all_plain sessions)

-- the request is one that changes words or the grammar
abbrev pub changes_words : Request → Bool
changes_words (requests.OnWiki (of_wiki.Word kind forms)) = true
changes_words (requests.OnWord form (of_word.Reword forms)) = true
changes_words (requests.OnWord form of_word.Unword) = true
changes_words (requests.OnWiki (of_wiki.Grammar text)) = true
changes_words request = false
