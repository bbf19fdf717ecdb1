-- What the lines of the journal ask: each accepted change, as the request that makes it again.
use Rattle.std.specs.Prelude.{ℕ, List, [], ◌∷◌, None, if◌then◌else◌}
use Rattle.wiki_talk.specs.declared.requests.Request.{Request}
use Rattle.wiki_talk.specs.declared.requests.Request.TheVariants as requests
use Rattle.wiki_talk.specs.declared.requests.ArticleRequest.TheVariants as of_article
use Rattle.wiki_talk.specs.declared.replies.Reply.{Reply}
use Rattle.wiki_talk.specs.declared.replies.Reply.TheVariants as replies
use Rattle.serving.specs.Journal.{is_change}
use Rattle.serving.specs.Handling.{Handling, waited, own_answer, replied}

-- a change is made again by itself; any other request isn't made again
abbrev pub itself : Request → List Request
itself request = if is_change request then request ∷ [] else []

-- a sentence that is added or put in place of another is so again with the text that shows it
abbrev pub with_shown : Request → List ℕ → List Request
with_shown (requests.OnArticle article (of_article.Add place text)) shown = requests.OnArticle article (of_article.Add place shown) ∷ []
with_shown (requests.OnArticle article (of_article.Edit place text)) shown = requests.OnArticle article (of_article.Edit place shown) ∷ []
with_shown request shown = []

-- the request that makes an accepted change again: a session's sentence is added to its article; of anything else none
abbrev pub changes_told : Request → Reply → List Request
changes_told request (replies.Refused refusal) = []
changes_told request (replies.Commit article status shown) = requests.OnArticle article (of_article.Add None shown) ∷ []
changes_told request (replies.Add status shown) = with_shown request shown
changes_told request (replies.Edit status shown) = with_shown request shown
changes_told request reply = itself request

-- the same of an event
abbrev pub changes_in : Handling → List Request
changes_in waited = []
changes_in (own_answer n response) = []
changes_in (replied n request next reply) = changes_told request reply
