-- The journal: the changes that came over connections, each as the line of a request that makes it again.
use Rattle.std.specs.Prelude.{ℕ, Bool, true, false, List, [], None, if◌then◌else◌}
use Rattle.wiki_talk.specs.declared.requests.Request.{Request}
use Rattle.wiki_talk.specs.declared.requests.Request.TheVariants as requests
use Rattle.wiki_talk.specs.declared.requests.WikiRequest.TheVariants as of_wiki
use Rattle.wiki_talk.specs.declared.requests.WordRequest.TheVariants as of_word
use Rattle.wiki_talk.specs.declared.requests.ArticleRequest.TheVariants as of_article
use Rattle.wiki_talk.specs.declared.replies.Reply.{Reply}
use Rattle.wiki_talk.specs.declared.replies.Reply.TheVariants as replies
use Rattle.wire_json.specs.Requests.{request_line}

-- the request changes the grammar, words or sentences; what is done in a session is gone with it
unfoldable pub is_change : Request → Bool
is_change (requests.OnWiki (of_wiki.Word kind forms)) = true
is_change (requests.OnWord word (of_word.Reword forms)) = true
is_change (requests.OnWord word of_word.Unword) = true
is_change (requests.OnWiki (of_wiki.Grammar text)) = true
is_change (requests.OnArticle article (of_article.Add place text)) = true
is_change (requests.OnArticle article (of_article.Edit place text)) = true
is_change (requests.OnArticle article (of_article.Remove place)) = true
is_change (requests.OnArticle article (of_article.Retract place)) = true
is_change (requests.OnArticle article (of_article.Reassert place)) = true
is_change request = false

-- a request as it is written
unfoldable pub line_written : Request → List ℕ
line_written request = request_line request

-- a change as it is written; any other request isn't
unfoldable pub change_line : Request → List ℕ
change_line request = if is_change request then line_written request else []

-- a sentence that is added or put in place of another, by what shows it, and not by the text that was sent
unfoldable pub shown_line : Request → List ℕ → List ℕ
shown_line (requests.OnArticle article (of_article.Add place text)) shown = line_written (requests.OnArticle article (of_article.Add place shown))
shown_line (requests.OnArticle article (of_article.Edit place text)) shown = line_written (requests.OnArticle article (of_article.Edit place shown))
shown_line request shown = []

-- the line of an accepted change: of a session's sentence, that it is added to its article; of anything else none
unfoldable pub journal_line : Request → Reply → List ℕ
journal_line request (replies.Refused refusal) = []
journal_line request (replies.Commit article status shown) = line_written (requests.OnArticle article (of_article.Add None shown))
journal_line request (replies.Add status shown) = shown_line request shown
journal_line request (replies.Edit status shown) = shown_line request shown
journal_line request reply = change_line request
