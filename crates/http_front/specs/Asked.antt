-- What is asked of the wiki at each path, and what the response to a done reply is.
use Rattle.std.specs.Prelude.{ℕ, List, codes, Option, Some, None, option_map, option_and_then, if◌then◌else◌}
use Rattle.wiki_talk.specs.Kinds.{kind_named}
use Rattle.wiki_talk.specs.declared.requests.Request.{Request}
use Rattle.wiki_talk.specs.declared.requests.Request.TheVariants as requests
use Rattle.wiki_talk.specs.declared.requests.WikiRequest.TheVariants as of_wiki
use Rattle.wiki_talk.specs.declared.requests.ArticleRequest.{ArticleRequest}
use Rattle.wiki_talk.specs.declared.requests.ArticleRequest.TheVariants as of_article
use Rattle.wiki_talk.specs.declared.requests.SessionRequest.TheVariants as of_session
use Rattle.wire_json.specs.Requests.{request_of}
use Rattle.wire_json.specs.Told.{gives_line}
use Rattle.http_front.specs.declared.goals.Goal.{Goal}
use Rattle.http_front.specs.declared.goals.Goal.TheVariants.{Index, NewWord, Line, Article, Session, Editor, EditorFile}
use Rattle.http_front.specs.declared.goals.OnArticle.{OnArticle}
use Rattle.http_front.specs.declared.goals.OnArticle.TheVariants as goals
use Rattle.http_front.specs.declared.goals.InSession.{InSession}
use Rattle.http_front.specs.declared.goals.InSession.TheVariants as in_session
use Rattle.http_front.specs.declared.seen.Then.{Then}
use Rattle.http_front.specs.declared.seen.Then.TheVariants as answers
use Rattle.http_front.specs.Forms.{field, number_field, pieces, article_path, session_path}

-- a new word: `kind` and `forms`
unfoldable pub word_asked : List ℕ → Option (Request × Then)
word_asked body = option_and_then (λ kind. option_map (λ forms. (requests.OnWiki (of_wiki.Word kind (pieces forms)), answers.Go (codes "/")))
    (field (codes "forms") body))
    (option_and_then kind_named (field (codes "kind") body))

-- a sentence for the end of an article: `text`
unfoldable pub add_asked : List ℕ → List ℕ → Option (Request × Then)
add_asked word body = option_map (λ text. (requests.OnArticle word (of_article.Add None text), answers.Go (article_path word))) (field (codes "text") body)

-- another sentence at a place: `at` and `text`
unfoldable pub edit_asked : List ℕ → List ℕ → Option (Request × Then)
edit_asked word body = option_and_then (λ place. option_map (λ text. (requests.OnArticle word (of_article.Edit place text), answers.Go (article_path word)))
    (field (codes "text") body))
    (number_field (codes "at") body)

-- a request for a place of an article: `at`
unfoldable pub place_asked : (ℕ → ArticleRequest) → List ℕ → List ℕ → Option (Request × Then)
place_asked asked word body =
    option_map (λ place. (requests.OnArticle word (asked place), answers.Go (article_path word))) (number_field (codes "at") body)

-- what is asked at a path below an article's
abbrev pub article_asked : OnArticle → List ℕ → List ℕ → Option (Request × Then)
article_asked goals.Read word body = Some (requests.OnArticle word of_article.Read, answers.Page 0)
article_asked goals.Add word body = add_asked word body
article_asked goals.Edit word body = edit_asked word body
article_asked goals.Remove word body = place_asked of_article.Remove word body
article_asked goals.Retract word body = place_asked of_article.Retract word body
article_asked goals.Reassert word body = place_asked of_article.Reassert word body
article_asked goals.Open word body = Some (requests.OnArticle word of_article.Open, answers.GoSession)

-- a token for a session: `token`
unfoldable pub type_asked : ℕ → List ℕ → Option (Request × Then)
type_asked session body = option_map (λ text. (requests.OnSession session (of_session.Type text), answers.Go (session_path session)))
    (field (codes "token") body)

-- what is asked at a path below a session's
abbrev pub session_asked : InSession → ℕ → List ℕ → Option (Request × Then)
session_asked in_session.Menu session body = Some (requests.OnSession session of_session.Menu, answers.Page session)
session_asked in_session.Type session body = type_asked session body
session_asked in_session.Back session body = Some (requests.OnSession session of_session.Back, answers.Go (session_path session))
session_asked in_session.Refresh session body = Some (requests.OnSession session of_session.Refresh, answers.Go (session_path session))
session_asked in_session.Commit session body = Some (requests.OnSession session of_session.Commit, answers.GoArticle)
session_asked in_session.Drop session body = Some (requests.OnSession session of_session.Drop, answers.Go (codes "/"))

-- what is asked by one line of JSON; nothing by one that gives a grammar whose own line would be too long
unfoldable pub line_asked : List ℕ → Option (Request × Then)
line_asked body = option_and_then (λ request. if gives_line request then Some (request, answers.Line) else None) (request_of body)

-- what a body asks at a path, of the word and the session that the path names; at a path of the editor page nothing is asked
abbrev pub asked : Goal → List ℕ → ℕ → List ℕ → Option (Request × Then)
asked Index word session body = Some ((requests.OnWiki of_wiki.Words), answers.Page 0)
asked NewWord word session body = word_asked body
asked Line word session body = line_asked body
asked (Article on_it) word session body = article_asked on_it word body
asked (Session in_it) word session body = session_asked in_it session body
asked Editor word session body = None
asked EditorFile word session body = None
