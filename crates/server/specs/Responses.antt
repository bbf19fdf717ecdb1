-- The bytes of a response (RFC 9112), with which its connection ends.
use Rattle.std.specs.Prelude.{ℕ, Bool, true, false, List, [], ◌++◌, length, codes, Option, Some, None, unwrap_or, if◌then◌else◌, ◌&&◌, nat_le, nat_lt}
use Rattle.std.specs.Fmt.{decimal}
use Rattle.http.specs.StatusCode.{reason_phrase}
use Rattle.wiki_talk.specs.declared.refusals.Refusal.{Refusal}
use Rattle.wiki_talk.specs.declared.refusals.Refusal.TheVariants.{NoWord, NoPlace, NoSession}
use Rattle.wiki_talk.specs.declared.replies.Reply.{Reply}
use Rattle.wiki_talk.specs.declared.replies.Reply.TheVariants as replies
use Rattle.wiki_talk.specs.Refusals.{title_of, bad_request}
use Rattle.wire_json.specs.Replies.{reply_line}
use Rattle.pages.specs.Pages.{page_of, refusal_page}
use Rattle.http_front.specs.declared.goals.Verb.{Verb}
use Rattle.editor_names.specs.Names.{content_type}
use Rattle.editor_files.specs.Texts.{text_of}
use Rattle.http_front.specs.declared.seen.Own.{Own}
use Rattle.http_front.specs.declared.seen.Own.TheVariants as own
use Rattle.http_front.specs.declared.seen.Then.{Then}
use Rattle.http_front.specs.declared.seen.Then.TheVariants as answers
use Rattle.http_front.specs.Routes.{verb_name}
use Rattle.http_front.specs.Forms.{article_path, session_path}

-- ---- the bytes

-- the phrase of a status, which has three digits
unfoldable pub phrase_of : ℕ → List ℕ
phrase_of status = if nat_le 100 status && nat_lt status 1000 then unwrap_or (reason_phrase status) [] else []

-- what a body is: a page, or a line of JSON
abbrev pub html : List ℕ
html = codes "text/html; charset=utf-8"

abbrev pub json : List ℕ
json = codes "application/json"

-- a response: its status, what its body is, the field lines that are its own, and its body
unfoldable pub response_bytes : ℕ → List ℕ → List ℕ → List ℕ → List ℕ
response_bytes status kind more body =
    codes "HTTP/1.1 " ++ (decimal status ++ (codes " " ++ (phrase_of status ++ (codes "\r\nContent-Type: " ++ (kind
    ++ (codes "\r\nContent-Length: " ++ (decimal (length body) ++ (codes "\r\n" ++ (more ++ (codes "Connection: close\r\n\r\n" ++ body))))))))))

-- a page
abbrev pub page_response : ℕ → List ℕ → List ℕ
page_response status page = response_bytes status html [] page

-- a line of JSON
abbrev pub line_response : ℕ → List ℕ → List ℕ
line_response status line = response_bytes status json [] line

-- the way to a path
unfoldable pub way_response : List ℕ → List ℕ
way_response path = response_bytes 303 html (codes "Location: " ++ (path ++ codes "\r\n")) []

-- ---- the response to a reply

-- a refusal that tells that something isn't there has another status than the others
abbrev pub refusal_status : Refusal → ℕ
refusal_status (NoWord text) = 404
refusal_status (NoPlace count) = 404
refusal_status (NoSession session) = 404
refusal_status refusal = 409

-- a refusal of the wiki: its page, or its line where a line was sent
abbrev pub refused_response : Then → Refusal → List ℕ
refused_response answers.Line refusal = line_response (refusal_status refusal) (reply_line (replies.Refused refusal))
refused_response answer refusal = page_response (refusal_status refusal) (refusal_page (title_of refusal).number (title_of refusal).name)

-- the session that a reply opened; 0 where it opened none
abbrev pub session_opened : Reply → ℕ
session_opened (replies.Open session) = session
session_opened reply = 0

-- the article to which a session's sentence was added, if one was
abbrev pub article_grown : Reply → List ℕ
article_grown (replies.Commit article status shown) = article
article_grown reply = []

-- what is done: its page, its line, or the way to what shows it
abbrev pub done_response : Then → Reply → List ℕ
done_response (answers.Page session) reply = page_response 200 (unwrap_or (page_of session reply) [])
done_response answers.Line reply = line_response 200 (reply_line reply)
done_response (answers.Go path) reply = way_response path
done_response answers.GoSession reply = way_response (session_path (session_opened reply))
done_response answers.GoArticle reply = way_response (article_path (article_grown reply))

-- the response that a reply has
unfoldable pub response_of : Then → Reply → List ℕ
response_of answer (replies.Refused refusal) = refused_response answer refusal
response_of answer reply = done_response answer reply

-- ---- the response where the wiki isn't asked

-- the field line that tells the method that a path has
unfoldable pub allow_line : Option Verb → List ℕ
allow_line None = []
allow_line (Some verb) = codes "Allow: " ++ (verb_name verb ++ codes "\r\n")

-- the page of a status; a line that is no request has a page of its own
abbrev pub status_page : ℕ → Bool → List ℕ
status_page status true = refusal_page bad_request.number bad_request.name
status_page status false = refusal_page status (phrase_of status)

-- a refusal by the bytes of the request alone
abbrev pub status_response : ℕ → Option Verb → Bool → List ℕ
status_response status allow bad_line = response_bytes status html (allow_line allow) (status_page status bad_line)

-- so many connections are open already
abbrev pub busy_response : List ℕ
busy_response = status_response 503 None false

-- the way to the editor page, or a file of it: the bytes that the table of files has for its name
abbrev pub own_response : Own → List ℕ
own_response own.Way = way_response (codes "/editor/index.html")
own_response (own.File file) = response_bytes 200 (content_type file) [] (text_of file)
