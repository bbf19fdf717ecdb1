-- A grammar that is asked for over a connection has a line that isn't too long.
use Rattle.std.proofs.Common.{◌≡◌, ℕ, Bool, true, false, if◌then◌else◌, List, length, take, drop, nat_lt, Option, Some, None, IfSome, IsTrue, codes, option_map, option_and_then, refl, sym, subst}
use Rattle.wiki_talk.specs.Kinds.{kind_named}
use Rattle.wiki_talk.specs.declared.requests.Request.{Request}
use Rattle.wiki_talk.specs.declared.requests.Request.TheVariants as requests
use Rattle.wiki_talk.specs.declared.requests.ArticleRequest.{ArticleRequest}
use Rattle.wiki_talk.specs.declared.requests.ArticleRequest.TheVariants as of_article
use Rattle.wire_json.specs.Requests.{request_of}
use Rattle.wire_json.specs.Told.{gives_line}
use Rattle.http_front.specs.declared.goals.Goal.{Goal}
use Rattle.http_front.specs.declared.goals.Goal.TheVariants.{Index, NewWord, Line, Article, Session, Editor, EditorFile}
use Rattle.http_front.specs.declared.goals.OnArticle.{OnArticle}
use Rattle.http_front.specs.declared.goals.OnArticle.TheVariants as goals
use Rattle.http_front.specs.declared.goals.InSession.{InSession}
use Rattle.http_front.specs.declared.goals.InSession.TheVariants as in_session
use Rattle.http_front.specs.declared.seen.Then.{Then}
use Rattle.http_front.specs.declared.seen.Then.TheVariants as answers
use Rattle.http_front.specs.declared.seen.Own.{Own}
use Rattle.http_front.specs.declared.seen.Head.{Head}
use Rattle.http_front.specs.declared.seen.Begun.{Begun}
use Rattle.http_front.specs.declared.seen.Begun.TheVariants as begun
use Rattle.http_front.specs.declared.seen.Seen.{Seen}
use Rattle.http_front.specs.declared.seen.Seen.TheVariants as seen
use Rattle.http_front.specs.Forms.{field, number_field}
use Rattle.http_front.specs.Asked.{word_asked, add_asked, edit_asked, place_asked, article_asked, type_asked, session_asked, line_asked, asked}
use Rattle.http_front.specs.Front.{Sees, seen_of, seen_with, seen_after, seen_by, AsksInLine}

-- ---- what a body asks

abbrev InLine : Request × Then → Type 0
InLine found = IsTrue (gives_line found.0)

mapped : {X : Type 0} (f : X → Request × Then) (o : Option X) → ((x : X) → InLine (f x)) → IfSome (option_map f o) InLine
mapped f None each = tt
mapped f (Some x) each = each x

chained : {X : Type 0} (f : X → Option (Request × Then)) (o : Option X) → ((x : X) → IfSome (f x) InLine) → IfSome (option_and_then f o) InLine
chained f None each = tt
chained f (Some x) each = each x

word_in_line : (body : List ℕ) → IfSome (word_asked body) InLine
unfolding word_asked
word_in_line body =
    chained _ (option_and_then kind_named (field (codes "kind") body)) (λ kind. mapped _ (field (codes "forms") body) (λ forms. refl))

add_in_line : (word body : List ℕ) → IfSome (add_asked word body) InLine
unfolding add_asked
add_in_line word body = mapped _ (field (codes "text") body) (λ text. refl)

edit_in_line : (word body : List ℕ) → IfSome (edit_asked word body) InLine
unfolding edit_asked
edit_in_line word body = chained _ (number_field (codes "at") body) (λ place. mapped _ (field (codes "text") body) (λ text. refl))

place_in_line : (asked : ℕ → ArticleRequest) (word body : List ℕ) → IfSome (place_asked asked word body) InLine
unfolding place_asked
place_in_line asked word body = mapped _ (number_field (codes "at") body) (λ place. refl)

article_in_line : (on_it : OnArticle) (word body : List ℕ) → IfSome (article_asked on_it word body) InLine
article_in_line goals.Read word body = refl
article_in_line goals.Add word body = add_in_line word body
article_in_line goals.Edit word body = edit_in_line word body
article_in_line goals.Remove word body = place_in_line of_article.Remove word body
article_in_line goals.Retract word body = place_in_line of_article.Retract word body
article_in_line goals.Reassert word body = place_in_line of_article.Reassert word body
article_in_line goals.Open word body = refl

type_in_line : (session : ℕ) (body : List ℕ) → IfSome (type_asked session body) InLine
unfolding type_asked
type_in_line session body = mapped _ (field (codes "token") body) (λ text. refl)

session_in_line : (in_it : InSession) (session : ℕ) (body : List ℕ) → IfSome (session_asked in_it session body) InLine
session_in_line in_session.Menu session body = refl
session_in_line in_session.Type session body = type_in_line session body
session_in_line in_session.Back session body = refl
session_in_line in_session.Refresh session body = refl
session_in_line in_session.Commit session body = refl
session_in_line in_session.Drop session body = refl

one_in_line : (request : Request) (gives : Bool) → gives_line request ≡ gives
    → IfSome (if gives then Some (request, answers.Line) else None) InLine
one_in_line request true is = is
one_in_line request false is = tt

line_in_line : (body : List ℕ) → IfSome (line_asked body) InLine
unfolding line_asked
line_in_line body = chained _ (request_of body) (λ request. one_in_line request (gives_line request) refl)

asked_in_line : (goal : Goal) (word : List ℕ) (session : ℕ) (body : List ℕ) → IfSome (asked goal word session body) InLine
asked_in_line Index word session body = refl
asked_in_line NewWord word session body = word_in_line body
asked_in_line Line word session body = line_in_line body
asked_in_line (Article on_it) word session body = article_in_line on_it word body
asked_in_line (Session in_it) word session body = session_in_line in_it session body
asked_in_line Editor word session body = tt
asked_in_line EditorFile word session body = tt

-- ---- what the bytes of a connection ask

seen_of_in_line : (goal : Goal) (found : Option (Request × Then)) → IfSome found InLine → AsksInLine (seen_of goal found)
seen_of_in_line goal None all = tt
seen_of_in_line goal (Some found) all = all

seen_with_in_line : (answer : Option Own) (head : Head) (body : List ℕ) → AsksInLine (seen_with answer head body)
seen_with_in_line (Some answer) head body = tt
seen_with_in_line None head body =
    seen_of_in_line head.goal (asked head.goal head.word head.session body) (asked_in_line head.goal head.word head.session body)

unless_waits : (waits : Bool) (other : Seen) → AsksInLine other → AsksInLine (if waits then seen.Wait else other)
unless_waits true other all = tt
unless_waits false other all = all

seen_after_in_line : (head : Head) (bytes : List ℕ) → AsksInLine (seen_after head bytes)
unfolding seen_after
seen_after_in_line head bytes =
    unless_waits (nat_lt (length bytes) head.start) _ (unless_waits (nat_lt (length (drop head.start bytes)) head.length) _
    (seen_with_in_line head.own head (take head.length (drop head.start bytes))))

seen_by_in_line : (b : Begun) (bytes : List ℕ) → AsksInLine (seen_by b bytes)
seen_by_in_line begun.Wait bytes = tt
seen_by_in_line (begun.Refuse status allow) bytes = tt
seen_by_in_line (begun.Head head) bytes = seen_after_in_line head bytes

pub sees_in_line : (bytes : List ℕ) (what : Seen) → Sees bytes what → AsksInLine what
sees_in_line bytes what sees = subst AsksInLine (sym sees.2) (seen_by_in_line sees.0 bytes)
