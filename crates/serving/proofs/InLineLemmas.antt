-- A grammar that comes over a connection has a line that isn't too long.
use Rattle.std.proofs.Common.{ℕ, Bool, true, false, if◌then◌else◌, List, [], ◌∷◌, ◌++◌, length, All, flat_map, None, IsTrue, refl, sym, subst, inl, inr}
use Rattle.std.proofs.lemmas.Bool.{cases_lt}
use Rattle.std.proofs.lemmas.List.Elements.{All-nil, All-cons, All-append, All-head, All-tail}
use Rattle.wiki_io.specs.declared.limits.TheConstants.{MOST_OPEN}
use Rattle.wiki_io.specs.declared.links.Event.{Event}
use Rattle.wiki_io.specs.declared.links.Event.TheVariants.{Opened, Piece, Ended}
use Rattle.wiki_talk.specs.declared.requests.Request.{Request}
use Rattle.wiki_talk.specs.declared.requests.Request.TheVariants as requests
use Rattle.wiki_talk.specs.declared.requests.WikiRequest.TheVariants as of_wiki
use Rattle.wiki_talk.specs.declared.requests.WordRequest.TheVariants as of_word
use Rattle.wiki_talk.specs.declared.requests.ArticleRequest.TheVariants as of_article
use Rattle.wiki_talk.specs.declared.requests.SessionRequest.TheVariants as of_session
use Rattle.wiki_talk.specs.declared.replies.Reply.{Reply}
use Rattle.wiki_talk.specs.declared.replies.Reply.TheVariants as replies
use Rattle.wire_json.specs.Told.{gives_line}
use Rattle.http_front.specs.declared.seen.Seen.{Seen}
use Rattle.http_front.specs.declared.seen.Seen.TheVariants as seen
use Rattle.http_front.specs.Front.{AsksInLine}
use Rattle.http_front.proofs.AskedLemmas.{sees_in_line}
use Rattle.server.specs.declared.turns.Turn.{Turn}
use Rattle.server.specs.declared.turns.Turn.TheVariants as turns
use Rattle.server.specs.Kept.{Kept, bytes_of}
use Rattle.server.specs.Taking.{Takes, TakesOpening, turn_of}
use Rattle.serving.specs.Journal.{is_change}
use Rattle.serving.specs.Handling.{Handling, waited, own_answer, replied, turn_in, CameInLine}
use Rattle.serving.specs.Changes.{with_shown, changes_told, changes_in}

-- ---- what the server asks at an event

abbrev AsksLine : Turn → Type 0
AsksLine turns.Wait = Unit {0}
AsksLine (turns.Own n response) = Unit {0}
AsksLine (turns.Ask n request answer) = IsTrue (gives_line request)

of_seen : (n : ℕ) (what : Seen) → AsksInLine what → AsksLine (turn_of n what)
of_seen n seen.Wait in_line = tt
of_seen n (seen.Refuse status allow bad_line) in_line = tt
of_seen n (seen.Own answer) in_line = tt
of_seen n (seen.Ask request answer) in_line = in_line

of_opening : (old : List Kept) (n : ℕ) (turn : Turn) (new : List Kept) → TakesOpening old n turn new → AsksLine turn
of_opening old n turn new takes = elim (cases_lt (length old) MOST_OPEN) [
  | inl free ↦ subst AsksLine (sym (takes.free free).0) tt
  | inr full ↦ subst AsksLine (sym (takes.full full).0) tt
]

of_event : (old : List Kept) (event : Event) (turn : Turn) (new : List Kept) → Takes old event turn new → AsksLine turn
of_event old (Opened n) turn new takes = of_opening old n turn new takes
of_event old (Piece n piece) turn new takes =
    subst AsksLine (sym takes.turn_is) (of_seen n takes.seen (sees_in_line (bytes_of n old ++ piece) takes.seen takes.sees))
of_event old (Ended n) turn new takes = subst AsksLine (sym takes.turn_is) tt

of_turn : (handling : Handling) → AsksLine (turn_in handling) → CameInLine handling
of_turn waited asks = tt
of_turn (own_answer n response) asks = tt
of_turn (replied n request next reply) asks = asks

-- what comes of one event
pub came_in_line : (old : List Kept) (event : Event) (handling : Handling) (new : List Kept) → Takes old event (turn_in handling) new → CameInLine handling
came_in_line old event handling new takes = of_turn handling (of_event old event (turn_in handling) new takes)

-- ---- the changes that are written to the journal

abbrev GivesLine : Request → Type 0
GivesLine request = IsTrue (gives_line request)

one_line : (request : Request) → GivesLine request → All GivesLine (request ∷ [])
one_line request gives = All-cons GivesLine request [] gives (All-nil GivesLine)

lines_of_itself : (request : Request) (changes : Bool) → GivesLine request → All GivesLine (if changes then request ∷ [] else [])
lines_of_itself request true gives = one_line request gives
lines_of_itself request false gives = All-nil GivesLine

lines_with_shown : (request : Request) (shown : List ℕ) → All GivesLine (with_shown request shown)
lines_with_shown (requests.OnWiki (of_wiki.Word kind forms)) shown = All-nil GivesLine
lines_with_shown (requests.OnWord word of_word.Find) shown = All-nil GivesLine
lines_with_shown (requests.OnWiki of_wiki.Words) shown = All-nil GivesLine
lines_with_shown (requests.OnWiki (of_wiki.Parse sent)) shown = All-nil GivesLine
lines_with_shown (requests.OnWord word (of_word.Reword forms)) shown = All-nil GivesLine
lines_with_shown (requests.OnWord word of_word.Unword) shown = All-nil GivesLine
lines_with_shown (requests.OnWiki (of_wiki.Grammar text)) shown = All-nil GivesLine
lines_with_shown (requests.OnArticle article (of_article.Add place sent)) shown = one_line (requests.OnArticle article (of_article.Add place shown)) refl
lines_with_shown (requests.OnArticle article (of_article.Edit place sent)) shown = one_line (requests.OnArticle article (of_article.Edit place shown)) refl
lines_with_shown (requests.OnArticle article (of_article.Remove place)) shown = All-nil GivesLine
lines_with_shown (requests.OnArticle article (of_article.Retract place)) shown = All-nil GivesLine
lines_with_shown (requests.OnArticle article (of_article.Reassert place)) shown = All-nil GivesLine
lines_with_shown (requests.OnArticle article of_article.Read) shown = All-nil GivesLine
lines_with_shown (requests.OnArticle article (of_article.Axioms place)) shown = All-nil GivesLine
lines_with_shown (requests.OnArticle article of_article.Open) shown = All-nil GivesLine
lines_with_shown (requests.OnSession session (of_session.Type sent)) shown = All-nil GivesLine
lines_with_shown (requests.OnSession session of_session.Back) shown = All-nil GivesLine
lines_with_shown (requests.OnSession session of_session.Menu) shown = All-nil GivesLine
lines_with_shown (requests.OnSession session of_session.Commit) shown = All-nil GivesLine
lines_with_shown (requests.OnSession session of_session.Refresh) shown = All-nil GivesLine
lines_with_shown (requests.OnSession session of_session.Drop) shown = All-nil GivesLine

lines_told : (request : Request) (reply : Reply) → GivesLine request → All GivesLine (changes_told request reply)
lines_told r replies.Word gives = lines_of_itself r (is_change r) gives
lines_told r (replies.Find word) gives = lines_of_itself r (is_change r) gives
lines_told r (replies.Words words) gives = lines_of_itself r (is_change r) gives
lines_told r (replies.Parse code) gives = lines_of_itself r (is_change r) gives
lines_told r replies.Reword gives = lines_of_itself r (is_change r) gives
lines_told r replies.Unword gives = lines_of_itself r (is_change r) gives
lines_told r (replies.Add status shown) gives = lines_with_shown r shown
lines_told r (replies.Edit status shown) gives = lines_with_shown r shown
lines_told r replies.Remove gives = lines_of_itself r (is_change r) gives
lines_told r (replies.Retract status) gives = lines_of_itself r (is_change r) gives
lines_told r (replies.Reassert status) gives = lines_of_itself r (is_change r) gives
lines_told r (replies.Read form revision sentences) gives = lines_of_itself r (is_change r) gives
lines_told r (replies.Axioms meant) gives = lines_of_itself r (is_change r) gives
lines_told r (replies.Open session) gives = lines_of_itself r (is_change r) gives
lines_told r (replies.Type tokens) gives = lines_of_itself r (is_change r) gives
lines_told r (replies.Back tokens) gives = lines_of_itself r (is_change r) gives
lines_told r (replies.Menu menu whole shown) gives = lines_of_itself r (is_change r) gives
lines_told r (replies.Commit article status shown) gives = one_line (requests.OnArticle article (of_article.Add None shown)) refl
lines_told r replies.Refresh gives = lines_of_itself r (is_change r) gives
lines_told r replies.Drop gives = lines_of_itself r (is_change r) gives
lines_told r replies.Grammar gives = lines_of_itself r (is_change r) gives
lines_told r (replies.Undo article) gives = lines_of_itself r (is_change r) gives
lines_told r (replies.Redo article) gives = lines_of_itself r (is_change r) gives
lines_told r (replies.Refused refusal) gives = All-nil GivesLine

lines_in : (handling : Handling) → CameInLine handling → All GivesLine (changes_in handling)
lines_in waited came = All-nil GivesLine
lines_in (own_answer n response) came = All-nil GivesLine
lines_in (replied n request next reply) came = lines_told request reply came

-- of the grammars among them, the line isn't too long
pub changes_in_lines : (handlings : List Handling) → All CameInLine handlings → All (λ request. IsTrue (gives_line request)) (flat_map changes_in handlings)
changes_in_lines [] came = All-nil GivesLine
changes_in_lines (handling ∷ handlings) came =
    All-append GivesLine (changes_in handling) (flat_map changes_in handlings) (lines_in handling (All-head CameInLine handling handlings came))
    (changes_in_lines handlings (All-tail CameInLine handling handlings came))
