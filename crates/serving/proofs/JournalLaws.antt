-- What the journal's lines ask, and how long they are.
use Rattle.std.proofs.Common.{◌≡◌, ℕ, ◌≤◌, Bool, true, false, List, [], ◌∷◌, ◌++◌, length, take, map, All, flat_map, Option, None, if◌then◌else◌, refl, sym, ap, subst, ◌∙◌, arith, append-nil}
use Rattle.std.proofs.lemmas.Grind.{flat_map-append}
use Rattle.std.proofs.lemmas.List.Elements.{All-head}
use Rattle.wiki_io.specs.declared.limits.TheConstants.{MAX_LINE}
use Rattle.wiki_io.specs.Lines.{InputLine, text, input_lines}
use Rattle.wiki_talk.specs.declared.requests.Request.{Request}
use Rattle.wiki_talk.specs.declared.requests.LineRequest.{LineRequest}
use Rattle.wiki_talk.specs.declared.requests.Request.TheVariants as requests
use Rattle.wiki_talk.specs.declared.requests.WikiRequest.TheVariants as of_wiki
use Rattle.wiki_talk.specs.declared.requests.WordRequest.TheVariants as of_word
use Rattle.wiki_talk.specs.declared.requests.ArticleRequest.TheVariants as of_article
use Rattle.wiki_talk.specs.declared.requests.SessionRequest.TheVariants as of_session
use Rattle.wiki_talk.specs.declared.replies.Reply.{Reply}
use Rattle.wiki_talk.specs.declared.replies.Reply.TheVariants as replies
use Rattle.wire_json.specs.Requests.{line_request_of, request_line}
use Rattle.wire_json.specs.Told.{asked_for, request_text, IsToldChange, most_line, most_for, EndsLine, ended, asked_by_front}
use Rattle.wire_json.proofs.LengthLemmas.{least_most}
use Rattle.wire_json.proofs.RequestLaws.{length-change_line, input_lines-changes, asked-changes, asked-next, EndsLine-requests}
use Rattle.wire_json.proofs.CutLaws.{asked-cut-changes}
use Rattle.serving.specs.Journal.{is_change, line_written, change_line, shown_line, journal_line}
use Rattle.serving.specs.Handling.{Handling, waited, own_answer, replied, journal_in}
use Rattle.serving.specs.Changes.{itself, with_shown, changes_told, changes_in}

-- ---- one line

written : (r : Request) → line_written r ≡ flat_map request_line (r ∷ [])
unfolding line_written
written r = sym (append-nil (request_line r))

either : (r : Request) (b : Bool) → (if b then line_written r else []) ≡ flat_map request_line (if b then r ∷ [] else [])
either r true = written r
either r false = refl

change_line-itself : (r : Request) → change_line r ≡ flat_map request_line (itself r)
unfolding change_line
change_line-itself r = either r (is_change r)

shown_line-with_shown : (r : Request) (shown : List ℕ) → shown_line r shown ≡ flat_map request_line (with_shown r shown)
unfolding shown_line
shown_line-with_shown (requests.OnWiki (of_wiki.Word kind forms)) shown = refl
shown_line-with_shown (requests.OnWord word of_word.Find) shown = refl
shown_line-with_shown (requests.OnWiki of_wiki.Words) shown = refl
shown_line-with_shown (requests.OnWiki (of_wiki.Parse sent)) shown = refl
shown_line-with_shown (requests.OnWord word (of_word.Reword forms)) shown = refl
shown_line-with_shown (requests.OnWord word of_word.Unword) shown = refl
shown_line-with_shown (requests.OnWiki (of_wiki.Grammar sent)) shown = refl
shown_line-with_shown (requests.OnArticle article (of_article.Add place sent)) shown = written (requests.OnArticle article (of_article.Add place shown))
shown_line-with_shown (requests.OnArticle article (of_article.Edit place sent)) shown = written (requests.OnArticle article (of_article.Edit place shown))
shown_line-with_shown (requests.OnArticle article (of_article.Remove place)) shown = refl
shown_line-with_shown (requests.OnArticle article (of_article.Retract place)) shown = refl
shown_line-with_shown (requests.OnArticle article (of_article.Reassert place)) shown = refl
shown_line-with_shown (requests.OnArticle article of_article.Read) shown = refl
shown_line-with_shown (requests.OnArticle article (of_article.Axioms place)) shown = refl
shown_line-with_shown (requests.OnArticle article of_article.Open) shown = refl
shown_line-with_shown (requests.OnSession session (of_session.Type sent)) shown = refl
shown_line-with_shown (requests.OnSession session of_session.Back) shown = refl
shown_line-with_shown (requests.OnSession session of_session.Menu) shown = refl
shown_line-with_shown (requests.OnSession session of_session.Commit) shown = refl
shown_line-with_shown (requests.OnSession session of_session.Refresh) shown = refl
shown_line-with_shown (requests.OnSession session of_session.Drop) shown = refl

-- the line of an accepted change is that of the request that makes it again
pub journal_line-changes : (request : Request) (reply : Reply) → journal_line request reply ≡ flat_map request_line (changes_told request reply)
unfolding journal_line
journal_line-changes r replies.Word = change_line-itself r
journal_line-changes r (replies.Find word) = change_line-itself r
journal_line-changes r (replies.Words words) = change_line-itself r
journal_line-changes r (replies.Parse code) = change_line-itself r
journal_line-changes r replies.Reword = change_line-itself r
journal_line-changes r replies.Unword = change_line-itself r
journal_line-changes r (replies.Add status shown) = shown_line-with_shown r shown
journal_line-changes r (replies.Edit status shown) = shown_line-with_shown r shown
journal_line-changes r replies.Remove = change_line-itself r
journal_line-changes r (replies.Retract status) = change_line-itself r
journal_line-changes r (replies.Reassert status) = change_line-itself r
journal_line-changes r (replies.Read form revision sentences) = change_line-itself r
journal_line-changes r (replies.Axioms meant) = change_line-itself r
journal_line-changes r (replies.Open session) = change_line-itself r
journal_line-changes r (replies.Type tokens) = change_line-itself r
journal_line-changes r (replies.Back tokens) = change_line-itself r
journal_line-changes r (replies.Menu menu whole shown) = change_line-itself r
journal_line-changes r (replies.Commit article status shown) = written (requests.OnArticle article (of_article.Add None shown))
journal_line-changes r replies.Refresh = change_line-itself r
journal_line-changes r replies.Drop = change_line-itself r
journal_line-changes r replies.Grammar = change_line-itself r
journal_line-changes r (replies.Undo article) = change_line-itself r
journal_line-changes r (replies.Redo article) = change_line-itself r
journal_line-changes r (replies.Refused refusal) = refl

few-itself : (r : Request) (b : Bool) → length (if b then r ∷ [] else []) ≤ 1
few-itself r true = omega arith
few-itself r false = omega arith

few-shown : (r : Request) (shown : List ℕ) → length (with_shown r shown) ≤ 1
few-shown (requests.OnWiki (of_wiki.Word kind forms)) shown = omega arith
few-shown (requests.OnWord word of_word.Find) shown = omega arith
few-shown (requests.OnWiki of_wiki.Words) shown = omega arith
few-shown (requests.OnWiki (of_wiki.Parse sent)) shown = omega arith
few-shown (requests.OnWord word (of_word.Reword forms)) shown = omega arith
few-shown (requests.OnWord word of_word.Unword) shown = omega arith
few-shown (requests.OnWiki (of_wiki.Grammar sent)) shown = omega arith
few-shown (requests.OnArticle article (of_article.Add place sent)) shown = omega arith
few-shown (requests.OnArticle article (of_article.Edit place sent)) shown = omega arith
few-shown (requests.OnArticle article (of_article.Remove place)) shown = omega arith
few-shown (requests.OnArticle article (of_article.Retract place)) shown = omega arith
few-shown (requests.OnArticle article (of_article.Reassert place)) shown = omega arith
few-shown (requests.OnArticle article of_article.Read) shown = omega arith
few-shown (requests.OnArticle article (of_article.Axioms place)) shown = omega arith
few-shown (requests.OnArticle article of_article.Open) shown = omega arith
few-shown (requests.OnSession session (of_session.Type sent)) shown = omega arith
few-shown (requests.OnSession session of_session.Back) shown = omega arith
few-shown (requests.OnSession session of_session.Menu) shown = omega arith
few-shown (requests.OnSession session of_session.Commit) shown = omega arith
few-shown (requests.OnSession session of_session.Refresh) shown = omega arith
few-shown (requests.OnSession session of_session.Drop) shown = omega arith

few-changes : (request : Request) (reply : Reply) → length (changes_told request reply) ≤ 1
few-changes r replies.Word = few-itself r (is_change r)
few-changes r (replies.Find word) = few-itself r (is_change r)
few-changes r (replies.Words words) = few-itself r (is_change r)
few-changes r (replies.Parse code) = few-itself r (is_change r)
few-changes r replies.Reword = few-itself r (is_change r)
few-changes r replies.Unword = few-itself r (is_change r)
few-changes r (replies.Add status shown) = few-shown r shown
few-changes r (replies.Edit status shown) = few-shown r shown
few-changes r replies.Remove = few-itself r (is_change r)
few-changes r (replies.Retract status) = few-itself r (is_change r)
few-changes r (replies.Reassert status) = few-itself r (is_change r)
few-changes r (replies.Read form revision sentences) = few-itself r (is_change r)
few-changes r (replies.Axioms meant) = few-itself r (is_change r)
few-changes r (replies.Open session) = few-itself r (is_change r)
few-changes r (replies.Type tokens) = few-itself r (is_change r)
few-changes r (replies.Back tokens) = few-itself r (is_change r)
few-changes r (replies.Menu menu whole shown) = few-itself r (is_change r)
few-changes r (replies.Commit article status shown) = omega arith
few-changes r replies.Refresh = few-itself r (is_change r)
few-changes r replies.Drop = few-itself r (is_change r)
few-changes r replies.Grammar = few-itself r (is_change r)
few-changes r (replies.Undo article) = few-itself r (is_change r)
few-changes r (replies.Redo article) = few-itself r (is_change r)
few-changes r (replies.Refused refusal) = omega arith

-- ---- how long a line of the journal is

IsWithin : ℕ → List Request → Type 0
IsWithin most requests = length (flat_map request_line requests) ≤ most

within_none : (most : ℕ) → IsWithin most []
unfolding IsWithin
within_none most = omega arith

within_one : (r : Request) (most : ℕ) → most_for r ≤ most → All IsToldChange (r ∷ []) → IsWithin most (r ∷ [])
unfolding IsWithin
within_one r most fits told =
    let one = All-head IsToldChange r [] told in
    omega (arith, fits, length-change_line r one.0 one.1, ap length (append-nil (request_line r)))

within_itself : (r : Request) (b : Bool) → All IsToldChange (if b then r ∷ [] else []) → IsWithin (most_for r) (if b then r ∷ [] else [])
within_itself r true told = within_one r (most_for r) (omega arith) told
within_itself r false told = within_none (most_for r)

within_shown : (r : Request) (shown : List ℕ) → All IsToldChange (with_shown r shown) → IsWithin (most_for r) (with_shown r shown)
within_shown (requests.OnWiki (of_wiki.Word kind forms)) shown told = within_none most_line
within_shown (requests.OnWord word of_word.Find) shown told = within_none most_line
within_shown (requests.OnWiki of_wiki.Words) shown told = within_none most_line
within_shown (requests.OnWiki (of_wiki.Parse sent)) shown told = within_none most_line
within_shown (requests.OnWord word (of_word.Reword forms)) shown told = within_none most_line
within_shown (requests.OnWord word of_word.Unword) shown told = within_none most_line
within_shown (requests.OnWiki (of_wiki.Grammar sent)) shown told = within_none MAX_LINE
within_shown (requests.OnArticle article (of_article.Add place sent)) shown told =
    within_one (requests.OnArticle article (of_article.Add place shown)) most_line (omega arith) told
within_shown (requests.OnArticle article (of_article.Edit place sent)) shown told =
    within_one (requests.OnArticle article (of_article.Edit place shown)) most_line (omega arith) told
within_shown (requests.OnArticle article (of_article.Remove place)) shown told = within_none most_line
within_shown (requests.OnArticle article (of_article.Retract place)) shown told = within_none most_line
within_shown (requests.OnArticle article (of_article.Reassert place)) shown told = within_none most_line
within_shown (requests.OnArticle article of_article.Read) shown told = within_none most_line
within_shown (requests.OnArticle article (of_article.Axioms place)) shown told = within_none most_line
within_shown (requests.OnArticle article of_article.Open) shown told = within_none most_line
within_shown (requests.OnSession session (of_session.Type sent)) shown told = within_none most_line
within_shown (requests.OnSession session of_session.Back) shown told = within_none most_line
within_shown (requests.OnSession session of_session.Menu) shown told = within_none most_line
within_shown (requests.OnSession session of_session.Commit) shown told = within_none most_line
within_shown (requests.OnSession session of_session.Refresh) shown told = within_none most_line
within_shown (requests.OnSession session of_session.Drop) shown told = within_none most_line

within_told : (request : Request) (reply : Reply) → All IsToldChange (changes_told request reply) → IsWithin (most_for request) (changes_told request reply)
within_told r replies.Word told = within_itself r (is_change r) told
within_told r (replies.Find word) told = within_itself r (is_change r) told
within_told r (replies.Words words) told = within_itself r (is_change r) told
within_told r (replies.Parse code) told = within_itself r (is_change r) told
within_told r replies.Reword told = within_itself r (is_change r) told
within_told r replies.Unword told = within_itself r (is_change r) told
within_told r (replies.Add status shown) told = within_shown r shown told
within_told r (replies.Edit status shown) told = within_shown r shown told
within_told r replies.Remove told = within_itself r (is_change r) told
within_told r (replies.Retract status) told = within_itself r (is_change r) told
within_told r (replies.Reassert status) told = within_itself r (is_change r) told
within_told r (replies.Read form revision sentences) told = within_itself r (is_change r) told
within_told r (replies.Axioms meant) told = within_itself r (is_change r) told
within_told r (replies.Open session) told = within_itself r (is_change r) told
within_told r (replies.Type tokens) told = within_itself r (is_change r) told
within_told r (replies.Back tokens) told = within_itself r (is_change r) told
within_told r (replies.Menu menu whole shown) told = within_itself r (is_change r) told
within_told r (replies.Commit article status shown) told = within_one (requests.OnArticle article (of_article.Add None shown)) (most_for r) (least_most r) told
within_told r replies.Refresh told = within_itself r (is_change r) told
within_told r replies.Drop told = within_itself r (is_change r) told
within_told r replies.Grammar told = within_itself r (is_change r) told
within_told r (replies.Undo article) told = within_itself r (is_change r) told
within_told r (replies.Redo article) told = within_itself r (is_change r) told
within_told r (replies.Refused refusal) told = within_none (most_for r)

-- a line of the journal has at most `most_line` bytes, its newline among them, and that of a grammar as many as a line may have
pub length-journal_line : (request : Request) (reply : Reply) → All IsToldChange (changes_told request reply)
    → length (journal_line request reply) ≤ most_for request
unfolding IsWithin
length-journal_line request reply told = omega (arith, ap length (journal_line-changes request reply), within_told request reply told)

-- ---- the journal of a run

journal_in-changes : (handling : Handling) → journal_in handling ≡ flat_map request_line (changes_in handling)
journal_in-changes waited = refl
journal_in-changes (own_answer n response) = refl
journal_in-changes (replied n request next reply) = journal_line-changes request reply

-- the journal is the lines of the requests that make the accepted changes again
pub journal-changes : (handlings : List Handling) → flat_map journal_in handlings ≡ flat_map request_line (flat_map changes_in handlings)
journal-changes [] = refl
journal-changes (handling ∷ handlings) =
    ap (λ (l : List ℕ). l ++ flat_map journal_in handlings) (journal_in-changes handling)
    ∙ ap (λ (l : List ℕ). flat_map request_line (changes_in handling) ++ l) (journal-changes handlings)
    ∙ sym (flat_map-append request_line (changes_in handling) (flat_map changes_in handlings))

-- The lines of an input that ends where a line ends, and of the journal behind it: one line more for each accepted change.
pub input_lines-journal : (former : List ℕ) (handlings : List Handling) → EndsLine former → All IsToldChange (flat_map changes_in handlings)
    → input_lines (former ++ flat_map journal_in handlings) ≡ input_lines former ++ map (λ r. text (request_text r)) (flat_map changes_in handlings)
input_lines-journal former handlings whole told =
    ap (λ (l : List ℕ). input_lines (former ++ l)) (journal-changes handlings) ∙ input_lines-changes former (flat_map changes_in handlings) whole told

-- What such an input and the journal behind it ask: what the input asks, and then the accepted changes. `ask` is what a line asks, which for
-- bytes is the request that they are.
pub asked-journal : (ask : InputLine → Option LineRequest) → ((bytes : List ℕ) → ask (text bytes) ≡ line_request_of bytes) → (former : List ℕ)
    (handlings : List Handling) → EndsLine former → All IsToldChange (flat_map changes_in handlings)
    → map ask (input_lines (former ++ flat_map journal_in handlings)) ≡ map ask (input_lines former) ++ map asked_for (flat_map changes_in handlings)
asked-journal ask asks former handlings whole told =
    ap (λ (l : List ℕ). map ask (input_lines (former ++ l))) (journal-changes handlings)
    ∙ asked-changes ask asks former (flat_map changes_in handlings) whole told

-- the same behind an input whose last line may lack its newline, which is ended first
pub asked-restart : (ask : InputLine → Option LineRequest) → ((bytes : List ℕ) → ask (text bytes) ≡ line_request_of bytes) → (former : List ℕ)
    (handlings : List Handling) → All IsToldChange (flat_map changes_in handlings)
    → map ask (input_lines (ended former ++ flat_map journal_in handlings)) ≡ map ask (input_lines former) ++ map asked_for (flat_map changes_in handlings)
asked-restart ask asks former handlings told =
    ap (λ (l : List ℕ). map ask (input_lines (ended former ++ l))) (journal-changes handlings)
    ∙ asked-next ask asks former (flat_map changes_in handlings) told

-- the journal is whole lines, or empty
pub EndsLine-journal : (handlings : List Handling) → EndsLine (flat_map journal_in handlings)
EndsLine-journal handlings = subst EndsLine (sym (journal-changes handlings)) (EndsLine-requests (flat_map changes_in handlings))

few-in : (handling : Handling) → length (changes_in handling) ≤ 1
few-in waited = omega arith
few-in (own_answer n response) = omega arith
few-in (replied n request next reply) = few-changes request reply

-- The same where of the line of one event more only a front was written: that asks for nothing where there is no byte of it, is no request
-- where it was cut, and asks for its change where at most its newline lacks.
pub asked-cut-journal : (ask : InputLine → Option LineRequest) → ((bytes : List ℕ) → ask (text bytes) ≡ line_request_of bytes) → (former : List ℕ)
    (handlings : List Handling) (last : Handling) (n : ℕ) → All IsToldChange (flat_map changes_in handlings) → All IsToldChange (changes_in last)
    → n ≤ length (journal_in last)
    → map ask (input_lines (ended former ++ (flat_map journal_in handlings ++ take n (journal_in last))))
    ≡ (map ask (input_lines former) ++ map asked_for (flat_map changes_in handlings)) ++ flat_map (asked_by_front n) (changes_in last)
asked-cut-journal ask asks former handlings last n told last_told within =
    let same = journal_in-changes last in
    let fits : n ≤ length (flat_map request_line (changes_in last)) = omega (arith, ap length same) in
    ap (λ (l : List ℕ). map ask (input_lines (ended former ++ (l ++ take n (journal_in last))))) (journal-changes handlings)
    ∙ ap (λ (l : List ℕ). map ask (input_lines (ended former ++ (flat_map request_line (flat_map changes_in handlings) ++ take n l)))) same
    ∙ asked-cut-changes ask asks former (flat_map changes_in handlings) (changes_in last) n (few-in last) told last_told fits
