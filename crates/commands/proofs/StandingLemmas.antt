-- What stands is what is read.
use Rattle.std.proofs.Common.{◌≡◌, ℕ, ◌≤◌, IsTrue, List, [], ◌∷◌, ◌++◌, length, map, All, flat_map, Option, Some, None, refl, sym, ap, subst, ◌∙◌, arith}
use Rattle.std.specs.Prelude.{IsUtf8}
use Rattle.std.proofs.lemmas.Grind.{flat_map-append}
use Rattle.std.proofs.lemmas.List.Elements.{All-nil, All-cons, All-head, All-tail, All-weaker}
use Rattle.wiki_base.specs.declared.text.TheConstants.{LONGEST_TEXT}
use Rattle.wiki_io.specs.Lines.{text, input_lines}
use Rattle.wiki_talk.specs.declared.requests.Request.{Request}
use Rattle.wiki_talk.specs.declared.requests.Request.TheVariants as requests
use Rattle.wiki_talk.specs.declared.requests.WikiRequest.TheVariants as of_wiki
use Rattle.wiki_talk.specs.declared.requests.WordRequest.TheVariants as of_word
use Rattle.wiki_talk.specs.declared.requests.ArticleRequest.TheVariants as of_article
use Rattle.wiki_talk.specs.declared.requests.SessionRequest.TheVariants as of_session
use Rattle.wiki_talk.specs.declared.requests.LineRequest.{LineRequest}
use Rattle.wiki_talk.specs.declared.requests.LineRequest.TheVariants as lines
use Rattle.wiki_talk.specs.declared.replies.Reply.{Reply}
use Rattle.wiki_talk.specs.declared.replies.Reply.TheVariants as replies
use Rattle.wiki_talk.specs.Turns.{Exchange, answered, no_request, request_in}
use Rattle.lexicon.specs.declared.words.TheConstants.{LAST_NUMBER}
use Rattle.wire_json.specs.Requests.{line_request_of}
use Rattle.wire_json.specs.Told.{IsToldChange, asked_for, ended, gives_line}
use Rattle.serving.specs.Journal.{is_change}
use Rattle.serving.specs.Handling.{Handling, waited, own_answer, replied, exchange_in, journal_in, CameInLine}
use Rattle.serving.specs.Changes.{itself, with_shown, changes_told, changes_in as changes_on}
use Rattle.serving.proofs.InLineLemmas.{changes_in_lines}
use Rattle.serving.proofs.JournalLaws.{asked-restart, length-journal_line}
use Rattle.ace_grammar.specs.Grammar.{ace_grammar}
use Rattle.ace_grammar.proofs.Soundness.{sound}
use Rattle.wiki_core.specs.Journaled.{own_change, shown_change, changes_by, changes_of, IsPlainForm, FitsLine}
use Rattle.turning.specs.Laws.{IsRun, GiveUnraised, asked_of}
use Rattle.turning.proofs.RunLemmas.{stands_again_recalling, changes_fit_recalling, undo_gives_back, redo_gives_back}
use Rattle.wiki_core.proofs.BuiltInLemmas.{built_in_apart, built_in_utf8}
use Rattle.commands.specs.Lines.{asked}
use Rattle.commands.specs.Wiki.{Holding, new_wiki}
use Rattle.commands.specs.Standing.{StandsAsRead, most_written, WritesShortLines}
use Rattle.commands.specs.Theorem.{HoldsOfRuns}
use Rattle.commands.proofs.CompletenessLemmas.{does_what_is_free}

-- ---- one change

same_itself : (r : Request) → itself r ≡ own_change r
unfolding is_change
same_itself (requests.OnWiki (of_wiki.Word kind forms)) = refl
same_itself (requests.OnWord word of_word.Find) = refl
same_itself (requests.OnWiki of_wiki.Words) = refl
same_itself (requests.OnWiki (of_wiki.Parse sent)) = refl
same_itself (requests.OnWord word (of_word.Reword forms)) = refl
same_itself (requests.OnWord word of_word.Unword) = refl
same_itself (requests.OnWiki (of_wiki.Grammar sent)) = refl
same_itself (requests.OnArticle article (of_article.Add place sent)) = refl
same_itself (requests.OnArticle article (of_article.Edit place sent)) = refl
same_itself (requests.OnArticle article (of_article.Remove place)) = refl
same_itself (requests.OnArticle article (of_article.Retract place)) = refl
same_itself (requests.OnArticle article (of_article.Reassert place)) = refl
same_itself (requests.OnArticle article of_article.Read) = refl
same_itself (requests.OnArticle article (of_article.Axioms place)) = refl
same_itself (requests.OnArticle article of_article.Open) = refl
same_itself (requests.OnSession session (of_session.Type sent)) = refl
same_itself (requests.OnSession session of_session.Back) = refl
same_itself (requests.OnSession session of_session.Menu) = refl
same_itself (requests.OnSession session of_session.Commit) = refl
same_itself (requests.OnSession session of_session.Refresh) = refl
same_itself (requests.OnSession session of_session.Drop) = refl

same_shown : (r : Request) (shown : List ℕ) → with_shown r shown ≡ shown_change r shown
same_shown (requests.OnWiki (of_wiki.Word kind forms)) shown = refl
same_shown (requests.OnWord word of_word.Find) shown = refl
same_shown (requests.OnWiki of_wiki.Words) shown = refl
same_shown (requests.OnWiki (of_wiki.Parse sent)) shown = refl
same_shown (requests.OnWord word (of_word.Reword forms)) shown = refl
same_shown (requests.OnWord word of_word.Unword) shown = refl
same_shown (requests.OnWiki (of_wiki.Grammar sent)) shown = refl
same_shown (requests.OnArticle article (of_article.Add place sent)) shown = refl
same_shown (requests.OnArticle article (of_article.Edit place sent)) shown = refl
same_shown (requests.OnArticle article (of_article.Remove place)) shown = refl
same_shown (requests.OnArticle article (of_article.Retract place)) shown = refl
same_shown (requests.OnArticle article (of_article.Reassert place)) shown = refl
same_shown (requests.OnArticle article of_article.Read) shown = refl
same_shown (requests.OnArticle article (of_article.Axioms place)) shown = refl
same_shown (requests.OnArticle article of_article.Open) shown = refl
same_shown (requests.OnSession session (of_session.Type sent)) shown = refl
same_shown (requests.OnSession session of_session.Back) shown = refl
same_shown (requests.OnSession session of_session.Menu) shown = refl
same_shown (requests.OnSession session of_session.Commit) shown = refl
same_shown (requests.OnSession session of_session.Refresh) shown = refl
same_shown (requests.OnSession session of_session.Drop) shown = refl

same_changes : (r : Request) (reply : Reply) → changes_told r reply ≡ changes_by r reply
same_changes r replies.Word = same_itself r
same_changes r (replies.Find word) = same_itself r
same_changes r (replies.Words words) = same_itself r
same_changes r (replies.Parse code) = same_itself r
same_changes r replies.Reword = same_itself r
same_changes r replies.Unword = same_itself r
same_changes r (replies.Add status shown) = same_shown r shown
same_changes r (replies.Edit status shown) = same_shown r shown
same_changes r replies.Remove = same_itself r
same_changes r (replies.Retract status) = same_itself r
same_changes r (replies.Reassert status) = same_itself r
same_changes r (replies.Read form revision sentences) = same_itself r
same_changes r (replies.Axioms meant) = same_itself r
same_changes r (replies.Open session) = same_itself r
same_changes r (replies.Type tokens) = same_itself r
same_changes r (replies.Back tokens) = same_itself r
same_changes r (replies.Menu menu whole shown) = same_itself r
same_changes r (replies.Commit article status shown) = refl
same_changes r replies.Refresh = same_itself r
same_changes r replies.Drop = same_itself r
same_changes r replies.Grammar = same_itself r
same_changes r (replies.Undo article) = same_itself r
same_changes r (replies.Redo article) = same_itself r
same_changes r (replies.Refused refusal) = refl

-- the changes of events are those of what they ask
same_on_events : (handlings : List Handling) → flat_map changes_on handlings ≡ changes_of (flat_map exchange_in handlings)
same_on_events [] = refl
same_on_events (waited ∷ handlings) = same_on_events handlings
same_on_events (own_answer n response ∷ handlings) = same_on_events handlings
same_on_events (replied n request next reply ∷ handlings) =
    ap (λ (l : List Request). l ++ flat_map changes_on handlings) (same_changes request reply)
    ∙ ap (λ (l : List Request). changes_by request reply ++ l) (same_on_events handlings)

-- ---- a change that a line can tell

-- if the request gives a grammar, its line isn't too long
abbrev InLine : Request → Type 0
InLine r = IsTrue (gives_line r)

forms_utf8 : (forms : List (List ℕ)) → All IsPlainForm forms → All IsUtf8 forms
forms_utf8 forms plain = All-weaker IsPlainForm IsUtf8 (λ form is. is.0) forms plain

forms_short : (forms : List (List ℕ)) → All IsPlainForm forms → All (λ form. length form ≤ LONGEST_TEXT) forms
forms_short forms plain = All-weaker IsPlainForm (λ form. length form ≤ LONGEST_TEXT) (λ form is. is.1) forms plain

one_text : (t : List ℕ) → IsUtf8 t → All IsUtf8 (t ∷ [])
one_text t is = All-cons IsUtf8 t [] is (All-nil IsUtf8)

two_texts : (t s : List ℕ) → IsUtf8 t → IsUtf8 s → All IsUtf8 (t ∷ s ∷ [])
two_texts t s is its = All-cons IsUtf8 t (s ∷ []) is (one_text s its)

no_number : All (λ n. n ≤ LAST_NUMBER) []
no_number = All-nil (λ n. n ≤ LAST_NUMBER)

one_number : (n : ℕ) → n ≤ LAST_NUMBER → All (λ n. n ≤ LAST_NUMBER) (n ∷ [])
one_number n is = All-cons (λ n. n ≤ LAST_NUMBER) n [] is no_number

told_if_fits : (r : Request) → FitsLine r × InLine r → IsToldChange r
told_if_fits (requests.OnWiki (of_wiki.Word kind forms)) ((plain, place), in_line) =
    (record { texts = forms_utf8 forms plain.0; numbers = no_number }, (forms_short forms plain.0, plain.1))
told_if_fits (requests.OnWord word of_word.Find) ((plain, place), in_line) = absurd plain
told_if_fits (requests.OnWiki of_wiki.Words) ((plain, place), in_line) = absurd plain
told_if_fits (requests.OnWiki (of_wiki.Parse sent)) ((plain, place), in_line) = absurd plain
told_if_fits (requests.OnWord word (of_word.Reword forms)) ((plain, place), in_line) = (
  record { texts = All-cons IsUtf8 word forms plain.0.0 (forms_utf8 forms plain.1.0); numbers = no_number },
  (plain.0.1, (forms_short forms plain.1.0, plain.1.1)),
)
told_if_fits (requests.OnWord word of_word.Unword) ((plain, place), in_line) = (record { texts = one_text word plain.0; numbers = no_number }, plain.1)
told_if_fits (requests.OnWiki (of_wiki.Grammar sent)) ((plain, place), in_line) = (record { texts = one_text sent plain; numbers = no_number }, in_line)
told_if_fits (requests.OnArticle article (of_article.Add None sent)) ((plain, place), in_line) =
    (record { texts = two_texts article sent plain.0.0 plain.1.0; numbers = no_number }, (plain.0.1, plain.1.1))
told_if_fits (requests.OnArticle article (of_article.Add (Some at) sent)) ((plain, place), in_line) =
    (record { texts = two_texts article sent plain.0.0 plain.1.0; numbers = one_number at place }, (plain.0.1, plain.1.1))
told_if_fits (requests.OnArticle article (of_article.Edit at sent)) ((plain, place), in_line) =
    (record { texts = two_texts article sent plain.0.0 plain.1.0; numbers = one_number at place }, (plain.0.1, plain.1.1))
told_if_fits (requests.OnArticle article (of_article.Remove at)) ((plain, place), in_line) =
    (record { texts = one_text article plain.0; numbers = one_number at place }, plain.1)
told_if_fits (requests.OnArticle article (of_article.Retract at)) ((plain, place), in_line) =
    (record { texts = one_text article plain.0; numbers = one_number at place }, plain.1)
told_if_fits (requests.OnArticle article (of_article.Reassert at)) ((plain, place), in_line) =
    (record { texts = one_text article plain.0; numbers = one_number at place }, plain.1)
told_if_fits (requests.OnArticle article of_article.Read) ((plain, place), in_line) = absurd plain
told_if_fits (requests.OnArticle article (of_article.Axioms place)) ((plain, at), in_line) = absurd plain
told_if_fits (requests.OnArticle article of_article.Open) ((plain, place), in_line) = absurd plain
told_if_fits (requests.OnSession session (of_session.Type sent)) ((plain, place), in_line) = absurd plain
told_if_fits (requests.OnSession session of_session.Back) ((plain, place), in_line) = absurd plain
told_if_fits (requests.OnSession session of_session.Menu) ((plain, place), in_line) = absurd plain
told_if_fits (requests.OnSession session of_session.Commit) ((plain, place), in_line) = absurd plain
told_if_fits (requests.OnSession session of_session.Refresh) ((plain, place), in_line) = absurd plain
told_if_fits (requests.OnSession session of_session.Drop) ((plain, place), in_line) = absurd plain

-- both hold of each
all_both : {X : Type 0} (P Q : X → Type 0) (xs : List X) → All P xs → All Q xs → All (λ x. P x × Q x) xs
all_both P Q xs ps qs k d in_range = (ps k d in_range, qs k d in_range)

-- ---- parts of a list

All-front : {X : Type 0} (P : X → Type 0) (xs ys : List X) → All P (xs ++ ys) → All P xs
All-front P [] ys all = All-nil P
All-front P (x ∷ xs) ys all = All-cons P x xs (All-head P x (xs ++ ys) all) (All-front P xs ys (All-tail P x (xs ++ ys) all))

All-last : {X : Type 0} (P : X → Type 0) (xs ys : List X) → All P (xs ++ ys) → All P ys
All-last P [] ys all = all
All-last P (x ∷ xs) ys all = All-last P xs ys (All-tail P x (xs ++ ys) all)

-- ---- short lines

abbrev IsShort : Handling → Type 0
IsShort handling = length (journal_in handling) ≤ most_written handling

short_one : (handling : Handling) → All IsToldChange (changes_on handling) → IsShort handling
short_one waited told = omega arith
short_one (own_answer n response) told = omega arith
short_one (replied n request next reply) told = length-journal_line request reply told

short_each : (handlings : List Handling) → All IsToldChange (flat_map changes_on handlings) → All IsShort handlings
short_each [] told = All-nil IsShort
short_each (handling ∷ handlings) told =
    All-cons IsShort handling handlings (short_one handling (All-front IsToldChange (changes_on handling) (flat_map changes_on handlings) told))
    (short_each handlings (All-last IsToldChange (changes_on handling) (flat_map changes_on handlings) told))

-- ---- what is asked

abbrev given : {X : Type 0} → Option X → List X
given None = []
given (Some x) = x ∷ []

asked_given : (exchanges : List (Exchange LineRequest Reply)) → flat_map given (map request_in exchanges) ≡ asked_of exchanges
asked_given [] = refl
asked_given (answered request reply ∷ exchanges) = ap (λ (l : List LineRequest). request ∷ l) (asked_given exchanges)
asked_given (no_request ∷ exchanges) = asked_given exchanges

given_steps : (requests : List Request) → flat_map given (map asked_for requests) ≡ map lines.Step requests
given_steps [] = refl
given_steps (request ∷ requests) = ap (λ (l : List LineRequest). lines.Step request ∷ l) (given_steps requests)

asked_text : (bytes : List ℕ) → asked (text bytes) ≡ line_request_of bytes
asked_text bytes = refl

-- ---- both together

module _ (budget : ℕ) (of_lines : List (Exchange LineRequest Reply)) (handlings : List Handling) (last : Holding)
    (run : IsRun (new_wiki budget) of_lines (flat_map exchange_in handlings) last) (came : All CameInLine handlings)
    (unraised : GiveUnraised of_lines (flat_map exchange_in handlings)) where
  abbrev events : List (Exchange Request Reply)
  events = flat_map exchange_in handlings

  -- each change that came over a connection is told by its line
  all_told : All IsToldChange (flat_map changes_on handlings)
  all_told =
      All-weaker (λ r. FitsLine r × InLine r) IsToldChange told_if_fits (flat_map changes_on handlings)
      (all_both FitsLine InLine (flat_map changes_on handlings)
      (subst (All FitsLine) (sym (same_on_events handlings))
      (changes_fit_recalling ace_grammar sound built_in_apart built_in_utf8 budget of_lines events last run unraised))
      (changes_in_lines handlings came))

  pub short_lines : All IsShort handlings
  short_lines = short_each handlings all_told

  -- what turns over the input and the journal are asked
  asked_again : (former : List ℕ) (again : List (Exchange LineRequest Reply)) → map request_in of_lines ≡ map asked (input_lines former)
      → map request_in again ≡ map asked (input_lines (ended former ++ flat_map journal_in handlings))
      → asked_of again ≡ asked_of of_lines ++ map lines.Step (changes_of events)
  asked_again former again of_former its_lines =
      let changes = flat_map changes_on handlings in
      let first_part : flat_map given (map asked (input_lines former)) ≡ asked_of of_lines =
      sym (ap (flat_map given) of_former) ∙ asked_given of_lines in
      let rest : flat_map given (map asked_for changes) ≡ map lines.Step (changes_of events) =
      given_steps changes ∙ ap (map lines.Step) (same_on_events handlings) in
      sym (asked_given again) ∙ ap (flat_map given) its_lines ∙ ap (flat_map given) (asked-restart asked asked_text former handlings all_told)
      ∙ flat_map-append given (map asked (input_lines former)) (map asked_for changes)
      ∙ ap (λ (l : List LineRequest). l ++ flat_map given (map asked_for changes)) first_part
      ∙ ap (λ (l : List LineRequest). asked_of of_lines ++ l) rest

pub stands_as_read : StandsAsRead
stands_as_read budget its_budget former of_lines again handlings last its_last of_former run came unraised its_lines its_run none its_none =
    stands_again_recalling ace_grammar sound built_in_apart built_in_utf8 budget its_budget of_lines again (flat_map exchange_in handlings) last its_last
    run its_run (asked_again budget of_lines handlings last run came unraised former again of_former its_lines) unraised none its_none

pub writes_short_lines : WritesShortLines
writes_short_lines = short_lines

pub holds_of_runs : HoldsOfRuns
holds_of_runs = record {
  done_where_free = does_what_is_free;
  stands = stands_as_read;
  short = writes_short_lines;
  undo = undo_gives_back;
  redo = redo_gives_back;
}
