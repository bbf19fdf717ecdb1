-- No line has a number with a fraction.
use Rattle.std.proofs.Common.{◌≡◌, ℕ, List, [], ◌∷◌, Bool, true, false, if◌then◌else◌, refl, Option, Some, None}
use Rattle.serde_json.specs.Data.{Members}
use Rattle.serde_json.specs.Written.{has_float, items_have_float, members_have_float}
use Rattle.wiki_talk.specs.declared.replies.WordView.{WordView}
use Rattle.wiki_talk.specs.declared.replies.MenuView.{MenuView}
use Rattle.wiki_talk.specs.declared.replies.Reply.{Reply}
use Rattle.wiki_talk.specs.declared.replies.Reply.TheVariants as replies
use Rattle.wiki_talk.specs.declared.requests.Request.{Request}
use Rattle.wiki_talk.specs.declared.requests.Request.TheVariants as requests
use Rattle.wiki_talk.specs.declared.requests.WikiRequest.TheVariants as of_wiki
use Rattle.wiki_talk.specs.declared.requests.WordRequest.TheVariants as of_word
use Rattle.wiki_talk.specs.declared.requests.ArticleRequest.TheVariants as of_article
use Rattle.wiki_talk.specs.declared.requests.SessionRequest.TheVariants as of_session
use Rattle.wiki_talk.specs.declared.refusals.Refusal.{Refusal}
use Rattle.wiki_talk.specs.declared.refusals.Refusal.TheVariants.{NoWord, BadForm, Taken, Reserved, NoPlace, NoSession, Full, Stale, NotOffered, Nothing, Unfinished, NotSentence, InUse, Breaks, BadStatus, GrammarRefused, Bare}
use Rattle.wiki_talk.specs.declared.replies.SentenceView.{SentenceView}
use Rattle.wiki_talk.specs.declared.replies.Meant.{Meant}
use Rattle.wiki_talk.specs.declared.replies.Meant.TheVariants as meanings
use Rattle.wiki_talk.specs.declared.statuses.Status.{Status}
use Rattle.logic_terms.specs.declared.cause.Cause.{Cause}
use Rattle.wiki_talk.specs.Statuses.{cause_in, is_question}
use Rattle.wire_json.specs.Values.{texts_items, numbers_items, menu_value, words_items, with_cause, statement_value, question_value, sentences_items}
use Rattle.wire_json.specs.Replies.{reply_value, refusal_value, status_value, meant_value, commit_value}
use Rattle.wire_json.specs.Requests.{request_value, with_place}

has_float-texts : (texts : List (List ℕ)) → items_have_float (texts_items texts) ≡ false
has_float-texts [] = refl
has_float-texts (text ∷ texts) = has_float-texts texts

has_float-words : (words : List WordView) → items_have_float (words_items words) ≡ false
has_float-words [] = refl
has_float-words (word ∷ words) = rw (has_float-texts word.forms) (has_float-words words)

has_float-numbers : (numbers : List ℕ) → items_have_float (numbers_items numbers) ≡ false
has_float-numbers [] = refl
has_float-numbers (n ∷ numbers) = has_float-numbers numbers

has_float-menu : (menu : MenuView) → has_float (menu_value menu) ≡ false
has_float-menu menu = rw (
  has_float-texts menu.adjective,
  has_float-texts menu.function,
  has_float-texts menu.name,
  has_float-texts menu.noun,
  has_float-texts menu.of,
  has_float-texts menu.verb,
) refl

has_float-cause : (cause : Option Cause) (members : Members) → members_have_float members ≡ false → members_have_float (with_cause cause members) ≡ false
has_float-cause None members none = none
has_float-cause (Some cause) members none = none

has_float-place : (place : Option ℕ) (members : Members) → members_have_float members ≡ false → members_have_float (with_place place members) ≡ false
has_float-place None members none = none
has_float-place (Some place) members none = none

has_float-status : (name : List ℕ) (status : Status) → has_float (status_value name status) ≡ false
has_float-status name status = has_float-cause (cause_in status) _ refl

has_float-commit : (article : List ℕ) (status : Status) → has_float (commit_value article status) ≡ false
has_float-commit article status = has_float-cause (cause_in status) _ refl

has_float-meant : (meant : Meant) → has_float (meant_value meant) ≡ false
has_float-meant (meanings.Axioms axioms) = rw (has_float-texts axioms) refl
has_float-meant (meanings.Class text) = refl
has_float-meant (meanings.Outside cause) = refl

has_float-either : (asks : Bool) (s : SentenceView) → has_float (if asks then question_value s else statement_value s) ≡ false
has_float-either true s = rw (has_float-texts s.answers, has_float-texts s.unknown) refl
has_float-either false s = has_float-cause (cause_in s.status) _ refl

has_float-sentences : (sentences : List SentenceView) → items_have_float (sentences_items sentences) ≡ false
has_float-sentences [] = refl
has_float-sentences (s ∷ sentences) = rw (has_float-either (is_question s.status) s) (has_float-sentences sentences)

has_float-refusal : (refusal : Refusal) → has_float (refusal_value refusal) ≡ false
has_float-refusal (NoWord text) = refl
has_float-refusal (BadForm which) = refl
has_float-refusal (Taken text word) = refl
has_float-refusal (Reserved text) = refl
has_float-refusal (Full which limit) = refl
has_float-refusal (NotSentence k menu) = rw (has_float-menu menu) refl
has_float-refusal (NoPlace length) = refl
has_float-refusal (NoSession session) = refl
has_float-refusal (Stale revision) = refl
has_float-refusal (NotOffered text) = refl
has_float-refusal Nothing = refl
has_float-refusal (Unfinished menu) = rw (has_float-menu menu) refl
has_float-refusal (InUse article place) = refl
has_float-refusal (Breaks article place) = refl
has_float-refusal (BadStatus status) = refl
has_float-refusal (GrammarRefused fault place) = refl
has_float-refusal Bare = refl

pub has_float-reply : (reply : Reply) → has_float (reply_value reply) ≡ false
has_float-reply replies.Word = refl
has_float-reply (replies.Find word) = rw (has_float-texts word.forms) refl
has_float-reply (replies.Words words) = rw (has_float-words words) refl
has_float-reply (replies.Parse code) = rw (has_float-numbers code) refl
has_float-reply replies.Reword = refl
has_float-reply replies.Unword = refl
has_float-reply (replies.Add status shown) = has_float-status _ status
has_float-reply (replies.Edit status shown) = has_float-status _ status
has_float-reply replies.Remove = refl
has_float-reply (replies.Retract status) = has_float-status _ status
has_float-reply (replies.Reassert status) = has_float-status _ status
has_float-reply (replies.Read form revision sentences) = rw (has_float-sentences sentences) refl
has_float-reply (replies.Axioms meant) = has_float-meant meant
has_float-reply (replies.Open session) = refl
has_float-reply (replies.Type tokens) = refl
has_float-reply (replies.Back tokens) = refl
has_float-reply (replies.Menu menu whole shown) = rw (has_float-menu menu) refl
has_float-reply (replies.Commit article status shown) = has_float-commit article status
has_float-reply replies.Refresh = refl
has_float-reply replies.Drop = refl
has_float-reply replies.Grammar = refl
has_float-reply (replies.Undo article) = refl
has_float-reply (replies.Redo article) = refl
has_float-reply (replies.Refused refusal) = has_float-refusal refusal

pub has_float-request : (request : Request) → has_float (request_value request) ≡ false
has_float-request (requests.OnWiki (of_wiki.Word kind forms)) = rw (has_float-texts forms) refl
has_float-request (requests.OnWord word of_word.Find) = refl
has_float-request (requests.OnWiki of_wiki.Words) = refl
has_float-request (requests.OnWiki (of_wiki.Parse text)) = refl
has_float-request (requests.OnWord word (of_word.Reword forms)) = rw (has_float-texts forms) refl
has_float-request (requests.OnWord word of_word.Unword) = refl
has_float-request (requests.OnWiki (of_wiki.Grammar text)) = refl
has_float-request (requests.OnArticle article (of_article.Add place text)) = has_float-place place _ refl
has_float-request (requests.OnArticle article (of_article.Edit place text)) = refl
has_float-request (requests.OnArticle article (of_article.Remove place)) = refl
has_float-request (requests.OnArticle article (of_article.Retract place)) = refl
has_float-request (requests.OnArticle article (of_article.Reassert place)) = refl
has_float-request (requests.OnArticle article of_article.Read) = refl
has_float-request (requests.OnArticle article (of_article.Axioms place)) = refl
has_float-request (requests.OnArticle article of_article.Open) = refl
has_float-request (requests.OnSession session (of_session.Type text)) = refl
has_float-request (requests.OnSession session of_session.Back) = refl
has_float-request (requests.OnSession session of_session.Menu) = refl
has_float-request (requests.OnSession session of_session.Commit) = refl
has_float-request (requests.OnSession session of_session.Refresh) = refl
has_float-request (requests.OnSession session of_session.Drop) = refl
