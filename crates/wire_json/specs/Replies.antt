-- Replies as lines of JSON.
use Rattle.std.specs.Prelude.{ℕ, List, [], codes}
use Rattle.serde_json.specs.Data.{Data, Members, boolean, string, number, unsigned, array, object, no_members, member}
use Rattle.wiki_talk.specs.declared.replies.Reply.{Reply}
use Rattle.wiki_talk.specs.declared.replies.Reply.TheVariants as replies
use Rattle.wiki_talk.specs.declared.refusals.Refusal.{Refusal}
use Rattle.wiki_talk.specs.declared.refusals.Refusal.TheVariants.{NoWord, BadForm, Taken, Reserved, NoPlace, NoSession, Full, Stale, NotOffered, Nothing, Unfinished, NotSentence, InUse, Breaks, BadStatus, GrammarRefused, Bare}
use Rattle.wiki_talk.specs.declared.replies.Meant.{Meant}
use Rattle.wiki_talk.specs.declared.replies.Meant.TheVariants as meanings
use Rattle.wiki_talk.specs.declared.statuses.Status.{Status}
use Rattle.wiki_talk.specs.Statuses.{status_name, cause_name, cause_in}
use Rattle.wiki_talk.specs.Limits.{name_of}
use Rattle.wiki_talk.specs.Refusals.{title_of, bad_request}
use Rattle.wire_json.specs.Values.{line_text, texts_items, numbers_items, menu_value, word_value, words_items, with_cause, sentences_items}

-- the members that tell the name and the number of a refusal, before others
abbrev pub told : ℕ → List ℕ → Members → Members
told refused name others = member (codes "name") (string name) (member (codes "refused") (number (unsigned refused)) others)

-- the members of a refusal, in the order of their keys: its name, its number and what it carries
abbrev pub refusal_members : Refusal → (Members → Members) → Members
refusal_members (NoWord text) titled = titled (member (codes "text") (string text) no_members)
refusal_members (BadForm which) titled = titled (member (codes "which") (number (unsigned which)) no_members)
refusal_members (Taken text word) titled = titled (member (codes "text") (string text) (member (codes "word") (string word) no_members))
refusal_members (Reserved text) titled = titled (member (codes "text") (string text) no_members)
refusal_members (Full which limit) titled =
    member (codes "limit") (number (unsigned limit)) (titled (member (codes "which") (string (name_of which)) no_members))
refusal_members (NoSession session) titled = titled (member (codes "session") (number (unsigned session)) no_members)
refusal_members (Stale revision) titled = titled (member (codes "revision") (number (unsigned revision)) no_members)
refusal_members (NotOffered text) titled = titled (member (codes "text") (string text) no_members)
refusal_members Nothing titled = titled no_members
refusal_members (Unfinished menu) titled = member (codes "menu") (menu_value menu) (titled no_members)
refusal_members (NotSentence k menu) titled =
    member (codes "k") (number (unsigned k)) (member (codes "menu") (menu_value menu) (titled no_members))
refusal_members (NoPlace length) titled = member (codes "length") (number (unsigned length)) (titled no_members)
refusal_members (InUse article place) titled =
    member (codes "article") (string article) (member (codes "at") (number (unsigned place)) (titled no_members))
refusal_members (Breaks article place) titled =
    member (codes "article") (string article) (member (codes "at") (number (unsigned place)) (titled no_members))
refusal_members (BadStatus status) titled = titled (member (codes "status") (string (status_name status)) no_members)
refusal_members (GrammarRefused fault place) titled =
    member (codes "at") (number (unsigned place)) (member (codes "fault") (string fault) (titled no_members))
refusal_members Bare titled = titled no_members

abbrev pub refusal_value : Refusal → Data
refusal_value refusal = object (refusal_members refusal (told (title_of refusal).number (title_of refusal).name))

-- any other reply tells what was done
-- what is done under this name, and nothing else
abbrev pub done_value : List ℕ → Data
done_value name = object (member (codes "done") (string name) no_members)

-- what is done under this name, with a status
abbrev pub status_value : List ℕ → Status → Data
status_value name status = object (with_cause (cause_in status)
    (member (codes "done") (string name)
    (member (codes "status") (string (status_name status)) no_members)))

-- what is done under this name, with the number of a session's tokens
abbrev pub told_article_value : List ℕ → List ℕ → Data
told_article_value name article = object
    (member (codes "article") (string article)
    (member (codes "done") (string name) no_members))

abbrev pub tokens_value : List ℕ → ℕ → Data
tokens_value name tokens = object
    (member (codes "done") (string name)
    (member (codes "tokens") (number (unsigned tokens)) no_members))

-- the sentence that was added to an article, with its status
abbrev pub commit_value : List ℕ → Status → Data
commit_value article status = object
    (member (codes "article") (string article)
    (with_cause (cause_in status)
    (member (codes "done") (string (codes "commit"))
    (member (codes "status") (string (status_name status)) no_members))))

-- what a sentence means
abbrev pub meant_value : Meant → Data
meant_value (meanings.Axioms axioms) = object
    (member (codes "axioms") (array (texts_items axioms))
    (member (codes "done") (string (codes "axioms")) no_members))
meant_value (meanings.Class text) = object
    (member (codes "class") (string text)
    (member (codes "done") (string (codes "axioms")) no_members))
meant_value (meanings.Outside cause) = object
    (member (codes "axioms") (array (texts_items []))
    (member (codes "cause") (string (cause_name cause))
    (member (codes "done") (string (codes "axioms")) no_members)))

abbrev pub reply_value : Reply → Data
reply_value replies.Word = object (member (codes "done") (string (codes "word")) no_members)
reply_value (replies.Find word) = object
    (member (codes "done") (string (codes "find"))
    (member (codes "word") (word_value word) no_members))
reply_value (replies.Words words) = object
    (member (codes "done") (string (codes "words"))
    (member (codes "words") (array (words_items words)) no_members))
reply_value (replies.Parse code) = object
    (member (codes "code") (array (numbers_items code))
    (member (codes "done") (string (codes "parse")) no_members))
reply_value replies.Reword = done_value (codes "reword")
reply_value replies.Unword = done_value (codes "unword")
reply_value (replies.Add status shown) = status_value (codes "add") status
reply_value (replies.Edit status shown) = status_value (codes "edit") status
reply_value replies.Remove = done_value (codes "remove")
reply_value (replies.Retract status) = status_value (codes "retract") status
reply_value (replies.Reassert status) = status_value (codes "reassert") status
reply_value (replies.Read form revision sentences) = object
    (member (codes "done") (string (codes "read"))
    (member (codes "revision") (number (unsigned revision))
    (member (codes "sentences") (array (sentences_items sentences)) no_members)))
reply_value (replies.Axioms meant) = meant_value meant
reply_value (replies.Open session) = object
    (member (codes "done") (string (codes "open"))
    (member (codes "session") (number (unsigned session)) no_members))
reply_value (replies.Type tokens) = tokens_value (codes "type") tokens
reply_value (replies.Back tokens) = tokens_value (codes "back") tokens
reply_value (replies.Menu menu whole shown) = object
    (member (codes "done") (string (codes "menu"))
    (member (codes "menu") (menu_value menu)
    (member (codes "whole") (boolean whole) no_members)))
reply_value (replies.Commit article status shown) = commit_value article status
reply_value replies.Refresh = done_value (codes "refresh")
reply_value replies.Drop = done_value (codes "drop")
reply_value replies.Grammar = done_value (codes "grammar")
reply_value (replies.Undo article) = told_article_value (codes "undo") article
reply_value (replies.Redo article) = told_article_value (codes "redo") article
reply_value (replies.Refused refusal) = refusal_value refusal

abbrev pub reply_line : Reply → List ℕ
reply_line reply = line_text (reply_value reply)

-- what is told of a line that is too long or is no request
abbrev pub bad_request_value : Data
bad_request_value = object (told bad_request.number bad_request.name no_members)

abbrev pub bad_request_line : List ℕ
bad_request_line = line_text bad_request_value
