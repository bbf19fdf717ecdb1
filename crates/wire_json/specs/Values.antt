-- What stands in many lines, as JSON.
use Rattle.std.specs.Prelude.{ℕ, List, [], ◌∷◌, ◌++◌, codes, map, if◌then◌else◌, Option, Some, None}
use Rattle.serde_json.specs.Data.{Data, string, number, unsigned, array, object, Items, Members, no_members, member}
use Rattle.serde_json.specs.View.{items_of}
use Rattle.serde_json.specs.Written.{compact_text}
use Rattle.wiki_talk.specs.declared.replies.WordView.{WordView}
use Rattle.wiki_talk.specs.declared.replies.MenuView.{MenuView}
use Rattle.wiki_talk.specs.declared.replies.SentenceView.{SentenceView}
use Rattle.logic_terms.specs.declared.cause.Cause.{Cause}
use Rattle.wiki_talk.specs.Kinds.{kind_name}
use Rattle.wiki_talk.specs.Statuses.{status_name, cause_name, cause_in, is_question}

-- the value as JSON with no space, and a newline
unfoldable pub line_text : Data → List ℕ
line_text value = compact_text value ++ 10 ∷ []

-- a list of texts
abbrev pub texts_items : List (List ℕ) → Items
texts_items texts = items_of (map string texts)

-- a word, with the members in the order of their keys, as everywhere
abbrev pub word_value : WordView → Data
word_value word = object
    (member (codes "forms") (array (texts_items word.forms))
    (member (codes "kind") (string (kind_name word.kind)) no_members))

-- a list of numbers
abbrev pub numbers_items : List ℕ → Items
numbers_items numbers = items_of (map (λ n. number (unsigned n)) numbers)

-- a menu: a list of texts for each group
abbrev pub menu_value : MenuView → Data
menu_value menu = object
    (member (codes "adjective") (array (texts_items menu.adjective))
    (member (codes "function") (array (texts_items menu.function))
    (member (codes "name") (array (texts_items menu.name))
    (member (codes "noun") (array (texts_items menu.noun))
    (member (codes "of") (array (texts_items menu.of))
    (member (codes "verb") (array (texts_items menu.verb)) no_members))))))

-- a list of words
abbrev pub words_items : List WordView → Items
words_items words = items_of (map word_value words)

-- the member that tells a cause, if there is one, before others
abbrev pub with_cause : Option Cause → Members → Members
with_cause None members = members
with_cause (Some cause) members = member (codes "cause") (string (cause_name cause)) members

-- a sentence that isn't a question for a class
abbrev pub statement_value : SentenceView → Data
statement_value sentence = object (with_cause (cause_in sentence.status)
    (member (codes "status") (string (status_name sentence.status))
    (member (codes "text") (string sentence.text) no_members)))

-- a question for a class, with the names that answer it
abbrev pub question_value : SentenceView → Data
question_value sentence = object
    (member (codes "answers") (array (texts_items sentence.answers))
    (member (codes "status") (string (status_name sentence.status))
    (member (codes "text") (string sentence.text)
    (member (codes "unknown") (array (texts_items sentence.unknown)) no_members))))

-- a sentence
abbrev pub sentence_value : SentenceView → Data
sentence_value sentence = if is_question sentence.status then question_value sentence else statement_value sentence

-- a list of sentences
abbrev pub sentences_items : List SentenceView → Items
sentences_items sentences = items_of (map sentence_value sentences)
