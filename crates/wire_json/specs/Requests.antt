-- Requests as lines of JSON: which lines are requests, and the line of a request.
use Rattle.std.specs.Prelude.{ℕ, List, [], ◌∷◌, length, codes, if◌then◌else◌, nat_lt, nat_le, Option, Some, None, find, option_map, option_and_then}
use Rattle.std.specs.Option.{option_map_or, option_or}
use Rattle.std.specs.Str.{is_utf8, bytes_eq}
use Rattle.serde_json.specs.Data.{Data, string, number, unsigned, array, object, Items, no_items, item, Members, no_members, member}
use Rattle.serde_json.specs.Read.{read}
use Rattle.serde_json.specs.Find.{get, as_str, as_array, as_number, as_u64}
use Rattle.lexicon.specs.declared.words.TheConstants.{LAST_NUMBER}
use Rattle.wiki_io.specs.declared.limits.TheConstants.{MAX_LINE}
use Rattle.wiki_talk.specs.declared.requests.Request.{Request}
use Rattle.wiki_talk.specs.declared.requests.Request.TheVariants as requests
use Rattle.wiki_talk.specs.declared.requests.WikiRequest.TheVariants as of_wiki
use Rattle.wiki_talk.specs.declared.requests.WordRequest.{WordRequest}
use Rattle.wiki_talk.specs.declared.requests.WordRequest.TheVariants as of_word
use Rattle.wiki_talk.specs.declared.requests.ArticleRequest.{ArticleRequest}
use Rattle.wiki_talk.specs.declared.requests.ArticleRequest.TheVariants as of_article
use Rattle.wiki_talk.specs.declared.requests.SessionRequest.{SessionRequest}
use Rattle.wiki_talk.specs.declared.requests.SessionRequest.TheVariants as of_session
use Rattle.wiki_talk.specs.declared.requests.LineRequest.{LineRequest}
use Rattle.wiki_talk.specs.declared.requests.LineRequest.TheVariants as lines
use Rattle.wiki_talk.specs.Kinds.{kind_name, kind_named}
use Rattle.wire_json.specs.Values.{line_text, texts_items}

-- the text at a key of an object
abbrev pub text_at : List ℕ → Data → Option (List ℕ)
text_at key value = option_and_then as_str (get key value)

-- the texts of a list in which each item is one
abbrev pub texts_in : Items → Option (List (List ℕ))
texts_in no_items = Some []
texts_in (item value rest) = option_and_then (λ text. option_map (λ texts. text ∷ texts) (texts_in rest)) (as_str value)

-- the list of texts at a key of an object
abbrev pub texts_at : List ℕ → Data → Option (List (List ℕ))
texts_at key value = option_and_then texts_in (option_and_then as_array (get key value))

-- the whole number that a value is, if it is none above 4294967295
abbrev pub number_of : Data → Option ℕ
number_of value = option_and_then (λ n. if nat_le n LAST_NUMBER then Some n else None) (option_and_then as_u64 (as_number value))

-- the number at a key of an object
abbrev pub number_at : List ℕ → Data → Option ℕ
number_at key value = option_and_then number_of (get key value)

-- the number at a key of an object that may lack the key
abbrev pub number_if_at : List ℕ → Data → Option (Option ℕ)
number_if_at key value = option_map_or (λ found. option_map Some (number_of found)) (get key value) (Some None)

-- ---- what the members of an object ask

-- a new word: `kind` and `forms`
unfoldable pub word_in : Data → Option Request
word_in value = option_and_then (λ kind. option_map (λ forms. requests.OnWiki (of_wiki.Word kind forms)) (texts_at (codes "forms") value))
    (option_and_then kind_named (text_at (codes "kind") value))

-- all words
abbrev pub words_in : Data → Option Request
words_in value = Some (requests.OnWiki of_wiki.Words)

-- the code of a text: `text`
unfoldable pub parse_in : Data → Option Request
parse_in value = option_map (λ text. requests.OnWiki (of_wiki.Parse text)) (text_at (codes "text") value)

-- another grammar: `text`
unfoldable pub grammar_in : Data → Option Request
grammar_in value = option_map (λ text. requests.OnWiki (of_wiki.Grammar text)) (text_at (codes "text") value)

-- what is asked of the word that has a form: `word`
unfoldable pub on_word_in : WordRequest → Data → Option Request
on_word_in asked value = option_map (λ word. requests.OnWord word asked) (text_at (codes "word") value)

-- the word itself, and a word that is to go
abbrev pub find_in : Data → Option Request
find_in value = on_word_in of_word.Find value

abbrev pub unword_in : Data → Option Request
unword_in value = on_word_in of_word.Unword value

-- other forms for a word: `word` and `forms`
unfoldable pub reword_in : Data → Option Request
reword_in value = option_and_then (λ word. option_map (λ forms. requests.OnWord word (of_word.Reword forms)) (texts_at (codes "forms") value))
    (text_at (codes "word") value)

-- what is asked of an article: `article`
unfoldable pub on_article_in : ArticleRequest → Data → Option Request
on_article_in asked value = option_map (λ article. requests.OnArticle article asked) (text_at (codes "article") value)

-- its sentences, and a new session on it
abbrev pub read_in : Data → Option Request
read_in value = on_article_in of_article.Read value

abbrev pub open_in : Data → Option Request
open_in value = on_article_in of_article.Open value

-- a new sentence: `article`, `text` and, if it isn't to stand at the end, `at`
unfoldable pub add_in : Data → Option Request
add_in value = option_and_then (λ article. option_and_then (λ place. option_map (λ text. requests.OnArticle article (of_article.Add place text))
    (text_at (codes "text") value))
    (number_if_at (codes "at") value)) (text_at (codes "article") value)

-- an article and a place in it: `article` and `at`
unfoldable pub place_in : Data → Option (List ℕ × ℕ)
place_in value = option_and_then (λ article. option_map (λ place. (article, place)) (number_at (codes "at") value)) (text_at (codes "article") value)

-- another sentence: `article`, `at` and `text`
unfoldable pub edit_in : Data → Option Request
edit_in value = option_and_then (λ place. option_map (λ text. requests.OnArticle place.0 (of_article.Edit place.1 text)) (text_at (codes "text") value))
    (place_in value)

-- a sentence that is to go, to count no longer, or to be taken up again, and what a sentence means: its place
abbrev pub remove_in : Data → Option Request
remove_in value = option_map (λ place. requests.OnArticle place.0 (of_article.Remove place.1)) (place_in value)

abbrev pub retract_in : Data → Option Request
retract_in value = option_map (λ place. requests.OnArticle place.0 (of_article.Retract place.1)) (place_in value)

abbrev pub reassert_in : Data → Option Request
reassert_in value = option_map (λ place. requests.OnArticle place.0 (of_article.Reassert place.1)) (place_in value)

abbrev pub axioms_in : Data → Option Request
axioms_in value = option_map (λ place. requests.OnArticle place.0 (of_article.Axioms place.1)) (place_in value)

-- a token for a session: `session` and `text`
unfoldable pub type_in : Data → Option Request
type_in value = option_and_then (λ session. option_map (λ text. requests.OnSession session (of_session.Type text)) (text_at (codes "text") value))
    (number_at (codes "session") value)

-- what else is asked of a session: its number
abbrev pub on_session_in : SessionRequest → Data → Option Request
on_session_in asked value = option_map (λ session. requests.OnSession session asked) (number_at (codes "session") value)

-- one token fewer, what may follow, the sentence of a session, a session that takes note of changes, and one that is to end
abbrev pub back_in : Data → Option Request
back_in value = on_session_in of_session.Back value

abbrev pub menu_in : Data → Option Request
menu_in value = on_session_in of_session.Menu value

abbrev pub commit_in : Data → Option Request
commit_in value = on_session_in of_session.Commit value

abbrev pub refresh_in : Data → Option Request
refresh_in value = on_session_in of_session.Refresh value

abbrev pub drop_in : Data → Option Request
drop_in value = on_session_in of_session.Drop value

-- a name, and what an object that has it in `do` asks
pub record Row : Type 0 where
  pub name : List ℕ
  pub request : Data → Option Request

-- the table of the requests
abbrev pub rows : List Row
rows =
    record { name = codes "word"; request = word_in }
    ∷ record { name = codes "find"; request = find_in }
    ∷ record { name = codes "words"; request = words_in }
    ∷ record { name = codes "parse"; request = parse_in }
    ∷ record { name = codes "reword"; request = reword_in }
    ∷ record { name = codes "unword"; request = unword_in }
    ∷ record { name = codes "grammar"; request = grammar_in }
    ∷ record { name = codes "add"; request = add_in }
    ∷ record { name = codes "edit"; request = edit_in }
    ∷ record { name = codes "remove"; request = remove_in }
    ∷ record { name = codes "retract"; request = retract_in }
    ∷ record { name = codes "reassert"; request = reassert_in }
    ∷ record { name = codes "read"; request = read_in }
    ∷ record { name = codes "axioms"; request = axioms_in }
    ∷ record { name = codes "open"; request = open_in }
    ∷ record { name = codes "type"; request = type_in }
    ∷ record { name = codes "back"; request = back_in }
    ∷ record { name = codes "menu"; request = menu_in }
    ∷ record { name = codes "commit"; request = commit_in }
    ∷ record { name = codes "refresh"; request = refresh_in }
    ∷ record { name = codes "drop"; request = drop_in }
    ∷ []

-- the request of this name that an object describes
unfoldable pub request_named : Data → List ℕ → Option Request
request_named value name = option_and_then (λ row. row.request value) (find (λ row. bytes_eq name row.name) rows)

-- the request that an object describes: `do` names it, and keys that it doesn't need count for nothing
abbrev pub request_in : Data → Option Request
request_in value = option_and_then (request_named value) (text_at (codes "do") value)

-- the value that a line writes, if it is UTF-8 and JSON
abbrev pub data_of : List ℕ → Option Data
data_of line = if is_utf8 line then read line else None

-- the request of a line that is short enough
unfoldable pub request_of : List ℕ → Option Request
request_of line = if nat_lt (length line) MAX_LINE then option_and_then request_in (data_of line) else None

-- ---- what a line of the input asks

-- the names by which a change of sentences is taken back, or done again
abbrev pub change_named : List ℕ → Option LineRequest
change_named name = if bytes_eq name (codes "undo") then Some lines.Undo else (if bytes_eq name (codes "redo") then Some lines.Redo else None)

-- the request that an object describes; or, by its name alone, that a change is taken back or done again
unfoldable pub line_request_in : Data → Option LineRequest
line_request_in value = option_or (option_map lines.Step (request_in value)) (option_and_then change_named (text_at (codes "do") value))

-- the same of a line that is short enough
unfoldable pub line_request_of : List ℕ → Option LineRequest
line_request_of line = if nat_lt (length line) MAX_LINE then option_and_then line_request_in (data_of line) else None

-- ---- the line of a request

-- the member that tells a place, if there is one, before others
abbrev pub with_place : Option ℕ → Members → Members
with_place None members = members
with_place (Some place) members = member (codes "at") (number (unsigned place)) members

-- the line of a request with this name for a place
abbrev pub place_value : List ℕ → List ℕ → ℕ → Data
place_value name article place = object
    (member (codes "article") (string article)
    (member (codes "at") (number (unsigned place))
    (member (codes "do") (string name) no_members)))

-- the line of a request with this name for a session
abbrev pub session_value : List ℕ → ℕ → Data
session_value name session = object
    (member (codes "do") (string name)
    (member (codes "session") (number (unsigned session)) no_members))

abbrev pub request_value : Request → Data
request_value (requests.OnWiki (of_wiki.Word kind forms)) = object
    (member (codes "do") (string (codes "word"))
    (member (codes "forms") (array (texts_items forms))
    (member (codes "kind") (string (kind_name kind)) no_members)))
request_value (requests.OnWord word of_word.Find) = object
    (member (codes "do") (string (codes "find"))
    (member (codes "word") (string word) no_members))
request_value (requests.OnWiki of_wiki.Words) = object (member (codes "do") (string (codes "words")) no_members)
request_value (requests.OnWiki (of_wiki.Parse text)) = object
    (member (codes "do") (string (codes "parse"))
    (member (codes "text") (string text) no_members))
request_value (requests.OnWord word (of_word.Reword forms)) = object
    (member (codes "do") (string (codes "reword"))
    (member (codes "forms") (array (texts_items forms))
    (member (codes "word") (string word) no_members)))
request_value (requests.OnWord word of_word.Unword) = object
    (member (codes "do") (string (codes "unword"))
    (member (codes "word") (string word) no_members))
request_value (requests.OnWiki (of_wiki.Grammar text)) = object
    (member (codes "do") (string (codes "grammar"))
    (member (codes "text") (string text) no_members))
request_value (requests.OnArticle article (of_article.Add place text)) = object
    (member (codes "article") (string article)
    (with_place place
    (member (codes "do") (string (codes "add"))
    (member (codes "text") (string text) no_members))))
request_value (requests.OnArticle article (of_article.Edit place text)) = object
    (member (codes "article") (string article)
    (member (codes "at") (number (unsigned place))
    (member (codes "do") (string (codes "edit"))
    (member (codes "text") (string text) no_members))))
request_value (requests.OnArticle article (of_article.Remove place)) = place_value (codes "remove") article place
request_value (requests.OnArticle article (of_article.Retract place)) = place_value (codes "retract") article place
request_value (requests.OnArticle article (of_article.Reassert place)) = place_value (codes "reassert") article place
request_value (requests.OnArticle article of_article.Read) = object
    (member (codes "article") (string article)
    (member (codes "do") (string (codes "read")) no_members))
request_value (requests.OnArticle article (of_article.Axioms place)) = place_value (codes "axioms") article place
request_value (requests.OnArticle article of_article.Open) = object
    (member (codes "article") (string article)
    (member (codes "do") (string (codes "open")) no_members))
request_value (requests.OnSession session (of_session.Type text)) = object
    (member (codes "do") (string (codes "type"))
    (member (codes "session") (number (unsigned session))
    (member (codes "text") (string text) no_members)))
request_value (requests.OnSession session of_session.Back) = session_value (codes "back") session
request_value (requests.OnSession session of_session.Menu) = session_value (codes "menu") session
request_value (requests.OnSession session of_session.Commit) = session_value (codes "commit") session
request_value (requests.OnSession session of_session.Refresh) = session_value (codes "refresh") session
request_value (requests.OnSession session of_session.Drop) = session_value (codes "drop") session

abbrev pub request_line : Request → List ℕ
request_line request = line_text (request_value request)
