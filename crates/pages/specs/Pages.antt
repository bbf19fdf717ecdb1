-- The pages of the wiki: the index of words, an article, a session, and a refusal.
use Rattle.std.specs.Prelude.{ℕ, List, [], ◌∷◌, ◌++◌, codes, Option, Some, None, unwrap_or, slice_get}
use Rattle.std.specs.List.{flat_map}
use Rattle.std.specs.Fmt.{decimal}
use Rattle.form_urlencoded.specs.Form.{byte_serialize}
use Rattle.lexicon.specs.declared.kinds.Kind.{Kind}
use Rattle.lexicon.specs.Kinds.{canonical_place}
use Rattle.wiki_talk.specs.Kinds.{kind_name}
use Rattle.wiki_talk.specs.Statuses.{status_name}
use Rattle.wiki_talk.specs.declared.statuses.Status.{Status}
use Rattle.wiki_talk.specs.declared.statuses.Status.TheVariants.{Question}
use Rattle.wiki_talk.specs.declared.replies.WordView.{WordView}
use Rattle.wiki_talk.specs.declared.replies.SentenceView.{SentenceView}
use Rattle.wiki_talk.specs.declared.replies.MenuView.{MenuView}
use Rattle.wiki_talk.specs.declared.replies.Reply.{Reply}
use Rattle.wiki_talk.specs.declared.replies.Reply.TheVariants as replies
use Rattle.pages.specs.Html.{escaped, framed}

-- the form that names a word: the text, the singular or the infinitive
abbrev pub canonical : WordView → List ℕ
canonical word = unwrap_or (slice_get word.forms (canonical_place word.kind)) []

-- ---- the index

-- a link to the article of the word that has this form
unfoldable pub word_link : List ℕ → List ℕ
word_link form = codes "<a href=\"/article/" ++ (byte_serialize form ++ (codes "\">" ++ (escaped form ++ codes "</a>")))

unfoldable pub word_item : WordView → List ℕ
word_item word =
    codes "<li>" ++ (word_link (canonical word) ++ (codes " (" ++ (kind_name word.kind ++ codes ")</li>")))

abbrev pub index_body : List WordView → List ℕ
index_body words =
    codes "<h1>AceWiki</h1><ul>" ++ (flat_map word_item words
    ++ codes "</ul><form method=\"post\" action=\"/word\"><input name=\"kind\"><input name=\"forms\"><button>Add</button></form>")

-- all live words, with a form for a new one
abbrev pub index_page : List WordView → List ℕ
index_page words = framed (codes "AceWiki") (index_body words)

-- ---- an article

-- what follows the first of some names: each behind a comma and a space
abbrev pub further : List ℕ → List ℕ
further name = codes ", " ++ escaped name

-- names with a comma and a space between them
abbrev pub joined : List (List ℕ) → List ℕ
joined [] = []
joined (name ∷ names) = escaped name ++ flat_map further names

-- the names that answer a question
abbrev pub answers_shown : List (List ℕ) → List ℕ
answers_shown names = codes " <i>" ++ (joined names ++ codes "</i>")

-- the names of which it wasn't found out, where there are some
abbrev pub unknown_shown : List (List ℕ) → List ℕ
unknown_shown [] = []
unknown_shown (name ∷ names) = codes " <u>" ++ (joined (name ∷ names) ++ codes "</u>")

-- what a question that asks for a class shows beside its text; any other sentence shows nothing
unfoldable pub answers_of : Status → List (List ℕ) → List (List ℕ) → List ℕ
answers_of Question answers unknown = answers_shown answers ++ unknown_shown unknown
answers_of status answers unknown = []

-- a sentence, in an element of this class
unfoldable pub item_of_class : List ℕ → SentenceView → List ℕ
item_of_class class sentence =
    codes "<li class=\"" ++ (class ++ (codes "\">" ++ (escaped sentence.text
    ++ (answers_of sentence.status sentence.answers sentence.unknown ++ codes "</li>"))))

-- a sentence, in an element whose class is the name of its status
unfoldable pub sentence_item : SentenceView → List ℕ
sentence_item sentence = item_of_class (status_name sentence.status) sentence

-- the forms of the article at a path: a text to add, and a button that opens a session
unfoldable pub forms_at : List ℕ → List ℕ
forms_at path =
    codes "<form method=\"post\" action=\"/article/" ++ (path
    ++ (codes "/add\"><input name=\"text\"><button>Add</button></form><form method=\"post\" action=\"/article/" ++ (path
    ++ codes "/open\"><button>Editor</button></form>")))

abbrev pub article_body : List ℕ → List SentenceView → List ℕ
article_body form sentences =
    codes "<h1>" ++ (escaped form ++ (codes "</h1><ol>" ++ (flat_map sentence_item sentences
    ++ (codes "</ol>" ++ forms_at (byte_serialize form)))))

-- an article's sentences, with a form for a new one and one for a session
abbrev pub article_page : List ℕ → List SentenceView → List ℕ
article_page form sentences = framed form (article_body form sentences)

-- ---- a session

abbrev pub token_item : List ℕ → List ℕ
token_item token = codes "<li>" ++ (escaped token ++ codes "</li>")

-- the tokens of a menu, by groups: function words, names, nouns, of-constructs, verbs, adjectives
abbrev pub offered : MenuView → List ℕ
offered menu =
    flat_map token_item menu.function ++ (flat_map token_item menu.name ++ (flat_map token_item menu.noun
    ++ (flat_map token_item menu.of ++ (flat_map token_item menu.verb ++ flat_map token_item menu.adjective))))

-- the forms of a session: a token to type, and buttons that take one back and commit them all
unfoldable pub session_forms : ℕ → List ℕ
session_forms session =
    codes "<form method=\"post\" action=\"/session/" ++ (decimal session
    ++ (codes "/type\"><input name=\"token\"><button>Type</button></form><form method=\"post\" action=\"/session/" ++ (decimal session
    ++ (codes "/back\"><button>Back</button></form><form method=\"post\" action=\"/session/" ++ (decimal session
    ++ codes "/commit\"><button>Commit</button></form>")))))

abbrev pub session_body : ℕ → List ℕ → MenuView → List ℕ
session_body session shown menu =
    codes "<p>" ++ (escaped shown ++ (codes "</p><ul>" ++ (offered menu ++ (codes "</ul>" ++ session_forms session))))

-- a session's tokens and what may follow them
abbrev pub session_page : ℕ → List ℕ → MenuView → List ℕ
session_page session shown menu = framed (codes "Editor") (session_body session shown menu)

-- ---- which reply has which page

-- the page of a reply, which a done `words`, `read` or `menu` has
abbrev pub page_of : ℕ → Reply → Option (List ℕ)
page_of session (replies.Words words) = Some (index_page words)
page_of session (replies.Read form revision sentences) = Some (article_page form sentences)
page_of session (replies.Menu menu whole shown) = Some (session_page session shown menu)
page_of session reply = None

abbrev pub refusal_body : ℕ → List ℕ → List ℕ
refusal_body number name = codes "<p>" ++ (decimal number ++ (codes " " ++ (escaped name ++ codes "</p>")))

-- the page of a refusal, or of a status of HTTP where the wiki wasn't asked
abbrev pub refusal_page : ℕ → List ℕ → List ℕ
refusal_page number name = framed (codes "Refused") (refusal_body number name)
