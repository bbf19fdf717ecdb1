-- The compact text of a request's value reads as that value, and the value as that request.
use Rattle.std.proofs.Common.{◌≡◌, ℕ, ◌≤◌, true, List, [], ◌∷◌, All, IsUtf8, Option, Some, None, codes, option_and_then, refl, sym, ap, ◌∙◌, arith, append-nil}
use Rattle.std.proofs.lemmas.Bool.{le-leb}
use Rattle.std.proofs.lemmas.List.Elements.{All-head, All-tail}
use Rattle.std.specs.Fmt.{decimal}
use Rattle.json.specs.Token.{Token}
use Rattle.json.specs.Json as json
use Rattle.json.specs.Tree as tree
use Rattle.json.proofs.Printed.Trees.{value-json_tokens}
use Rattle.json.proofs.Printed.Utf8.{are_ascii, IsUtf8-are_ascii}
use Rattle.serde_json.specs.Data.{Data, number, unsigned}
use Rattle.serde_json.specs.Read.{number_of, of_json, of_items, read, max_depth}
use Rattle.serde_json.specs.Written.{outline, items_outline, compact_text}
use Rattle.serde_json.proofs.Numbers.{number_of-decimal}
use Rattle.lexicon.specs.declared.kinds.Kind.{Kind}
use Rattle.lexicon.specs.declared.kinds.Kind.TheVariants.{Name, Noun, Of, Verb, Adjective}
use Rattle.lexicon.specs.declared.words.TheConstants.{LAST_NUMBER}
use Rattle.wiki_talk.specs.declared.requests.Request.{Request}
use Rattle.wiki_talk.specs.declared.requests.Request.TheVariants as requests
use Rattle.wiki_talk.specs.declared.requests.WikiRequest.TheVariants as of_wiki
use Rattle.wiki_talk.specs.declared.requests.WordRequest.TheVariants as of_word
use Rattle.wiki_talk.specs.declared.requests.ArticleRequest.TheVariants as of_article
use Rattle.wiki_talk.specs.declared.requests.SessionRequest.TheVariants as of_session
use Rattle.wiki_talk.specs.Kinds.{kind_name, kind_named}
use Rattle.wire_json.specs.Values.{texts_items}
use Rattle.wire_json.specs.Requests as wire
use Rattle.wire_json.specs.Requests.{request_value, request_in, request_named, texts_in, place_value, session_value, word_in, on_word_in, parse_in, reword_in, grammar_in, on_article_in, add_in, place_in, edit_in, type_in}
use Rattle.wire_json.specs.Told.{CanBeTold, request_text}
use Rattle.wire_json.proofs.TextLemmas.{IsTold, AreTold, tokens-compact_text}

-- ---- any value

abbrev whole : Option (json.Json × List Token) → Option Data
whole found = option_and_then of_json (option_and_then (λ p. json.if_last p.0 p.1) found)

-- a value that comes back from its outline is read from its text
pub read-compact_text : (d : Data) → IsTold d → of_json (outline d) ≡ Some d → tree.depth (outline d) ≤ max_depth → read (compact_text d) ≡ Some d
read-compact_text d told same shallow =
    ap whole (ap (json.value max_depth) (tokens-compact_text d told ∙ sym (append-nil _)) ∙ value-json_tokens (outline d) max_depth [] shallow) ∙ same

-- ---- lists of texts

of_items-texts : (texts : List (List ℕ)) → of_items (items_outline (texts_items texts)) ≡ Some (texts_items texts)
of_items-texts [] = refl
of_items-texts (text ∷ texts) = rw (of_items-texts texts) refl

depth-texts : (texts : List (List ℕ)) → tree.items_depth (items_outline (texts_items texts)) ≡ 0
depth-texts [] = refl
depth-texts (text ∷ texts) = rw (depth-texts texts) refl

AreTold-texts : (texts : List (List ℕ)) → All IsUtf8 texts → AreTold (texts_items texts)
AreTold-texts [] h = tt
AreTold-texts (text ∷ texts) h = (All-head IsUtf8 text texts h, AreTold-texts texts (All-tail IsUtf8 text texts h))

texts_in-texts : (texts : List (List ℕ)) → texts_in (texts_items texts) ≡ Some texts
texts_in-texts [] = refl
texts_in-texts (text ∷ texts) = rw (texts_in-texts texts) refl

-- ---- numbers

number_comes_back : (n : ℕ) → n ≤ LAST_NUMBER → number_of (decimal n) ≡ Some (unsigned n)
number_comes_back n h = number_of-decimal n (omega arith)

number_is_told : (n : ℕ) → n ≤ LAST_NUMBER → IsTold (number (unsigned n))
number_is_told n h = omega arith

number_fits : (n : ℕ) → n ≤ LAST_NUMBER → wire.number_of (number (unsigned n)) ≡ Some n
number_fits n h = rw (le-leb n LAST_NUMBER h) refl

-- ---- requests

fits : (n : ℕ) → All (λ m. m ≤ LAST_NUMBER) (n ∷ []) → n ≤ LAST_NUMBER
fits n h = All-head (λ m. m ≤ LAST_NUMBER) n [] h

first : (text : List ℕ) (texts : List (List ℕ)) → All IsUtf8 (text ∷ texts) → IsUtf8 text
first text texts h = All-head IsUtf8 text texts h

others : (text : List ℕ) (texts : List (List ℕ)) → All IsUtf8 (text ∷ texts) → All IsUtf8 texts
others text texts h = All-tail IsUtf8 text texts h

kind_comes_back : (kind : Kind) → kind_named (kind_name kind) ≡ Some kind
kind_comes_back Name = refl
kind_comes_back Noun = refl
kind_comes_back Of = refl
kind_comes_back Verb = refl
kind_comes_back Adjective = refl

-- the value comes back from its outline
pub value_comes_back : (r : Request) → CanBeTold r → of_json (outline (request_value r)) ≡ Some (request_value r)
value_comes_back (requests.OnWiki (of_wiki.Word kind forms)) h = rw (of_items-texts forms) refl
value_comes_back (requests.OnWord word of_word.Find) h = refl
value_comes_back (requests.OnWiki of_wiki.Words) h = refl
value_comes_back (requests.OnWiki (of_wiki.Parse text)) h = refl
value_comes_back (requests.OnWord word (of_word.Reword forms)) h = rw (of_items-texts forms) refl
value_comes_back (requests.OnWord word of_word.Unword) h = refl
value_comes_back (requests.OnWiki (of_wiki.Grammar text)) h = refl
value_comes_back (requests.OnArticle article (of_article.Add None text)) h = refl
value_comes_back (requests.OnArticle article (of_article.Add (Some place) text)) h = rw (number_comes_back place (fits place h.numbers)) refl
value_comes_back (requests.OnArticle article (of_article.Edit place text)) h = rw (number_comes_back place (fits place h.numbers)) refl
value_comes_back (requests.OnArticle article (of_article.Remove place)) h = rw (number_comes_back place (fits place h.numbers)) refl
value_comes_back (requests.OnArticle article (of_article.Retract place)) h = rw (number_comes_back place (fits place h.numbers)) refl
value_comes_back (requests.OnArticle article (of_article.Reassert place)) h = rw (number_comes_back place (fits place h.numbers)) refl
value_comes_back (requests.OnArticle article of_article.Read) h = refl
value_comes_back (requests.OnArticle article (of_article.Axioms place)) h = rw (number_comes_back place (fits place h.numbers)) refl
value_comes_back (requests.OnArticle article of_article.Open) h = refl
value_comes_back (requests.OnSession session (of_session.Type text)) h = rw (number_comes_back session (fits session h.numbers)) refl
value_comes_back (requests.OnSession session of_session.Back) h = rw (number_comes_back session (fits session h.numbers)) refl
value_comes_back (requests.OnSession session of_session.Menu) h = rw (number_comes_back session (fits session h.numbers)) refl
value_comes_back (requests.OnSession session of_session.Commit) h = rw (number_comes_back session (fits session h.numbers)) refl
value_comes_back (requests.OnSession session of_session.Refresh) h = rw (number_comes_back session (fits session h.numbers)) refl
value_comes_back (requests.OnSession session of_session.Drop) h = rw (number_comes_back session (fits session h.numbers)) refl

-- the value is that of the request
pub request_comes_back : (r : Request) → CanBeTold r → request_in (request_value r) ≡ Some r
unfolding request_named word_in on_word_in parse_in reword_in grammar_in on_article_in add_in place_in edit_in type_in
request_comes_back (requests.OnWiki (of_wiki.Word kind forms)) h = rw (kind_comes_back kind, texts_in-texts forms) refl
request_comes_back (requests.OnWord word of_word.Find) h = refl
request_comes_back (requests.OnWiki of_wiki.Words) h = refl
request_comes_back (requests.OnWiki (of_wiki.Parse text)) h = refl
request_comes_back (requests.OnWord word (of_word.Reword forms)) h = rw (texts_in-texts forms) refl
request_comes_back (requests.OnWord word of_word.Unword) h = refl
request_comes_back (requests.OnWiki (of_wiki.Grammar text)) h = refl
request_comes_back (requests.OnArticle article (of_article.Add None text)) h = refl
request_comes_back (requests.OnArticle article (of_article.Add (Some place) text)) h = rw (le-leb place LAST_NUMBER (fits place h.numbers)) refl
request_comes_back (requests.OnArticle article (of_article.Edit place text)) h = rw (le-leb place LAST_NUMBER (fits place h.numbers)) refl
request_comes_back (requests.OnArticle article (of_article.Remove place)) h = rw (le-leb place LAST_NUMBER (fits place h.numbers)) refl
request_comes_back (requests.OnArticle article (of_article.Retract place)) h = rw (le-leb place LAST_NUMBER (fits place h.numbers)) refl
request_comes_back (requests.OnArticle article (of_article.Reassert place)) h = rw (le-leb place LAST_NUMBER (fits place h.numbers)) refl
request_comes_back (requests.OnArticle article of_article.Read) h = refl
request_comes_back (requests.OnArticle article (of_article.Axioms place)) h = rw (le-leb place LAST_NUMBER (fits place h.numbers)) refl
request_comes_back (requests.OnArticle article of_article.Open) h = refl
request_comes_back (requests.OnSession session (of_session.Type text)) h = rw (le-leb session LAST_NUMBER (fits session h.numbers)) refl
request_comes_back (requests.OnSession session of_session.Back) h = rw (le-leb session LAST_NUMBER (fits session h.numbers)) refl
request_comes_back (requests.OnSession session of_session.Menu) h = rw (le-leb session LAST_NUMBER (fits session h.numbers)) refl
request_comes_back (requests.OnSession session of_session.Commit) h = rw (le-leb session LAST_NUMBER (fits session h.numbers)) refl
request_comes_back (requests.OnSession session of_session.Refresh) h = rw (le-leb session LAST_NUMBER (fits session h.numbers)) refl
request_comes_back (requests.OnSession session of_session.Drop) h = rw (le-leb session LAST_NUMBER (fits session h.numbers)) refl

-- ---- the values are told

kind_is_ascii : (kind : Kind) → IsUtf8 (kind_name kind)
kind_is_ascii Name = IsUtf8-are_ascii _ refl
kind_is_ascii Noun = IsUtf8-are_ascii _ refl
kind_is_ascii Of = IsUtf8-are_ascii _ refl
kind_is_ascii Verb = IsUtf8-are_ascii _ refl
kind_is_ascii Adjective = IsUtf8-are_ascii _ refl

key : (name : List ℕ) → are_ascii name ≡ true → IsUtf8 name
key name ascii = IsUtf8-are_ascii name ascii

IsTold-place : (name article : List ℕ) (place : ℕ) → IsUtf8 name → All IsUtf8 (article ∷ []) → All (λ n. n ≤ LAST_NUMBER) (place ∷ [])
    → IsTold (place_value name article place)
IsTold-place name article place named text small =
    (key (codes "article") refl, first article [] text, (key (codes "at") refl, number_is_told place (fits place small), (key (codes "do") refl, named, tt)))

IsTold-session : (name : List ℕ) (session : ℕ) → IsUtf8 name → All (λ n. n ≤ LAST_NUMBER) (session ∷ []) → IsTold (session_value name session)
IsTold-session name session named small =
    (key (codes "do") refl, named, (key (codes "session") refl, number_is_told session (fits session small), tt))

second : (one two : List ℕ) → All IsUtf8 (one ∷ two ∷ []) → IsUtf8 two
second one two h = first two [] (others one (two ∷ []) h)

pub IsTold-request : (r : Request) → CanBeTold r → IsTold (request_value r)
IsTold-request (requests.OnWiki (of_wiki.Word kind forms)) h =
    (key (codes "do") refl, key (codes "word") refl, (key (codes "forms") refl, AreTold-texts forms h.texts, (key (codes "kind") refl, kind_is_ascii kind, tt)))
IsTold-request (requests.OnWord word of_word.Find) h =
    (key (codes "do") refl, key (codes "find") refl, (key (codes "word") refl, first word [] h.texts, tt))
IsTold-request (requests.OnWiki of_wiki.Words) h =
    (key (codes "do") refl, key (codes "words") refl, tt)
IsTold-request (requests.OnWiki (of_wiki.Parse text)) h =
    (key (codes "do") refl, key (codes "parse") refl, (key (codes "text") refl, first text [] h.texts, tt))
IsTold-request (requests.OnWord word (of_word.Reword forms)) h = (
  key (codes "do") refl,
  key (codes "reword") refl,
  (key (codes "forms") refl, AreTold-texts forms (others word forms h.texts), (key (codes "word") refl, first word forms h.texts, tt)),
)
IsTold-request (requests.OnWord word of_word.Unword) h =
    (key (codes "do") refl, key (codes "unword") refl, (key (codes "word") refl, first word [] h.texts, tt))
IsTold-request (requests.OnWiki (of_wiki.Grammar text)) h =
    (key (codes "do") refl, key (codes "grammar") refl, (key (codes "text") refl, first text [] h.texts, tt))
IsTold-request (requests.OnArticle article (of_article.Add None text)) h = (
  key (codes "article") refl,
  first article (text ∷ []) h.texts,
  (key (codes "do") refl, key (codes "add") refl, (key (codes "text") refl, second article text h.texts, tt)),
)
IsTold-request (requests.OnArticle article (of_article.Add (Some place) text)) h = (
  key (codes "article") refl,
  first article (text ∷ []) h.texts,
  (
    key (codes "at") refl,
    number_is_told place (fits place h.numbers),
    (key (codes "do") refl, key (codes "add") refl, (key (codes "text") refl, second article text h.texts, tt)),
  ),
)
IsTold-request (requests.OnArticle article (of_article.Edit place text)) h = (
  key (codes "article") refl,
  first article (text ∷ []) h.texts,
  (
    key (codes "at") refl,
    number_is_told place (fits place h.numbers),
    (key (codes "do") refl, key (codes "edit") refl, (key (codes "text") refl, second article text h.texts, tt)),
  ),
)
IsTold-request (requests.OnArticle article (of_article.Remove place)) h =
    IsTold-place (codes "remove") article place (key (codes "remove") refl) h.texts h.numbers
IsTold-request (requests.OnArticle article (of_article.Retract place)) h =
    IsTold-place (codes "retract") article place (key (codes "retract") refl) h.texts h.numbers
IsTold-request (requests.OnArticle article (of_article.Reassert place)) h =
    IsTold-place (codes "reassert") article place (key (codes "reassert") refl) h.texts h.numbers
IsTold-request (requests.OnArticle article of_article.Read) h =
    (key (codes "article") refl, first article [] h.texts, (key (codes "do") refl, key (codes "read") refl, tt))
IsTold-request (requests.OnArticle article (of_article.Axioms place)) h =
    IsTold-place (codes "axioms") article place (key (codes "axioms") refl) h.texts h.numbers
IsTold-request (requests.OnArticle article of_article.Open) h =
    (key (codes "article") refl, first article [] h.texts, (key (codes "do") refl, key (codes "open") refl, tt))
IsTold-request (requests.OnSession session (of_session.Type text)) h = (
  key (codes "do") refl,
  key (codes "type") refl,
  (key (codes "session") refl, number_is_told session (fits session h.numbers), (key (codes "text") refl, first text [] h.texts, tt)),
)
IsTold-request (requests.OnSession session of_session.Back) h = IsTold-session (codes "back") session (key (codes "back") refl) h.numbers
IsTold-request (requests.OnSession session of_session.Menu) h = IsTold-session (codes "menu") session (key (codes "menu") refl) h.numbers
IsTold-request (requests.OnSession session of_session.Commit) h = IsTold-session (codes "commit") session (key (codes "commit") refl) h.numbers
IsTold-request (requests.OnSession session of_session.Refresh) h = IsTold-session (codes "refresh") session (key (codes "refresh") refl) h.numbers
IsTold-request (requests.OnSession session of_session.Drop) h = IsTold-session (codes "drop") session (key (codes "drop") refl) h.numbers

-- ---- they are shallow

shallow : (r : Request) → tree.depth (outline (request_value r)) ≤ max_depth
shallow (requests.OnWiki (of_wiki.Word kind forms)) = rw (depth-texts forms) (omega arith)
shallow (requests.OnWord word of_word.Find) = omega arith
shallow (requests.OnWiki of_wiki.Words) = omega arith
shallow (requests.OnWiki (of_wiki.Parse text)) = omega arith
shallow (requests.OnWord word (of_word.Reword forms)) = rw (depth-texts forms) (omega arith)
shallow (requests.OnWord word of_word.Unword) = omega arith
shallow (requests.OnWiki (of_wiki.Grammar text)) = omega arith
shallow (requests.OnArticle article (of_article.Add None text)) = omega arith
shallow (requests.OnArticle article (of_article.Add (Some place) text)) = omega arith
shallow (requests.OnArticle article (of_article.Edit place text)) = omega arith
shallow (requests.OnArticle article (of_article.Remove place)) = omega arith
shallow (requests.OnArticle article (of_article.Retract place)) = omega arith
shallow (requests.OnArticle article (of_article.Reassert place)) = omega arith
shallow (requests.OnArticle article of_article.Read) = omega arith
shallow (requests.OnArticle article (of_article.Axioms place)) = omega arith
shallow (requests.OnArticle article of_article.Open) = omega arith
shallow (requests.OnSession session (of_session.Type text)) = omega arith
shallow (requests.OnSession session of_session.Back) = omega arith
shallow (requests.OnSession session of_session.Menu) = omega arith
shallow (requests.OnSession session of_session.Commit) = omega arith
shallow (requests.OnSession session of_session.Refresh) = omega arith
shallow (requests.OnSession session of_session.Drop) = omega arith

-- the line's text reads as the request's value
pub read-request_text : (r : Request) → CanBeTold r → read (request_text r) ≡ Some (request_value r)
read-request_text r h = read-compact_text (request_value r) (IsTold-request r h) (value_comes_back r h) (shallow r)
