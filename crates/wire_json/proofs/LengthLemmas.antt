-- How long the line of a request is.
use Rattle.std.proofs.Common.{◌≡◌, ℕ, ◌+◌, ◌*◌, ◌<◌, ◌≤◌, Bool, true, false, List, [], ◌∷◌, ◌++◌, length, All, Some, None, decimal, refl, ap, ◌∙◌, arith, nat_le, ltb-true}
use Rattle.std.proofs.lemmas.Bool.Decides.{nat_tests}
use Rattle.std.proofs.lemmas.List.{length-append}
use Rattle.std.proofs.lemmas.List.Elements.{All-head, All-tail}
use Rattle.json.specs.Print.{escape_byte, quoted}
use Rattle.serde_json.specs.Data.{Data, null, boolean, number, string, array, object, Items, no_items, item, Members, no_members, member}
use Rattle.serde_json.specs.Written.{number_text, compact_text, items_text, members_text}
use Rattle.wiki_base.specs.declared.text.TheConstants.{LONGEST_TEXT}
use Rattle.lexicon.specs.declared.kinds.Kind.{Kind}
use Rattle.lexicon.specs.declared.kinds.Kind.TheVariants.{Name, Noun, Of, Verb, Adjective}
use Rattle.lexicon.specs.declared.words.TheConstants.{LAST_NUMBER}
use Rattle.wiki_io.specs.declared.limits.TheConstants.{MAX_LINE}
use Rattle.wiki_talk.specs.declared.requests.Request.{Request}
use Rattle.wiki_talk.specs.declared.requests.Request.TheVariants as requests
use Rattle.wiki_talk.specs.declared.requests.WikiRequest.TheVariants as of_wiki
use Rattle.wiki_talk.specs.declared.requests.WordRequest.TheVariants as of_word
use Rattle.wiki_talk.specs.declared.requests.ArticleRequest.TheVariants as of_article
use Rattle.wiki_talk.specs.declared.requests.SessionRequest.TheVariants as of_session
use Rattle.wiki_talk.specs.Kinds.{kind_name}
use Rattle.wire_json.specs.Values.{line_text, texts_items}
use Rattle.wire_json.specs.Requests.{request_value, request_line}
use Rattle.wire_json.specs.Told.{texts_of, total, CanBeTold, request_text, IsShortForm, IsShortChange, most_line, most_for, fits_line, gives_line}
use Rattle.wire_json.proofs.TextLemmas.{length-quoted, length-number}

-- ---- the bytes of a value, with one comma too many in each list

abbrev mutual
  size : Data → ℕ
  size null = 4
  size (boolean b) = 5
  size (number n) = length (number_text n)
  size (string s) = length (quoted s)
  size (array ds) = 1 + items_size ds
  size (object ms) = 1 + members_size ms

  items_size : Items → ℕ
  items_size no_items = 1
  items_size (item d ds) = 1 + size d + items_size ds

  members_size : Members → ℕ
  members_size no_members = 1
  members_size (member k d ms) = 1 + length (quoted k) + 1 + size d + members_size ms

mutual
  length-compact_text : (d : Data) → length (compact_text d) ≤ size d
  length-compact_text null = omega arith
  length-compact_text (boolean true) = omega arith
  length-compact_text (boolean false) = omega arith
  length-compact_text (number n) = omega arith
  length-compact_text (string s) = omega arith
  length-compact_text (array ds) = omega (arith, length-items_text false ds)
  length-compact_text (object ms) = omega (arith, length-members_text false ms)

  length-items_text : (later : Bool) (ds : Items) → length (items_text later ds) ≤ items_size ds
  length-items_text later no_items = omega arith
  length-items_text true (item d ds) =
      omega (arith, length-compact_text d, length-items_text true ds, length-append (compact_text d) (items_text true ds))
  length-items_text false (item d ds) =
      omega (arith, length-compact_text d, length-items_text true ds, length-append (compact_text d) (items_text true ds))

  length-members_text : (later : Bool) (ms : Members) → length (members_text later ms) ≤ members_size ms
  length-members_text later no_members = omega arith
  length-members_text true (member k d ms) = omega (
    arith,
    length-compact_text d,
    length-members_text true ms,
    length-append (compact_text d) (members_text true ms),
    length-append (quoted k) (58 ∷ (compact_text d ++ members_text true ms)),
  )
  length-members_text false (member k d ms) = omega (
    arith,
    length-compact_text d,
    length-members_text true ms,
    length-append (compact_text d) (members_text true ms),
    length-append (quoted k) (58 ∷ (compact_text d ++ members_text true ms)),
  )

size-texts : (texts : List (List ℕ)) → items_size (texts_items texts) ≤ 6 * total texts + 3 * length texts + 1
size-texts [] = omega arith
size-texts (text ∷ texts) = omega (arith, size-texts texts, length-quoted text)

-- ---- requests

digits : (n : ℕ) → All (λ m. m ≤ LAST_NUMBER) (n ∷ []) → length (decimal n) ≤ 10
digits n h = let fits : n ≤ LAST_NUMBER = All-head (λ m. m ≤ LAST_NUMBER) n [] h in length-number n (omega arith)

size-kind : (kind : Kind) → length (quoted (kind_name kind)) ≤ 11
unfolding escape_byte
size-kind Name = omega arith
size-kind Noun = omega arith
size-kind Of = omega arith
size-kind Verb = omega arith
size-kind Adjective = omega arith

size-request : (r : Request) → CanBeTold r → size (request_value r) ≤ 6 * total (texts_of r) + 3 * length (texts_of r) + 49
unfolding escape_byte
size-request (requests.OnWiki (of_wiki.Word kind forms)) h = omega (arith, size-texts forms, size-kind kind)
size-request (requests.OnWord word of_word.Find) h = omega (arith, length-quoted word)
size-request (requests.OnWiki of_wiki.Words) h = omega arith
size-request (requests.OnWiki (of_wiki.Parse text)) h = omega (arith, length-quoted text)
size-request (requests.OnWord word (of_word.Reword forms)) h = omega (arith, size-texts forms, length-quoted word)
size-request (requests.OnWord word of_word.Unword) h = omega (arith, length-quoted word)
size-request (requests.OnWiki (of_wiki.Grammar text)) h = omega (arith, length-quoted text)
size-request (requests.OnArticle article (of_article.Add None text)) h = omega (arith, length-quoted article, length-quoted text)
size-request (requests.OnArticle article (of_article.Add (Some place) text)) h =
    omega (arith, length-quoted article, length-quoted text, digits place h.numbers)
size-request (requests.OnArticle article (of_article.Edit place text)) h = omega (arith, length-quoted article, length-quoted text, digits place h.numbers)
size-request (requests.OnArticle article (of_article.Remove place)) h = omega (arith, length-quoted article, digits place h.numbers)
size-request (requests.OnArticle article (of_article.Retract place)) h = omega (arith, length-quoted article, digits place h.numbers)
size-request (requests.OnArticle article (of_article.Reassert place)) h = omega (arith, length-quoted article, digits place h.numbers)
size-request (requests.OnArticle article of_article.Read) h = omega (arith, length-quoted article)
size-request (requests.OnArticle article (of_article.Axioms place)) h = omega (arith, length-quoted article, digits place h.numbers)
size-request (requests.OnArticle article of_article.Open) h = omega (arith, length-quoted article)
size-request (requests.OnSession session (of_session.Type text)) h = omega (arith, length-quoted text, digits session h.numbers)
size-request (requests.OnSession session of_session.Back) h = omega (arith, digits session h.numbers)
size-request (requests.OnSession session of_session.Menu) h = omega (arith, digits session h.numbers)
size-request (requests.OnSession session of_session.Commit) h = omega (arith, digits session h.numbers)
size-request (requests.OnSession session of_session.Refresh) h = omega (arith, digits session h.numbers)
size-request (requests.OnSession session of_session.Drop) h = omega (arith, digits session h.numbers)

-- a line is its text and a newline
pub request_line-text : (r : Request) → request_line r ≡ request_text r ++ 10 ∷ []
unfolding line_text
request_line-text r = refl

-- The length of a line, its newline included: a byte of a text takes at most six, a text three for its quotes and a comma, and the rest at
-- most 50.
pub length-request_line : (r : Request) → CanBeTold r → length (request_line r) ≤ 6 * total (texts_of r) + 3 * length (texts_of r) + 50
unfolding line_text
length-request_line r h = omega (arith, length-compact_text (request_value r), size-request r h, length-append (request_text r) (10 ∷ []))

-- ---- changes

total-forms : (forms : List (List ℕ)) → All IsShortForm forms → total forms ≤ LONGEST_TEXT * length forms
total-forms [] h = omega arith
total-forms (form ∷ forms) h =
    let one : length form ≤ LONGEST_TEXT = All-head IsShortForm form forms h in
    omega (arith, one, total-forms forms (All-tail IsShortForm form forms h))

-- a line has one byte more than its text
size-line : (r : Request) → length (request_line r) ≡ length (request_text r) + 1
size-line r = rw (request_line-text r) (length-append (request_text r) (10 ∷ []))

-- a line isn't too long exactly where it has at most so many bytes, its newline among them
pub line_fits : (r : Request) (line : List ℕ) → line ≡ request_line r → nat_le (length line) MAX_LINE ≡ fits_line r
line_fits r line is = rw is (grind (arith, nat_tests, size-line r))

-- the line of a change whose texts are no longer than those of a wiki, or of a grammar that a line can hold
pub length-change_line : (r : Request) → CanBeTold r → IsShortChange r → length (request_line r) ≤ most_for r
length-change_line (requests.OnWiki (of_wiki.Word kind forms)) h short =
    omega (arith, length-request_line (requests.OnWiki (of_wiki.Word kind forms)) h, total-forms forms short.0, short.1)
length-change_line (requests.OnWord word of_word.Find) h short = absurd short
length-change_line (requests.OnWiki of_wiki.Words) h short = absurd short
length-change_line (requests.OnWiki (of_wiki.Parse text)) h short = absurd short
length-change_line (requests.OnWord word (of_word.Reword forms)) h short =
    omega (arith, length-request_line (requests.OnWord word (of_word.Reword forms)) h, short.0, total-forms forms short.1.0, short.1.1)
length-change_line (requests.OnWord word of_word.Unword) h short = omega (arith, length-request_line (requests.OnWord word of_word.Unword) h, short)
length-change_line (requests.OnWiki (of_wiki.Grammar text)) h short = omega (arith, size-line (requests.OnWiki (of_wiki.Grammar text)), ltb-true _ _ short)
length-change_line (requests.OnArticle article (of_article.Add place text)) h short =
    omega (arith, length-request_line (requests.OnArticle article (of_article.Add place text)) h, short.0, short.1)
length-change_line (requests.OnArticle article (of_article.Edit place text)) h short =
    omega (arith, length-request_line (requests.OnArticle article (of_article.Edit place text)) h, short.0, short.1)
length-change_line (requests.OnArticle article (of_article.Remove place)) h short =
    omega (arith, length-request_line (requests.OnArticle article (of_article.Remove place)) h, short)
length-change_line (requests.OnArticle article (of_article.Retract place)) h short =
    omega (arith, length-request_line (requests.OnArticle article (of_article.Retract place)) h, short)
length-change_line (requests.OnArticle article (of_article.Reassert place)) h short =
    omega (arith, length-request_line (requests.OnArticle article (of_article.Reassert place)) h, short)
length-change_line (requests.OnArticle article of_article.Read) h short = absurd short
length-change_line (requests.OnArticle article (of_article.Axioms place)) h short = absurd short
length-change_line (requests.OnArticle article of_article.Open) h short = absurd short
length-change_line (requests.OnSession session (of_session.Type text)) h short = absurd short
length-change_line (requests.OnSession session of_session.Back) h short = absurd short
length-change_line (requests.OnSession session of_session.Menu) h short = absurd short
length-change_line (requests.OnSession session of_session.Commit) h short = absurd short
length-change_line (requests.OnSession session of_session.Refresh) h short = absurd short
length-change_line (requests.OnSession session of_session.Drop) h short = absurd short

-- no line has more bytes than the longest
pub most-line : (r : Request) → most_for r ≤ MAX_LINE
most-line (requests.OnWiki (of_wiki.Word kind forms)) = omega arith
most-line (requests.OnWord word of_word.Find) = omega arith
most-line (requests.OnWiki of_wiki.Words) = omega arith
most-line (requests.OnWiki (of_wiki.Parse text)) = omega arith
most-line (requests.OnWord word (of_word.Reword forms)) = omega arith
most-line (requests.OnWord word of_word.Unword) = omega arith
most-line (requests.OnWiki (of_wiki.Grammar text)) = omega arith
most-line (requests.OnArticle article (of_article.Add place text)) = omega arith
most-line (requests.OnArticle article (of_article.Edit place text)) = omega arith
most-line (requests.OnArticle article (of_article.Remove place)) = omega arith
most-line (requests.OnArticle article (of_article.Retract place)) = omega arith
most-line (requests.OnArticle article (of_article.Reassert place)) = omega arith
most-line (requests.OnArticle article of_article.Read) = omega arith
most-line (requests.OnArticle article (of_article.Axioms place)) = omega arith
most-line (requests.OnArticle article of_article.Open) = omega arith
most-line (requests.OnSession session (of_session.Type text)) = omega arith
most-line (requests.OnSession session of_session.Back) = omega arith
most-line (requests.OnSession session of_session.Menu) = omega arith
most-line (requests.OnSession session of_session.Commit) = omega arith
most-line (requests.OnSession session of_session.Refresh) = omega arith
most-line (requests.OnSession session of_session.Drop) = omega arith

-- and none has fewer than that of a change of words or sentences
pub least_most : (r : Request) → most_line ≤ most_for r
least_most (requests.OnWiki (of_wiki.Word kind forms)) = omega arith
least_most (requests.OnWord word of_word.Find) = omega arith
least_most (requests.OnWiki of_wiki.Words) = omega arith
least_most (requests.OnWiki (of_wiki.Parse text)) = omega arith
least_most (requests.OnWord word (of_word.Reword forms)) = omega arith
least_most (requests.OnWord word of_word.Unword) = omega arith
least_most (requests.OnWiki (of_wiki.Grammar text)) = omega arith
least_most (requests.OnArticle article (of_article.Add place text)) = omega arith
least_most (requests.OnArticle article (of_article.Edit place text)) = omega arith
least_most (requests.OnArticle article (of_article.Remove place)) = omega arith
least_most (requests.OnArticle article (of_article.Retract place)) = omega arith
least_most (requests.OnArticle article (of_article.Reassert place)) = omega arith
least_most (requests.OnArticle article of_article.Read) = omega arith
least_most (requests.OnArticle article (of_article.Axioms place)) = omega arith
least_most (requests.OnArticle article of_article.Open) = omega arith
least_most (requests.OnSession session (of_session.Type text)) = omega arith
least_most (requests.OnSession session of_session.Back) = omega arith
least_most (requests.OnSession session of_session.Menu) = omega arith
least_most (requests.OnSession session of_session.Commit) = omega arith
least_most (requests.OnSession session of_session.Refresh) = omega arith
least_most (requests.OnSession session of_session.Drop) = omega arith

-- it is no line that is too long
pub change-fits : (r : Request) → CanBeTold r → IsShortChange r → length (request_text r) < MAX_LINE
change-fits r h short = omega (arith, length-change_line r h short, most-line r, size-line r)
