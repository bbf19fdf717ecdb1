-- What a request tells in its line: its texts and its numbers.
use Rattle.std.specs.Prelude.{◌≡◌, ◌⊎◌, ℕ, zero, suc, ◌+◌, ◌*◌, ◌≤◌, List, [], ◌∷◌, ◌++◌, length, All, Some, None, Option, IsUtf8, ◌==◌, nat_lt, if◌then◌else◌, Bool, true, IsTrue}
use Rattle.serde_json.specs.Written.{compact_text}
use Rattle.wiki_base.specs.declared.text.TheConstants.{LONGEST_TEXT}
use Rattle.wiki_base.specs.declared.tokens.TheConstants.{MOST_TOKENS}
use Rattle.wiki_io.specs.declared.limits.TheConstants.{NEWLINE, MAX_LINE}
use Rattle.lexicon.specs.declared.words.TheConstants.{LAST_NUMBER}
use Rattle.wiki_talk.specs.declared.requests.Request.{Request}
use Rattle.wiki_talk.specs.declared.requests.LineRequest.{LineRequest}
use Rattle.wiki_talk.specs.declared.requests.LineRequest.TheVariants.{Step}
use Rattle.wiki_talk.specs.declared.requests.Request.TheVariants as requests
use Rattle.wiki_talk.specs.declared.requests.WikiRequest.TheVariants as of_wiki
use Rattle.wiki_talk.specs.declared.requests.WordRequest.TheVariants as of_word
use Rattle.wiki_talk.specs.declared.requests.ArticleRequest.TheVariants as of_article
use Rattle.wiki_talk.specs.declared.requests.SessionRequest.TheVariants as of_session
use Rattle.wire_json.specs.Requests.{request_value}

-- the texts of a request
abbrev pub texts_of : Request → List (List ℕ)
texts_of (requests.OnWiki (of_wiki.Word kind forms)) = forms
texts_of (requests.OnWord word of_word.Find) = word ∷ []
texts_of (requests.OnWiki of_wiki.Words) = []
texts_of (requests.OnWiki (of_wiki.Parse text)) = text ∷ []
texts_of (requests.OnWord word (of_word.Reword forms)) = word ∷ forms
texts_of (requests.OnWord word of_word.Unword) = word ∷ []
texts_of (requests.OnWiki (of_wiki.Grammar text)) = text ∷ []
texts_of (requests.OnArticle article (of_article.Add place text)) = article ∷ text ∷ []
texts_of (requests.OnArticle article (of_article.Edit place text)) = article ∷ text ∷ []
texts_of (requests.OnArticle article (of_article.Remove place)) = article ∷ []
texts_of (requests.OnArticle article (of_article.Retract place)) = article ∷ []
texts_of (requests.OnArticle article (of_article.Reassert place)) = article ∷ []
texts_of (requests.OnArticle article of_article.Read) = article ∷ []
texts_of (requests.OnArticle article (of_article.Axioms place)) = article ∷ []
texts_of (requests.OnArticle article of_article.Open) = article ∷ []
texts_of (requests.OnSession session (of_session.Type text)) = text ∷ []
texts_of (requests.OnSession session of_session.Back) = []
texts_of (requests.OnSession session of_session.Menu) = []
texts_of (requests.OnSession session of_session.Commit) = []
texts_of (requests.OnSession session of_session.Refresh) = []
texts_of (requests.OnSession session of_session.Drop) = []

-- the number of a place or of a session, if the request has one
abbrev pub numbers_of : Request → List ℕ
numbers_of (requests.OnWiki (of_wiki.Word kind forms)) = []
numbers_of (requests.OnWord word of_word.Find) = []
numbers_of (requests.OnWiki of_wiki.Words) = []
numbers_of (requests.OnWiki (of_wiki.Parse text)) = []
numbers_of (requests.OnWord word (of_word.Reword forms)) = []
numbers_of (requests.OnWord word of_word.Unword) = []
numbers_of (requests.OnWiki (of_wiki.Grammar text)) = []
numbers_of (requests.OnArticle article (of_article.Add None text)) = []
numbers_of (requests.OnArticle article (of_article.Add (Some place) text)) = place ∷ []
numbers_of (requests.OnArticle article (of_article.Edit place text)) = place ∷ []
numbers_of (requests.OnArticle article (of_article.Remove place)) = place ∷ []
numbers_of (requests.OnArticle article (of_article.Retract place)) = place ∷ []
numbers_of (requests.OnArticle article (of_article.Reassert place)) = place ∷ []
numbers_of (requests.OnArticle article of_article.Read) = []
numbers_of (requests.OnArticle article (of_article.Axioms place)) = place ∷ []
numbers_of (requests.OnArticle article of_article.Open) = []
numbers_of (requests.OnSession session (of_session.Type text)) = session ∷ []
numbers_of (requests.OnSession session of_session.Back) = session ∷ []
numbers_of (requests.OnSession session of_session.Menu) = session ∷ []
numbers_of (requests.OnSession session of_session.Commit) = session ∷ []
numbers_of (requests.OnSession session of_session.Refresh) = session ∷ []
numbers_of (requests.OnSession session of_session.Drop) = session ∷ []

-- a line can tell the request: its texts are UTF-8, and its numbers such as a line can have
pub record CanBeTold (request : Request) : Type 0 where
  pub texts : All IsUtf8 (texts_of request)
  pub numbers : All (λ n. n ≤ LAST_NUMBER) (numbers_of request)

-- the bytes of all texts
abbrev pub total : List (List ℕ) → ℕ
total [] = 0
total (text ∷ texts) = length text + total texts

-- the line of a request, without its newline
abbrev pub request_text : Request → List ℕ
request_text request = compact_text (request_value request)

-- the line of a request isn't too long
abbrev pub fits_line : Request → Bool
fits_line request = nat_lt (length (request_text request)) MAX_LINE

-- if the request gives a grammar, its line isn't too long
abbrev pub gives_line : Request → Bool
gives_line (requests.OnWiki (of_wiki.Grammar text)) = fits_line (requests.OnWiki (of_wiki.Grammar text))
gives_line request = true

-- ---- changes of the grammar, of words and of sentences

-- a form of a word
abbrev pub IsShortForm : List ℕ → Type 0
IsShortForm form = length form ≤ LONGEST_TEXT

-- the forms of a word, which are at most a verb's
abbrev pub AreShortForms : List (List ℕ) → Type 0
AreShortForms forms = All IsShortForm forms × (length forms ≤ 3)

-- what shows a sentence: its tokens, with at most one byte more for each
abbrev pub IsShortSentence : List ℕ → Type 0
IsShortSentence sentence = length sentence ≤ MOST_TOKENS * (LONGEST_TEXT + 1)

-- the request is a change of words or sentences whose texts are no longer than those of a wiki, or one of the grammar that a line can hold
abbrev pub IsShortChange : Request → Type 0
IsShortChange (requests.OnWiki (of_wiki.Word kind forms)) = AreShortForms forms
IsShortChange (requests.OnWord word (of_word.Reword forms)) = IsShortForm word × AreShortForms forms
IsShortChange (requests.OnWord word of_word.Unword) = IsShortForm word
IsShortChange (requests.OnWiki (of_wiki.Grammar text)) = IsTrue (fits_line (requests.OnWiki (of_wiki.Grammar text)))
IsShortChange (requests.OnArticle article (of_article.Add place text)) = IsShortForm article × IsShortSentence text
IsShortChange (requests.OnArticle article (of_article.Edit place text)) = IsShortForm article × IsShortSentence text
IsShortChange (requests.OnArticle article (of_article.Remove place)) = IsShortForm article
IsShortChange (requests.OnArticle article (of_article.Retract place)) = IsShortForm article
IsShortChange (requests.OnArticle article (of_article.Reassert place)) = IsShortForm article
IsShortChange request = ⊥

-- such a change that a line can tell
abbrev pub IsToldChange : Request → Type 0
IsToldChange request = CanBeTold request × IsShortChange request

-- the most bytes of the line of a change of words or sentences, its newline among them
abbrev pub most_line : ℕ
most_line = 16040

-- the same of such a change: the line of a grammar is as long as a line may be
abbrev pub most_for : Request → ℕ
most_for (requests.OnWiki (of_wiki.Grammar text)) = MAX_LINE
most_for request = most_line

-- the bytes are whole lines, or none
abbrev pub EndsLine : List ℕ → Type 0
EndsLine bytes = (bytes ≡ []) ⊎ ((front : List ℕ) × (bytes ≡ front ++ NEWLINE ∷ []))

-- the bytes with the newline that their last line may lack
abbrev pub ended : List ℕ → List ℕ
ended [] = []
ended (b ∷ []) = if b == NEWLINE then b ∷ [] else b ∷ NEWLINE ∷ []
ended (b ∷ c ∷ bytes) = b ∷ ended (c ∷ bytes)

-- what the line of a request asks
abbrev pub asked_for : Request → Option LineRequest
asked_for request = Some (Step request)

-- What the first n bytes of a request's line ask: nothing where there are none, no request where the line was cut, and the request where at
-- most its newline lacks.
abbrev pub asked_by_front : ℕ → Request → List (Option LineRequest)
asked_by_front zero request = []
asked_by_front (suc n) request = if nat_lt (suc n) (length (request_text request)) then None ∷ [] else asked_for request ∷ []
