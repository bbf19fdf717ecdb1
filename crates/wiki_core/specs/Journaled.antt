-- The changes of a run, as requests that make them again, and what stands after these.
use Rattle.std.specs.Prelude.{◌≡◌, ◌+◌, ◌*◌, ◌++◌, ◌≤◌, ℕ, Bool, true, false, List, [], ◌∷◌, length, All, IsUtf8, Some, None}
use Rattle.std.specs.List.{flat_map, list_any}
use Rattle.wiki_base.specs.declared.text.TheConstants.{LONGEST_TEXT}
use Rattle.wiki_base.specs.declared.tokens.TheConstants.{MOST_TOKENS}
use Rattle.codeco_terms.specs.GrammarParts.{GrammarParts}
use Rattle.codeco_reader.specs.Texts.{IsTextOf}
use Rattle.lexicon.specs.declared.words.TheConstants.{LAST_NUMBER}
use Rattle.derivation_trees.specs.Cutting.{is_terminal, IsNotRaised}
use Rattle.wiki_talk.specs.declared.statuses.Status.{Status}
use Rattle.wiki_talk.specs.declared.statuses.Status.TheVariants.{RedBudget}
use Rattle.wiki_talk.specs.declared.replies.Reply.{Reply}
use Rattle.wiki_talk.specs.declared.replies.Reply.TheVariants as replies
use Rattle.wiki_talk.specs.declared.requests.Request.{Request}
use Rattle.wiki_talk.specs.declared.requests.Request.TheVariants as requests
use Rattle.wiki_talk.specs.declared.requests.WikiRequest.TheVariants as of_wiki
use Rattle.wiki_talk.specs.declared.requests.WordRequest.TheVariants as of_word
use Rattle.wiki_talk.specs.declared.requests.ArticleRequest.TheVariants as of_article
use Rattle.wiki_talk.specs.Turns.{Exchange, answered, no_request, Turns}
use Rattle.plain_wiki.specs.State.{State, first_state}
use Rattle.plain_wiki.specs.Step.{Step}
use Rattle.wiki_parts.specs.Spending.{IsCutOff}

-- ---- changes

-- a request that changes the grammar, words or sentences; what is done in a session is gone with it
abbrev pub own_change : Request → List Request
own_change (requests.OnWiki (of_wiki.Word kind forms)) = requests.OnWiki (of_wiki.Word kind forms) ∷ []
own_change (requests.OnWord word (of_word.Reword forms)) = requests.OnWord word (of_word.Reword forms) ∷ []
own_change (requests.OnWord word of_word.Unword) = requests.OnWord word of_word.Unword ∷ []
own_change (requests.OnWiki (of_wiki.Grammar text)) = requests.OnWiki (of_wiki.Grammar text) ∷ []
own_change (requests.OnArticle article (of_article.Add place text)) = requests.OnArticle article (of_article.Add place text) ∷ []
own_change (requests.OnArticle article (of_article.Edit place text)) = requests.OnArticle article (of_article.Edit place text) ∷ []
own_change (requests.OnArticle article (of_article.Remove place)) = requests.OnArticle article (of_article.Remove place) ∷ []
own_change (requests.OnArticle article (of_article.Retract place)) = requests.OnArticle article (of_article.Retract place) ∷ []
own_change (requests.OnArticle article (of_article.Reassert place)) = requests.OnArticle article (of_article.Reassert place) ∷ []
own_change request = []

-- a sentence that is added or put in place of another, by what shows it, and not by the text that was sent
abbrev pub shown_change : Request → List ℕ → List Request
shown_change (requests.OnArticle article (of_article.Add place text)) shown = requests.OnArticle article (of_article.Add place shown) ∷ []
shown_change (requests.OnArticle article (of_article.Edit place text)) shown = requests.OnArticle article (of_article.Edit place shown) ∷ []
shown_change request shown = []

-- the change that a request with this reply has made, as the request that makes it again: of a session's sentence, that it is added at
-- the end of its article; none of what was refused or changes no words or sentences
abbrev pub changes_by : Request → Reply → List Request
changes_by request (replies.Refused refusal) = []
changes_by request (replies.Commit article status shown) = requests.OnArticle article (of_article.Add None shown) ∷ []
changes_by request (replies.Add status shown) = shown_change request shown
changes_by request (replies.Edit status shown) = shown_change request shown
changes_by request reply = own_change request

abbrev pub changes_in : Exchange Request Reply → List Request
changes_in (answered request reply) = changes_by request reply
changes_in no_request = []

-- the changes of a run, in order
abbrev pub changes_of : List (Exchange Request Reply) → List Request
changes_of exchanges = flat_map changes_in exchanges

-- the requests of a run, in order
abbrev pub asked_in : Exchange Request Reply → List Request
asked_in (answered request reply) = request ∷ []
asked_in no_request = []

abbrev pub asked_of : List (Exchange Request Reply) → List Request
asked_of exchanges = flat_map asked_in exchanges

-- ---- spent budgets

-- the sentence waits for more budget
abbrev pub is_spent : Status → Bool
is_spent RedBudget = true
is_spent status = false

-- the reply tells of a sentence that was judged that the budget was spent
abbrev pub tells_spent : Reply → Bool
tells_spent (replies.Add status shown) = is_spent status
tells_spent (replies.Edit status shown) = is_spent status
tells_spent (replies.Reassert status) = is_spent status
tells_spent (replies.Commit article status shown) = is_spent status
tells_spent reply = false

abbrev pub is_spent_in : Exchange Request Reply → Bool
is_spent_in (answered request reply) = tells_spent reply
is_spent_in no_request = false

-- no reply of the run tells that a budget was spent
abbrev pub SpendsNone : List (Exchange Request Reply) → Type 0
SpendsNone exchanges = list_any is_spent_in exchanges ≡ false

-- ---- texts

-- the forms that are given for a word, and the text of a grammar, are in UTF-8
abbrev pub GivesUtf8 : Request → Type 0
GivesUtf8 (requests.OnWiki (of_wiki.Word kind forms)) = All IsUtf8 forms
GivesUtf8 (requests.OnWord word (of_word.Reword forms)) = All IsUtf8 forms
GivesUtf8 (requests.OnWiki (of_wiki.Grammar text)) = IsUtf8 text
GivesUtf8 request = Unit {0}

-- no terminal is another one with its first letter raised to upper case, so that the first word of a sentence tells which it is
abbrev pub NoneIsRaised : List (List ℕ) → Type 0
NoneIsRaised terminals = (token : List ℕ) → is_terminal terminals token ≡ true → IsNotRaised terminals token

-- the same of the grammar that a request gives
abbrev pub GivesUnraised : Request → Type 0
GivesUnraised (requests.OnWiki (of_wiki.Grammar text)) = (g : GrammarParts) → IsTextOf text g → NoneIsRaised g.terminals
GivesUnraised request = Unit {0}

-- each terminal is in UTF-8
abbrev pub AreUtf8 : List (List ℕ) → Type 0
AreUtf8 terminals = (terminal : List ℕ) → is_terminal terminals terminal ≡ true → IsUtf8 terminal

-- ---- changes in lines

-- the place that a request names, if it names one, is a number of 32 bits
abbrev pub HasShortPlace : Request → Type 0
HasShortPlace (requests.OnArticle article (of_article.Add (Some place) text)) = place ≤ LAST_NUMBER
HasShortPlace (requests.OnArticle article (of_article.Edit place text)) = place ≤ LAST_NUMBER
HasShortPlace (requests.OnArticle article (of_article.Remove place)) = place ≤ LAST_NUMBER
HasShortPlace (requests.OnArticle article (of_article.Retract place)) = place ≤ LAST_NUMBER
HasShortPlace (requests.OnArticle article (of_article.Reassert place)) = place ≤ LAST_NUMBER
HasShortPlace request = Unit {0}

-- the request is one that a program can hold: the forms that it gives are in UTF-8, and its place has 32 bits
pub record IsHeld (request : Request) : Type 0 where
  pub utf8 : GivesUtf8 request
  pub place : HasShortPlace request

-- a form of a word: in UTF-8, and of at most 64 bytes
abbrev pub IsPlainForm : List ℕ → Type 0
IsPlainForm form = IsUtf8 form × (length form ≤ LONGEST_TEXT)

-- what is given for a word: forms, of which a verb has three
abbrev pub ArePlainForms : List (List ℕ) → Type 0
ArePlainForms forms = All IsPlainForm forms × (length forms ≤ 3)

-- what shows a sentence: in UTF-8, and of at most 40 tokens, each of at most 64 bytes with a byte more before it
abbrev pub IsPlainSentence : List ℕ → Type 0
IsPlainSentence text = IsUtf8 text × (length text ≤ MOST_TOKENS * (LONGEST_TEXT + 1))

-- the texts of a change are forms, and what shows a sentence; that of a grammar is as long as it was sent
abbrev pub HasPlainTexts : Request → Type 0
HasPlainTexts (requests.OnWiki (of_wiki.Word kind forms)) = ArePlainForms forms
HasPlainTexts (requests.OnWord word (of_word.Reword forms)) = IsPlainForm word × ArePlainForms forms
HasPlainTexts (requests.OnWord word of_word.Unword) = IsPlainForm word
HasPlainTexts (requests.OnWiki (of_wiki.Grammar text)) = IsUtf8 text
HasPlainTexts (requests.OnArticle article (of_article.Add place text)) = IsPlainForm article × IsPlainSentence text
HasPlainTexts (requests.OnArticle article (of_article.Edit place text)) = IsPlainForm article × IsPlainSentence text
HasPlainTexts (requests.OnArticle article (of_article.Remove place)) = IsPlainForm article
HasPlainTexts (requests.OnArticle article (of_article.Retract place)) = IsPlainForm article
HasPlainTexts (requests.OnArticle article (of_article.Reassert place)) = IsPlainForm article
HasPlainTexts request = ⊥

-- the request is a change of the grammar, words or sentences, and but for the text of a grammar a short line can tell it
abbrev pub FitsLine : Request → Type 0
FitsLine request = HasPlainTexts request × HasShortPlace request

-- Each change of a run but for that of the grammar fits a short line, however long the text was that was sent.
abbrev pub ChangesFitLines : GrammarParts → Type 0
ChangesFitLines g =
    (budget : ℕ) (exchanges : List (Exchange Request Reply)) (last : State) → Turns (Step (IsCutOff budget)) (first_state g) exchanges last
    → All GivesUtf8 (asked_of exchanges) → All GivesUnraised (asked_of exchanges) → All HasShortPlace (asked_of exchanges)
    → All FitsLine (changes_of exchanges)

-- ---- what stands

-- What stands is what is read. Take any run, and another one that is asked for all of a first part of it again, and then for the changes
-- of the rest. Where no grammar that is given has a terminal that is another one raised, and no reply of the two tells that a budget was
-- spent, the second run ends with the grammar, the words, the last number of a word,
-- the articles, their revisions, their sentences and statuses with which the first one ends.
abbrev pub StandsAgain : GrammarParts → Type 0
StandsAgain g =
    (budget its_budget : ℕ) (former exchanges again : List (Exchange Request Reply)) (mid last its_last : State)
    → Turns (Step (IsCutOff budget)) (first_state g) former mid → Turns (Step (IsCutOff budget)) mid exchanges last
    → Turns (Step (IsCutOff its_budget)) (first_state g) again its_last → asked_of again ≡ asked_of former ++ changes_of exchanges
    → All GivesUtf8 (asked_of former) → All GivesUtf8 (asked_of exchanges)
    → All GivesUnraised (asked_of former) → All GivesUnraised (asked_of exchanges)
    → SpendsNone former → SpendsNone exchanges → SpendsNone again
    → its_last.stored ≡ last.stored
