-- What a wiki knows, which statuses that allows, and which names answer a question.
use Rattle.std.specs.Prelude.{◌≡◌, ℕ, ◌<◌, ◌++◌, Bool, true, false, List, [], ◌∷◌, map, filter, All, AllPairs, Contains, MatchBool, IsTrue}
use Rattle.std.specs.List.{flat_map}
use Rattle.wiki_base.specs.declared.numbers.WordId.{WordId}
use Rattle.codeco_terms.specs.GrammarParts.{GrammarParts}
use Rattle.lexicon.specs.declared.kinds.Kind.{Kind}
use Rattle.lexicon.specs.declared.kinds.Kind.TheVariants as kinds
use Rattle.lexicon.specs.Words.{Listed}
use Rattle.logic_terms.specs.Concept.{Concept, Claim, ClassAssertion}
use Rattle.logic_terms.specs.Complement.{complement}
use Rattle.logic_terms.specs.Interpretation.{Interpretation, is_interpretation, element_of}
use Rattle.logic_terms.specs.Reading.{IsIn, IsModel}
use Rattle.wiki_talk.specs.declared.statuses.Status.{Status}
use Rattle.wiki_talk.specs.declared.statuses.Status.TheVariants.{Asserted, RedContradiction, RedBudget, Outside, Question, QuestionOutside}
use Rattle.articles.specs.declared.sentences.Sentence.{Sentence}
use Rattle.articles.specs.declared.article.Article.{Article}
use Rattle.plain_wiki.specs.State.{Stored}
use Rattle.plain_wiki.specs.Meanings.{Meaning, stating, outside, asking, asking_outside, Means}

-- ---- knowledge

abbrev pub is_asserted : Status → Bool
is_asserted Asserted = true
is_asserted other = false

-- the axioms of a sentence, and then these
pub record StatesFirst (g : GrammarParts) (words : Listed) (tokens : List (List ℕ)) (others : List Claim → Type 0) (claims : List Claim) : Type 0 where
  pub own : List Claim
  pub rest : List Claim
  pub means : Means g words tokens (stating own)
  pub follow : others rest
  pub joined : claims ≡ own ++ rest

-- the axioms of those of the sentences that are asserted, in order
abbrev pub AreStated : GrammarParts → Listed → List Sentence → List Claim → Type 0
AreStated g words [] claims = claims ≡ []
AreStated g words (sentence ∷ sentences) claims =
    MatchBool (is_asserted sentence.status) (StatesFirst g words sentence.tokens (AreStated g words sentences) claims) (AreStated g words sentences claims)

-- all sentences, articles in order of word number
abbrev pub sentences_in : List Article → List Sentence
sentences_in articles = flat_map (λ article. article.sentences) articles

-- the axioms of all asserted sentences, articles in order of word number, sentences in order
abbrev pub Knows : Stored → List Claim → Type 0
Knows stored claims = AreStated stored.grammar stored.words (sentences_in stored.articles) claims

abbrev pub is_name : Kind → Bool
is_name kinds.Name = true
is_name other = false

-- the live words that are names, in order of number
abbrev pub live_names : Listed → List WordId
live_names words = map (λ word. word.id) (filter (λ word. is_name word.forms.kind) words.live)

-- ---- statuses

-- a finite interpretation is a model of these axioms, some is, and none is
abbrev pub IsFiniteModel : Interpretation → List Claim → Type 0
IsFiniteModel i claims = IsTrue (is_interpretation i) × IsModel i claims

abbrev pub HaveModel : List Claim → Type 0
HaveModel claims = (i : Interpretation) × IsFiniteModel i claims

abbrev pub HaveNoModel : List Claim → Type 0
HaveNoModel claims = (i : Interpretation) → ¬ IsFiniteModel i claims

-- When a budget counts as spent, by the axioms and the names among which a model was looked for. The plain wiki knows no search: who
-- speaks of its step says when.
abbrev pub Spending : Type 1
Spending = List Claim → List WordId → Type 0

-- The status is allowed: a sentence is asserted only where all axioms, its own among them, have a finite model; it is in contradiction
-- only where they have none; and it waits for budget only where that is spent.
abbrev pub IsAllowed : List Claim → List WordId → Spending → Status → Type 0
IsAllowed claims names IsSpent Asserted = HaveModel claims
IsAllowed claims names IsSpent RedContradiction = HaveNoModel claims
IsAllowed claims names IsSpent RedBudget = IsSpent claims names
IsAllowed claims names IsSpent other = ⊥

-- the status is allowed by all that the wiki knows
pub record IsVerdict (IsSpent : Spending) (stored : Stored) (status : Status) : Type 0 where
  pub claims : List Claim
  pub known : Knows stored claims
  pub allowed : IsAllowed claims (live_names stored.words) IsSpent status

-- The status of a sentence with this meaning, where `asserted` is the wiki with the sentence taken as asserted. A statement
-- with no axioms is asserted.
abbrev pub IsStatusOf : Spending → Stored → Meaning → Status → Type 0
IsStatusOf IsSpent asserted (stating []) status = status ≡ Asserted
IsStatusOf IsSpent asserted (stating (claim ∷ claims)) status = IsVerdict IsSpent asserted status
IsStatusOf IsSpent asserted (outside cause) status = status ≡ Outside cause
IsStatusOf IsSpent asserted (asking concept) status = status ≡ Question
IsStatusOf IsSpent asserted (asking_outside cause) status = status ≡ QuestionOutside cause

-- the tokens get the status, where `asserted` is the wiki with them as an asserted sentence
pub record GetStatus (IsSpent : Spending) (asserted : Stored) (tokens : List (List ℕ)) (status : Status) : Type 0 where
  pub meaning : Meaning
  pub means : Means asserted.grammar asserted.words tokens meaning
  pub fits : IsStatusOf IsSpent asserted meaning status

-- ---- answers

-- the axioms with the name's membership in the complement of a class, in negation normal form
abbrev pub denied : List Claim → Concept → WordId → List Claim
denied claims concept name = claims ++ ClassAssertion (complement concept) name ∷ []

-- the name is in the class in every finite model, and outside of it in some finite model
abbrev pub IsInAll : List Claim → Concept → WordId → Type 0
IsInAll claims concept name =
    (i : Interpretation) → IsTrue (is_interpretation i) → IsModel i claims → IsIn i concept (element_of i name)

abbrev pub IsOutsideSome : List Claim → Concept → WordId → Type 0
IsOutsideSome claims concept name =
    (i : Interpretation) × IsTrue (is_interpretation i) × IsModel i claims × ¬ IsIn i concept (element_of i name)

-- some of the names, in order of number, each once
pub record AreSomeOf (names some_names : List WordId) : Type 0 where
  pub in_order : AllPairs (λ name later. name.0 < later.0) some_names
  pub among : All (Contains names) some_names

-- Which of the names answer the question for a class: those in `yes` are in it in each finite model; of those in `unknown` it
-- wasn't found out, since the budget for a model with the name in the complement was spent; each other name is outside of
-- it in some finite model.
pub record Answer (claims : List Claim) (names : List WordId) (IsSpent : Spending) (concept : Concept) (yes unknown : List WordId) : Type 0 where
  pub answers : AreSomeOf names yes
  pub doubts : AreSomeOf names unknown
  pub apart : All (λ name. ¬ Contains unknown name) yes
  pub sure : All (IsInAll claims concept) yes
  pub cut_off : All (λ name. IsSpent (denied claims concept name) names) unknown
  pub others : (name : WordId) → Contains names name → ¬ Contains yes name → ¬ Contains unknown name → IsOutsideSome claims concept name
