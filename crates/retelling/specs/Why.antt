-- Why a sentence isn't asserted, and why a name answers a question: a least list of sentences that contradict each other.
use Rattle.std.specs.Prelude.{◌≡◌, ◌⊎◌, ℕ, Bool, true, All, IsTrue, List, [], ◌∷◌, ◌++◌, codes, map, slice_get, Option, Some, None}
use Rattle.std.specs.Fmt.{decimal}
use Rattle.std.specs.List.{AllZip, flat_map}
use Rattle.std.specs.Option.{option_map_or}
use Rattle.wiki_base.specs.declared.numbers.Place.{Place}
use Rattle.wiki_base.specs.declared.numbers.WordId.{WordId}
use Rattle.lexicon.specs.Words.{canonical_form_of}
use Rattle.derivation_trees.specs.Cutting.{shown}
use Rattle.logic_terms.specs.Complement.{complement}
use Rattle.logic_terms.specs.Concept.{Concept, Claim, ClassAssertion}
use Rattle.absorb.specs.Mentioned.{is_among}
use Rattle.reasoner.specs.Verdicts.{HaveNoModel}
use Rattle.explain.specs.Reasons.{places_of, stated_at, without, IsReason, IsAsked, IsUndecided}
use Rattle.articles.specs.declared.sentences.Sentence.{Sentence}
use Rattle.articles.specs.Articles.{sentence_at}
use Rattle.plain_wiki.specs.State.{Stored}
use Rattle.plain_wiki.specs.Knowledge.{HaveModel, live_names}
use Rattle.plain_wiki.specs.Meanings.{asking, Means}
use Rattle.plain_wiki.specs.Places.{word_named, told_place}
use Rattle.plain_wiki.specs.Causes.{may_reassert}
use Rattle.wiki_core.specs.Parts.{counted, States}

-- ---- of what a reason is looked for

-- The wiki with a sentence that states axioms and isn't asserted: the places of the asserted sentences with it among them, and the
-- axioms of each.
pub record IsRedCase (state : Stored) (word : WordId) (at : ℕ) (places : List Place) (parts : List (List Claim)) : Type 0 where
  pub sentence : Sentence
  pub there : sentence_at state.articles word at ≡ Some sentence
  pub back : may_reassert sentence.status ≡ true
  pub are : places ≡ map told_place (counted (Some (record { article = word; at = at })) state.articles)
  pub stated : AllZip (States state.grammar state.words) (counted (Some (record { article = word; at = at })) state.articles) parts

-- The wiki with the denial that a name is in the class that a question asks for: the places of the asserted sentences, the axioms of
-- each, and a last part that is the denial.
pub record IsAnswerCase (state : Stored) (word : WordId) (at : ℕ) (name : WordId) (places : List Place) (parts : List (List Claim)) : Type 0 where
  pub sentence : Sentence
  pub there : sentence_at state.articles word at ≡ Some sentence
  pub concept : Concept
  pub asks : Means state.grammar state.words sentence.tokens (asking concept)
  pub lives : IsTrue (is_among (live_names state.words) name)
  pub are : places ≡ map told_place (counted None state.articles)
  pub own : List (List Claim)
  pub stated : AllZip (States state.grammar state.words) (counted None state.articles) own
  pub with_denial : parts ≡ own ++ (ClassAssertion (complement concept) name ∷ []) ∷ []

-- the case of the sentence at a place of the article that a form names, or of that and a name
pub record IsRedCaseOf (state : Stored) (form : List ℕ) (at : ℕ) (places : List Place) (parts : List (List Claim)) : Type 0 where
  pub word : WordId
  pub named : word_named state form ≡ Some word
  pub is : IsRedCase state word at places parts

pub record IsAnswerCaseOf (state : Stored) (form : List ℕ) (at : ℕ) (name : List ℕ) (places : List Place) (parts : List (List Claim)) : Type 0 where
  pub word : WordId
  pub named : word_named state form ≡ Some word
  pub other : WordId
  pub named_so : word_named state name ≡ Some other
  pub is : IsAnswerCase state word at other places parts

abbrev pub IsCase : Stored → List ℕ → ℕ → Option (List ℕ) → List Place → List (List Claim) → Type 0
IsCase state form at None places parts = IsRedCaseOf state form at places parts
IsCase state form at (Some name) places parts = IsAnswerCaseOf state form at name places parts

-- ---- what is told

-- the line of a sentence: the canonical form of its article's word, its place, and what shows its tokens
abbrev pub line_of_sentence : Stored → Place → Sentence → List ℕ
line_of_sentence state place sentence =
    option_map_or (λ form. form) (canonical_form_of state.words.live place.article) []
    ++ (codes " " ++ (decimal place.at ++ (codes " " ++ (shown state.grammar.terminals sentence.tokens ++ codes "\n"))))

-- the line of the sentence at a place
abbrev pub line_at : Stored → Place → List ℕ
line_at state place = option_map_or (line_of_sentence state place) (sentence_at state.articles place.article place.at) []

-- the lines of those of the sentences at places that are kept; a part that is no sentence has none
abbrev pub reason_lines : Stored → List Place → List ℕ → List ℕ
reason_lines state places kept = flat_map (λ k. option_map_or (line_at state) (slice_get places k) []) kept

-- The lines of the reason, whose axioms contradict each other, while without any one of its parts the others have a model.
pub record TellsReason (state : Stored) (places : List Place) (parts : List (List Claim)) (text : List ℕ) : Type 0 where
  pub kept : List ℕ
  pub reason : IsReason parts kept
  pub contradicts : HaveNoModel (stated_at parts kept)
  pub each_needed : All (λ k. HaveModel (stated_at parts (without k kept))) kept
  pub told : text ≡ reason_lines state places kept

-- all parts have a model
pub record TellsConsistent (parts : List (List Claim)) (text : List ℕ) : Type 0 where
  pub model : HaveModel (stated_at parts (places_of parts))
  pub told : text ≡ codes "consistent\n"

-- of a list that the search asks of it was not found out within the budget whether it has a model
pub record TellsBudget (state : Stored) (budget : ℕ) (parts : List (List Claim)) (text : List ℕ) : Type 0 where
  pub asked : List ℕ
  pub is_asked : IsAsked parts asked
  pub undecided : IsUndecided (stated_at parts asked) (live_names state.words) budget
  pub told : text ≡ codes "budget\n"

-- what is told of parts
abbrev pub TellsOf : Stored → ℕ → List Place → List (List Claim) → List ℕ → Type 0
TellsOf state budget places parts text = TellsReason state places parts text ⊎ (TellsConsistent parts text ⊎ TellsBudget state budget parts text)

-- what is told where the parts are those of a case, and where there is none
abbrev pub TellsCase : Stored → ℕ → (List Place → List (List Claim) → Type 0) → List ℕ → Type 0
TellsCase state budget Case text =
    ((places : List Place) × (parts : List (List Claim)) × Case places parts × TellsOf state budget places parts text)
    ⊎ (((places : List Place) (parts : List (List Claim)) → ¬ Case places parts) × (text ≡ codes "no case\n"))

-- what is told of a sentence, and a name, where searches may take so many rule applications
abbrev pub TellsWhy : Stored → ℕ → List ℕ → ℕ → Option (List ℕ) → List ℕ → Type 0
TellsWhy state budget form at name text = TellsCase state budget (IsCase state form at name) text
