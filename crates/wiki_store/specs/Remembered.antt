-- Answers that were found before. Only the invariant of the store and private calls speak of them.
use Rattle.std.specs.Prelude.{List, All}
use Rattle.wiki_base.specs.declared.numbers.WordId.{WordId}
use Rattle.logic_terms.specs.Concept.{Concept, Claim}
use Rattle.logic_terms.specs.Interpretation.{element_of}
use Rattle.logic_terms.specs.Reading.{IsIn}
use Rattle.logic_terms.specs.Shown.{concept_of}
use Rattle.wiki_parts.specs.Holding.{Holding}
use Rattle.wiki_parts.specs.Spending.{IsCutOff}
use Rattle.plain_wiki.specs.Knowledge.{Knows, live_names, Answer}
use Rattle.wiki_store.specs.declared.remembered.Row.{Row}

-- these names answer the question for the class in the wiki as it is, and those that are in doubt are in it in the kept interpretation
pub record AreAnswers (wiki : Holding) (concept : Concept) (yes doubtful : List WordId) : Type 0 where
  pub claims : List Claim
  pub known : Knows wiki.state claims
  pub answer : Answer claims (live_names wiki.state.words) (IsCutOff wiki.budget) concept yes doubtful
  pub there : All (λ name. IsIn wiki.interpretation concept (element_of wiki.interpretation name)) doubtful

-- what is remembered of a class is what its answers are in the wiki as it is
abbrev pub IsRemembered : Holding → Row → Type 0
IsRemembered wiki row = AreAnswers wiki (concept_of row.class) row.answers.yes row.answers.unknown
