-- What holds in each model of knowledge, and branches that each model fits.
use Rattle.std.specs.Prelude.{◌≡◌, IsTrue}
use Rattle.wiki_base.specs.declared.numbers.WordId.{WordId}
use Rattle.logic_terms.specs.Concept.{Concept}
use Rattle.logic_terms.specs.Interpretation.{Interpretation, is_interpretation, element_of}
use Rattle.logic_terms.specs.Reading.{IsIn}
use Rattle.logic_terms.specs.Theory.{Theory, IsModelOf}
use Rattle.tableau_rules.specs.declared.step.Step.{Step}
use Rattle.tableau_rules.specs.Graph.{Graph}
use Rattle.tableau_rules.specs.Rules.{applies, choices, after}
use Rattle.tableau_rules.specs.Branches.{start}

-- the name is in the class in each finite model of the knowledge
abbrev pub HasInEachModel : Theory → Concept → WordId → Type 0
HasInEachModel k c name = (i : Interpretation) → IsTrue (is_interpretation i) → IsModelOf i k → IsIn i c (element_of i name)

-- a branch to which steps that leave one choice lead from the first branch of the knowledge
pub data IsForced (k : Theory) : Graph → Type 0 where
  begun : IsForced k (start k)
  stepped : (g : Graph) (s : Step) → IsForced k g → IsTrue (applies k g s) → choices g s ≡ 1 → IsForced k (after k g s 0)
