-- What is built of a skeleton.
use Rattle.std.specs.Prelude.{◌≡◌, ℕ, Bool, true, false, List, [], Some, Contains}
use Rattle.std.specs.Option.{option_map_or}
use Rattle.codeco_terms.specs.declared.rules.Label.{Label}
use Rattle.codeco_terms.specs.declared.rules.Label.TheVariants as label
use Rattle.codeco_terms.specs.GrammarParts.{GrammarParts}
use Rattle.lexicon.specs.Words.{Listed}
use Rattle.derivation_trees.specs.declared.skeletons.Skeleton.{Skeleton, out-Skeleton}
use Rattle.derivation_trees.specs.Trees.{Node}
use Rattle.derivation_trees.specs.Derives.{IsDerivation}
use Rattle.derivation_trees.specs.Sentences.{setting_of}
use Rattle.derivation_trees.specs.Skeletons.{skeleton_of}
use Rattle.logic_terms.specs.Free.{free_in, IsClosed}
use Rattle.logic_terms.specs.Shown.{structure_of}
use Rattle.logic_terms.specs.Structure.{referents_in}
use Rattle.logic_terms.specs.Introduced.{IntroducesOnce}
use Rattle.drs_build.specs.declared.building.Built.{Built}
use Rattle.drs_build.specs.declared.building.Built.TheVariants.{Statement, Question, Free}
use Rattle.drs_build.specs.Nodes.{label_of, meaning_of}

-- the skeleton is that of a derivation by the grammar, of some tokens with some lexicon
pub record IsDerived (g : GrammarParts) (sk : Skeleton) : Type 0 where
  pub lexicon : Listed
  pub tokens : List (List ℕ)
  pub tree : Node
  pub derives : IsDerivation (setting_of g lexicon tokens) tree
  pub is : sk ≡ skeleton_of (setting_of g lexicon tokens) tree

abbrev pub is_ask : Label → Bool
is_ask label.Ask = true
is_ask _ = false

-- a question: the root has the label ask
abbrev pub is_question : GrammarParts → Skeleton → Bool
is_question g sk = option_map_or is_ask (label_of g (out-Skeleton sk).rule) false

-- The structure of a statement, or that of a question with the referent asked for, where no referent is free; else the first
-- free referent.
abbrev pub Builds : GrammarParts → Skeleton → Built → Type 0
Builds g sk (Statement drs) = (is_question g sk ≡ false) × (structure_of drs ≡ (meaning_of g sk).says) × IsClosed (meaning_of g sk).says
Builds g sk (Question drs referent) =
    (is_question g sk ≡ true) × (structure_of drs ≡ (meaning_of g sk).says) × (referent ≡ (meaning_of g sk).referent) × IsClosed (meaning_of g sk).says
Builds g sk (Free referent) = free_in [] (meaning_of g sk).says ≡ Some referent

-- no referent of what is built is free
abbrev pub NoneFree : Built → Type 0
NoneFree (Statement drs) = IsClosed (structure_of drs)
NoneFree (Question drs referent) = IsClosed (structure_of drs)
NoneFree (Free referent) = Unit {0}

-- each referent of what is built is introduced once
abbrev pub EachOnce : Built → Type 0
EachOnce (Statement drs) = IntroducesOnce (structure_of drs)
EachOnce (Question drs referent) = IntroducesOnce (structure_of drs)
EachOnce (Free referent) = Unit {0}

-- the referent that a question asks for is one that its structure introduces
abbrev pub AskedIntroduced : Built → Type 0
AskedIntroduced (Statement drs) = Unit {0}
AskedIntroduced (Question drs referent) = Contains (referents_in (structure_of drs)) referent
AskedIntroduced (Free referent) = Unit {0}
