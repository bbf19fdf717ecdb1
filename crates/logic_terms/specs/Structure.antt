-- Discourse representation structures as trees, apart from the memory that a `Drs` lies in.
-- After Kamp and Reyle, From Discourse to Logic, 1993.
use Rattle.std.specs.Prelude.{ℕ, List, [], ◌∷◌}
use Rattle.wiki_base.specs.declared.numbers.WordId.{WordId}
use Rattle.logic_terms.specs.declared.structures.Thing.{Thing}

mutual
  pub data Condition : Type 0 where
    IsA : WordId → Thing → Condition
    AreRelated : WordId → Thing → Thing → Condition
    AreSame : Thing → Thing → Condition
    Negation : Structure → Condition
    Implication : Structure → Structure → Condition
    Disjunction : Structure → Structure → Condition

  -- the conditions of a structure
  pub data Conditions : Type 0 where
    no_condition : Conditions
    also_condition : Condition → Conditions → Conditions

  -- the referents that it introduces, and what it says of them
  pub data Structure : Type 0 where
    structure : List ℕ → Conditions → Structure

-- a list of conditions as those of a structure, and back
abbrev pub conditions_from : List Condition → Conditions
conditions_from [] = no_condition
conditions_from (c ∷ cs) = also_condition c (conditions_from cs)

abbrev pub condition_list : Conditions → List Condition
condition_list no_condition = []
condition_list (also_condition c cs) = c ∷ condition_list cs

abbrev pub referents_in : Structure → List ℕ
referents_in (structure rs cs) = rs

abbrev pub conditions_in : Structure → List Condition
conditions_in (structure rs cs) = condition_list cs
