-- The names in structures.
use Rattle.std.specs.Prelude.{◌&&◌, Bool, true}
use Rattle.wiki_base.specs.declared.numbers.WordId.{WordId}
use Rattle.logic_terms.specs.declared.structures.Thing.{Thing}
use Rattle.logic_terms.specs.declared.structures.Thing.TheVariants.{Ref, Name}
use Rattle.logic_terms.specs.Structure.{Condition, Conditions, Structure, IsA, AreRelated, AreSame, Negation, Implication, Disjunction, no_condition, also_condition, structure}

-- a thing that is a name passes the test
abbrev pub thing_passes : (WordId → Bool) → Thing → Bool
thing_passes test (Ref r) = true
thing_passes test (Name name) = test name

-- each name in a structure passes the test
abbrev mutual
  pub names_pass : (WordId → Bool) → Structure → Bool
  names_pass test (structure rs cs) = names_pass_all test cs

  pub names_pass_all : (WordId → Bool) → Conditions → Bool
  names_pass_all test no_condition = true
  names_pass_all test (also_condition c cs) = names_pass_in test c && names_pass_all test cs

  pub names_pass_in : (WordId → Bool) → Condition → Bool
  names_pass_in test (IsA noun t) = thing_passes test t
  names_pass_in test (AreRelated word t u) = thing_passes test t && thing_passes test u
  names_pass_in test (AreSame t u) = thing_passes test t && thing_passes test u
  names_pass_in test (Negation k) = names_pass test k
  names_pass_in test (Implication k l) = names_pass test k && names_pass test l
  names_pass_in test (Disjunction k l) = names_pass test k && names_pass test l
