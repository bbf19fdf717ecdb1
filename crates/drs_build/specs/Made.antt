-- Structures in the making, as the program holds them. Only private calls speak of it.
use Rattle.std.specs.Prelude.{map}
use Rattle.logic_terms.specs.Structure.{Structure, structure, conditions_from}
use Rattle.logic_terms.specs.Shown.{condition_of}
use Rattle.drs_build.specs.declared.parts.Parts.{Parts}

-- the structure of these referents and conditions
abbrev pub structure_in : Parts → Structure
structure_in parts = structure parts.referents.items (conditions_from (map condition_of parts.conditions.items))
