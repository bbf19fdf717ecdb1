-- Structures put together.
use Rattle.std.specs.Prelude.{ℕ, [], ◌∷◌, ◌++◌}
use Rattle.logic_terms.specs.Structure.{Condition, Conditions, Structure, no_condition, also_condition, structure}

abbrev pub both : Conditions → Conditions → Conditions
both no_condition ds = ds
both (also_condition c cs) ds = also_condition c (both cs ds)

infixl 60 ◌⊕◌
-- both lists, those of the first structure first
abbrev pub ◌⊕◌ : Structure → Structure → Structure
structure rs cs ⊕ structure qs ds = structure (rs ++ qs) (both cs ds)

-- [ | ]
abbrev pub empty : Structure
empty = structure [] no_condition

-- [ | c]
abbrev pub only : Condition → Structure
only c = structure [] (also_condition c no_condition)

-- [p | ]
abbrev pub introduced : ℕ → Structure
introduced p = structure (p ∷ []) no_condition
