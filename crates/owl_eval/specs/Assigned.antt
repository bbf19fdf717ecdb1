-- Assignments that are built up referent by referent.
use Rattle.std.specs.Prelude.{ℕ, Bool, List, [], ◌∷◌}
use Rattle.std.specs.List.{list_all}
use Rattle.logic_terms.specs.Structure.{Condition, Structure}
use Rattle.logic_terms.specs.Interpretation.{Interpretation}
use Rattle.logic_terms.specs.Meaning.{implies}
use Rattle.logic_terms.specs.Truth.{giving, is_true, condition_true}

-- the assignment that gives element 0 to each referent
abbrev pub nothing_given : ℕ → ℕ
nothing_given r = 0

-- the assignment that gives each referent the element that it was given last
abbrev pub assigned_from : (ℕ → ℕ) → List (ℕ × ℕ) → ℕ → ℕ
assigned_from f [] = f
assigned_from f (e ∷ es) = assigned_from (giving f e.0 e.1) es

abbrev pub assigned : List (ℕ × ℕ) → ℕ → ℕ
assigned es = assigned_from nothing_given es

-- whether each condition of a list is true
abbrev pub each_condition : Interpretation → List Condition → (ℕ → ℕ) → Bool
each_condition i cs f = list_all (λ c. condition_true i c f) cs

-- whether a structure is true if these conditions are
abbrev pub carries_over : Interpretation → List Condition → Structure → (ℕ → ℕ) → Bool
carries_over i cs k f = implies (each_condition i cs f) (is_true i k f)
