-- Lists of states that cover the same places and lists. Only private calls speak of it.
use Rattle.std.specs.Prelude.{ℕ, List, [], ◌∷◌, ◌⊎◌}
use Rattle.codeco_terms.specs.declared.values.Value.{Value}
use Rattle.derivation_trees.specs.Derives.{At}
use Rattle.chart_table.specs.declared.states.State.{State}
use Rattle.chart_table.specs.Steps.{Covers}

-- where the state covers, one of the states does
abbrev pub HasState : List State → State → Type 0
HasState states state = (v : List (ℕ × Value)) (at : At) → Covers v at (state ∷ []) → Covers v at states

-- the later states cover where the first or this one do
pub record CoverAlso (before : List State) (state : State) (after : List State) : Type 0 where
  pub kept : (v : List (ℕ × Value)) (at : At) → Covers v at before → Covers v at after
  pub new : (v : List (ℕ × Value)) (at : At) → Covers v at (state ∷ []) → Covers v at after
  pub only : (v : List (ℕ × Value)) (at : At) → Covers v at after → Covers v at before ⊎ Covers v at (state ∷ [])

-- the states cover where the others do
pub record CoverAlike (states others : List State) : Type 0 where
  pub forth : (v : List (ℕ × Value)) (at : At) → Covers v at states → Covers v at others
  pub back : (v : List (ℕ × Value)) (at : At) → Covers v at others → Covers v at states
