-- The elements of names in a branch's model. Only private calls speak of it.
use Rattle.std.specs.Prelude.{ℕ, List, map, Option, unwrap_or}
use Rattle.std.specs.Option.{option_map_or}
use Rattle.wiki_base.specs.declared.numbers.WordId.{WordId}
use Rattle.logic_terms.specs.Theory.{Theory}
use Rattle.tableau_rules.specs.Neighbours.{node_of}
use Rattle.branch_model.specs.Extents.{stand_of}

-- the element that a name's node stands for
abbrev pub element_named : Theory → List (Option ℕ) → WordId → ℕ
element_named k stands name = option_map_or (λ x. unwrap_or (stand_of stands x) 0) (node_of k name) 0

abbrev pub named_elements : Theory → List (Option ℕ) → List (WordId × WordId) → List (WordId × ℕ)
named_elements k stands names = map (λ e. (e.0, element_named k stands e.0)) names
