-- The elements of class words, and the pairs of relation words, in a branch's model. Only private calls speak of it.
use Rattle.std.specs.Prelude.{ℕ, ◌+◌, List, [], ◌∷◌, Option, slice_get, if◌then◌else◌}
use Rattle.std.specs.Option.{option_map_or, option_and_then}
use Rattle.wiki_base.specs.declared.numbers.WordId.{WordId}
use Rattle.logic_terms.specs.declared.expressions.Role.{Role}
use Rattle.logic_terms.specs.Concept.{Concept}
use Rattle.logic_terms.specs.Parts.{word_part}
use Rattle.logic_terms.specs.Same.{same_role}
use Rattle.logic_terms.specs.Theory.{Theory}
use Rattle.tableau_rules.specs.declared.branch.Edge.{Edge}
use Rattle.tableau_rules.specs.Graph.{Graph, label_at}
use Rattle.branch_model.specs.Entries.{placed}

-- an element is put in the extents of the class words of a label
abbrev pub labelled : ℕ → List Concept → List (WordId × List ℕ) → List (WordId × List ℕ)
labelled e [] es = es
labelled e (c ∷ cs) es = labelled e cs (option_map_or (λ word. placed word e es) (word_part c) es)

-- the elements from a number on, each in the extents of the class words of its owner's label
abbrev pub extents : Graph → ℕ → List ℕ → List (WordId × List ℕ) → List (WordId × List ℕ)
extents g e [] es = es
extents g e (z ∷ zs) es = extents g (e + 1) zs (labelled e (label_at g z) es)

-- a pair of a role, turned where the role is inverted
abbrev pub paired : Role → ℕ → ℕ → List (WordId × List (ℕ × ℕ)) → List (WordId × List (ℕ × ℕ))
paired role a b es = if role.inverted then placed role.id (b, a) es else placed role.id (a, b) es

-- a pair of each role above a role by these pairs
abbrev pub paired_above : List (Role × Role) → Role → ℕ → ℕ → List (WordId × List (ℕ × ℕ)) → List (WordId × List (ℕ × ℕ))
paired_above [] role a b es = es
paired_above (p ∷ ps) role a b es = paired_above ps role a b (if same_role p.0 role then paired p.1 a b es else es)

-- these pairs of a role, each with those of the roles above it
abbrev pub paired_all : List (Role × Role) → Role → List (ℕ × ℕ) → List (WordId × List (ℕ × ℕ)) → List (WordId × List (ℕ × ℕ))
paired_all hierarchy role [] es = es
paired_all hierarchy role (p ∷ ps) es = paired_all hierarchy role ps (paired_above hierarchy role p.0 p.1 (paired role p.0 p.1 es))

-- the element that a node stands for
abbrev pub stand_of : List (Option ℕ) → ℕ → Option ℕ
stand_of stands x = option_and_then (λ s. s) (slice_get stands x)

-- the pairs of an edge between nodes with elements
abbrev pub linked : Theory → List (Option ℕ) → Edge → List (WordId × List (ℕ × ℕ)) → List (WordId × List (ℕ × ℕ))
linked k stands edge es =
    option_map_or (λ a. option_map_or (λ b. paired_above k.hierarchy edge.role a b (paired edge.role a b es)) (stand_of stands edge.to) es)
    (stand_of stands edge.from) es

-- the pairs of edges
abbrev pub links : Theory → List (Option ℕ) → List Edge → List (WordId × List (ℕ × ℕ)) → List (WordId × List (ℕ × ℕ))
links k stands [] es = es
links k stands (edge ∷ edges) es = links k stands edges (linked k stands edge es)
