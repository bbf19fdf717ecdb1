-- The contradictions of a branch.
use Rattle.std.specs.Prelude.{ℕ, ◌&&◌, ◌||◌, Bool, false, length, slice_get, Option}
use Rattle.std.specs.List.{list_any}
use Rattle.std.specs.Option.{option_map_or}
use Rattle.wiki_base.specs.declared.numbers.WordId.{WordId}
use Rattle.logic_terms.specs.declared.expressions.Role.{Role}
use Rattle.logic_terms.specs.Concept.{Concept, Everything, Atomic, ComplementOf}
use Rattle.logic_terms.specs.Interpretation.{is_word}
use Rattle.logic_terms.specs.Meaning.{some_below}
use Rattle.logic_terms.specs.Parts.{word_part, complement_part, value_part}
use Rattle.logic_terms.specs.Same.{same_concept, has_concept}
use Rattle.logic_terms.specs.Theory.{Theory, representative}
use Rattle.tableau_rules.specs.declared.step.Clash.{Clash}
use Rattle.tableau_rules.specs.declared.step.Clash.TheVariants.{Pair, NoThing, NoValue, Names}
use Rattle.tableau_rules.specs.Graph.{Graph, label_at, class_at}
use Rattle.tableau_rules.specs.Neighbours.{node_of, is_neighbour, makes_neighbour}

-- whether there is a value, and it passes a test
abbrev pub passes : {X : Type 0} → Option X → (X → Bool) → Bool
passes o test = option_map_or test o false

-- whether two names have one representative
abbrev pub are_joined : Theory → WordId → WordId → Bool
are_joined k a b = passes (representative k a) (λ r. passes (representative k b) (is_word r))

-- whether a class is the complement of a value, and the value's role and node pass a test
abbrev pub value_clashes : Theory → Concept → (Role → ℕ → Bool) → Bool
value_clashes k c test = passes (complement_part c) (λ d. passes (value_part d) (λ v. passes (node_of k v.1) (test v.0)))

-- whether this clash is there
abbrev pub is_clash : Theory → Graph → Clash → Bool
is_clash k g (Pair x named denied) =
    passes (class_at g x named) (λ c. passes (word_part c) (λ word. passes (class_at g x denied) (λ d. same_concept d (ComplementOf (Atomic word)))))
is_clash k g (NoThing x place) = passes (class_at g x place) (λ c. same_concept c (ComplementOf Everything))
is_clash k g (NoValue x place edge) =
    passes (class_at g x place) (λ c. value_clashes k c (λ role y. passes (slice_get g.edges edge) (makes_neighbour k role x y)))
is_clash k g (Names a b) = list_any (λ d. is_word a d.0 && is_word b d.1) k.differences && are_joined k a b

-- whether a class of the label of x is part of a clash there: a class word whose complement is in the label too, the
-- complement of everything, or the complement of a value whose node is a neighbour
abbrev pub clashes_at : Theory → Graph → ℕ → Concept → Bool
clashes_at k g x c =
    passes (word_part c) (λ word. has_concept (label_at g x) (ComplementOf (Atomic word)))
    || (same_concept c (ComplementOf Everything)
    || value_clashes k c (λ role y. is_neighbour k g role x y))

-- whether there is a clash
abbrev pub has_clash : Theory → Graph → Bool
has_clash k g =
    list_any (λ d. are_joined k d.0 d.1) k.differences
    || some_below (length g.nodes) (λ x. list_any (clashes_at k g x) (label_at g x))
