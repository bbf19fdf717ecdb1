-- The rules: where each applies, at which place first, and what it adds.
use Rattle.std.specs.Prelude.{ℕ, ◌==◌, ◌&&◌, Bool, false, not, List, [], ◌∷◌, ◌++◌, map, filter, length, slice_get, slice_set, nat_lt, Option, Some, None, if◌then◌else◌}
use Rattle.std.specs.List.{list_any, list_all}
use Rattle.std.specs.Option.{option_and_then, option_map, option_map_or, option_or, option_to_list}
use Rattle.wiki_base.specs.declared.numbers.WordId.{WordId}
use Rattle.logic_terms.specs.declared.expressions.Role.{Role}
use Rattle.logic_terms.specs.Concept.{Concept}
use Rattle.logic_terms.specs.Complement.{complement}
use Rattle.logic_terms.specs.Interpretation.{is_word}
use Rattle.logic_terms.specs.Meaning.{some_below}
use Rattle.logic_terms.specs.Parts.{word_part, intersection_part, union_part, some_part, all_part, value_part}
use Rattle.logic_terms.specs.Same.{has_concept}
use Rattle.logic_terms.specs.Theory.{Theory}
use Rattle.tableau_rules.specs.declared.branch.Edge.{Edge}
use Rattle.tableau_rules.specs.declared.step.Rule.{Rule}
use Rattle.tableau_rules.specs.declared.step.Rule.TheVariants as rule
use Rattle.tableau_rules.specs.declared.step.Step.{Step}
use Rattle.tableau_rules.specs.First.{first_below, where_true}
use Rattle.tableau_rules.specs.Graph.{Graph, Vertex, label_at, class_at}
use Rattle.tableau_rules.specs.Neighbours.{node_of, is_neighbour}
use Rattle.tableau_rules.specs.Blocking.{is_blocked, is_indirectly_blocked}
use Rattle.tableau_rules.specs.Carrying.{role_of_all, along, carriers, carried}

-- whether one of these classes is missing in a label, and whether all are
abbrev pub lacks_some : List Concept → List Concept → Bool
lacks_some label cs = list_any (λ c. not (has_concept label c)) cs

abbrev pub lacks_all : List Concept → List Concept → Bool
lacks_all label cs = list_all (λ c. not (has_concept label c)) cs

-- the classes that a class word unfolds to
abbrev pub unfoldings_of : Theory → WordId → List Concept
unfoldings_of k word = map (λ e. e.1) (filter (λ e. is_word word e.0) k.unfoldings)

-- the members whose complement's normal form is not in the label, each by its place
abbrev pub open_members : List Concept → List Concept → List Concept
open_members label cs = filter (λ c. not (has_concept label (complement c))) cs

-- the member that is left, or else the first
abbrev pub unit_member : List Concept → List Concept → Option Concept
unit_member label cs = option_or (slice_get (open_members label cs) 0) (slice_get cs 0)

-- whether y is a neighbour of x by a role, is not indirectly blocked, and has a class, or lacks it
abbrev pub serves : Theory → Graph → Role → Concept → ℕ → ℕ → Bool
serves k g role c x y = is_neighbour k g role x y && (not (is_indirectly_blocked k g y) && has_concept (label_at g y) c)

abbrev pub needs : Theory → Graph → Role → Concept → ℕ → ℕ → Bool
needs k g role c x y = is_neighbour k g role x y && (not (is_indirectly_blocked k g y) && not (has_concept (label_at g y) c))

-- one row of the table for each rule: whether it applies at x for this class of its label; what it finds is the node y of
-- the rule, and 0 for a rule without y
abbrev pub row : Theory → Graph → Rule → ℕ → Concept → Option ℕ
row k g rule.And x c = option_and_then (λ cs. where_true (lacks_some (label_at g x) cs) 0) (intersection_part c)
row k g rule.Unfold x c = option_and_then (λ word. where_true (lacks_some (label_at g x) (unfoldings_of k word)) 0) (word_part c)
row k g rule.All x c = option_and_then (λ p. first_below (length g.nodes) (λ y. where_true (needs k g p.0 p.1 x y) y)) (all_part c)
row k g rule.Trans x c =
    option_and_then (λ role. first_below (length g.nodes) (λ y. where_true (list_any (λ t. needs k g t (along t c) x y) (carriers k role)) y)) (role_of_all c)
row k g rule.Value x c =
    option_and_then (λ p. option_and_then (λ y. where_true (not (is_blocked k g x) && not (is_neighbour k g p.0 x y)) 0) (node_of k p.1)) (value_part c)
row k g rule.Unit x c =
    option_and_then (λ cs. where_true (lacks_all (label_at g x) cs && nat_lt (length (open_members (label_at g x) cs)) 2) 0) (union_part c)
row k g rule.Or x c = option_and_then (λ cs. where_true (lacks_all (label_at g x) cs) 0) (union_part c)
row k g rule.Some x c =
    option_and_then (λ p. where_true (not (is_blocked k g x) && not (some_below (length g.nodes) (serves k g p.0 p.1 x))) 0) (some_part c)

-- where a rule applies at x for a class of its label: x is never indirectly blocked
abbrev pub site : Theory → Graph → Rule → ℕ → Concept → Option ℕ
site k g r x c = if is_indirectly_blocked k g x then None else row k g r x c

-- the same for the class at a place
abbrev pub site_at : Theory → Graph → Rule → ℕ → ℕ → Option ℕ
site_at k g r x place = option_and_then (site k g r x) (class_at g x place)

-- whether a step applies
abbrev pub applies : Theory → Graph → Step → Bool
applies k g s = option_map_or (λ y. y == s.other) (site_at k g s.rule s.node s.class) false

-- the first step by a rule: the first node, and the first place in its label
abbrev pub first_at : Theory → Graph → Rule → ℕ → Option Step
first_at k g r x =
    first_below (length (label_at g x)) (λ place. option_map (λ y. record { rule = r; node = x; class = place; other = y }) (site_at k g r x place))

abbrev pub first_by : Theory → Graph → Rule → Option Step
first_by k g r = first_below (length g.nodes) (first_at k g r)

-- the first applicable step, by rule, then node, then place in the label
abbrev pub first_step : Theory → Graph → Option Step
first_step k g =
    option_or (first_by k g rule.And) (option_or (first_by k g rule.Unfold) (option_or (first_by k g rule.All) (option_or (first_by k g rule.Trans)
    (option_or (first_by k g rule.Value) (option_or (first_by k g rule.Unit) (option_or (first_by k g rule.Or) (first_by k g rule.Some)))))))

-- a label with a class that it may have already, and with each of several
abbrev pub with_class : List Concept → Concept → List Concept
with_class label c = if has_concept label c then label else label ++ c ∷ []

abbrev pub with_classes : List Concept → List Concept → List Concept
with_classes label [] = label
with_classes label (c ∷ cs) = with_classes (with_class label c) cs

-- a branch with classes at the end of the label of x, and with those of them that are missing there
abbrev pub grown : Graph → ℕ → List Concept → Graph
grown g x cs = option_map_or (λ v. record {
  nodes = slice_set g.nodes x (record { parent = v.parent; label = v.label ++ cs });
  edges = g.edges;
}) (slice_get g.nodes x) g

abbrev pub adding : Graph → ℕ → List Concept → Graph
adding g x cs = option_map_or (λ v. record {
  nodes = slice_set g.nodes x (record { parent = v.parent; label = with_classes v.label cs });
  edges = g.edges;
}) (slice_get g.nodes x) g

-- a branch with an edge, and with a node and the edge to it
abbrev pub with_edge : Graph → Edge → Graph
with_edge g e = record { nodes = g.nodes; edges = g.edges ++ e ∷ [] }

abbrev pub with_node : Graph → Vertex → Edge → Graph
with_node g v e = record { nodes = g.nodes ++ v ∷ []; edges = g.edges ++ e ∷ [] }

-- how many choices a rule leaves for a class: one for each member by `or`, else one
abbrev pub choices_for : Rule → Concept → ℕ
choices_for rule.Or c = option_map_or length (union_part c) 1
choices_for _ c = 1

abbrev pub choices : Graph → Step → ℕ
choices g s = option_map_or (choices_for s.rule) (class_at g s.node s.class) 1

-- what a rule makes of a branch at x for a class of its label, with the node y of the rule
abbrev pub effect : Theory → Graph → Rule → ℕ → Concept → ℕ → ℕ → Graph
effect k g rule.And x c y choice = option_map_or (adding g x) (intersection_part c) g
effect k g rule.Unfold x c y choice = option_map_or (λ word. adding g x (unfoldings_of k word)) (word_part c) g
effect k g rule.All x c y choice = option_map_or (λ p. adding g y (p.1 ∷ [])) (all_part c) g
effect k g rule.Trans x c y choice = option_map_or (λ role. adding g y (carried k g role c x y)) (role_of_all c) g
effect k g rule.Value x c y choice =
    option_map_or (λ p. option_map_or (λ z. with_edge g (record { from = x; role = p.0; to = z })) (node_of k p.1) g) (value_part c) g
effect k g rule.Unit x c y choice = option_map_or (λ cs. adding g x (option_to_list (unit_member (label_at g x) cs))) (union_part c) g
effect k g rule.Or x c y choice = option_map_or (λ cs. adding g x (option_to_list (slice_get cs choice))) (union_part c) g
effect k g rule.Some x c y choice =
    option_map_or (λ p. with_node g (record { parent = Some x; label = with_classes [] (p.1 ∷ k.general) })
    (record { from = x; role = p.0; to = length g.nodes }))
    (some_part c) g

-- the branch after a step with one of its choices
abbrev pub after : Theory → Graph → Step → ℕ → Graph
after k g s choice = option_map_or (λ c. effect k g s.rule s.node c s.other choice) (class_at g s.node s.class) g
