-- What a branch shows of its nodes. Only private calls speak of it.
use Rattle.std.specs.Prelude.{ℕ, ◌&&◌, ◌||◌, Bool, true, false}
use Rattle.std.specs.List.{list_any}
use Rattle.std.specs.Option.{option_map_or}
use Rattle.logic_terms.specs.Concept.{Concept, Concepts, Everything, Atomic, ComplementOf, IntersectionOf, UnionOf, SomeValuesFrom, AllValuesFrom, HasValue, no_concept, also_concept}
use Rattle.logic_terms.specs.Same.{has_concept}
use Rattle.logic_terms.specs.Theory.{Theory}
use Rattle.tableau_rules.specs.Graph.{Graph, label_at}
use Rattle.tableau_rules.specs.Neighbours.{makes_neighbour, is_neighbour, node_of}
use Rattle.tableau_rules.specs.Touching.{edges_at, far_end}

-- whether the labels and the edges of a branch show that a node is in a class
abbrev mutual
  pub shows : Theory → Graph → Concept → ℕ → Bool
  shows k g Everything x = true
  shows k g (Atomic word) x = has_concept (label_at g x) (Atomic word)
  shows k g (ComplementOf c) x = has_concept (label_at g x) (ComplementOf c)
  shows k g (IntersectionOf cs) x = shows_each k g cs x
  shows k g (UnionOf cs) x = shows_some k g cs x
  shows k g (SomeValuesFrom role c) x =
      list_any (λ e. makes_neighbour k role x (far_end x e) e && shows k g c (far_end x e)) (edges_at g.edges x)
  shows k g (AllValuesFrom role c) x = has_concept (label_at g x) (AllValuesFrom role c)
  shows k g (HasValue role name) x = option_map_or (λ y. is_neighbour k g role x y) (node_of k name) false

  pub shows_each : Theory → Graph → Concepts → ℕ → Bool
  shows_each k g no_concept x = true
  shows_each k g (also_concept c cs) x = shows k g c x && shows_each k g cs x

  pub shows_some : Theory → Graph → Concepts → ℕ → Bool
  shows_some k g no_concept x = false
  shows_some k g (also_concept c cs) x = shows k g c x || shows_some k g cs x
