-- What a step adds: classes to one label, an edge, or a node with an edge to it.
use Rattle.std.proofs.Common.{◌≡◌, ℕ, ◌<◌, ◌==◌, ◌&&◌, ◌⊎◌, Bool, true, false, List, [], ◌∷◌, length, cond, Option, Some, None, subst, refl, sym, ap, inl, inr}
use Rattle.std.specs.Prelude.{not, option_to_list, slice_get}
use Rattle.std.specs.Option.{option_and_then, option_map_or}
use Rattle.std.proofs.lemmas.Option.{same_Some}
use Rattle.wiki_base.specs.declared.numbers.WordId.{WordId}
use Rattle.tableau_rules.proofs.Labels.{has_here, has_node}
use Rattle.logic_terms.specs.declared.expressions.Role.{Role}
use Rattle.logic_terms.specs.Concept.{Concept}
use Rattle.logic_terms.specs.Meaning.{some_below}
use Rattle.logic_terms.specs.Parts.{word_part, intersection_part, union_part, some_part, all_part, value_part}
use Rattle.logic_terms.specs.Theory.{Theory}
use Rattle.tableau_rules.specs.declared.branch.Edge.{Edge}
use Rattle.tableau_rules.specs.declared.step.Rule.{Rule}
use Rattle.tableau_rules.specs.declared.step.Rule.TheVariants as rule
use Rattle.tableau_rules.specs.declared.step.Step.{Step}
use Rattle.tableau_rules.specs.First.{where_true}
use Rattle.tableau_rules.specs.Carrying.{role_of_all, carried}
use Rattle.tableau_rules.specs.Graph.{Graph, Vertex, label_at, class_at}
use Rattle.tableau_rules.specs.Neighbours.{node_of, is_neighbour}
use Rattle.tableau_rules.specs.Blocking.{is_blocked, is_indirectly_blocked}
use Rattle.tableau_rules.specs.Rules.{unfoldings_of, unit_member, serves, row, site, applies, with_classes, adding, with_edge, with_node, effect, after}
use Rattle.agenda.specs.Steps.{grown_node, grown_by, sprouts}

module _ (k : Theory) (g : Graph) where
  -- classes come to one label, or nothing does
  abbrev pub IsGrown : ℕ → Graph → Type 0
  IsGrown x h = (h ≡ g) ⊎ ((cs : List Concept) × (h ≡ adding g x cs))

  pub record IsLinked (h : Graph) : Type 0 where
    pub edge : Edge
    pub is : h ≡ with_edge g edge
    pub from : edge.from < length g.nodes
    pub name : Role × WordId
    pub to : node_of k name.1 ≡ Some edge.to

  pub record IsSprouted (h : Graph) : Type 0 where
    pub node : Vertex
    pub edge : Edge
    pub is : h ≡ with_node g node edge
    pub from : edge.from < length g.nodes
    pub parent : node.parent ≡ Some edge.from
    pub to : edge.to ≡ length g.nodes

  grown_part : {X : Type 0} (x : ℕ) (f : X → List Concept) (o : Option X) → IsGrown x (option_map_or (λ p. adding g x (f p)) o g)
  grown_part x f None = inl refl
  grown_part x f (Some p) = inr (f p, refl)

  grown_effect : (r : Rule) (x : ℕ) (c : Concept) (y choice z : ℕ) → grown_node r x y ≡ Some z → IsGrown z (effect k g r x c y choice)
  grown_effect rule.And x c y choice z e =
      subst (λ w. IsGrown w (effect k g rule.And x c y choice)) (same_Some x z e) (grown_part x (λ cs. cs) (intersection_part c))
  grown_effect rule.Unfold x c y choice z e =
      subst (λ w. IsGrown w (effect k g rule.Unfold x c y choice)) (same_Some x z e) (grown_part x (unfoldings_of k) (word_part c))
  grown_effect rule.All x c y choice z e =
      subst (λ w. IsGrown w (effect k g rule.All x c y choice)) (same_Some y z e) (grown_part y (λ p. p.1 ∷ []) (all_part c))
  grown_effect rule.Trans x c y choice z e =
      subst (λ w. IsGrown w (effect k g rule.Trans x c y choice)) (same_Some y z e) (grown_part y (λ role. carried k g role c x y) (role_of_all c))
  grown_effect rule.Value x c y choice z e = cc
  grown_effect rule.Unit x c y choice z e =
      subst (λ w. IsGrown w (effect k g rule.Unit x c y choice)) (same_Some x z e)
      (grown_part x (λ cs. option_to_list (unit_member (label_at g x) cs)) (union_part c))
  grown_effect rule.Or x c y choice z e =
      subst (λ w. IsGrown w (effect k g rule.Or x c y choice)) (same_Some x z e) (grown_part x (λ cs. option_to_list (slice_get cs choice)) (union_part c))
  grown_effect rule.Some x c y choice z e = cc

  pub growth : (s : Step) (choice x : ℕ) → grown_by s ≡ Some x → IsGrown x (after k g s choice)
  growth s choice x e = go (class_at g s.node s.class)
    where
      go : (o : Option Concept) → IsGrown x (option_map_or (λ c. effect k g s.rule s.node c s.other choice) o g)
      go None = inl refl
      go (Some c) = grown_effect s.rule s.node c s.other choice x e

  linked_effect : (r : Rule) (x : ℕ) (c : Concept) (y choice : ℕ) → x < length g.nodes → grown_node r x y ≡ None → sprouts r ≡ false → (z : ℕ)
      → row k g r x c ≡ Some z → IsLinked (effect k g r x c y choice)
  linked_effect rule.And x c y choice lt e not_new z on = cc
  linked_effect rule.Unfold x c y choice lt e not_new z on = cc
  linked_effect rule.All x c y choice lt e not_new z on = cc
  linked_effect rule.Trans x c y choice lt e not_new z on = cc
  linked_effect rule.Value x c y choice lt e not_new z on = go (value_part c) on
    where
      inner : (p : Role × WordId) (o : Option ℕ) → node_of k p.1 ≡ o
          → option_and_then (λ w. where_true (not (is_blocked k g x) && not (is_neighbour k g p.0 x w)) 0) o ≡ Some z
          → IsLinked (option_map_or (λ w. with_edge g (record { from = x; role = p.0; to = w })) o g)
      inner p None at i = cc
      inner p (Some w) at i = record { edge = record { from = x; role = p.0; to = w }; is = refl; from = lt; name = p; to = at }

      go : (o : Option (Role × WordId)) → option_and_then
          (λ p. option_and_then (λ w. where_true (not (is_blocked k g x) && not (is_neighbour k g p.0 x w)) 0) (node_of k p.1)) o ≡ Some z
          → IsLinked (option_map_or (λ p. option_map_or (λ w. with_edge g (record { from = x; role = p.0; to = w })) (node_of k p.1) g) o g)
      go None i = cc
      go (Some p) i = inner p (node_of k p.1) refl i
  linked_effect rule.Unit x c y choice lt e not_new z on = cc
  linked_effect rule.Or x c y choice lt e not_new z on = cc
  linked_effect rule.Some x c y choice lt e not_new z on = cc

  sprouted_effect : (r : Rule) (x : ℕ) (c : Concept) (y choice : ℕ) → x < length g.nodes → sprouts r ≡ true → (z : ℕ) → row k g r x c ≡ Some z
      → IsSprouted (effect k g r x c y choice)
  sprouted_effect rule.And x c y choice lt new z on = cc
  sprouted_effect rule.Unfold x c y choice lt new z on = cc
  sprouted_effect rule.All x c y choice lt new z on = cc
  sprouted_effect rule.Trans x c y choice lt new z on = cc
  sprouted_effect rule.Value x c y choice lt new z on = cc
  sprouted_effect rule.Unit x c y choice lt new z on = cc
  sprouted_effect rule.Or x c y choice lt new z on = cc
  sprouted_effect rule.Some x c y choice lt new z on = go (some_part c) on
    where
      go : (o : Option (Role × Concept))
          → option_and_then (λ p. where_true (not (is_blocked k g x) && not (some_below (length g.nodes) (serves k g p.0 p.1 x))) 0) o ≡ Some z
          → IsSprouted (option_map_or (λ p. with_node g (record { parent = Some x; label = with_classes [] (p.1 ∷ k.general) })
          (record { from = x; role = p.0; to = length g.nodes })) o g)
      go None i = cc
      go (Some p) i = record {
        node = record { parent = Some x; label = with_classes [] (p.1 ∷ k.general) };
        edge = record { from = x; role = p.0; to = length g.nodes };
        is = refl;
        from = lt;
        parent = refl;
        to = refl;
      }

  -- the class of a step that applies
  pub record IsFound (s : Step) : Type 0 where
    pub class : Concept
    pub at : class_at g s.node s.class ≡ Some class
    pub node : s.node < length g.nodes
    pub other : ℕ
    pub on : row k g s.rule s.node class ≡ Some other

  site_row : (r : Rule) (x : ℕ) (c : Concept) (y : ℕ) (b : Bool) → cond b None (row k g r x c) ≡ Some y → row k g r x c ≡ Some y
  site_row r x c y true h = cc
  site_row r x c y false h = h

  pub found : (s : Step) → applies k g s ≡ true → IsFound s
  found s on = go (class_at g s.node s.class) refl on
    where
      inner : (c : Concept) → class_at g s.node s.class ≡ Some c → (o : Option ℕ) → site k g s.rule s.node c ≡ o
          → option_map_or (λ y. y == s.other) o false ≡ true → IsFound s
      inner c at None is e = cc
      inner c at (Some y) is e = record {
        class = c;
        at = at;
        node = has_node g s.node c (has_here (label_at g s.node) s.class c at);
        other = y;
        on = site_row s.rule s.node c y (is_indirectly_blocked k g s.node) is;
      }

      go : (o : Option Concept) → class_at g s.node s.class ≡ o → option_map_or (λ y. y == s.other) (option_and_then (site k g s.rule s.node) o) false ≡ true
          → IsFound s
      go None at e = cc
      go (Some c) at e = inner c at (site k g s.rule s.node c) refl e

  after_is : (s : Step) (choice : ℕ) (c : Concept) → class_at g s.node s.class ≡ Some c → after k g s choice ≡ effect k g s.rule s.node c s.other choice
  after_is s choice c at = ap (λ o. option_map_or (λ c. effect k g s.rule s.node c s.other choice) o g) at

  pub linking : (s : Step) (choice : ℕ) → grown_by s ≡ None → sprouts s.rule ≡ false → applies k g s ≡ true → IsLinked (after k g s choice)
  linking s choice e not_new on =
      let it = found s on in
      subst IsLinked (sym (after_is s choice it.class it.at)) (linked_effect s.rule s.node it.class s.other choice it.node e not_new it.other it.on)

  pub sprouting : (s : Step) (choice : ℕ) → sprouts s.rule ≡ true → applies k g s ≡ true → IsSprouted (after k g s choice)
  sprouting s choice new on =
      let it = found s on in
      subst IsSprouted (sym (after_is s choice it.class it.at)) (sprouted_effect s.rule s.node it.class s.other choice it.node new it.other it.on)
