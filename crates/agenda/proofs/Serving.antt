-- An edge that reaches a neighbour leads to one.
use Rattle.std.proofs.Common.{◌≡◌, ℕ, ◌<◌, ◌&&◌, Bool, true, List, length, get_or, sym, ap, ◌∙◌}
use Rattle.std.specs.Prelude.{nat_lt}
use Rattle.std.specs.List.{list_any}
use Rattle.std.proofs.lemmas.Bool.{and_parts, and_from, ltb-true}
use Rattle.std.proofs.lemmas.List.Folds.{list_any_at}
use Rattle.logic_terms.specs.declared.expressions.Role.{Role}
use Rattle.logic_terms.specs.Theory.{Theory}
use Rattle.tableau_rules.specs.declared.branch.Edge.{Edge}
use Rattle.tableau_rules.specs.Neighbours.{makes_neighbour}
use Rattle.tableau_rules.specs.Touching.{edges_at, far_end, reaches}
use Rattle.tableau_rules.proofs.Reaching.{neighbours_at}

module _ (k : Theory) (role : Role) (count x : ℕ) (test : ℕ → Bool) (edges items : List Edge) (given : items ≡ edges_at edges x) (i : ℕ) (d : Edge)
    (lt : i < length items) where
  pub server_at : reaches k role count x test (get_or items i d) ≡ true
      → (far_end x (get_or items i d) < count)
      × ((list_any (makes_neighbour k role x (far_end x (get_or items i d))) edges && test (far_end x (get_or items i d))) ≡ true)
  server_at here =
      let e : Edge = get_or items i d in
      let y : ℕ = far_end x e in
      let one = and_parts (makes_neighbour k role x y e) (nat_lt y count && test y) here in
      let two = and_parts (nat_lt y count) (test y) one.1 in
      let near : list_any (makes_neighbour k role x y) edges ≡ true =
      sym (neighbours_at k role x y edges)
      ∙ (ap (list_any (makes_neighbour k role x y)) (sym given) ∙ list_any_at (makes_neighbour k role x y) items i d lt one.0) in
      (ltb-true y count two.0, and_from (list_any (makes_neighbour k role x y) edges) (test y) near two.1)
