-- Paths of neighbours, and the roles by which their ends are related.
use Rattle.std.proofs.Common.{◌≡◌, ℕ, zero, suc, ◌<◌, ◌==◌, ◌&&◌, ◌||◌, Bool, true, false, List, [], ◌∷◌, ◌++◌, length, Some, refl, sym, ap, ◌∙◌, subst, inl, inr}
use Rattle.std.specs.Prelude.{◌⊎◌}
use Rattle.std.specs.List.{list_any, flat_map}
use Rattle.std.proofs.lemmas.Bool.{and_parts, and_from, or_cases, or_left, or_right}
use Rattle.wiki_base.specs.declared.numbers.WordId.{WordId}
use Rattle.wiki_base.proofs.ListLaws.{list_any-filter}
use Rattle.logic_terms.specs.declared.expressions.Role.{Role}
use Rattle.logic_terms.specs.Concept.{Concept, ComplementOf, AllValuesFrom, HasValue}
use Rattle.logic_terms.specs.Interpretation.{is_word}
use Rattle.logic_terms.specs.Same.{same_role, inverse}
use Rattle.logic_terms.specs.Theory.{Theory, is_below, is_transitive, IsLawful}
use Rattle.logic_terms.proofs.SameLemmas.{word_equal, same_role-self}
use Rattle.tableau_rules.specs.declared.branch.Edge.{Edge}
use Rattle.tableau_rules.specs.Blocking.{is_indirectly_blocked}
use Rattle.tableau_rules.specs.Carrying.{role_of_all, along, both_ways, carriers}
use Rattle.tableau_rules.specs.Graph.{Graph}
use Rattle.tableau_rules.specs.Neighbours.{makes_neighbour, is_neighbour}
use Rattle.branch_model.specs.Related.{Steps, Reaches}

-- two elements are those of neighbours that are not indirectly blocked
abbrev pub IsStep : Theory → Graph → (ℕ → ℕ) → Role → ℕ → ℕ → Type 0
IsStep k g place role e f =
    (x : ℕ) × (y : ℕ) × (x < length g.nodes) × (y < length g.nodes) × (is_indirectly_blocked k g x ≡ false) × (is_indirectly_blocked k g y ≡ false)
    × (place x ≡ e) × (place y ≡ f) × (is_neighbour k g role x y ≡ true)

-- they are so, or steps by a transitive role that is the role or below it lead from the one to the other
abbrev pub IsRelated : Theory → Graph → (ℕ → ℕ) → Role → ℕ → ℕ → Type 0
IsRelated k g place role e f =
    IsStep k g place role e f ⊎ ((t : Role) × (is_transitive k t ≡ true) × (is_below k t role ≡ true) × Reaches (IsStep k g place t) e f)

-- one path after another
pub joined : (step : ℕ → ℕ → Type 0) (n m : ℕ) (a b c : ℕ) → Steps step n a b → Steps step m b c → Reaches step a c
joined step n zero a b c one other = (suc n, (b, one, other))
joined step n (suc m) a b c one (d, before, last) = let way = joined step n m a b d one before in (suc way.0, (d, way.1, last))

-- each step of a path is one of another kind
pub each_step : (P Q : ℕ → ℕ → Type 0) → ((a b : ℕ) → P a b → Q a b) → (n : ℕ) (a b : ℕ) → Steps P n a b → Steps Q n a b
each_step P Q weaker zero a b one = weaker a b one
each_step P Q weaker (suc n) a b (m, before, last) = (m, each_step P Q weaker n a m before, weaker m b last)

-- a path the other way
pub turned_way : (P Q : ℕ → ℕ → Type 0) → ((c d : ℕ) → P c d → Q d c) → (n a b : ℕ) → Steps P n a b → Reaches Q b a
turned_way P Q turn zero a b step = (zero, turn a b step)
turned_way P Q turn (suc n) a b (m, before, last) =
    let way = turned_way P Q turn n a m before in joined Q zero way.0 b m a (turn m b last) way.1

-- a role is below itself
pub below_itself : (k : Theory) (t : Role) → is_below k t t ≡ true
below_itself k t = or_left (same_role t t) (list_any (λ p. same_role p.0 t && same_role p.1 t) k.hierarchy) (same_role-self t)

-- the transitive roles that are a role or below it are its carriers
pub carries : (k : Theory) (t role : Role) → is_transitive k t ≡ true → is_below k t role ≡ true → list_any (λ s. same_role s t) (carriers k role) ≡ true
carries k t role transitive below =
    list_any-filter (λ s. same_role s t) (λ s. is_below k s role) (flat_map both_ways k.transitive) ∙ go k.transitive transitive
  where
    wanted : Role → Bool
    wanted s = is_below k s role && same_role s t

    itself : wanted t ≡ true
    itself = and_from (is_below k t role) (same_role t t) below (same_role-self t)

    of_word : (inverted : Bool) → t.inverted ≡ inverted → (rest : List Role) → list_any wanted (both_ways t.id ++ rest) ≡ true
    of_word false is rest =
        let plain : Role = record { id = t.id; inverted = false } in
        let turned : Role = record { id = t.id; inverted = true } in
        or_left (wanted plain) (wanted turned || list_any wanted rest) (ap wanted (λ j. record { id = t.id; inverted = sym is j }) ∙ itself)
    of_word true is rest =
        let plain : Role = record { id = t.id; inverted = false } in
        let turned : Role = record { id = t.id; inverted = true } in
        or_right (wanted plain) (wanted turned || list_any wanted rest)
        (or_left (wanted turned) (list_any wanted rest) (ap wanted (λ j. record { id = t.id; inverted = sym is j }) ∙ itself))

    go : (words : List WordId) → list_any (is_word t.id) words ≡ true → list_any wanted (flat_map both_ways words) ≡ true
    go [] h = cc
    go (w ∷ words) h = elim (or_cases (is_word t.id w) (list_any (is_word t.id) words) h) [
      | inl here ↦ subst (λ v. list_any wanted (both_ways v ++ flat_map both_ways words) ≡ true) (word_equal t.id w here)
          (of_word t.inverted refl (flat_map both_ways words))
      | inr later ↦
          let plain : Role = record { id = w; inverted = false } in
          let turned : Role = record { id = w; inverted = true } in
          or_right (wanted plain) (wanted turned || list_any wanted (flat_map both_ways words))
          (or_right (wanted turned) (list_any wanted (flat_map both_ways words)) (go words later))
    ]

-- what was carried along a role speaks of the successors by it
pub role_of_along : (t role : Role) (c : Concept) → role_of_all c ≡ Some role → role_of_all (along t c) ≡ Some t
role_of_along t role (AllValuesFrom s d) is = refl
role_of_along t role (ComplementOf (HasValue s name)) is = refl
role_of_along t role _ is = cc

pub along_again : (t : Role) (c : Concept) → along t (along t c) ≡ along t c
along_again t (ComplementOf c) = ap ComplementOf (along_again t c)
along_again t (AllValuesFrom s d) = refl
along_again t (HasValue s name) = refl
along_again t _ = refl

module _ (k : Theory) (lawful : IsLawful k) (g : Graph) where
  -- a neighbour by a role is one by a role above it
  pub neighbour_up : (r s : Role) (x y : ℕ) → is_below k r s ≡ true → is_neighbour k g r x y ≡ true → is_neighbour k g s x y ≡ true
  neighbour_up r s x y up h = go g.edges h
    where
      one : (e : Edge) → makes_neighbour k r x y e ≡ true → makes_neighbour k s x y e ≡ true
      one e m = elim (or_cases ((e.from == x) && ((e.to == y) && is_below k e.role r)) ((e.from == y) && ((e.to == x) && is_below k (inverse e.role) r)) m) [
        | inl forth ↦ (let p = and_parts (e.from == x) ((e.to == y) && is_below k e.role r) forth in
            let q = and_parts (e.to == y) (is_below k e.role r) p.1 in
            or_left ((e.from == x) && ((e.to == y) && is_below k e.role s)) ((e.from == y) && ((e.to == x) && is_below k (inverse e.role) s))
            (and_from (e.from == x) ((e.to == y) && is_below k e.role s) p.0
            (and_from (e.to == y) (is_below k e.role s) q.0 (lawful.transitive e.role r s q.1 up))))
        | inr back ↦ (let p = and_parts (e.from == y) ((e.to == x) && is_below k (inverse e.role) r) back in
            let q = and_parts (e.to == x) (is_below k (inverse e.role) r) p.1 in
            or_right ((e.from == x) && ((e.to == y) && is_below k e.role s)) ((e.from == y) && ((e.to == x) && is_below k (inverse e.role) s))
            (and_from (e.from == y) ((e.to == x) && is_below k (inverse e.role) s) p.0
            (and_from (e.to == x) (is_below k (inverse e.role) s) q.0 (lawful.transitive (inverse e.role) r s q.1 up))))
      ]

      go : (es : List Edge) → list_any (makes_neighbour k r x y) es ≡ true → list_any (makes_neighbour k s x y) es ≡ true
      go [] h = cc
      go (e ∷ es) h = elim (or_cases (makes_neighbour k r x y e) (list_any (makes_neighbour k r x y) es) h) [
        | inl here ↦ or_left (makes_neighbour k s x y e) (list_any (makes_neighbour k s x y) es) (one e here)
        | inr later ↦ or_right (makes_neighbour k s x y e) (list_any (makes_neighbour k s x y) es) (go es later)
      ]

  pub step_up : (place : ℕ → ℕ) (r s : Role) → is_below k r s ≡ true → (a b : ℕ) → IsStep k g place r a b → IsStep k g place s a b
  step_up place r s up a b (x, y, ltx, lty, free_x, free_y, at_x, at_y, near) =
      (x, y, ltx, lty, free_x, free_y, at_x, at_y, neighbour_up r s x y up near)

  -- what is related by a role is so by a role above it
  pub related_up : (place : ℕ → ℕ) (r s : Role) → is_below k r s ≡ true → (a b : ℕ) → IsRelated k g place r a b → IsRelated k g place s a b
  related_up place r s up a b (inl step) = inl (step_up place r s up a b step)
  related_up place r s up a b (inr (t, transitive, below, way)) = inr (t, transitive, lawful.transitive t r s below up, way)

  -- by a transitive role steps alone lead
  way_of : (place : ℕ → ℕ) (t : Role) (a b : ℕ) → IsRelated k g place t a b → Reaches (IsStep k g place t) a b
  way_of place t a b (inl step) = (zero, step)
  way_of place t a b (inr (s, transitive, below, (n, way))) = (n, each_step (IsStep k g place s) (IsStep k g place t) (step_up place s t below) n a b way)

  pub related_on : (place : ℕ → ℕ) (t : Role) → is_transitive k t ≡ true → (a b c : ℕ) → IsRelated k g place t a b → IsRelated k g place t b c
      → IsRelated k g place t a c
  related_on place t transitive a b c one other =
      let first = way_of place t a b one in
      let second = way_of place t b c other in
      inr (t, transitive, below_itself k t, joined (IsStep k g place t) first.0 second.0 a b c first.1 second.1)
