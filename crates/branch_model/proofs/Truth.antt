-- Each class of an unblocked node's label has that node's element.
use Rattle.std.proofs.Common.{◌≡◌, ℕ, zero, suc, ◌<◌, Bool, true, false, length, Contains, Some, None, refl, sym, ap, ◌∙◌, subst, inl, inr}
use Rattle.std.specs.List.{list_any, list_all}
use Rattle.std.proofs.lemmas.Bool.{and_parts, or_cases, or_parts}
use Rattle.wiki_base.specs.declared.numbers.WordId.{WordId}
use Rattle.logic_terms.specs.declared.expressions.Role.{Role}
use Rattle.logic_terms.specs.Concept.{Concept, Concepts, Everything, Atomic, ComplementOf, IntersectionOf, UnionOf, SomeValuesFrom, AllValuesFrom, HasValue, no_concept, also_concept}
use Rattle.logic_terms.specs.Complement.{is_normal, each_normal, is_simple}
use Rattle.logic_terms.specs.Interpretation.{Interpretation, element_of, elements_of, Relates}
use Rattle.logic_terms.specs.Reading.{IsIn, IsInEach, IsInSome}
use Rattle.logic_terms.specs.Parts.{members_in}
use Rattle.logic_terms.specs.Same.{has_concept}
use Rattle.logic_terms.specs.Theory.{Theory, is_below, is_transitive, names_given, each_names_given, is_given, IsLawful}
use Rattle.tableau_rules.specs.Carrying.{role_of_all, along}
use Rattle.tableau_rules.specs.Graph.{Graph, label_at}
use Rattle.tableau_rules.specs.Neighbours.{node_of, is_neighbour}
use Rattle.tableau_rules.specs.Blocking.{is_blocked, is_directly_blocked, is_indirectly_blocked}
use Rattle.tableau_rules.specs.Rules.{first_step}
use Rattle.tableau_rules.specs.Clashes.{has_clash}
use Rattle.branch_model.specs.Related.{Steps}
use Rattle.branch_model.proofs.Paths.{IsStep, IsRelated, below_itself, carries, role_of_along, along_again, step_up}
use Rattle.branch_model.proofs.Rest.{and_done, or_done, all_done, trans_done, value_done, some_done, no_pair, no_nothing, no_value}

-- an interpretation pictures a branch: each node that is not indirectly blocked has an element, by which it has the class
-- words of its label and is related to its neighbours in the branch and along paths of a transitive role; a directly blocked node has that of a node with the
-- same classes
pub record Pictures (k : Theory) (g : Graph) (i : Interpretation) (place : ℕ → ℕ) : Type 0 where
  pub within : (x : ℕ) → x < length g.nodes → is_indirectly_blocked k g x ≡ false → place x < i.size
  pub owner : (x : ℕ) → x < length g.nodes → is_indirectly_blocked k g x ≡ false
      → (z : ℕ) × (z < length g.nodes) × (is_blocked k g z ≡ false) × (place z ≡ place x)
      × ((c : Concept) → has_concept (label_at g x) c ≡ has_concept (label_at g z) c)
  pub same : (x y : ℕ) → x < length g.nodes → y < length g.nodes → is_indirectly_blocked k g x ≡ false → is_indirectly_blocked k g y ≡ false → place x ≡ place y
      → (c : Concept) → has_concept (label_at g x) c ≡ has_concept (label_at g y) c
  pub alone : (x y : ℕ) (name : WordId) → x < length g.nodes → is_indirectly_blocked k g x ≡ false → node_of k name ≡ Some y → place x ≡ place y → x ≡ y
  pub classes : (word : WordId) (x : ℕ) → x < length g.nodes → is_indirectly_blocked k g x ≡ false → Contains (elements_of i word) (place x)
      → has_concept (label_at g x) (Atomic word) ≡ true
  pub related : (role : Role) (e f : ℕ) → Relates i role e f → IsRelated k g place role e f
  pub relates : (role : Role) (e f : ℕ) → IsRelated k g place role e f → Relates i role e f
  pub labelled : (word : WordId) (x : ℕ) → x < length g.nodes → is_indirectly_blocked k g x ≡ false → has_concept (label_at g x) (Atomic word) ≡ true
      → Contains (elements_of i word) (place x)
  pub names : (name : WordId) (y : ℕ) → node_of k name ≡ Some y → element_of i name ≡ place y
  pub reached : (e : ℕ) → e < i.size → (z : ℕ) × (z < length g.nodes) × (is_blocked k g z ≡ false) × (place z ≡ e)

module _ (k : Theory) (lawful : IsLawful k) (g : Graph) (i : Interpretation) (place : ℕ → ℕ) (pictures : Pictures k g i place) (done : first_step k g ≡ None)
    (calm : has_clash k g ≡ false) (named : (name : WordId) → is_given k name ≡ true
    → (y : ℕ) × (node_of k name ≡ Some y) × (y < length g.nodes) × (is_blocked k g y ≡ false)) where
  abbrev Has : ℕ → Concept → Type 0
  Has x c = has_concept (label_at g x) c ≡ true

  free_of : (x : ℕ) → is_blocked k g x ≡ false → is_indirectly_blocked k g x ≡ false
  free_of x clear = (or_parts (is_directly_blocked k g x) (is_indirectly_blocked k g x) clear).1

  -- steps by a transitive role carry what speaks of all successors by a role above it
  module _ (c : Concept) (role t : Role) (is : role_of_all c ≡ Some role) (transitive : is_transitive k t ≡ true) (below : is_below k t role ≡ true) where
    path_has : (x : ℕ) → x < length g.nodes → is_indirectly_blocked k g x ≡ false → Has x c → (n f : ℕ) → Steps (IsStep k g place t) n (place x) f
        → (y : ℕ) × (y < length g.nodes) × (is_indirectly_blocked k g y ≡ false) × (place y ≡ f) × Has y (along t c)
    path_has x lt free has zero f (x1, y, lt1, lty, free1, free_y, at_x, at_y, near) =
        let has1 : Has x1 c = sym (pictures.same x x1 lt lt1 free free1 (sym at_x) c) ∙ has in
        (y, lty, free_y, at_y, trans_done k g done x1 lt1 free1 c role t has1 is (carries k t role transitive below) y lty near free_y)
    path_has x lt free has (suc n) f (m, before, (x2, y, lt2, lty, free2, free_y, at_x, at_y, near)) =
        let far = path_has x lt free has n m before in
        let has2 : Has x2 (along t c) = sym (pictures.same far.0 x2 far.1 lt2 far.2 free2 (far.3 ∙ sym at_x) (along t c)) ∙ far.4 in
        let has_y : Has y (along t (along t c)) =
        trans_done k g done x2 lt2 free2 (along t c) t t has2 (role_of_along t role c is) (carries k t t transitive (below_itself k t)) y lty near free_y in
        (y, lty, free_y, at_y, subst (Has y) (along_again t c) has_y)

  -- what all successors by a role are in, each has that the node is related to
  all_step : (role : Role) (c : Concept) (x : ℕ) → x < length g.nodes → is_indirectly_blocked k g x ≡ false → Has x (AllValuesFrom role c) → (f : ℕ)
      → IsStep k g place role (place x) f → (y : ℕ) × (y < length g.nodes) × (is_indirectly_blocked k g y ≡ false) × (place y ≡ f) × Has y c
  all_step role c x lt free has f (x1, y, lt1, lty, free1, free_y, at_x, at_y, near) =
      let has1 : Has x1 (AllValuesFrom role c) = sym (pictures.same x x1 lt lt1 free free1 (sym at_x) (AllValuesFrom role c)) ∙ has in
      (y, lty, free_y, at_y, all_done k g done x1 lt1 free1 role c has1 y lty near free_y)

  all_end : (role : Role) (c : Concept) (x : ℕ) → x < length g.nodes → is_indirectly_blocked k g x ≡ false → Has x (AllValuesFrom role c) → (f : ℕ)
      → IsRelated k g place role (place x) f → (y : ℕ) × (y < length g.nodes) × (is_indirectly_blocked k g y ≡ false) × (place y ≡ f) × Has y c
  all_end role c x lt free has f (inl step) = all_step role c x lt free has f step
  all_end role c x lt free has f (inr (t, transitive, below, (zero, step))) =
      all_step role c x lt free has f (step_up k lawful g place t role below (place x) f step)
  all_end role c x lt free has f (inr (t, transitive, below, (suc n, (m, before, step)))) =
      let far = path_has (AllValuesFrom role c) role t refl transitive below x lt free has n m before in
      all_step t c far.0 far.1 far.2 far.4 f (subst (λ e. IsStep k g place t e f) (sym far.3) step)

  -- a name's element that no successor by a role is, none is that the node is related to
  no_step : (role : Role) (name : WordId) (z : ℕ) → node_of k name ≡ Some z → (x : ℕ) → x < length g.nodes → is_indirectly_blocked k g x ≡ false
      → Has x (ComplementOf (HasValue role name)) → IsStep k g place role (place x) (place z) → ⊥
  no_step role name z node x lt free has (x1, y, lt1, lty, free1, free_y, at_x, at_y, near) =
      let has1 : Has x1 (ComplementOf (HasValue role name)) = sym (pictures.same x x1 lt lt1 free free1 (sym at_x) (ComplementOf (HasValue role name))) ∙ has in
      let is_z : y ≡ z = pictures.alone y z name lty free_y node at_y in
      both (ap (is_neighbour k g role x1) (sym is_z) ∙ near) (no_value k g calm x1 lt1 role name z has1 node)
    where
      both : {b : Bool} → b ≡ true → b ≡ false → ⊥
      both t f = cc

  no_end : (role : Role) (name : WordId) (z : ℕ) → node_of k name ≡ Some z → (x : ℕ) → x < length g.nodes → is_indirectly_blocked k g x ≡ false
      → Has x (ComplementOf (HasValue role name)) → IsRelated k g place role (place x) (place z) → ⊥
  no_end role name z node x lt free has (inl step) = no_step role name z node x lt free has step
  no_end role name z node x lt free has (inr (t, transitive, below, (zero, step))) =
      no_step role name z node x lt free has (step_up k lawful g place t role below (place x) (place z) step)
  no_end role name z node x lt free has (inr (t, transitive, below, (suc n, (m, before, step)))) =
      let far = path_has (ComplementOf (HasValue role name)) role t refl transitive below x lt free has n m before in
      no_step t name z node far.0 far.1 far.2 far.4 (subst (λ e. IsStep k g place t e (place z)) (sym far.3) step)

  mutual
    pub truth : (c : Concept) → is_normal c ≡ true → names_given k c ≡ true → (x : ℕ) → x < length g.nodes → is_blocked k g x ≡ false
        → has_concept (label_at g x) c ≡ true → IsIn i c (place x)
    truth Everything plain given x lt clear has = tt
    truth (Atomic word) plain given x lt clear has = pictures.labelled word x lt (free_of x clear) has
    truth (ComplementOf c) plain given x lt clear has = untruth c plain given x lt clear has
    truth (IntersectionOf cs) plain given x lt clear has = truth_each cs plain given x lt clear (and_done k g done x lt (free_of x clear) cs has)
    truth (UnionOf cs) plain given x lt clear has = truth_some cs plain given x lt clear (or_done k g done x lt (free_of x clear) cs has)
    truth (SomeValuesFrom role c) plain given x lt clear has =
        let found = some_done k g done x lt (free_of x clear) role c has clear in
        let own = pictures.owner found.0 found.1 found.3 in
        let inside : IsIn i c (place own.0) = truth c plain given own.0 own.1 own.2 (sym (own.4 c) ∙ found.4) in (
          place found.0,
          pictures.within found.0 found.1 found.3,
          pictures.relates role (place x) (place found.0) (inl (x, found.0, lt, found.1, free_of x clear, found.3, refl, refl, found.2)),
          subst (IsIn i c) own.3 inside,
        )
    truth (AllValuesFrom role c) plain given x lt clear has = λ e below related.
        let far = all_end role c x lt (free_of x clear) has e (pictures.related role (place x) e related) in
        let own = pictures.owner far.0 far.1 far.2 in
        subst (IsIn i c) (own.3 ∙ far.3) (truth c plain given own.0 own.1 own.2 (sym (own.4 c) ∙ far.4))
    truth (HasValue role name) plain given x lt clear has =
        let node = named name given in
        subst (Relates i role (place x)) (sym (pictures.names name node.0 node.1))
        (pictures.relates role (place x) (place node.0) (inl (
          x,
          node.0,
          lt,
          node.2,
          free_of x clear,
          free_of node.0 node.3,
          refl,
          refl,
          value_done k g done x lt (free_of x clear) role name node.0 has clear node.1,
        )))

    -- a class whose complement is in the label
    untruth : (c : Concept) → is_simple c ≡ true → names_given k c ≡ true → (x : ℕ) → x < length g.nodes → is_blocked k g x ≡ false
        → has_concept (label_at g x) (ComplementOf c) ≡ true → ¬ IsIn i c (place x)
    untruth Everything plain given x lt clear has = λ inside. no_nothing k g calm x lt has
    untruth (Atomic word) plain given x lt clear has = λ inside. no_pair k g calm x lt word (pictures.classes word x lt (free_of x clear) inside) has
    untruth (HasValue role name) plain given x lt clear has = λ inside.
        let node = named name given in
        let related : IsRelated k g place role (place x) (place node.0) =
        pictures.related role (place x) (place node.0) (subst (Relates i role (place x)) (pictures.names name node.0 node.1) inside) in
        no_end role name node.0 node.1 x lt (free_of x clear) has related
    untruth (ComplementOf c) plain given x lt clear has = cc
    untruth (IntersectionOf cs) plain given x lt clear has = cc
    untruth (UnionOf cs) plain given x lt clear has = cc
    untruth (SomeValuesFrom role c) plain given x lt clear has = cc
    untruth (AllValuesFrom role c) plain given x lt clear has = cc

    truth_each : (cs : Concepts) → each_normal cs ≡ true → each_names_given k cs ≡ true → (x : ℕ) → x < length g.nodes → is_blocked k g x ≡ false
        → list_all (has_concept (label_at g x)) (members_in cs) ≡ true → IsInEach i cs (place x)
    truth_each no_concept plain given x lt clear has = tt
    truth_each (also_concept c cs) plain given x lt clear has =
        let n = and_parts (is_normal c) (each_normal cs) plain in
        let q = and_parts (names_given k c) (each_names_given k cs) given in
        let h = and_parts (has_concept (label_at g x) c) (list_all (has_concept (label_at g x)) (members_in cs)) has in
        (truth c n.0 q.0 x lt clear h.0, truth_each cs n.1 q.1 x lt clear h.1)

    truth_some : (cs : Concepts) → each_normal cs ≡ true → each_names_given k cs ≡ true → (x : ℕ) → x < length g.nodes → is_blocked k g x ≡ false
        → list_any (has_concept (label_at g x)) (members_in cs) ≡ true → IsInSome i cs (place x)
    truth_some no_concept plain given x lt clear has = cc
    truth_some (also_concept c cs) plain given x lt clear has =
        let n = and_parts (is_normal c) (each_normal cs) plain in
        let q = and_parts (names_given k c) (each_names_given k cs) given in
        elim (or_cases (has_concept (label_at g x) c) (list_any (has_concept (label_at g x)) (members_in cs)) has) [
          | inl here ↦ inl (truth c n.0 q.0 x lt clear here)
          | inr later ↦ inr (truth_some cs n.1 q.1 x lt clear later)
        ]
