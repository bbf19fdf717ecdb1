-- When an interpretation fits a branch, and how it fits what a branch grows into.
use Rattle.std.proofs.Common.{◌≡◌, ◌≢◌, ℕ, ◌+◌, ◌<◌, ◌≤◌, ◌==◌, ◌&&◌, Bool, true, false, List, [], ◌∷◌, ◌++◌, length, Option, Some, None, slice_get, subst, refl, sym, ap, ◌∙◌, inl, inr, arith}
use Rattle.std.specs.Prelude.{not, nat_lt, slice_set, if◌then◌else◌}
use Rattle.std.specs.List.{list_any, list_all}
use Rattle.std.specs.Option.{option_map_or}
use Rattle.std.proofs.lemmas.Bool.{cases_eq, eqb-true, ltb-true, lt-ltb, eq-eqb, ne_eqb, and_from, or_cases}
use Rattle.std.proofs.lemmas.List.{length-set, length_push}
use Rattle.std.proofs.lemmas.Option.{slice_get_within}
use Rattle.wiki_base.specs.declared.numbers.WordId.{WordId}
use Rattle.wiki_base.proofs.BoolLaws.{and_first, and_second}
use Rattle.wiki_base.proofs.ListLaws.{all_slice_get, all_append, all_weaken}
use Rattle.tableau_rules.proofs.Roots.{node_within}
use Rattle.logic_terms.specs.declared.expressions.Role.{Role}
use Rattle.logic_terms.specs.Concept.{Concept}
use Rattle.logic_terms.specs.Interpretation.{Interpretation, element_of, relates, has_pair}
use Rattle.logic_terms.specs.Meaning.{is_in, each_below, implies, holds}
use Rattle.logic_terms.specs.Concept.{SubPropertyOf}
use Rattle.logic_terms.specs.Same.{same_role, same_concept, has_concept, inverse}
use Rattle.logic_terms.specs.Theory.{Theory, is_below}
use Rattle.logic_terms.proofs.SameLemmas.{role_equal, same_concept-equal}
use Rattle.tableau_rules.specs.declared.branch.Edge.{Edge}
use Rattle.tableau_rules.specs.Graph.{Graph, Vertex, label_at, class_at}
use Rattle.tableau_rules.specs.Neighbours.{roots, node_of, makes_neighbour, is_neighbour}
use Rattle.tableau_rules.specs.Rules.{with_class, with_classes, adding, with_edge, with_node}
use Rattle.closure_check.proofs.Basics.{implied, any_with_all, each_at, set_cases, push_cases}

-- an edge of the branch is a pair of its role between the elements of its ends
abbrev pub pairs_up : Interpretation → (ℕ → ℕ) → Edge → Bool
pairs_up i f e = relates i e.role (f e.from) (f e.to)

-- an edge's ends are nodes
abbrev pub within : ℕ → Edge → Bool
within n e = nat_lt e.from n && nat_lt e.to n

-- an interpretation fits a branch by elements of its nodes: those of names are the names' own, each is in the classes of
-- its label, and edges are pairs of their roles
pub record Fits (i : Interpretation) (k : Theory) (g : Graph) (f : ℕ → ℕ) : Type 0 where
  pub elements : (x : ℕ) → f x < i.size
  pub names : (name : WordId) (x : ℕ) → node_of k name ≡ Some x → f x ≡ element_of i name
  pub labels : (x : ℕ) → list_all (λ c. is_in i c (f x)) (label_at g x) ≡ true
  pub edges : list_all (pairs_up i f) g.edges ≡ true
  pub named : length (roots k) ≤ length g.nodes
  pub ends : list_all (within (length g.nodes)) g.edges ≡ true

-- a class of a label has the node's element
pub class_fits : (i : Interpretation) (k : Theory) (g : Graph) (f : ℕ → ℕ) → Fits i k g f → (x place : ℕ) (c : Concept) → class_at g x place ≡ Some c
    → is_in i c (f x) ≡ true
class_fits i k g f fits x place c at = all_slice_get (λ d. is_in i d (f x)) (label_at g x) place c (fits.labels x) at

-- a node with a class is a node
pub class_within : (g : Graph) (x place : ℕ) (c : Concept) → class_at g x place ≡ Some c → x < length g.nodes
class_within g x place c at = go (slice_get g.nodes x) refl at
  where
    go : (o : Option Vertex) → slice_get g.nodes x ≡ o → slice_get (option_map_or (λ v. v.label) o []) place ≡ Some c → x < length g.nodes
    go None e h = cc
    go (Some v) e h = slice_get_within g.nodes x v e

has_in : (i : Interpretation) (a : ℕ) (label : List Concept) (c : Concept) → list_all (λ d. is_in i d a) label ≡ true → has_concept label c ≡ true
    → is_in i c a ≡ true
has_in i a label c all has =
    let w = any_with_all (λ d. same_concept d c) (λ d. is_in i d a) label has all in
    ap (λ d. is_in i d a) (sym (same_concept-equal w.0 c w.1)) ∙ w.2

-- a class that a label has holds of the node's element
pub has_fits : (i : Interpretation) (k : Theory) (g : Graph) (f : ℕ → ℕ) → Fits i k g f → (x : ℕ) (c : Concept) → has_concept (label_at g x) c ≡ true
    → is_in i c (f x) ≡ true
has_fits i k g f fits x c has = has_in i (f x) (label_at g x) c (fits.labels x) has

-- each class of a label that got more
with_class_all : (test : Concept → Bool) (label : List Concept) (c : Concept) → list_all test label ≡ true → test c ≡ true
    → list_all test (with_class label c) ≡ true
with_class_all test label c p q = go (has_concept label c)
  where
    go : (b : Bool) → list_all test (if b then label else label ++ c ∷ []) ≡ true
    go true = p
    go false = all_append test label (c ∷ []) p (and_from (test c) true q refl)

pub with_classes_all : (test : Concept → Bool) (label cs : List Concept) → list_all test label ≡ true → list_all test cs ≡ true
    → list_all test (with_classes label cs) ≡ true
with_classes_all test label [] p q = p
with_classes_all test label (c ∷ cs) p q =
    with_classes_all test (with_class label c) cs (with_class_all test label c p (and_first (test c) (list_all test cs) q))
    (and_second (test c) (list_all test cs) q)

adding_nodes : (g : Graph) (x : ℕ) (cs : List Concept) → length (adding g x cs).nodes ≡ length g.nodes
adding_nodes g x cs = go (slice_get g.nodes x)
  where
    go : (o : Option Vertex) → length (option_map_or
        (λ v. let h : Graph = record { nodes = slice_set g.nodes x (record { parent = v.parent; label = with_classes v.label cs }); edges = g.edges } in h) o
        g).nodes ≡ length g.nodes
    go None = refl
    go (Some v) = length-set g.nodes x (record { parent = v.parent; label = with_classes v.label cs })

-- more classes that hold of a node's element
pub adding_fits : (i : Interpretation) (k : Theory) (g : Graph) (f : ℕ → ℕ) → Fits i k g f → (x : ℕ) (cs : List Concept)
    → list_all (λ c. is_in i c (f x)) cs ≡ true → Fits i k (adding g x cs) f
adding_fits i k g f fits x cs hold = go (slice_get g.nodes x) refl
  where
    made : Vertex → Vertex
    made v = record { parent = v.parent; label = with_classes v.label cs }

    grown_at : Vertex → Graph
    grown_at v = record { nodes = slice_set g.nodes x (made v); edges = g.edges }

    labels_at : (v : Vertex) → slice_get g.nodes x ≡ Some v → (y : ℕ) (o : Option Vertex) → slice_get (slice_set g.nodes x (made v)) y ≡ o
        → list_all (λ c. is_in i c (f y)) (option_map_or (λ u. u.label) o []) ≡ true
    labels_at v e y o is = elim (set_cases g.nodes x (made v) y) [
      | inl same ↦ subst (λ p. list_all (λ c. is_in i c (f y)) (option_map_or (λ u. u.label) p []) ≡ true) (sym same ∙ is) (fits.labels y)
      | inr there ↦ subst (λ p. list_all (λ c. is_in i c (f y)) (option_map_or (λ u. u.label) p []) ≡ true) (sym there.1 ∙ is)
          (with_classes_all (λ c. is_in i c (f y)) v.label cs
          (subst (λ p. list_all (λ c. is_in i c (f y)) (option_map_or (λ u. u.label) p []) ≡ true) (ap (slice_get g.nodes) there.0 ∙ e) (fits.labels y))
          (subst (λ z. list_all (λ c. is_in i c (f z)) cs ≡ true) (sym there.0) hold))
    ]

    go : (o : Option Vertex) → slice_get g.nodes x ≡ o → Fits i k (option_map_or grown_at o g) f
    go None e = fits
    go (Some v) e = record {
      elements = fits.elements;
      names = fits.names;
      labels = λ y. labels_at v e y (slice_get (slice_set g.nodes x (made v)) y) refl;
      edges = fits.edges;
      named = subst (λ n. length (roots k) ≤ n) (sym (length-set g.nodes x (made v))) fits.named;
      ends = subst (λ n. list_all (within n) g.edges ≡ true) (sym (length-set g.nodes x (made v))) fits.ends;
    }

-- a pair of a role below is a pair of the role above
pub sub_role : (i : Interpretation) (k : Theory) → list_all (λ p. holds i (SubPropertyOf p.0 p.1)) k.hierarchy ≡ true → (r s : Role) (a b : ℕ) → a < i.size
    → b < i.size → is_below k r s ≡ true → relates i r a b ≡ true → relates i s a b ≡ true
sub_role i k all r s a b la lb below is = elim (or_cases (same_role r s) (list_any (λ p. same_role p.0 r && same_role p.1 s) k.hierarchy) below) [
  | inl same ↦ subst (λ t. relates i t a b ≡ true) (role_equal r s same) is
  | inr there ↦ (
      let w = any_with_all (λ p. same_role p.0 r && same_role p.1 s) (λ p. holds i (SubPropertyOf p.0 p.1)) k.hierarchy there all in
      let low : w.0.0 ≡ r = role_equal w.0.0 r (and_first (same_role w.0.0 r) (same_role w.0.1 s) w.1) in
      let high : w.0.1 ≡ s = role_equal w.0.1 s (and_second (same_role w.0.0 r) (same_role w.0.1 s) w.1) in
      let row : each_below i.size (λ y. implies (relates i w.0.0 a y) (relates i w.0.1 a y)) ≡ true =
      each_at i.size (λ x. each_below i.size (λ y. implies (relates i w.0.0 x y) (relates i w.0.1 x y))) a w.2 la in
      let here : implies (relates i w.0.0 a b) (relates i w.0.1 a b) ≡ true =
      each_at i.size (λ y. implies (relates i w.0.0 a y) (relates i w.0.1 a y)) b row lb in
      subst (λ t. relates i t a b ≡ true) high (implied (relates i w.0.0 a b) (relates i w.0.1 a b) here (subst (λ t. relates i t a b ≡ true) (sym low) is)))
]

-- a pair of a role is one of its inverse, swapped
inverted : (i : Interpretation) (r : Role) (a b : ℕ) → relates i r a b ≡ relates i (inverse r) b a
inverted i r a b = go r.inverted
  where
    go : (v : Bool) → (if v then has_pair i r.id b a else has_pair i r.id a b) ≡ (if not v then has_pair i r.id a b else has_pair i r.id b a)
    go true = refl
    go false = refl

-- neighbours by a role are a pair of it
module _ (i : Interpretation) (k : Theory) (f : ℕ → ℕ) (elements : (x : ℕ) → f x < i.size)
    (all : list_all (λ p. holds i (SubPropertyOf p.0 p.1)) k.hierarchy ≡ true) where
  pub makes_pair : (role : Role) (x y : ℕ) (e : Edge) → makes_neighbour k role x y e ≡ true → pairs_up i f e ≡ true → relates i role (f x) (f y) ≡ true
  makes_pair role x y e makes pair = elim (or_cases ((e.from == x) && ((e.to == y) && is_below k e.role role))
      ((e.from == y) && ((e.to == x) && is_below k (inverse e.role) role)) makes) [
        | inl along ↦ (
            let from : e.from ≡ x = eqb-true e.from x (and_first (e.from == x) ((e.to == y) && is_below k e.role role) along) in
            let rest : ((e.to == y) && is_below k e.role role) ≡ true = and_second (e.from == x) ((e.to == y) && is_below k e.role role) along in
            let to : e.to ≡ y = eqb-true e.to y (and_first (e.to == y) (is_below k e.role role) rest) in
            let is : relates i e.role (f x) (f y) ≡ true =
            subst (λ z. relates i e.role (f x) (f z) ≡ true) to (subst (λ z. relates i e.role (f z) (f e.to) ≡ true) from pair) in
            sub_role i k all e.role role (f x) (f y) (elements x) (elements y) (and_second (e.to == y) (is_below k e.role role) rest) is)
        | inr back ↦ (
            let from : e.from ≡ y = eqb-true e.from y (and_first (e.from == y) ((e.to == x) && is_below k (inverse e.role) role) back) in
            let rest : ((e.to == x) && is_below k (inverse e.role) role) ≡ true =
            and_second (e.from == y) ((e.to == x) && is_below k (inverse e.role) role) back in
            let to : e.to ≡ x = eqb-true e.to x (and_first (e.to == x) (is_below k (inverse e.role) role) rest) in
            let is : relates i e.role (f y) (f x) ≡ true =
            subst (λ z. relates i e.role (f y) (f z) ≡ true) to (subst (λ z. relates i e.role (f z) (f e.to) ≡ true) from pair) in
            sub_role i k all (inverse e.role) role (f x) (f y) (elements x) (elements y) (and_second (e.to == x) (is_below k (inverse e.role) role) rest)
            (sym (inverted i e.role (f y) (f x)) ∙ is))
      ]

  pub neighbours_pair : (g : Graph) → list_all (pairs_up i f) g.edges ≡ true → (role : Role) (x y : ℕ) → is_neighbour k g role x y ≡ true
      → relates i role (f x) (f y) ≡ true
  neighbours_pair g edges role x y near =
      let w = any_with_all (makes_neighbour k role x y) (pairs_up i f) g.edges near edges in
      makes_pair role x y w.0 w.1 w.2

-- one more edge
pub with_edge_fits : (i : Interpretation) (k : Theory) (g : Graph) (f : ℕ → ℕ) → Fits i k g f → (e : Edge) → pairs_up i f e ≡ true → e.from < length g.nodes
    → e.to < length g.nodes → Fits i k (with_edge g e) f
with_edge_fits i k g f fits e pair from to = record {
  elements = fits.elements;
  names = fits.names;
  labels = fits.labels;
  edges = all_append (pairs_up i f) g.edges (e ∷ []) fits.edges (and_from (pairs_up i f e) true pair refl);
  named = fits.named;
  ends = all_append (within (length g.nodes)) g.edges (e ∷ []) fits.ends
      (and_from (within (length g.nodes) e) true
      (and_from (nat_lt e.from (length g.nodes)) (nat_lt e.to (length g.nodes)) (lt-ltb e.from (length g.nodes) from) (lt-ltb e.to (length g.nodes) to))
      refl);
}

-- one more node: its element is a, and every other node keeps its own
abbrev pub and_at : ℕ → ℕ → (ℕ → ℕ) → ℕ → ℕ
and_at n a f x = if x == n then a else f x

at_new : (n a : ℕ) (f : ℕ → ℕ) (x : ℕ) → x ≡ n → and_at n a f x ≡ a
at_new n a f x e = ap (λ b. if b then a else f x) (eq-eqb x n e)

at_old : (n a : ℕ) (f : ℕ → ℕ) (x : ℕ) → x ≢ n → and_at n a f x ≡ f x
at_old n a f x ne = ap (λ b. if b then a else f x) (ne_eqb x n ne)

-- edges between old nodes are pairs as before
old_pairs : (i : Interpretation) (n a : ℕ) (f : ℕ → ℕ) (es : List Edge) → list_all (within n) es ≡ true → list_all (pairs_up i f) es ≡ true
    → list_all (pairs_up i (and_at n a f)) es ≡ true
old_pairs i n a f [] p q = refl
old_pairs i n a f (e ∷ es) p q =
    let w : within n e ≡ true = and_first (within n e) (list_all (within n) es) p in
    let from : e.from < n = ltb-true e.from n (and_first (nat_lt e.from n) (nat_lt e.to n) w) in
    let to : e.to < n = ltb-true e.to n (and_second (nat_lt e.from n) (nat_lt e.to n) w) in
    let one : f e.from ≡ and_at n a f e.from = sym (at_old n a f e.from (λ z. absurd (omega (arith, from, z)))) in
    let other : f e.to ≡ and_at n a f e.to = sym (at_old n a f e.to (λ z. absurd (omega (arith, to, z)))) in
    and_from (pairs_up i (and_at n a f) e) (list_all (pairs_up i (and_at n a f)) es)
    (subst (λ z. relates i e.role (and_at n a f e.from) z ≡ true) other
    (subst (λ z. relates i e.role z (f e.to) ≡ true) one (and_first (pairs_up i f e) (list_all (pairs_up i f) es) q)))
    (old_pairs i n a f es (and_second (within n e) (list_all (within n) es) p) (and_second (pairs_up i f e) (list_all (pairs_up i f) es) q))

within_more : (n : ℕ) (e : Edge) → within n e ≡ true → within (n + 1) e ≡ true
within_more n e h =
    let from : e.from < n = ltb-true e.from n (and_first (nat_lt e.from n) (nat_lt e.to n) h) in
    let to : e.to < n = ltb-true e.to n (and_second (nat_lt e.from n) (nat_lt e.to n) h) in
    and_from (nat_lt e.from (n + 1)) (nat_lt e.to (n + 1)) (lt-ltb e.from (n + 1) (omega (arith, from))) (lt-ltb e.to (n + 1) (omega (arith, to)))

pub with_node_fits : (i : Interpretation) (k : Theory) (g : Graph) (f : ℕ → ℕ) → Fits i k g f → (v : Vertex) (e : Edge) (a : ℕ) → a < i.size
    → list_all (λ c. is_in i c a) v.label ≡ true → relates i e.role (f e.from) a ≡ true → e.from < length g.nodes → e.to ≡ length g.nodes
    → Fits i k (with_node g v e) (and_at (length g.nodes) a f)
with_node_fits i k g f fits v e a small hold pair from to = record {
  elements = λ x. elim (cases_eq x (length g.nodes)) [
    | inl new ↦ subst (λ z. z < i.size) (sym (at_new (length g.nodes) a f x new)) small
    | inr ne ↦ subst (λ z. z < i.size) (sym (at_old (length g.nodes) a f x ne)) (fits.elements x)
  ];
  names = λ name x is. at_old (length g.nodes) a f x (λ z. absurd (omega (arith, node_within k name x is, fits.named, z))) ∙ fits.names name x is;
  labels = λ y. labels_at y (slice_get (g.nodes ++ v ∷ []) y) refl;
  edges = all_append (pairs_up i (and_at (length g.nodes) a f)) g.edges (e ∷ [])
      (old_pairs i (length g.nodes) a f g.edges fits.ends fits.edges)
      (and_from (pairs_up i (and_at (length g.nodes) a f) e) true
      (subst (λ z. relates i e.role (and_at (length g.nodes) a f e.from) z ≡ true) (sym (at_new (length g.nodes) a f e.to to))
      (subst (λ z. relates i e.role z a ≡ true) (sym (at_old (length g.nodes) a f e.from (λ z. absurd (omega (arith, from, z))))) pair)) refl);
  named = let more : length (g.nodes ++ v ∷ []) ≡ length g.nodes + 1 = length_push g.nodes v in omega (arith, fits.named, more);
  ends = subst (λ m. list_all (within m) (g.edges ++ e ∷ []) ≡ true) (sym (length_push g.nodes v))
      (all_append (within (length g.nodes + 1)) g.edges (e ∷ [])
      (all_weaken (within (length g.nodes)) (within (length g.nodes + 1)) (within_more (length g.nodes)) g.edges fits.ends)
      (and_from (within (length g.nodes + 1) e) true
      (and_from (nat_lt e.from (length g.nodes + 1)) (nat_lt e.to (length g.nodes + 1)) (lt-ltb e.from (length g.nodes + 1) (omega (arith, from)))
      (lt-ltb e.to (length g.nodes + 1) (omega (arith, to)))) refl));
}
  where
    labels_at : (y : ℕ) (o : Option Vertex) → slice_get (g.nodes ++ v ∷ []) y ≡ o
        → list_all (λ c. is_in i c (and_at (length g.nodes) a f y)) (option_map_or (λ u. u.label) o []) ≡ true
    labels_at y o is = elim (push_cases g.nodes v y) [
      | inl old ↦ subst (λ p. list_all (λ c. is_in i c (and_at (length g.nodes) a f y)) (option_map_or (λ u. u.label) p []) ≡ true) (sym old.1 ∙ is)
          (subst (λ z. list_all (λ c. is_in i c z) (label_at g y) ≡ true) (sym (at_old (length g.nodes) a f y old.0)) (fits.labels y))
      | inr new ↦ subst (λ p. list_all (λ c. is_in i c (and_at (length g.nodes) a f y)) (option_map_or (λ u. u.label) p []) ≡ true) (sym new.1 ∙ is)
          (subst (λ z. list_all (λ c. is_in i c z) v.label ≡ true) (sym (at_new (length g.nodes) a f y new.0)) hold)
    ]
