-- A model fits the first branch.
use Rattle.std.proofs.Common.{◌≡◌, ℕ, zero, suc, ◌<◌, ◌≤◌, ◌&&◌, Bool, true, false, List, [], ◌∷◌, ◌++◌, length, map, filter, cond, Option, Some, None, slice_get, subst, refl, sym, ap, ◌∙◌, arith}
use Rattle.std.specs.Prelude.{nat_lt, filter_map, unwrap_or}
use Rattle.std.specs.List.{list_all, cons_option}
use Rattle.std.specs.Option.{option_map_or, option_and_then, option_map}
use Rattle.std.proofs.lemmas.Bool.{lt-ltb, ltb-true, and_from}
use Rattle.std.proofs.lemmas.List.{length-map}
use Rattle.wiki_base.specs.declared.numbers.WordId.{WordId}
use Rattle.logic_terms.specs.declared.expressions.Role.{Role}
use Rattle.logic_terms.specs.Concept.{Concept, Everything, SubClassOf, ClassAssertion, PropertyAssertion, SameIndividual}
use Rattle.logic_terms.specs.Interpretation.{Interpretation, is_interpretation, element_of, relates, is_word}
use Rattle.std.specs.Map.{lookup}
use Rattle.wiki_base.proofs.BoolLaws.{and_first, and_second}
use Rattle.wiki_base.proofs.ListLaws.{all_append}
use Rattle.tableau_rules.proofs.Roots.{node_within, place_get}
use Rattle.logic_terms.specs.Meaning.{is_in, holds}
use Rattle.logic_terms.specs.Theory.{Theory, representative}
use Rattle.logic_terms.proofs.SameLemmas.{word_equal}
use Rattle.tableau_rules.specs.declared.branch.Edge.{Edge}
use Rattle.tableau_rules.specs.Neighbours.{roots, place_in, node_of}
use Rattle.tableau_rules.specs.Clashes.{passes}
use Rattle.tableau_rules.specs.Rules.{with_classes}
use Rattle.tableau_rules.specs.Branches.{asserted, first_node, first_nodes, first_edge, start}
use Rattle.closure_check.proofs.Basics.{passes_some}
use Rattle.closure_check.proofs.Fitting.{Fits, pairs_up, within, with_classes_all}
use Rattle.closure_check.proofs.StepFits.{general_in}
use Rattle.closure_check.proofs.ClashFits.{named_alike}

-- the elements of the first nodes: those of the names
abbrev pub first_elements : Interpretation → Theory → ℕ → ℕ
first_elements i k x = option_map_or (element_of i) (slice_get (roots k) x) 0

small : (n : ℕ) (es : List (WordId × ℕ)) (test : WordId → Bool) → 0 < n → list_all (λ e. nat_lt e.1 n) es ≡ true → unwrap_or (lookup test es) 0 < n
small n [] test lt h = lt
small n (e ∷ es) test lt h = go (small n es test lt (and_second (nat_lt e.1 n) (list_all (λ d. nat_lt d.1 n) es) h)) (test e.0)
  where
    go : unwrap_or (lookup test es) 0 < n → (b : Bool) → unwrap_or (cond b (Some e.1) (lookup test es)) 0 < n
    go further true = ltb-true e.1 n (and_first (nat_lt e.1 n) (list_all (λ d. nat_lt d.1 n) es) h)
    go further false = further

-- each name has an element
record Sized (i : Interpretation) : Type 0 where
  pub some : 0 < i.size
  pub names : list_all (λ e. nat_lt e.1 i.size) i.names ≡ true

element_small : (i : Interpretation) → Sized i → (name : WordId) → element_of i name < i.size
element_small i sized name = small i.size i.names (is_word name) sized.some sized.names

first_small : (i : Interpretation) (k : Theory) → Sized i → (x : ℕ) → first_elements i k x < i.size
first_small i k sized x = go (slice_get (roots k) x)
  where
    go : (o : Option WordId) → option_map_or (element_of i) o 0 < i.size
    go None = sized.some
    go (Some w) = element_small i sized w

-- a name's node has its element
name_fits : (i : Interpretation) (k : Theory) → list_all (λ e. holds i (SameIndividual e.0 e.1)) k.names ≡ true → (name : WordId) (x : ℕ)
    → node_of k name ≡ Some x → first_elements i k x ≡ element_of i name
name_fits i k names name x h = go (representative k name) refl h
  where
    go : (o : Option WordId) → representative k name ≡ o → option_and_then (place_in (roots k)) o ≡ Some x → first_elements i k x ≡ element_of i name
    go None e t = cc
    go (Some root) e t =
        ap (λ o. option_map_or (element_of i) o 0) (place_get (roots k) root x t) ∙ sym (named_alike i k names name root e)

-- what is asserted of a root's names holds of its element
asserted_in : (i : Interpretation) (k : Theory) → list_all (λ e. holds i (SameIndividual e.0 e.1)) k.names ≡ true
    → (root : WordId) (es : List (WordId × Concept)) → list_all (λ e. holds i (ClassAssertion e.1 e.0)) es ≡ true
    → list_all (λ c. is_in i c (element_of i root)) (map (λ e. e.1) (filter (λ e. passes (representative k e.0) (is_word root)) es)) ≡ true
asserted_in i k names root [] h = refl
asserted_in i k names root (e ∷ es) h =
    go (asserted_in i k names root es (and_second (holds i (ClassAssertion e.1 e.0)) (list_all (λ d. holds i (ClassAssertion d.1 d.0)) es) h))
    (passes (representative k e.0) (is_word root)) refl
  where
    go : list_all (λ c. is_in i c (element_of i root)) (map (λ d. d.1) (filter (λ d. passes (representative k d.0) (is_word root)) es)) ≡ true → (b : Bool)
        → passes (representative k e.0) (is_word root) ≡ b
        → list_all (λ c. is_in i c (element_of i root))
        (map (λ d. d.1) (cond b (e ∷ filter (λ d. passes (representative k d.0) (is_word root)) es)
        (filter (λ d. passes (representative k d.0) (is_word root)) es))) ≡ true
    go rest true is =
        (let r = passes_some (representative k e.0) (is_word root) is in
        let same : element_of i e.0 ≡ element_of i root = named_alike i k names e.0 r.0 r.1 ∙ ap (element_of i) (sym (word_equal root r.0 r.2)) in
        and_from (is_in i e.1 (element_of i root))
        (list_all (λ c. is_in i c (element_of i root)) (map (λ d. d.1) (filter (λ d. passes (representative k d.0) (is_word root)) es)))
        (subst (λ a. is_in i e.1 a ≡ true) same (and_first (holds i (ClassAssertion e.1 e.0)) (list_all (λ d. holds i (ClassAssertion d.1 d.0)) es) h)) rest)
    go rest false is = rest

-- the edges of the property assertions are pairs
edges_in : (i : Interpretation) (k : Theory) → list_all (λ e. holds i (SameIndividual e.0 e.1)) k.names ≡ true → (es : List (Role × WordId × WordId))
    → list_all (λ e. holds i (PropertyAssertion e.0 e.1 e.2)) es ≡ true → list_all (pairs_up i (first_elements i k)) (filter_map (first_edge k) es) ≡ true
edges_in i k names [] h = refl
edges_in i k names (e ∷ es) h =
    go (edges_in i k names es (and_second (holds i (PropertyAssertion e.0 e.1 e.2)) (list_all (λ d. holds i (PropertyAssertion d.0 d.1 d.2)) es) h))
    (node_of k e.1) refl (node_of k e.2) refl
  where
    go : list_all (pairs_up i (first_elements i k)) (filter_map (first_edge k) es) ≡ true → (o : Option ℕ) → node_of k e.1 ≡ o → (p : Option ℕ)
        → node_of k e.2 ≡ p → list_all (pairs_up i (first_elements i k))
        (cons_option (option_and_then (λ x. option_map (λ y. let d : Edge = record { from = x; role = e.0; to = y } in d) p) o) (filter_map (first_edge k) es))
        ≡ true
    go rest None a p b = rest
    go rest (Some x) a None b = rest
    go rest (Some x) a (Some y) b =
        and_from (relates i e.0 (first_elements i k x) (first_elements i k y)) (list_all (pairs_up i (first_elements i k)) (filter_map (first_edge k) es))
        (subst (λ z. relates i e.0 (first_elements i k x) z ≡ true) (sym (name_fits i k names e.2 y b))
        (subst (λ z. relates i e.0 z (element_of i e.2) ≡ true) (sym (name_fits i k names e.1 x a))
        (and_first (holds i (PropertyAssertion e.0 e.1 e.2)) (list_all (λ d. holds i (PropertyAssertion d.0 d.1 d.2)) es) h))) rest

ends_in : (k : Theory) (n : ℕ) → length (roots k) ≤ n → (es : List (Role × WordId × WordId)) → list_all (within n) (filter_map (first_edge k) es) ≡ true
ends_in k n le [] = refl
ends_in k n le (e ∷ es) = go (ends_in k n le es) (node_of k e.1) refl (node_of k e.2) refl
  where
    go : list_all (within n) (filter_map (first_edge k) es) ≡ true → (o : Option ℕ) → node_of k e.1 ≡ o → (p : Option ℕ) → node_of k e.2 ≡ p
        → list_all (within n) (cons_option (option_and_then (λ x. option_map (λ y. let d : Edge = record { from = x; role = e.0; to = y } in d) p) o)
        (filter_map (first_edge k) es)) ≡ true
    go rest None a p b = rest
    go rest (Some x) a None b = rest
    go rest (Some x) a (Some y) b =
        and_from (nat_lt x n && nat_lt y n) (list_all (within n) (filter_map (first_edge k) es))
        (and_from (nat_lt x n) (nat_lt y n) (lt-ltb x n (omega (arith, node_within k e.1 x a, le))) (lt-ltb y n (omega (arith, node_within k e.2 y b, le))))
        rest

module _ (i : Interpretation) (k : Theory) (sized : Sized i) (names : list_all (λ e. holds i (SameIndividual e.0 e.1)) k.names ≡ true)
    (assertions : list_all (λ e. holds i (ClassAssertion e.1 e.0)) k.assertions ≡ true)
    (general : list_all (λ c. holds i (SubClassOf Everything c)) k.general ≡ true) where
  node_label : (a : ℕ) → a < i.size → (cs : List Concept) → list_all (λ c. is_in i c a) cs ≡ true
      → list_all (λ c. is_in i c a) (with_classes [] (cs ++ k.general)) ≡ true
  node_label a lt cs h =
      with_classes_all (λ c. is_in i c a) [] (cs ++ k.general) refl
      (all_append (λ c. is_in i c a) cs k.general h (general_in i a lt k.general general))

  named_label : (ws : List WordId) (x : ℕ)
      → list_all (λ c. is_in i c (option_map_or (element_of i) (slice_get ws x) 0))
      (option_map_or (λ v. v.label) (slice_get (map (λ r. first_node k (asserted k r)) ws) x) []) ≡ true
  named_label [] x = refl
  named_label (w ∷ ws) zero = node_label (element_of i w) (element_small i sized w) (asserted k w) (asserted_in i k names w k.assertions assertions)
  named_label (w ∷ ws) (suc x) = named_label ws x

  labels_in : (ws : List WordId) (x : ℕ)
      → list_all (λ c. is_in i c (option_map_or (element_of i) (slice_get ws x) 0)) (option_map_or (λ v. v.label) (slice_get (first_nodes k ws) x) []) ≡ true
  labels_in [] zero = node_label 0 sized.some [] refl
  labels_in [] (suc x) = refl
  labels_in (w ∷ ws) x = named_label (w ∷ ws) x

enough_nodes : (k : Theory) (ws : List WordId) → length ws ≤ length (first_nodes k ws)
enough_nodes k [] = omega arith
enough_nodes k (w ∷ ws) =
    let same : length (map (λ r. first_node k (asserted k r)) (w ∷ ws)) ≡ length (w ∷ ws) = length-map (w ∷ ws) (λ r. first_node k (asserted k r)) in
    omega (arith, same)

sized_is : (i : Interpretation) → nat_lt 0 i.size ≡ true → list_all (λ e. nat_lt e.1 i.size) i.names ≡ true → Sized i
sized_is i p q = record { some = ltb-true 0 i.size p; names = q }

-- an interpretation is not empty, and its names have elements
and_all : (a b c d e f g : Bool) → (((((a && b) && c) && d) && e) && f && g) ≡ true → (a ≡ true) × (e ≡ true)
and_all a b c d e f g h =
    let p = and_first ((((a && b) && c) && d) && e) f (and_first (((((a && b) && c) && d) && e) && f) g h) in
    let q = and_first (((a && b) && c) && d) e p in
    (and_first a b (and_first (a && b) c (and_first ((a && b) && c) d q)), and_second (((a && b) && c) && d) e p)

sized_by : (i : Interpretation) → is_interpretation i ≡ true → Sized i
sized_by i h = let p = and_all _ _ _ _ _ _ _ h in sized_is i p.0 p.1

-- each name has an element
pub named_small : (i : Interpretation) → is_interpretation i ≡ true → (name : WordId) → element_of i name < i.size
named_small i is name = element_small i (sized_by i is) name

pub start_fits : (i : Interpretation) (k : Theory) → is_interpretation i ≡ true → list_all (λ e. holds i (SameIndividual e.0 e.1)) k.names ≡ true
    → list_all (λ e. holds i (ClassAssertion e.1 e.0)) k.assertions ≡ true → list_all (λ e. holds i (PropertyAssertion e.0 e.1 e.2)) k.edges ≡ true
    → list_all (λ c. holds i (SubClassOf Everything c)) k.general ≡ true → Fits i k (start k) (first_elements i k)
start_fits i k is names assertions edges general = record {
  elements = first_small i k (sized_by i is);
  names = name_fits i k names;
  labels = λ x. labels_in i k (sized_by i is) names assertions general (roots k) x;
  edges = edges_in i k names k.edges edges;
  named = enough_nodes k (roots k);
  ends = ends_in k (length (first_nodes k (roots k))) (enough_nodes k (roots k)) k.edges;
}
