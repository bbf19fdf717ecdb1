-- An interpretation that is a model fits no branch with a clash.
use Rattle.std.proofs.Common.{◌≡◌, ℕ, ◌==◌, ◌&&◌, true, Some, slice_get, subst, refl, sym, ap, ◌∙◌}
use Rattle.std.specs.Prelude.{not}
use Rattle.std.specs.List.{list_any, list_all}
use Rattle.std.proofs.lemmas.Bool.{eqb-true, eq-eqb}
use Rattle.wiki_base.specs.declared.numbers.WordId.{WordId}
use Rattle.wiki_base.proofs.BoolLaws.{and_first, and_second}
use Rattle.wiki_base.proofs.ListLaws.{all_slice_get}
use Rattle.logic_terms.specs.declared.expressions.Role.{Role}
use Rattle.logic_terms.specs.Concept.{Concept, Everything, Atomic, ComplementOf, HasValue, SubPropertyOf, SameIndividual, DifferentIndividuals}
use Rattle.logic_terms.specs.Interpretation.{Interpretation, element_of, has_element, relates, is_word}
use Rattle.logic_terms.specs.Meaning.{is_in, holds}
use Rattle.logic_terms.specs.Parts.{word_part, complement_part, value_part}
use Rattle.logic_terms.specs.Same.{same_concept}
use Rattle.logic_terms.specs.Theory.{Theory, representative}
use Rattle.logic_terms.proofs.SameLemmas.{word_equal, same_concept-equal}
use Rattle.tableau_rules.specs.declared.step.Clash.{Clash}
use Rattle.tableau_rules.specs.declared.step.Clash.TheVariants.{Pair, NoThing, NoValue, Names}
use Rattle.tableau_rules.specs.Graph.{Graph, class_at}
use Rattle.tableau_rules.specs.Neighbours.{node_of, makes_neighbour}
use Rattle.tableau_rules.specs.Clashes.{passes, are_joined, value_clashes, is_clash}
use Rattle.closure_check.proofs.Basics.{not_both, passes_some, any_with_all, lookup_entry}
use Rattle.closure_check.proofs.Fitting.{Fits, class_fits, makes_pair, pairs_up}

pub word_in : (i : Interpretation) (c : Concept) (word : WordId) (a : ℕ) → word_part c ≡ Some word → is_in i c a ≡ true → has_element i word a ≡ true
word_in i (Atomic w) word a e h = let same : w ≡ word = cc in ap (λ v. has_element i v a) (sym same) ∙ h
word_in i _ word a e h = cc

not_in : (i : Interpretation) (c d : Concept) (a : ℕ) → complement_part c ≡ Some d → is_in i c a ≡ true → not (is_in i d a) ≡ true
not_in i (ComplementOf e) d a is h = let same : e ≡ d = cc in ap (λ v. not (is_in i v a)) (sym same) ∙ h
not_in i _ d a is h = cc

value_is : (i : Interpretation) (d : Concept) (v : Role × WordId) (a : ℕ) → value_part d ≡ Some v → relates i v.0 a (element_of i v.1) ≡ true
    → is_in i d a ≡ true
value_is i (HasValue r name) v a e h =
    let same : (r, name) ≡ v = cc in subst (λ q. relates i q.0 a (element_of i q.1) ≡ true) (sym same) h
value_is i _ v a e h = cc

-- a name has the element of its representative
pub named_alike : (i : Interpretation) (k : Theory) → list_all (λ e. holds i (SameIndividual e.0 e.1)) k.names ≡ true → (name root : WordId)
    → representative k name ≡ Some root → element_of i name ≡ element_of i root
named_alike i k names name root is =
    let w = lookup_entry (is_word name) (λ e. holds i (SameIndividual e.0 e.1)) k.names root is names in
    ap (element_of i) (word_equal name w.0 w.1) ∙ eqb-true (element_of i w.0) (element_of i root) w.2

module _ (i : Interpretation) (k : Theory) (names : list_all (λ e. holds i (SameIndividual e.0 e.1)) k.names ≡ true)
    (hierarchy : list_all (λ p. holds i (SubPropertyOf p.0 p.1)) k.hierarchy ≡ true)
    (differences : list_all (λ d. holds i (DifferentIndividuals d.0 d.1)) k.differences ≡ true) (g : Graph) (f : ℕ → ℕ) (fits : Fits i k g f) where
  pair_breaks : (x named denied : ℕ) → is_clash k g (Pair x named denied) ≡ true → ⊥
  pair_breaks x named denied h =
      let c = passes_some (class_at g x named)
      (λ c. passes (word_part c) (λ word. passes (class_at g x denied) (λ d. same_concept d (ComplementOf (Atomic word))))) h in
      let w = passes_some (word_part c.0) (λ word. passes (class_at g x denied) (λ d. same_concept d (ComplementOf (Atomic word)))) c.2 in
      let d = passes_some (class_at g x denied) (λ d. same_concept d (ComplementOf (Atomic w.0))) w.2 in
      let is : has_element i w.0 (f x) ≡ true = word_in i c.0 w.0 (f x) w.1 (class_fits i k g f fits x named c.0 c.1) in
      let other : is_in i d.0 (f x) ≡ true = class_fits i k g f fits x denied d.0 d.1 in
      not_both (has_element i w.0 (f x)) is (ap (λ z. is_in i z (f x)) (sym (same_concept-equal d.0 (ComplementOf (Atomic w.0)) d.2)) ∙ other)

  nothing_breaks : (x place : ℕ) → is_clash k g (NoThing x place) ≡ true → ⊥
  nothing_breaks x place h =
      let c = passes_some (class_at g x place) (λ c. same_concept c (ComplementOf Everything)) h in
      not_both true refl (ap (λ z. is_in i z (f x)) (sym (same_concept-equal c.0 (ComplementOf Everything) c.2)) ∙ class_fits i k g f fits x place c.0 c.1)

  value_breaks : (x place edge : ℕ) → is_clash k g (NoValue x place edge) ≡ true → ⊥
  value_breaks x place edge h =
      let c = passes_some (class_at g x place) (λ c. value_clashes k c (λ role y. passes (slice_get g.edges edge) (makes_neighbour k role x y))) h in
      let d = passes_some (complement_part c.0)
      (λ d. passes (value_part d) (λ v. passes (node_of k v.1) (λ y. passes (slice_get g.edges edge) (makes_neighbour k v.0 x y)))) c.2 in
      let v = passes_some (value_part d.0) (λ v. passes (node_of k v.1) (λ y. passes (slice_get g.edges edge) (makes_neighbour k v.0 x y))) d.2 in
      let y = passes_some (node_of k v.0.1) (λ y. passes (slice_get g.edges edge) (makes_neighbour k v.0.0 x y)) v.2 in
      let e = passes_some (slice_get g.edges edge) (makes_neighbour k v.0.0 x y.0) y.2 in
      let pair : relates i v.0.0 (f x) (f y.0) ≡ true =
      makes_pair i k f fits.elements hierarchy v.0.0 x y.0 e.0 e.2 (all_slice_get (pairs_up i f) g.edges edge e.0 fits.edges e.1) in
      let to : relates i v.0.0 (f x) (element_of i v.0.1) ≡ true = subst (λ z. relates i v.0.0 (f x) z ≡ true) (fits.names v.0.1 y.0 y.1) pair in
      not_both (is_in i d.0 (f x)) (value_is i d.0 v.0 (f x) v.1 to) (not_in i c.0 d.0 (f x) d.1 (class_fits i k g f fits x place c.0 c.1))

  names_break : (a b : WordId) → is_clash k g (Names a b) ≡ true → ⊥
  names_break a b h =
      let w = any_with_all (λ d. is_word a d.0 && is_word b d.1) (λ d. holds i (DifferentIndividuals d.0 d.1)) k.differences
      (and_first (list_any (λ d. is_word a d.0 && is_word b d.1) k.differences) (are_joined k a b) h) differences in
      let one : a ≡ w.0.0 = word_equal a w.0.0 (and_first (is_word a w.0.0) (is_word b w.0.1) w.1) in
      let other : b ≡ w.0.1 = word_equal b w.0.1 (and_second (is_word a w.0.0) (is_word b w.0.1) w.1) in
      let r = passes_some (representative k a) (λ r. passes (representative k b) (is_word r))
      (and_second (list_any (λ d. is_word a d.0 && is_word b d.1) k.differences) (are_joined k a b) h) in
      let s = passes_some (representative k b) (is_word r.0) r.2 in
      let same : element_of i a ≡ element_of i b =
      named_alike i k names a r.0 r.1 ∙ (ap (element_of i) (word_equal r.0 s.0 s.2) ∙ sym (named_alike i k names b s.0 s.1)) in
      let alike : element_of i w.0.0 ≡ element_of i w.0.1 = ap (element_of i) (sym one) ∙ (same ∙ ap (element_of i) other) in
      not_both (element_of i w.0.0 == element_of i w.0.1) (eq-eqb (element_of i w.0.0) (element_of i w.0.1) alike) w.2

  pub clash_breaks : (c : Clash) → is_clash k g c ≡ true → ⊥
  clash_breaks (Pair x named denied) h = pair_breaks x named denied h
  clash_breaks (NoThing x place) h = nothing_breaks x place h
  clash_breaks (NoValue x place edge) h = value_breaks x place edge h
  clash_breaks (Names a b) h = names_break a b h
