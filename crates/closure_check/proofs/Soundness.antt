-- A closed tree excludes every model.
use Rattle.std.proofs.Common.{◌≡◌, ℕ, ◌+◌, ◌<◌, ◌≤◌, true, subst, refl, sym, inl, inr, arith}
use Rattle.std.specs.List.{list_all}
use Rattle.std.proofs.lemmas.Bool.{cases_eq, eqb-true}
use Rattle.logic_terms.specs.Concept.{Everything, Atomic, SubClassOf, SubPropertyOf, ClassAssertion, PropertyAssertion, SameIndividual, DifferentIndividuals, TransitiveProperty}
use Rattle.wiki_base.specs.declared.numbers.WordId.{WordId}
use Rattle.logic_terms.specs.Interpretation.{Interpretation, is_interpretation, element_of}
use Rattle.logic_terms.specs.Meaning.{holds}
use Rattle.logic_terms.specs.Reading.{Holds}
use Rattle.logic_terms.specs.Theory.{Theory, IsModelOf}
use Rattle.logic_terms.proofs.MeaningLemmas.{holds-Decides}
use Rattle.closure_check.specs.NoModel.{HasNoModel}
use Rattle.std.proofs.lemmas.Bool.Decides.{Decides-by_and}
use Rattle.wiki_base.proofs.BoolLaws.{and_first, and_second}
use Rattle.tableau_rules.specs.declared.step.Step.{Step}
use Rattle.tableau_rules.specs.Graph.{Graph}
use Rattle.tableau_rules.specs.Rules.{applies, choices, after}
use Rattle.tableau_rules.specs.Branches.{start}
use Rattle.tableau_rules.specs.Trees.{Tree, Trees, ends, splits, no_tree, also_tree, closes, close_from, is_closed}
use Rattle.closure_check.proofs.Fitting.{Fits}
use Rattle.closure_check.proofs.StepFits.{Obeys, step_fits}
use Rattle.closure_check.proofs.ClashFits.{clash_breaks}
use Rattle.closure_check.proofs.StartFits.{first_elements, named_small, start_fits}

-- what the test of a model says of each list
pub record Parts (i : Interpretation) (k : Theory) : Type 0 where
  pub names : list_all (λ e. holds i (SameIndividual e.0 e.1)) k.names ≡ true
  pub hierarchy : list_all (λ p. holds i (SubPropertyOf p.0 p.1)) k.hierarchy ≡ true
  pub transitive : list_all (λ w. holds i (TransitiveProperty w)) k.transitive ≡ true
  pub named : (name : WordId) → element_of i name < i.size
  pub assertions : list_all (λ e. holds i (ClassAssertion e.1 e.0)) k.assertions ≡ true
  pub edges : list_all (λ e. holds i (PropertyAssertion e.0 e.1 e.2)) k.edges ≡ true
  pub differences : list_all (λ d. holds i (DifferentIndividuals d.0 d.1)) k.differences ≡ true
  pub unfoldings : list_all (λ e. holds i (SubClassOf (Atomic e.0) e.1)) k.unfoldings ≡ true
  pub general : list_all (λ c. holds i (SubClassOf Everything c)) k.general ≡ true

pub parts_of : (i : Interpretation) (k : Theory) → is_interpretation i ≡ true → IsModelOf i k → Parts i k
parts_of i k is m = record {
  names = (Decides-by_and (λ e. holds i (SameIndividual e.0 e.1)) (λ e. Holds i (SameIndividual e.0 e.1)) (list_all (λ e. holds i (SameIndividual e.0 e.1)))
      (λ e. holds-Decides i (SameIndividual e.0 e.1)) refl (λ _ _. refl) k.names).1 m.names;
  hierarchy = (Decides-by_and (λ p. holds i (SubPropertyOf p.0 p.1)) (λ p. Holds i (SubPropertyOf p.0 p.1)) (list_all (λ p. holds i (SubPropertyOf p.0 p.1)))
      (λ p. holds-Decides i (SubPropertyOf p.0 p.1)) refl (λ _ _. refl) k.hierarchy).1 m.hierarchy;
  transitive = (Decides-by_and (λ w. holds i (TransitiveProperty w)) (λ w. Holds i (TransitiveProperty w)) (list_all (λ w. holds i (TransitiveProperty w)))
      (λ w. holds-Decides i (TransitiveProperty w)) refl (λ _ _. refl) k.transitive).1 m.transitive;
  named = named_small i is;
  assertions = (Decides-by_and (λ e. holds i (ClassAssertion e.1 e.0)) (λ e. Holds i (ClassAssertion e.1 e.0))
      (list_all (λ e. holds i (ClassAssertion e.1 e.0))) (λ e. holds-Decides i (ClassAssertion e.1 e.0)) refl (λ _ _. refl) k.assertions).1 m.assertions;
  edges = (Decides-by_and (λ e. holds i (PropertyAssertion e.0 e.1 e.2)) (λ e. Holds i (PropertyAssertion e.0 e.1 e.2))
      (list_all (λ e. holds i (PropertyAssertion e.0 e.1 e.2))) (λ e. holds-Decides i (PropertyAssertion e.0 e.1 e.2)) refl (λ _ _. refl) k.edges).1 m.edges;
  differences = (Decides-by_and (λ d. holds i (DifferentIndividuals d.0 d.1)) (λ d. Holds i (DifferentIndividuals d.0 d.1))
      (list_all (λ d. holds i (DifferentIndividuals d.0 d.1))) (λ d. holds-Decides i (DifferentIndividuals d.0 d.1)) refl (λ _ _. refl) k.differences).1
      m.differences;
  unfoldings = (Decides-by_and (λ e. holds i (SubClassOf (Atomic e.0) e.1)) (λ e. Holds i (SubClassOf (Atomic e.0) e.1))
      (list_all (λ e. holds i (SubClassOf (Atomic e.0) e.1))) (λ e. holds-Decides i (SubClassOf (Atomic e.0) e.1)) refl (λ _ _. refl) k.unfoldings).1
      m.unfoldings;
  general = (Decides-by_and (λ c. holds i (SubClassOf Everything c)) (λ c. Holds i (SubClassOf Everything c))
      (list_all (λ c. holds i (SubClassOf Everything c))) (λ c. holds-Decides i (SubClassOf Everything c)) refl (λ _ _. refl) k.general).1 m.general;
}

mutual
  -- a tree that closes a branch excludes that a model fits it
  pub closes_breaks : (i : Interpretation) (k : Theory) → Parts i k → (t : Tree) (g : Graph) (f : ℕ → ℕ) → Fits i k g f → closes k g t ≡ true → ⊥
  closes_breaks i k parts (ends c) g f fits h = clash_breaks i k parts.names parts.hierarchy parts.differences g f fits c h
  closes_breaks i k parts (splits s ts) g f fits h =
      let obeys : Obeys i k = record {
        hierarchy = parts.hierarchy;
        transitive = parts.transitive;
        named = parts.named;
        unfoldings = parts.unfoldings;
        general = parts.general;
      } in
      let w = step_fits i k obeys g f fits s (and_first (applies k g s) (close_from k g s 0 ts) h) in
      from_breaks i k parts ts g s 0 (and_second (applies k g s) (close_from k g s 0 ts) h) w.0 (omega arith) w.1 w.2.0 w.2.1

  -- the subtrees from a choice on exclude that a model fits the branch after one of these choices
  pub from_breaks : (i : Interpretation) (k : Theory) → Parts i k → (ts : Trees) (g : Graph) (s : Step) (n : ℕ) → close_from k g s n ts ≡ true → (choice : ℕ)
      → n ≤ choice → choice < choices g s → (f : ℕ → ℕ) → Fits i k (after k g s choice) f → ⊥
  from_breaks i k parts no_tree g s n h choice low high f fits =
      let all : n ≡ choices g s = eqb-true n (choices g s) h in absurd (omega (arith, all, low, high))
  from_breaks i k parts (also_tree t ts) g s n h choice low high f fits = elim (cases_eq n choice) [
    | inl same ↦ closes_breaks i k parts t (after k g s n) f (subst (λ m. Fits i k (after k g s m) f) (sym same) fits)
        (and_first (closes k (after k g s n) t) (close_from k g s (n + 1) ts) h)
    | inr ne ↦ from_breaks i k parts ts g s (n + 1) (and_second (closes k (after k g s n) t) (close_from k g s (n + 1) ts) h) choice (omega arith) high f fits
  ]

-- the law of closed trees: knowledge with a closed tree has no finite model
pub closed_excludes : (k : Theory) (t : Tree) → is_closed k t ≡ true → HasNoModel k
closed_excludes k t closed i is model =
    let parts : Parts i k = parts_of i k is model in
    closes_breaks i k parts t (start k) (first_elements i k) (start_fits i k is parts.names parts.assertions parts.edges parts.general) closed
