-- The tests of `Truth` decide the facts of `Reading`.
use Rattle.std.proofs.Common.{◌≡◌, ℕ, ◌<◌, ◌==◌, ◌&&◌, ◌||◌, Bool, List, [], ◌∷◌, ◌++◌, Contains, refl, sym, ap, ◌∙◌, subst, inl, inr, arith, Decides}
use Rattle.std.specs.Prelude.{◌⊎◌}
use Rattle.std.specs.List.{list_any}
use Rattle.std.proofs.lemmas.Bool.{cases_Bool, cases_eq, cond-true, cond-false, eq-eqb, ne_eqb}
use Rattle.std.proofs.lemmas.Bool.Decides.{Decides-eqb, Decides-like, Decides-not, Decides-and, Decides-or, not_from_Decides}
use Rattle.std.proofs.lemmas.List.Elements.{Contains-append_right, Contains-append_cases}
use Rattle.logic_terms.specs.Structure.{Condition, Conditions, Structure, IsA, AreRelated, AreSame, Negation, Implication, Disjunction, no_condition, also_condition, structure}
use Rattle.logic_terms.specs.Interpretation.{Interpretation, elements_of, pairs_of}
use Rattle.logic_terms.specs.Meaning.{implies}
use Rattle.logic_terms.specs.Truth.{giving, some_extension, each_extension, thing_in, is_true, implies_test, all_true, condition_true}
use Rattle.logic_terms.specs.Reading.{Extends, IsTrueUnder, ImpliesOf, AllTrueUnder, ConditionTrueUnder}
use Rattle.logic_terms.proofs.MeaningLemmas.{list_any-Contains, list_any-Contains_pair, some_below-Decides, each_below-Decides, implies-Decides}

-- membership in a list with one more at its front
in_front : (r : ℕ) (rs : List ℕ) → Contains (r ∷ rs) r
in_front r rs = (0, omega arith, refl)

in_rest : (r : ℕ) (rs : List ℕ) (q : ℕ) → Contains rs q → Contains (r ∷ rs) q
in_rest r rs q h = Contains-append_right (r ∷ []) rs q h

only_front : (r q : ℕ) → Contains (r ∷ []) q → r ≡ q
only_front r q (k, h, e) = let z : k ≡ 0 = omega arith in sym (ap (λ n. Rattle.std.proofs.Common.get_or (r ∷ []) n q) z) ∙ e

in_cases : (r : ℕ) (rs : List ℕ) (q : ℕ) → Contains (r ∷ rs) q → (r ≡ q) ⊎ Contains rs q
in_cases r rs q h = elim (Contains-append_cases (r ∷ []) rs q h) [ inl a ↦ inl (only_front r q a) | inr b ↦ inr b ]

not_in_none : (q : ℕ) → ¬ Contains [] q
not_in_none q (k, h, e) = absurd (omega arith)

pub same_at : (f : ℕ → ℕ) (r x q : ℕ) → r ≡ q → giving f r x q ≡ x
same_at f r x q e = cond-true (q == r) x (f q) (eq-eqb q r (sym e))

pub other_at : (f : ℕ → ℕ) (r x q : ℕ) → ¬ (r ≡ q) → giving f r x q ≡ f q
other_at f r x q ne = cond-false (q == r) x (f q) (ne_eqb q r (λ e. ne (sym e)))

-- an extension to one more referent is an extension of an assignment that gives it an element
one_more : (n r : ℕ) (rs : List ℕ) (f g : ℕ → ℕ) (x : ℕ) → x < n → Extends n rs (giving f r x) g → Extends n (r ∷ rs) f g
one_more n r rs f g x lt e = record {
  introduced = λ q h. elim (cases_Bool (list_any (λ y. y == q) rs)) [
    | inl t ↦ e.introduced q ((list_any-Contains rs q).0 t)
    | inr t ↦ (let out : ¬ Contains rs q = not_from_Decides (list_any (λ y. y == q) rs) (list_any-Contains rs q) t in
        elim (in_cases r rs q h) [
          | inl same ↦ subst (λ z. z < n) (sym (e.others q out ∙ same_at f r x q same)) lt
          | inr inside ↦ absurd (out inside)
        ])
  ];
  others = λ q h. e.others q (λ inside. h (in_rest r rs q inside)) ∙ other_at f r x q (λ same. h (subst (λ z. Contains (r ∷ rs) z) same (in_front r rs)));
}

one_less : (n r : ℕ) (rs : List ℕ) (f g : ℕ → ℕ) → Extends n (r ∷ rs) f g → Extends n rs (giving f r (g r)) g
one_less n r rs f g e = record {
  introduced = λ q h. e.introduced q (in_rest r rs q h);
  others = λ q h. elim (cases_eq r q) [
    | inl same ↦ sym (ap g same) ∙ sym (same_at f r (g r) q same)
    | inr ne ↦ e.others q (λ m. elim (in_cases r rs q m) [ inl same ↦ ne same | inr inside ↦ h inside ]) ∙ sym (other_at f r (g r) q ne)
  ];
}

itself : (n : ℕ) (f : ℕ → ℕ) → Extends n [] f f
itself n f = record { introduced = λ r h. absurd (not_in_none r h); others = λ r h. refl }

same_function : (n : ℕ) (f g : ℕ → ℕ) → Extends n [] f g → g ≡ f
same_function n f g e = λ j q. e.others q (not_in_none q) j

pub some_extension-Decides : (n : ℕ) (rs : List ℕ) (test : (ℕ → ℕ) → Bool) (P : (ℕ → ℕ) → Type 0) → ((g : ℕ → ℕ) → Decides (test g) (P g)) → (f : ℕ → ℕ)
    → Decides (some_extension n rs test f) ((g : ℕ → ℕ) × Extends n rs f g × P g)
some_extension-Decides n [] test P each f =
    Decides-like (test f) (λ p. (f, itself n f, p)) (λ w. subst P (same_function n f w.0 w.1) w.2) (each f)
some_extension-Decides n (r ∷ rs) test P each f =
    Decides-like (some_extension n (r ∷ rs) test f)
    (λ w. (w.2.0, one_more n r rs f w.2.0 w.0 w.1 w.2.1, w.2.2))
    (λ w. (w.0 r, w.1.introduced r (in_front r rs), (w.0, one_less n r rs f w.0 w.1, w.2)))
    (some_below-Decides n (λ x. some_extension n rs test (giving f r x)) (λ x. (g : ℕ → ℕ) × Extends n rs (giving f r x) g × P g)
    (λ x. some_extension-Decides n rs test P each (giving f r x)))

pub each_extension-Decides : (n : ℕ) (rs : List ℕ) (test : (ℕ → ℕ) → Bool) (P : (ℕ → ℕ) → Type 0) → ((g : ℕ → ℕ) → Decides (test g) (P g)) → (f : ℕ → ℕ)
    → Decides (each_extension n rs test f) ((g : ℕ → ℕ) → Extends n rs f g → P g)
each_extension-Decides n [] test P each f =
    Decides-like (test f) (λ p g e. subst P (sym (same_function n f g e)) p) (λ all. all f (itself n f)) (each f)
each_extension-Decides n (r ∷ rs) test P each f =
    Decides-like (each_extension n (r ∷ rs) test f)
    (λ all g e. all (g r) (e.introduced r (in_front r rs)) g (one_less n r rs f g e))
    (λ all x lt g e. all g (one_more n r rs f g x lt e))
    (each_below-Decides n (λ x. each_extension n rs test (giving f r x)) (λ x. (g : ℕ → ℕ) → Extends n rs (giving f r x) g → P g)
    (λ x. each_extension-Decides n rs test P each (giving f r x)))

mutual
  pub is_true-Decides : (i : Interpretation) (k : Structure) (f : ℕ → ℕ) → Decides (is_true i k f) (IsTrueUnder i k f)
  is_true-Decides i (structure rs cs) f =
      some_extension-Decides i.size rs (λ g. all_true i cs g) (AllTrueUnder i cs) (λ g. all_true-Decides i cs g) f

  -- the right side is known to be decided
  pub implies_test-Decides : (i : Interpretation) (k l : Structure) → ((g : ℕ → ℕ) → Decides (is_true i l g) (IsTrueUnder i l g)) → (f : ℕ → ℕ)
      → Decides (implies_test i k (is_true i l) f) (ImpliesOf i k (IsTrueUnder i l) f)
  implies_test-Decides i (structure rs cs) l right f =
      each_extension-Decides i.size rs (λ g. implies (all_true i cs g) (is_true i l g)) (λ g. AllTrueUnder i cs g → IsTrueUnder i l g)
      (λ g. implies-Decides (all_true i cs g) (is_true i l g) (AllTrueUnder i cs g) (IsTrueUnder i l g) (all_true-Decides i cs g) (right g)) f

  pub all_true-Decides : (i : Interpretation) (cs : Conditions) (f : ℕ → ℕ) → Decides (all_true i cs f) (AllTrueUnder i cs f)
  all_true-Decides i no_condition f = (λ _. tt, λ _. refl)
  all_true-Decides i (also_condition c cs) f =
      Decides-and (condition_true i c f) (all_true i cs f) (condition_true-Decides i c f) (all_true-Decides i cs f)

  pub condition_true-Decides : (i : Interpretation) (c : Condition) (f : ℕ → ℕ) → Decides (condition_true i c f) (ConditionTrueUnder i c f)
  condition_true-Decides i (IsA noun thing) f = list_any-Contains (elements_of i noun) (thing_in i f thing)
  condition_true-Decides i (AreRelated word from to) f = list_any-Contains_pair (pairs_of i word) (thing_in i f from) (thing_in i f to)
  condition_true-Decides i (AreSame one other) f = Decides-eqb (thing_in i f one) (thing_in i f other)
  condition_true-Decides i (Negation k) f = Decides-not (is_true i k f) (is_true-Decides i k f)
  condition_true-Decides i (Implication k l) f = implies_test-Decides i k l (λ g. is_true-Decides i l g) f
  condition_true-Decides i (Disjunction k l) f = Decides-or (is_true i k f) (is_true i l f) (is_true-Decides i k f) (is_true-Decides i l f)
