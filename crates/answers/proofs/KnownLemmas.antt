-- Knowledge with the denial of a name: what absorption makes of the axioms with it.
use Rattle.std.proofs.Common.{◌≡◌, ℕ, ◌&&◌, true, false, List, [], ◌∷◌, ◌++◌, All, Contains, sym, ap, ◌∙◌, subst, inl, inr}
use Rattle.std.specs.Prelude.{Option, Some, None, Bool, IfSome, IfNone, IsTrue}
use Rattle.std.specs.List.{list_all}
use Rattle.std.proofs.lemmas.Bool.{cases_Bool, false≢true, not_from_false, and_parts}
use Rattle.std.proofs.lemmas.List.Concat.{flat_map-append}
use Rattle.std.proofs.lemmas.List.Sums.{fold-append}
use Rattle.wiki_base.specs.declared.numbers.WordId.{WordId}
use Rattle.logic_terms.specs.Concept.{Concept, Claim, ClassAssertion}
use Rattle.logic_terms.specs.Complement.{complement}
use Rattle.logic_terms.specs.Interpretation.{Interpretation, is_interpretation, element_of}
use Rattle.logic_terms.specs.Meaning.{is_in, holds}
use Rattle.logic_terms.specs.Names.{names_rise}
use Rattle.logic_terms.specs.Plain.{is_plain, are_plain, is_plain_theory}
use Rattle.logic_terms.specs.Reading.{IsIn, IsModel}
use Rattle.logic_terms.specs.Theory.{Theory, IsLawful, IsModelOf}
use Rattle.logic_terms.proofs.ComplementLemmas.{is_in-complement}
use Rattle.logic_terms.proofs.MeaningLemmas.{is_in-Decides}
use Rattle.absorb.specs.Absorbed.{IsAbsorbed, Represents, IsPutBelow}
use Rattle.absorb.specs.Closure.{Reaches}
use Rattle.absorb.specs.Mentioned.{names_in, is_among, are_over}
use Rattle.absorb.specs.Pieces.{Assertion, all_pieces, pieces_of}
use Rattle.absorb.specs.Sorted.{with_piece, no_pieces, sorted}
use Rattle.absorb.proofs.AbsorbedLemmas.{lawful, plain_theory, model_of, model_from}
use Rattle.closure_check.specs.NoModel.{HasNoModel}
use Rattle.consequences.specs.Forced.{HasInEachModel}
use Rattle.owl_eval.specs.Checked.{kept_claims}
use Rattle.owl_eval.specs.declared.checked.CheckedModel.{CheckedModel}
use Rattle.tableau_rules.specs.Searching.{IsLonger}
use Rattle.answers.specs.Answered.{denied, IsInAll, IsOutsideSome, IsUnknown}
use Rattle.answers.specs.Asserted.{with_assertion}
use Rattle.answers.proofs.AskedLemmas.{over_denied, plain_denied, in_all, outside_some, complement_outside}

-- one more assertion behind the axioms is one more piece behind theirs
sorted_more : (claims : List Claim) (c : Concept) (name : WordId)
    → sorted (claims ++ ClassAssertion c name ∷ []) ≡ with_piece (sorted claims) (Assertion name c)
sorted_more claims c name =
    ap (Rattle.std.specs.Prelude.fold with_piece no_pieces) (flat_map-append pieces_of claims (ClassAssertion c name ∷ []))
    ∙ fold-append with_piece no_pieces (all_pieces claims) (Assertion name c ∷ [])

-- knowledge with the assertion is what absorption makes of axioms with it
absorbed_more : (claims : List Claim) (names : List WordId) (k : Theory) (c : Concept) (name : WordId) → IsAbsorbed claims names k
    → IsAbsorbed (claims ++ ClassAssertion c name ∷ []) names (with_assertion k name c)
absorbed_more claims names k c name made =
    let more = sorted_more claims c name in
    record {
      given = made.given;
      representatives = subst (λ s. All (λ e. Represents s.equalities e.0 e.1) k.names) (sym more) made.representatives;
      hierarchy = λ r s. (
        λ h. subst (λ t. Reaches (IsPutBelow t.role_inclusions) r s) (sym more) ((made.hierarchy r s).0 h),
        λ h. (made.hierarchy r s).1 (subst (λ t. Reaches (IsPutBelow t.role_inclusions) r s) more h),
      );
      different = made.different;
      once = made.once;
      rising = made.rising;
      transitive = λ w. (
        λ h. subst (λ s. Contains s.transitive w) (sym more) ((made.transitive w).0 h),
        λ h. (made.transitive w).1 (subst (λ s. Contains s.transitive w) more h),
      );
      assertions = ap (λ entries. entries ++ (name, c) ∷ []) made.assertions ∙ ap (λ s. s.assertions) (sym more);
      edges = made.edges ∙ ap (λ s. s.edges) (sym more);
      differences = made.differences ∙ ap (λ s. s.differences) (sym more);
      unfoldings = made.unfoldings ∙ ap (λ s. s.unfoldings) (sym more);
      general = made.general ∙ ap (λ s. s.general) (sym more);
    }

-- what is known where the axioms over the names are absorbed, and knowledge with the denial of a given name is made of it
pub record IsDenying (claims : List Claim) (names : List WordId) (k : Theory) (c d : Concept) (name : WordId) (made : Theory) : Type 0 where
  pub absorbed : IsAbsorbed claims names k
  pub complemented : d ≡ complement c
  pub with_denial : made ≡ with_assertion k name d
  pub rising : names_rise names ≡ true
  pub over : (are_over names claims && list_all (is_among names) (names_in c)) ≡ true
  pub given : is_among names name ≡ true
  pub plain : (are_plain claims && is_plain c) ≡ true

module _ (claims : List Claim) (names : List WordId) (k : Theory) (c d : Concept) (name : WordId) (made : Theory) (h : IsDenying claims names k c d name made)
  where
    absorbed : IsAbsorbed (denied claims c name) names made
    absorbed =
        subst (IsAbsorbed (denied claims c name) names) (sym (h.with_denial ∙ ap (with_assertion k name) h.complemented))
        (absorbed_more claims names k (complement c) name h.absorbed)

    over : are_over names (denied claims c name) ≡ true
    over =
        let two = and_parts (are_over names claims) (list_all (is_among names) (names_in c)) h.over in
        over_denied names claims c name two.0 h.given two.1

    pub denying_lawful : IsLawful made
    denying_lawful = lawful (denied claims c name) names made absorbed over h.rising

    pub denying_plain : is_plain_theory made ≡ true
    denying_plain =
        let two = and_parts (are_plain claims) (is_plain c) h.plain in
        plain_theory (denied claims c name) names made absorbed over (plain_denied claims c name two.0 two.1)

    pub denying_model : (i : Interpretation) → is_interpretation i ≡ true → IsModelOf i made → IsOutsideSome claims c name
    denying_model i sound m = outside_some claims c name i (sound, model_from (denied claims c name) names made absorbed over i m)

    pub denying_none : HasNoModel made → IsInAll claims c name
    denying_none none = in_all claims c name (λ i m. none i m.0 (model_of (denied claims c name) names made absorbed over i m.1))

    pub denying_longer : (budget : ℕ) → IsLonger made budget → IsUnknown claims names budget c name
    denying_longer budget longer = record { knowledge = made; absorbed = absorbed; longer = longer }

-- a class that the name is in in each model of the knowledge it is in in each model of the axioms
pub included : (claims : List Claim) (names : List WordId) (k : Theory) (c : Concept) (name : WordId) → IsAbsorbed claims names k
    → (are_over names claims && list_all (is_among names) (names_in c)) ≡ true → HasInEachModel k c name → IsInAll claims c name
included claims names k c name made over has i sound m =
    has i sound (model_of claims names k made (and_parts (are_over names claims) (list_all (is_among names) (names_in c)) over).0 i m)

-- where a name's denial is not true, the interpretation has it in the class
pub not_denied : (i : Interpretation) (c d : Concept) (name : WordId) → d ≡ complement c → holds i (ClassAssertion d name) ≡ false
    → IsIn i c (element_of i name)
not_denied i c d name is fails = elim (cases_Bool (is_in i c (element_of i name))) [
  | inl inside ↦ (is_in-Decides i c (element_of i name)).0 inside
  | inr outside ↦
      let there : is_in i (complement c) (element_of i name) ≡ true =
      is_in-complement i c (element_of i name) ∙ not_from_false (is_in i c (element_of i name)) outside in
      let missing : is_in i (complement c) (element_of i name) ≡ false = subst (λ e. is_in i e (element_of i name) ≡ false) is fails in
      cc
]

-- where it is true, the interpretation, if it is a model, has it outside
pub outside_here : (i : Interpretation) (claims : List Claim) (c d : Concept) (name : WordId) → d ≡ complement c → is_interpretation i ≡ true → IsModel i claims
    → holds i (ClassAssertion d name) ≡ true → IsOutsideSome claims c name
outside_here i claims c d name is sound m h =
    (i, sound, m, complement_outside i c (element_of i name) (subst (λ e. is_in i e (element_of i name) ≡ true) is h))

-- what another model of the same axioms has outside is outside in some model
pub outside_other : (other : Option CheckedModel) (claims : List Claim) (c : Concept) (name : WordId) (found : Bool)
    → IfSome other (λ m. kept_claims m ≡ claims) → IfSome other (λ m. IsTrue found → IsOutsideSome (kept_claims m) c name)
    → IfNone other (found ≡ false) → IsTrue found → IsOutsideSome claims c name
outside_other (Some m) claims c name found is out none t = subst (λ cs. IsOutsideSome cs c name) is (out t)
outside_other None claims c name found is out none t = absurd (false≢true (sym none ∙ t))
