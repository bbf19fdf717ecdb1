-- What holds of all axioms of a question holds of the class of its first.
use Rattle.std.proofs.Common.{◌≡◌, ◌&&◌, Bool, true, List, [], ◌∷◌, Some, slice_get, sym, ap, ◌∙◌}
use Rattle.std.specs.List.{list_all}
use Rattle.std.proofs.lemmas.Bool.{and_parts, and_from}
use Rattle.wiki_base.specs.declared.numbers.WordId.{WordId}
use Rattle.logic_terms.specs.Concept.{Concept, Claim, ClassAssertion}
use Rattle.logic_terms.specs.Plain.{is_plain, is_plain_claim, are_plain}
use Rattle.absorb.specs.Mentioned.{names_in, names_in_claim, is_among, are_over}

first_passes : (test : Claim → Bool) (claims : List Claim) (claim : Claim) → list_all test claims ≡ true → slice_get claims 0 ≡ Some claim → test claim ≡ true
first_passes test [] claim all at = cc
first_passes test (d ∷ claims) claim all at = let same : d ≡ claim = cc in ap test (sym same) ∙ (and_parts (test d) (list_all test claims) all).0

module _ (question kept lent : List Claim) (claim : Claim) (c : Concept) (name : WordId) (at : slice_get question 0 ≡ Some claim)
    (is : claim ≡ ClassAssertion c name) (part : lent ≡ kept) where
  pub over_all : (names : List WordId) → are_over names question ≡ true → are_over names lent ≡ true
      → (are_over names kept && list_all (is_among names) (names_in c)) ≡ true
  over_all names first all =
      let one : list_all (is_among names) (names_in_claim (ClassAssertion c name)) ≡ true =
      ap (λ d. list_all (is_among names) (names_in_claim d)) (sym is)
      ∙ first_passes (λ d. list_all (is_among names) (names_in_claim d)) question claim first at in
      and_from (are_over names kept) (list_all (is_among names) (names_in c)) (ap (are_over names) (sym part) ∙ all)
      (and_parts (is_among names name) (list_all (is_among names) (names_in c)) one).1

  pub plain_all : are_plain question ≡ true → are_plain lent ≡ true → (are_plain kept && is_plain c) ≡ true
  plain_all first all =
      let one : is_plain_claim (ClassAssertion c name) ≡ true = ap is_plain_claim (sym is) ∙ first_passes is_plain_claim question claim first at in
      and_from (are_plain kept) (is_plain c) (ap are_plain (sym part) ∙ all) one
