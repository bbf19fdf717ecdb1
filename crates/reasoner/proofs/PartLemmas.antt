-- Some of the axioms over names are over these names.
use Rattle.std.proofs.Common.{◌≡◌, ℕ, List, [], ◌∷◌, ◌++◌, Bool, true, ◌&&◌, Some, ap, ◌∙◌}
use Rattle.std.specs.List.{list_all, slice_get}
use Rattle.std.proofs.lemmas.List.Folds.{list_all-append}
use Rattle.wiki_base.specs.declared.numbers.WordId.{WordId}
use Rattle.wiki_base.proofs.ListLaws.{all_slice_get}
use Rattle.logic_terms.specs.Concept.{Claim}
use Rattle.absorb.specs.Mentioned.{are_over, is_among, names_in_claim}

-- one more of them
pub over_more : (names : List WordId) (claims chosen more : List Claim) (place : ℕ) (claim : Claim) → are_over names claims ≡ true
    → slice_get claims place ≡ Some claim → are_over names chosen ≡ true → more ≡ chosen ++ claim ∷ [] → are_over names more ≡ true
over_more names claims chosen more place claim over at so is =
    let one : is_over claim ≡ true = all_slice_get is_over claims place claim over at in
    ap (are_over names) is ∙ list_all-append is_over chosen (claim ∷ []) ∙ ap (λ b. b && (is_over claim && true)) so ∙ ap (λ b. b && true) one
  where
    is_over : Claim → Bool
    is_over = λ c. list_all (is_among names) (names_in_claim c)
