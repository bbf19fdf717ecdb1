-- The texts of members, one after another.
use Rattle.std.proofs.Common.{◌≡◌, ℕ, ◌+◌, Bool, true, false, List, [], ◌∷◌, ◌++◌, Option, Some, slice_get, drop, refl, sym, ap, ◌∙◌, append_assoc, nat_lt, rules}
use Rattle.std.specs.Prelude.{codes, if◌then◌else◌}
use Rattle.std.proofs.Math.ListN.{drop_of_length-le}
use Rattle.std.proofs.Common.{length, ◌≤◌}
use Rattle.std.proofs.lemmas.List.{append-nil}
use Rattle.wiki_base.specs.declared.numbers.WordId.{WordId}
use Rattle.wiki_base.proofs.ListLaws.{drop_slice_get}
use Rattle.logic_terms.specs.Concept.{Concept, concepts_from}
use Rattle.owl_text.specs.Texts.{class_text, classes_text, more_text}

-- the text of the members from a place on, where those before it are written
abbrev pub rest_text : (WordId → Option (List ℕ)) → Bool → List Concept → List ℕ
rest_text form later cs = if later then more_text form (concepts_from cs) else classes_text form (concepts_from cs)

first_of : (form : WordId → Option (List ℕ)) (later : Bool) (c : Concept) (cs : List Concept)
    → rest_text form later (c ∷ cs) ≡ (if later then codes " " else []) ++ (class_text form c ++ more_text form (concepts_from cs))
first_of form true c cs = refl
first_of form false c cs = refl

-- one more member is written behind those before it
pub written_on : (form : WordId → Option (List ℕ)) (cs : List Concept) (k : ℕ) (c : Concept) (start out spaced more : List ℕ) → slice_get cs k ≡ Some c
    → spaced ≡ out ++ (if nat_lt 0 k then codes " " else []) → more ≡ spaced ++ class_text form c → out ++ rest_text form (nat_lt 0 k) (drop k cs) ≡ start
    → more ++ rest_text form (nat_lt 0 (k + 1)) (drop (k + 1) cs) ≡ start
written_on form cs k c start out spaced more at space now left =
    let gap : List ℕ = if nat_lt 0 k then codes " " else [] in
    let rest : List ℕ = more_text form (concepts_from (drop (k + 1) cs)) in
    (λ j. now j ++ rest_text form (later j) (drop (k + 1) cs))
    ∙ append_assoc spaced (class_text form c) rest
    ∙ ap (λ s. s ++ (class_text form c ++ rest)) space
    ∙ append_assoc out gap (class_text form c ++ rest)
    ∙ ap (λ t. out ++ t) (sym (first_of form (nat_lt 0 k) c (drop (k + 1) cs)))
    ∙ ap (λ ds. out ++ rest_text form (nat_lt 0 k) ds) (sym (drop_slice_get cs k c at))
    ∙ left
  where
    later : nat_lt 0 (k + 1) ≡ true
    later = search rules

nothing_left : (form : WordId → Option (List ℕ)) (later : Bool) → rest_text form later [] ≡ []
nothing_left form true = refl
nothing_left form false = refl

-- past the last member all are written
pub written_all : (form : WordId → Option (List ℕ)) (cs : List Concept) (k : ℕ) (later : Bool) (start out : List ℕ) → length cs ≤ k
    → out ++ rest_text form later (drop k cs) ≡ start → out ≡ start
written_all form cs k later start out past left =
    sym (append-nil out)
    ∙ ap (λ t. out ++ t) (sym (nothing_left form later))
    ∙ ap (λ ds. out ++ rest_text form later ds) (sym (drop_of_length-le cs {i = k} past))
    ∙ left
