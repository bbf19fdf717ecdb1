-- Names that are gathered part by part.
use Rattle.std.proofs.Common.{◌≡◌, ℕ, ◌+◌, ◌<◌, List, [], ◌∷◌, ◌++◌, length, get_or, drop, cond, refl, sym, ap, ◌∙◌}
use Rattle.wiki_base.proofs.ListLaws.{drop_get_or}
use Rattle.codeco_text.specs.Names.{is_among}
use Rattle.codeco_numbering.specs.Numbered.{gathered}

pub gathered_append : (names xs ys : List (List ℕ)) → gathered names (xs ++ ys) ≡ gathered (gathered names xs) ys
gathered_append names [] ys = refl
gathered_append names (x ∷ xs) ys = gathered_append (cond (is_among names x) names (names ++ x ∷ [])) xs ys

-- what was gathered, with what the rest writes, is the whole
pub gather_turn : {X : Type 0} (F : List X → List (List ℕ)) (G : X → List (List ℕ)) → ((x : X) (xs : List X) → F (x ∷ xs) ≡ G x ++ F xs)
    → (made next whole : List (List ℕ)) (xs : List X) (i : ℕ) (x : X) → i < length xs → x ≡ get_or xs i x → gathered made (F (drop i xs)) ≡ whole
    → next ≡ gathered made (G x) → gathered next (F (drop (i + 1) xs)) ≡ whole
gather_turn {X} F G split made next whole xs i x lt is before step =
    ap (λ (names : List (List ℕ)). gathered names (F (drop (i + 1) xs))) step
    ∙ sym (gathered_append made (G x) (F (drop (i + 1) xs)))
    ∙ ap (gathered made) (sym (split x (drop (i + 1) xs)) ∙ ap F (sym (drop_get_or xs i x lt is)))
    ∙ before

-- the same of whatever takes names part by part
pub fold_turn : {S X : Type 0} (add : S → List (List ℕ) → S) → ((s : S) (xs ys : List (List ℕ)) → add s (xs ++ ys) ≡ add (add s xs) ys)
    → (F : List X → List (List ℕ)) (G : X → List (List ℕ)) → ((x : X) (xs : List X) → F (x ∷ xs) ≡ G x ++ F xs)
    → (made next whole : S) (xs : List X) (i : ℕ) (x : X) → i < length xs → x ≡ get_or xs i x → add made (F (drop i xs)) ≡ whole → next ≡ add made (G x)
    → add next (F (drop (i + 1) xs)) ≡ whole
fold_turn {S} {X} add law F G split made next whole xs i x lt is before step =
    ap (λ (s : S). add s (F (drop (i + 1) xs))) step
    ∙ sym (law made (G x) (F (drop (i + 1) xs)))
    ∙ ap (add made) (sym (split x (drop (i + 1) xs)) ∙ ap F (sym (drop_get_or xs i x lt is)))
    ∙ before
