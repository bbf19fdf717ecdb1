-- A loop's turn over a list.
use Rattle.std.proofs.Common.{◌≡◌, ℕ, suc, ◌+◌, ◌<◌, List, [], ◌∷◌, ◌++◌, All, length, get_or, drop, sym, ap, ◌∙◌, append_assoc, arith}
use Rattle.std.proofs.lemmas.List.Elements.{All-cons}
use Rattle.wiki_base.proofs.ListLaws.{drop_get_or}

-- what was made, with what the rest makes, is the whole
pub turn_by : {X Y : Type 0} (F : List X → List Y) (G : X → List Y) → ((x : X) (xs : List X) → F (x ∷ xs) ≡ G x ++ F xs)
    → (made next whole : List Y) (xs : List X) (i : ℕ) (x : X) → i < length xs → x ≡ get_or xs i x → made ++ F (drop i xs) ≡ whole → next ≡ made ++ G x
    → next ++ F (drop (i + 1) xs) ≡ whole
turn_by {X} {Y} F G split made next whole xs i x lt is before step =
    ap (λ (ys : List Y). ys ++ F (drop (i + 1) xs)) step
    ∙ append_assoc made (G x) (F (drop (i + 1) xs))
    ∙ ap (λ (ys : List Y). made ++ ys) (sym (split x (drop (i + 1) xs)) ∙ ap F (sym (drop_get_or xs i x lt is)))
    ∙ before

pub turn : {X Y : Type 0} (F : List X → List Y) → ((x : X) (xs : List X) → F (x ∷ xs) ≡ F (x ∷ []) ++ F xs)
    → (made next whole : List Y) (xs : List X) (i : ℕ) (x : X) → i < length xs → x ≡ get_or xs i x → made ++ F (drop i xs) ≡ whole → next ≡ made ++ F (x ∷ [])
    → next ++ F (drop (i + 1) xs) ≡ whole
turn F split = turn_by F (λ x. F (x ∷ [])) split

-- what holds of all of two parts holds of all of each
pub all_back : {X : Type 0} (P : X → Type 0) (xs ys : List X) → All P (xs ++ ys) → All P ys
all_back P [] ys h = h
all_back P (x ∷ xs) ys h = all_back P xs ys (λ k d lt. h (suc k) d (omega arith))

pub all_front : {X : Type 0} (P : X → Type 0) (xs ys : List X) → All P (xs ++ ys) → All P xs
all_front P [] ys h = λ k d lt. absurd (omega arith)
all_front P (x ∷ xs) ys h = All-cons P x xs (h 0 x (omega arith)) (all_front P xs ys (λ k d lt. h (suc k) d (omega arith)))
