-- The entries of a menu that pass a test, one more entry at a time.
use Rattle.std.proofs.Common.{◌≡◌, ℕ, ◌+◌, List, [], ◌∷◌, ◌++◌, filter, take, Some, Bool, true, false, cond, ap, ◌∙◌, append-nil}
use Rattle.std.specs.List.{slice_get}
use Rattle.std.proofs.lemmas.List.Elements.{filter-append}
use Rattle.wiki_base.proofs.ListLaws.{take_slice_get}

-- an entry that passes is kept behind those before it
pub filter-kept : {X : Type 0} (p : X → Bool) (xs : List X) (i : ℕ) (x : X) → slice_get xs i ≡ Some x → p x ≡ true
    → filter p (take (i + 1) xs) ≡ filter p (take i xs) ++ x ∷ []
filter-kept p xs i x at passes =
    ap (filter p) (take_slice_get xs i x at) ∙ filter-append p (take i xs) (x ∷ []) ∙ ap (λ (b : Bool). filter p (take i xs) ++ cond b (x ∷ []) []) passes

-- another one adds nothing
pub filter-left : {X : Type 0} (p : X → Bool) (xs : List X) (i : ℕ) (x : X) → slice_get xs i ≡ Some x → p x ≡ false
    → filter p (take (i + 1) xs) ≡ filter p (take i xs)
filter-left p xs i x at fails =
    ap (filter p) (take_slice_get xs i x at) ∙ filter-append p (take i xs) (x ∷ []) ∙ ap (λ (b : Bool). filter p (take i xs) ++ cond b (x ∷ []) []) fails
    ∙ append-nil (filter p (take i xs))
