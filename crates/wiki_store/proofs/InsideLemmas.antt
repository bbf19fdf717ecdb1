-- Lists that change at a place, and facts that move to equal ones.
use Rattle.std.proofs.Common.{◌≡◌, ℕ, zero, suc, ◌<◌, ◌≤◌, List, [], ◌∷◌, length, get_or, set, Some, refl, sym, ap, subst, ◌∙◌, arith}
use Rattle.std.specs.Prelude.{IfOk, Result, Ok, Err}
use Rattle.std.specs.List.{slice_get, insert, remove}
use Rattle.std.proofs.lemmas.List.{set-get_or, get_or-set_same}
use Rattle.std.proofs.lemmas.Option.{get_or_from_slice_get, slice_get_within}
use Rattle.articles.specs.declared.article.Article.{Article}
use Rattle.wiki_parts.specs.declared.meanings.Sense.{Sense}

-- ---- an insertion is undone

set_twice : {X : Type 0} (xs : List X) (i : ℕ) (a b : X) → set (set xs i a) i b ≡ set xs i b
set_twice [] i a b = refl
set_twice (x ∷ xs) zero a b = refl
set_twice {X} (x ∷ xs) (suc i) a b = ap (λ (ys : List X). x ∷ ys) (set_twice xs i a b)

remove-insert : {X : Type 0} (xs : List X) (i : ℕ) (x : X) → i ≤ length xs → remove (insert xs i x) i ≡ xs
remove-insert xs zero x within = refl
remove-insert [] (suc i) x within = absurd (omega (arith, within))
remove-insert {X} (y ∷ xs) (suc i) x within = ap (λ (ys : List X). y ∷ ys) (remove-insert xs i x (omega (arith, within)))

-- the item at a place, by what an index gives
pub item-is : {X : Type 0} (xs : List X) (i : ℕ) (x own : X) → slice_get xs i ≡ Some own → x ≡ get_or xs i x → x ≡ own
item-is xs i x own here is = is ∙ get_or_from_slice_get xs i own x here

pub set-there : {X : Type 0} (xs : List X) (i : ℕ) (x : X) → i < length xs → slice_get (set xs i x) i ≡ Some x
set-there [] i x within = absurd (omega (arith, within))
set-there (y ∷ xs) zero x within = refl
set-there (y ∷ xs) (suc i) x within = set-there xs i x (omega (arith, within))

pub undone : {X : Type 0} (xs : List (List X)) (place at : ℕ) (own before inserted again left : List X) (x : X) → slice_get xs place ≡ Some own
    → at ≤ length own → before ≡ get_or xs place before
    → inserted ≡ insert before at x → again ≡ get_or (set xs place inserted) place again → left ≡ remove again at → set (set xs place inserted) place left ≡ xs
undone {X} xs place at own before inserted again left x here within is put found taken =
    let same : inserted ≡ insert own at x = put ∙ ap (λ (ys : List X). insert ys at x) (item-is xs place before own here is) in
    let whole : again ≡ insert own at x = found ∙ get_or-set_same xs place inserted again (slice_get_within xs place own here) ∙ same in
    let rest : left ≡ own = taken ∙ ap (λ (ys : List X). remove ys at) whole ∙ remove-insert own at x within in
    set_twice xs place inserted left
    ∙ ap (λ (ys : List X). set xs place ys) (rest ∙ sym (get_or_from_slice_get xs place own own here))
    ∙ set-get_or xs place own

-- a fact of two lists is one of equal ones
pub moved : (P : List Article → List (List Sense) → Type 0) (xs articles : List Article) (ms senses : List (List Sense)) → xs ≡ articles → ms ≡ senses → P xs ms
    → P articles senses
moved P xs articles ms senses one other here = subst (λ (ys : List Article). P ys senses) one (subst (λ (ns : List (List Sense)). P xs ns) other here)

-- what one fact of a value gives is so of each value that a call may give
pub each-ok : {T E : Type 0} (result : Result T E) (P Q : T → Type 0) → ((value : T) → P value → Q value) → IfOk result P → IfOk result Q
each-ok (Ok value) P Q gives here = gives value here
each-ok (Err fault) P Q gives here = tt
