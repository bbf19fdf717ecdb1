-- Openers, closing and referents over one list after another.
use Rattle.std.proofs.Common.{◌≡◌, ℕ, zero, suc, ◌-◌, ◌≤◌, List, [], ◌∷◌, ◌++◌, Bool, true, false, not, ◌||◌, refl, sym, ap, ◌∙◌, length, take, drop, append_assoc}
use Rattle.std.proofs.lemmas.List.{take-append-drop}
use Rattle.scopes.specs.declared.entries.Entry.{Entry}
use Rattle.scopes.specs.declared.entries.Entry.TheVariants.{Opener, Weak, Strong}
use Rattle.scopes.specs.AccessList.{closed, strong_referents, referents, any_opener, left_of, newest_of}
use Rattle.scopes.proofs.NewestLemmas.{newest_past, newest_none}

pub strong_both : (xs ys : List Entry) → strong_referents (xs ++ ys) ≡ strong_referents xs ++ strong_referents ys
strong_both [] ys = refl
strong_both (Opener ∷ xs) ys = strong_both xs ys
strong_both (Weak g p ∷ xs) ys = strong_both xs ys
strong_both (Strong g p ∷ xs) ys = ap (λ zs. Strong g p ∷ zs) (strong_both xs ys)

pub closed_both : (xs ys : List Entry) → closed (xs ++ ys) ≡ closed xs ++ left_of (any_opener xs) ys
closed_both [] ys = refl
closed_both (Opener ∷ xs) ys = strong_both xs ys
closed_both (Weak g p ∷ xs) ys = ap (λ zs. Weak g p ∷ zs) (closed_both xs ys)
closed_both (Strong g p ∷ xs) ys = ap (λ zs. Strong g p ∷ zs) (closed_both xs ys)

pub left_both : (opened : Bool) (xs ys : List Entry) → left_of opened (xs ++ ys) ≡ left_of opened xs ++ left_of (opened || any_opener xs) ys
left_both true xs ys = strong_both xs ys
left_both false xs ys = closed_both xs ys

pub referents_both : (xs ys : List Entry) → referents (xs ++ ys) ≡ referents xs ++ referents ys
referents_both [] ys = refl
referents_both (Opener ∷ xs) ys = referents_both xs ys
referents_both (Weak g p ∷ xs) ys = ap (λ zs. Weak g p ∷ zs) (referents_both xs ys)
referents_both (Strong g p ∷ xs) ys = ap (λ zs. Strong g p ∷ zs) (referents_both xs ys)

-- without an opener all stays
pub closed_open : (xs : List Entry) → any_opener xs ≡ false → closed xs ≡ xs
closed_open [] h = refl
closed_open (Opener ∷ xs) h = cc
closed_open (Weak g p ∷ xs) h = ap (λ ys. Weak g p ∷ ys) (closed_open xs h)
closed_open (Strong g p ∷ xs) h = ap (λ ys. Strong g p ∷ ys) (closed_open xs h)

pub referents_open : (xs : List Entry) → any_opener xs ≡ false → referents xs ≡ xs
referents_open [] h = refl
referents_open (Opener ∷ xs) h = cc
referents_open (Weak g p ∷ xs) h = ap (λ ys. Weak g p ∷ ys) (referents_open xs h)
referents_open (Strong g p ∷ xs) h = ap (λ ys. Strong g p ∷ ys) (referents_open xs h)

pub drop_open : (n : ℕ) (xs : List Entry) → any_opener xs ≡ false → any_opener (drop n xs) ≡ false
drop_open zero xs h = h
drop_open (suc n) [] h = refl
drop_open (suc n) (Opener ∷ xs) h = cc
drop_open (suc n) (Weak g p ∷ xs) h = drop_open n xs h
drop_open (suc n) (Strong g p ∷ xs) h = drop_open n xs h

-- what a flag says of openers
plain_open : (b plain : Bool) → plain ≡ not b → plain ≡ true → b ≡ false
plain_open true plain is holds = sym (sym is ∙ holds)
plain_open false plain is holds = refl

pub referents_plain : (xs : List Entry) (plain : Bool) → plain ≡ not (any_opener xs) → plain ≡ true → xs ≡ referents xs
referents_plain xs plain is holds = sym (referents_open xs (plain_open (any_opener xs) plain is holds))

pub newest_plain : (xs : List Entry) (count : ℕ) (plain : Bool) → plain ≡ not (any_opener xs) → plain ≡ true
    → false ≡ any_opener (newest_of count xs)
newest_plain xs count plain is holds = sym (drop_open (length xs - count) xs (plain_open (any_opener xs) plain is holds))

pub none_newest : (xs : List Entry) (count : ℕ) → count ≡ 0 → false ≡ any_opener (newest_of count xs)
none_newest xs count h = sym (ap any_opener (newest_none xs count h))

pub referents_more : (older newer all left more : List Entry) → all ≡ older ++ newer → left ≡ referents older → more ≡ referents newer
    → left ++ more ≡ referents all
referents_more older newer all left more is first second =
    ap (λ xs. xs ++ more) first ∙ ap (λ ys. referents older ++ ys) second ∙ sym (referents_both older newer) ∙ sym (ap referents is)

-- what is left of older entries, and then of newer ones
pub kept_more : (begun older newer all so_far : List Entry) (opened now : Bool) (count rest : ℕ) → all ≡ older ++ newer → length newer ≤ count
    → rest ≡ count - length newer → so_far ≡ begun ++ left_of opened (newest_of rest older) → now ≡ (opened || any_opener (newest_of rest older))
    → so_far ++ left_of now newer ≡ begun ++ left_of opened (newest_of count all)
kept_more begun older newer all so_far opened now count rest is fits at kept flag =
    ap (λ xs. xs ++ left_of now newer) kept ∙ ap (λ b. (begun ++ left_of opened (newest_of rest older)) ++ left_of b newer) flag
    ∙ append_assoc begun (left_of opened (newest_of rest older)) (left_of (opened || any_opener (newest_of rest older)) newer)
    ∙ ap (λ ys. begun ++ ys) (sym (left_both opened (newest_of rest older) newer))
    ∙ ap (λ ys. begun ++ left_of opened ys) (newest_past older newer all count rest is fits at)

-- where nothing that was added is an opener, closing changes nothing
pub closed_same : (before all : List Entry) (n : ℕ) → take (length before) all ≡ before → n ≡ length before → any_opener (drop n all) ≡ false
    → all ≡ before ++ closed (drop (length before) all)
closed_same before all n prefix at none =
    let same : closed (drop (length before) all) ≡ drop (length before) all =
    closed_open (drop (length before) all) (ap (λ k. any_opener (drop k all)) (sym at) ∙ none) in
    sym (take-append-drop (length before) all) ∙ ap (λ xs. xs ++ drop (length before) all) prefix ∙ ap (λ xs. before ++ xs) (sym same)
