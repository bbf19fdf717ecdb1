-- Tests of lists that were filtered or put in order.
use Rattle.std.proofs.Common.{◌≡◌, Bool, true, false, ◌&&◌, List, [], ◌∷◌, filter, IsPermutation, cond, refl, sym, ap, ◌∙◌}
use Rattle.std.specs.Prelude.{not}
use Rattle.std.specs.List.{list_any, list_all}
use Rattle.std.proofs.lemmas.List.Sorted.{list_any-IsPermutation}
use Rattle.wiki_base.proofs.BoolLaws.{and-not}
use Rattle.logic_terms.specs.Meaning.{implies}

kept_all : {X : Type 0} (test : X → Bool) (b : Bool) (x : X) (rest : List X) (other : Bool) → list_all test rest ≡ other
    → list_all test (cond b (x ∷ rest) rest) ≡ (implies b (test x) && other)
kept_all test true x rest other h = ap (λ o. test x && o) h
kept_all test false x rest other h = h

pub list_all-filter : {X : Type 0} (test p : X → Bool) (xs : List X) → list_all test (filter p xs) ≡ list_all (λ x. implies (p x) (test x)) xs
list_all-filter test p [] = refl
list_all-filter test p (x ∷ xs) = kept_all test (p x) x (filter p xs) (list_all (λ y. implies (p y) (test y)) xs) (list_all-filter test p xs)

-- each passes where none fails
pub list_all-not : {X : Type 0} (test : X → Bool) (xs : List X) → list_all test xs ≡ not (list_any (λ x. not (test x)) xs)
list_all-not test [] = refl
list_all-not test (x ∷ xs) = ap (λ o. test x && o) (list_all-not test xs) ∙ and-not (test x) (list_any (λ y. not (test y)) xs)

pub list_all-IsPermutation : {X : Type 0} (test : X → Bool) (xs ys : List X) → IsPermutation xs ys → list_all test xs ≡ list_all test ys
list_all-IsPermutation test xs ys h =
    list_all-not test xs ∙ (ap not (list_any-IsPermutation (λ x. not (test x)) xs ys h) ∙ sym (list_all-not test ys))
