-- Tests on lists that were made of others.
use Rattle.std.proofs.Common.{◌≡◌, ◌&&◌, ◌||◌, Bool, true, false, List, [], ◌∷◌, map, filter, cond, refl, sym, ap, ◌∙◌, ℕ, zero, suc, Some, slice_get}
use Rattle.std.specs.Prelude.{not}
use Rattle.std.specs.List.{list_any}
use Rattle.std.proofs.lemmas.Option.{same_Some}
use Rattle.std.proofs.lemmas.Bool.{or_parts}
use Rattle.wiki_base.specs.declared.numbers.WordId.{WordId}
use Rattle.wiki_base.proofs.ListLaws.{list_any-filter}
use Rattle.logic_terms.specs.Concept.{Concept}
use Rattle.logic_terms.specs.Interpretation.{is_word}
use Rattle.logic_terms.specs.Same.{has_concept}
use Rattle.tableau_rules.specs.Rules.{lacks_some}

pub list_any-map : {X Y : Type 0} (test : Y → Bool) (f : X → Y) (xs : List X) → list_any test (map f xs) ≡ list_any (λ x. test (f x)) xs
list_any-map test f [] = refl
list_any-map test f (x ∷ xs) = ap (λ b. test (f x) || b) (list_any-map test f xs)

pub none_passes : {X : Type 0} (p : X → Bool) (xs : List X) (k : ℕ) (x : X) → list_any p xs ≡ false → slice_get xs k ≡ Some x → p x ≡ false
none_passes p [] k x none at = absurd (cc)
none_passes p (y ∷ ys) zero x none at = ap p (sym (same_Some y x at)) ∙ (or_parts (p y) (list_any p ys) none).0
none_passes p (y ∷ ys) (suc k) x none at = none_passes p ys k x (or_parts (p y) (list_any p ys) none).1 at

filter_step : {X Y : Type 0} (f : X → Y) (b : Bool) (x : X) (xs : List X) (ys : List Y) → map f xs ≡ ys → cond b (f x ∷ ys) ys ≡ map f (cond b (x ∷ xs) xs)
filter_step f true x xs ys e = ap (λ zs. f x ∷ zs) (sym e)
filter_step f false x xs ys e = sym e

pub filter-map : {X Y : Type 0} (test : Y → Bool) (f : X → Y) (xs : List X) → filter test (map f xs) ≡ map f (filter (λ x. test (f x)) xs)
filter-map test f [] = refl
filter-map test f (x ∷ xs) =
    ap (λ ys. cond (test (f x)) (f x ∷ ys) ys) (filter-map test f xs)
    ∙ filter_step f (test (f x)) x (filter (λ y. test (f y)) xs) (map f (filter (λ y. test (f y)) xs)) refl

-- some unfolding of a word is missing where some entry is one of the word and missing
pub lacks_unfolding_as_list : (label : List Concept) (entries : List (WordId × Concept)) (word : WordId)
    → lacks_some label (map (λ e. e.1) (filter (λ e. is_word word e.0) entries)) ≡ list_any (λ e. is_word word e.0 && not (has_concept label e.1)) entries
lacks_unfolding_as_list label entries word =
    list_any-map (λ c. not (has_concept label c)) (λ e. e.1) (filter (λ e. is_word word e.0) entries)
    ∙ list_any-filter (λ e. not (has_concept label e.1)) (λ e. is_word word e.0) entries
