-- Which words two interpretations give the same.
use Rattle.std.specs.Prelude.{ℕ, ◌≡◌, ◌==◌, Bool, false, List, map, slice_get}
use Rattle.std.specs.List.{list_any}
use Rattle.wiki_base.specs.declared.numbers.WordId.{WordId}
use Rattle.logic_terms.specs.Interpretation.{Interpretation, element_of, elements_of, pairs_of}
use Rattle.owl_eval.specs.declared.changes.Kind.{Kind}
use Rattle.owl_eval.specs.declared.changes.Kind.TheVariants.{Names, Classes, Relations}

-- whether a word's number is one of these
abbrev pub is_listed : List ℕ → WordId → Bool
is_listed numbers word = list_any (λ n. n == word.0) numbers

-- the words of a kind to which an interpretation gives something
abbrev pub words_of : Kind → Interpretation → List WordId
words_of Names i = map (λ e. e.0) i.names
words_of Classes i = map (λ e. e.0) i.classes
words_of Relations i = map (λ e. e.0) i.relations

-- two interpretations give a word of a kind the same element, the same elements or the same pairs
abbrev pub GiveSame : Kind → Interpretation → Interpretation → WordId → Type 0
GiveSame Names i j word = element_of i word ≡ element_of j word
GiveSame Classes i j word = elements_of i word ≡ elements_of j word
GiveSame Relations i j word = pairs_of i word ≡ pairs_of j word

-- the one interpretation has the same word of a kind at a place as the other at another, and gives it the same
abbrev pub AreSameAt : Kind → Interpretation → Interpretation → ℕ → ℕ → Type 0
AreSameAt Names i j k m = slice_get i.names k ≡ slice_get j.names m
AreSameAt Classes i j k m = slice_get i.classes k ≡ slice_get j.classes m
AreSameAt Relations i j k m = slice_get i.relations k ≡ slice_get j.relations m

-- each word of the one list is a word of the other
abbrev pub IsPartOf : List ℕ → List ℕ → Type 0
IsPartOf numbers more = (word : WordId) → is_listed more word ≡ false → is_listed numbers word ≡ false

-- two interpretations of one size give each word the same whose number isn't one of these
pub record DifferOnlyAt (numbers : List ℕ) (i j : Interpretation) : Type 0 where
  pub size : i.size ≡ j.size
  pub names : (word : WordId) → is_listed numbers word ≡ false → element_of i word ≡ element_of j word
  pub classes : (word : WordId) → is_listed numbers word ≡ false → elements_of i word ≡ elements_of j word
  pub relations : (word : WordId) → is_listed numbers word ≡ false → pairs_of i word ≡ pairs_of j word
