-- The lists that an interpretation is made of.
use Rattle.std.specs.Prelude.{ℕ, ◌≡◌, List, [], ◌∷◌, map, IsSorted, IsPermutation}
use Rattle.std.specs.declared.alloc.Global.{Global}
use Rattle.std.specs.declared.vec.Vec.{Vec}
use Rattle.std.specs.declared.cmp.Ordering.{Ordering}
use Rattle.wiki_base.specs.declared.numbers.WordId.{WordId}
use Rattle.logic_terms.specs.Interpretation.{Interpretation, element_of, has_element, has_pair}

-- each word with the list in its `Vec`
abbrev pub lists_in : {X : Type 0} → List (WordId × Vec X Global) → List (WordId × List X)
lists_in entries = map (λ e. (e.0, e.1.items)) entries

abbrev pub given : ℕ → List (WordId × ℕ) → List (WordId × Vec ℕ Global) → List (WordId × Vec (ℕ × ℕ) Global) → Interpretation
given size names classes relations = record {
  size = size;
  names = names;
  classes = lists_in classes;
  relations = lists_in relations;
}

-- the same word with the same list, put in rising order
pub record IsArranged {X : Type 0} (cmp : X → X → Ordering) (e f : WordId × List X) : Type 0 where
  pub word : e.0 ≡ f.0
  pub same : IsPermutation e.1 f.1
  pub rising : IsSorted cmp f.1

-- the same for each entry, in the same order
abbrev pub AreArranged : {X : Type 0} → (X → X → Ordering) → List (WordId × List X) → List (WordId × List X) → Type 0
AreArranged cmp [] [] = Unit {0}
AreArranged cmp [] (f ∷ fs) = ⊥
AreArranged cmp (e ∷ es) [] = ⊥
AreArranged cmp (e ∷ es) (f ∷ fs) = IsArranged cmp e f × AreArranged cmp es fs

-- The one interpretation means what the other does: it has the size, and gives each name, class word and relation word the
-- same element, elements and pairs.
pub record MeansSame (i j : Interpretation) : Type 0 where
  pub size : i.size ≡ j.size
  pub names : (name : WordId) → element_of i name ≡ element_of j name
  pub classes : (word : WordId) (x : ℕ) → has_element i word x ≡ has_element j word x
  pub relations : (word : WordId) (x y : ℕ) → has_pair i word x y ≡ has_pair j word x y
