-- Features in order of number, and those that stand twice. Only private calls speak of it.
use Rattle.std.specs.Prelude.{ℕ, Bool, ◌&&◌, List, map}
use Rattle.std.specs.List.{list_any}
use Rattle.codeco_terms.specs.declared.categories.Category.{Category}
use Rattle.codeco_terms.specs.declared.categories.Pattern.{Pattern}
use Rattle.codeco_checked.specs.Numbering.{has}
use Rattle.codeco_checked.specs.Faults.{is_double}
use Rattle.codeco_checked.specs.Sound.{ascends}

-- the numbers of what is written with a number
abbrev pub numbers : {X : Type 0} → List (ℕ × X) → List ℕ
numbers {X} xs = map (λ x. x.0) xs

-- the plain and the marked features of the pattern each stand in order of number
abbrev pub is_ordered : Pattern → Bool
is_ordered p = ascends (numbers p.cat.feats) && ascends (numbers p.taken)

-- a feature stands twice in the category
abbrev pub is_double_category : Category → Bool
is_double_category c = is_double (map (λ f. f.0) c.feats)

-- the lists share a number
abbrev pub shares : List ℕ → List ℕ → Bool
shares xs ys = list_any (has ys) xs
