-- Numbers put among others in order, as features are gathered. Only calls inside the crate speak of it.
use Rattle.std.specs.Prelude.{ℕ, ◌==◌, nat_lt, if◌then◌else◌, List, [], ◌∷◌, map}
use Rattle.codeco_terms.specs.declared.categories.Category.{Category}

-- a number put among numbers that stand in order, where it isn't there yet
abbrev pub put : ℕ → List ℕ → List ℕ
put x [] = x ∷ []
put x (y ∷ ys) = if nat_lt y x then y ∷ put x ys else (if x == y then y ∷ ys else x ∷ y ∷ ys)

-- numbers put among others, one after another
abbrev pub put_all : List ℕ → List ℕ → List ℕ
put_all sorted [] = sorted
put_all sorted (x ∷ xs) = put_all (put x sorted) xs

-- the features that a written category has, where its name is this
abbrev pub features_in : ℕ → Category → List ℕ
features_in name category = if category.name == name then map (λ f. f.0) category.feats else []
