-- When a formula is true where the letters below a bound are.
use Rattle.std.specs.Prelude.{ℕ, Bool, not, nat_lt}
use Rattle.std.specs.List.{list_all}
use Rattle.word_examples.specs.declared.Formula.{Formula}
use Rattle.word_examples.specs.declared.Formula.TheOpen.{Formula-F, Letter, Not, And}
use Rattle.word_examples.specs.declared.Formula.TheFolds.{fold-Formula}

-- one layer, with the truth of each part in its place
abbrev pub layer_is_true : ℕ → Formula-F Bool → Bool
layer_is_true bound (Letter letter) = nat_lt letter bound
layer_is_true bound (Not inner) = not inner
layer_is_true bound (And members) = list_all (λ m. m) members

abbrev pub is_true : ℕ → Formula → Bool
is_true bound = fold-Formula Bool (layer_is_true bound)
