-- The equations of `is_true`, one for each variant.
use Rattle.std.proofs.Common.{◌≡◌, ℕ, Bool, not, nat_lt, List, sym, ap, ◌∙◌}
use Rattle.std.specs.List.{list_all}
use Rattle.std.proofs.lemmas.List.Folds.{list_all-map}
use Rattle.word_examples.specs.Formula.{layer_is_true, is_true}
use Rattle.word_examples.specs.declared.Formula.{Formula}
use Rattle.word_examples.specs.declared.Formula.TheOpen as layers
use Rattle.word_examples.specs.declared.Formula.TheVariants as formula
use Rattle.word_examples.specs.declared.Formula.TheFolds.{fold-roll-Formula}

pub is_true-Letter : (bound : ℕ) (letter : ℕ) → is_true bound (formula.Letter letter) ≡ nat_lt letter bound
is_true-Letter bound letter =
    ap (is_true bound) (sym (formula.rolls-Letter letter))
    ∙ fold-roll-Formula Bool (layer_is_true bound) (layers.Letter letter)

pub is_true-Not : (bound : ℕ) (inner : Formula) → is_true bound (formula.Not inner) ≡ not (is_true bound inner)
is_true-Not bound inner =
    ap (is_true bound) (sym (formula.rolls-Not inner))
    ∙ fold-roll-Formula Bool (layer_is_true bound) (layers.Not inner)

pub is_true-And : (bound : ℕ) (ms : List Formula) → is_true bound (formula.And ms) ≡ list_all (is_true bound) ms
is_true-And bound ms =
    ap (is_true bound) (sym (formula.rolls-And ms))
    ∙ (fold-roll-Formula Bool (layer_is_true bound) (layers.And ms) ∙ list_all-map (λ m. m) (is_true bound) ms)
