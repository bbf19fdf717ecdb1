use Rattle.std.proofs.Common.{◌≡◌, ℕ, ◌<◌, Some, true}
use Rattle.std.specs.Prelude.{slice_get}
use Rattle.lexicon.specs.declared.words.Word.{Word}
use Rattle.chart.specs.Offers.{is_used}
use Rattle.chart.proofs.offers.first_new.Given as goal

abbrev pub invariant-loop-place : goal.invariant-loop-place
invariant-loop-place l = (k : ℕ) (word : Word) → k < l.place → slice_get l.lexicon.live k ≡ Some word → is_used l.used word.id ≡ true
