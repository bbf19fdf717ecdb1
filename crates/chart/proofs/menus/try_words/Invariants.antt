use Rattle.std.proofs.Common.{◌≡◌, drop, map}
use Rattle.derivations.specs.Entries.{shown, goes_on, all_tried, forms_among, IsInOrder}
use Rattle.chart.proofs.menus.try_words.Given as goal

abbrev pub invariant-loop-place : goal.invariant-loop-place
invariant-loop-place l = record {
  ordered : IsInOrder (map shown l.entries.items);
  gathered : all_tried (goes_on l.grammar l.lexicon l.tokens) (forms_among (drop l.place l.lexicon.live)) (map shown l.entries.items)
      ≡ all_tried (goes_on l.grammar l.lexicon l.tokens) (forms_among l.lexicon.live) (map shown l.initial.entries.items);
}
