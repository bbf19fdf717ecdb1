use Rattle.std.proofs.Common.{◌≡◌, ◌++◌, drop, map}
use Rattle.derivation_trees.specs.Menus.{group_of}
use Rattle.derivations.specs.Entries.{shown, forms_in}
use Rattle.chart.specs.Offers.{form_asks}
use Rattle.chart.proofs.offers.ask_forms.Given as goal

abbrev pub invariant-loop-place : goal.invariant-loop-place
invariant-loop-place l = record {
  forms : map shown l.forms.items ++ map (λ t. (group_of l.word.forms.kind, t)) (drop l.place l.word.forms.texts)
      ≡ map shown l.initial.forms.items ++ forms_in l.word;
  asks : l.asks ++ form_asks l.word.forms.kind l.word.id l.place (drop l.place l.word.forms.texts)
      ≡ l.initial.asks ++ form_asks l.word.forms.kind l.word.id 0 l.word.forms.texts;
}
