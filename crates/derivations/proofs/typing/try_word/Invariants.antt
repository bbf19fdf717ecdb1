use Rattle.std.proofs.Common.{◌≡◌, drop, map}
use Rattle.derivation_trees.specs.Menus.{group_of}
use Rattle.derivations.specs.Entries.{shown, goes_on, all_tried, forms_in, IsInOrder}
use Rattle.derivations.proofs.typing.try_word.Given as goal

abbrev pub invariant-loop-text : goal.invariant-loop-text
invariant-loop-text l =
    IsInOrder (map shown l.entries.items)
    × (all_tried (goes_on l.grammar l.lexicon l.tokens) (map (λ text. (group_of l.word.forms.kind, text)) (drop l.text-index l.word.forms.texts))
    (map shown l.entries.items) ≡ all_tried (goes_on l.grammar l.lexicon l.tokens) (forms_in l.word) (map shown l.initial.entries.items))
