use Rattle.std.proofs.Common.{◌≡◌, drop, map}
use Rattle.derivations.specs.Entries.{shown, texts_of, goes_on, all_tried, functions_in, IsInOrder}
use Rattle.derivations.proofs.typing.try_terminals.Given as goal

abbrev pub invariant-loop-text : goal.invariant-loop-text
invariant-loop-text l =
    IsInOrder (map shown l.entries.items)
    × (all_tried (goes_on l.grammar l.lexicon l.tokens) (functions_in (texts_of (drop l.text-index l.texts))) (map shown l.entries.items)
    ≡ all_tried (goes_on l.grammar l.lexicon l.tokens) (functions_in (texts_of l.texts)) (map shown l.initial.entries.items))
