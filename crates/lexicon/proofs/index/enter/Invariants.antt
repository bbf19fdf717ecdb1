use Rattle.std.proofs.Common.{◌≡◌, ℕ, ◌≤◌, List, length, map, Some, cond, string_bytes}
use Rattle.std.specs.HashMap.{get_by_text, spare}
use Rattle.lexicon.specs.Words.{is_among}
use Rattle.lexicon.proofs.index.enter.Given as goal

-- there is room for the keys that are left, and with them the table finds what it is to find
abbrev pub invariant-loop-key : goal.invariant-loop-key
invariant-loop-key l = (length l.keys.items ≤ spare l.index)
    × ((text : List ℕ) → cond (is_among (map string_bytes l.keys.items) text) (Some l.id) (get_by_text l.index text)
    ≡ cond (is_among (map string_bytes l.initial.keys.items) text) (Some l.id) (get_by_text l.initial.index text))

abbrev pub decreases-loop-key : goal.decreases-loop-key
decreases-loop-key l = length l.keys.items
