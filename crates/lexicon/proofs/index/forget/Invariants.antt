use Rattle.std.proofs.Common.{◌≡◌, ℕ, ◌≤◌, List, drop, None, cond}
use Rattle.std.specs.HashMap.{get_by_text, spare}
use Rattle.lexicon.specs.Words.{is_among}
use Rattle.lexicon.proofs.index.forget.Given as goal

-- the room stays, and without the texts that are left the table finds what it is to find
abbrev pub invariant-loop-text : goal.invariant-loop-text
invariant-loop-text l = (spare l.initial.index ≤ spare l.index)
    × ((text : List ℕ) → cond (is_among (drop l.text-index l.text-items) text) None (get_by_text l.index text)
    ≡ cond (is_among l.texts text) None (get_by_text l.initial.index text))
