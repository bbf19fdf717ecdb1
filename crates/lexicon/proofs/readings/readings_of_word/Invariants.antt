use Rattle.std.proofs.Common.{◌≡◌, ◌≤◌, ◌++◌, length, drop}
use Rattle.lexicon.specs.Readings.{readings_from, readings_of_word}
use Rattle.lexicon.proofs.readings.readings_of_word.Given as goal

-- there are no more readings than forms so far, and those of the forms that are left complete them
abbrev pub invariant-loop-place : goal.invariant-loop-place
invariant-loop-place l = (length l.readings ≤ l.place)
    × (l.readings ++ readings_from l.word.forms.kind l.word.id l.token l.place (drop l.place l.form-items) ≡ readings_of_word l.token l.word)
