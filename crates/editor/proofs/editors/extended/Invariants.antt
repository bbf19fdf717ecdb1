use Rattle.std.proofs.Common.{◌≡◌, take}
use Rattle.derivation_trees.specs.Partial.{IsTypeable}
use Rattle.derivation_trees.specs.Sentences.{setting_of}
use Rattle.editor.proofs.editors.extended.Given as goal

-- the tokens so far are in the chart, and are typeable
abbrev pub invariant-loop-place : goal.invariant-loop-place
invariant-loop-place l =
    (l.chart ≡ setting_of l.grammar l.lexicon (take l.place l.tokens)) × IsTypeable l.grammar l.lexicon (take l.place l.tokens)
