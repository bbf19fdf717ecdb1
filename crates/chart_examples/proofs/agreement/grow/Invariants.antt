use Rattle.std.proofs.Common.{◌≡◌}
use Rattle.derivation_trees.specs.Sentences.{setting_of}
use Rattle.chart_examples.proofs.agreement.grow.Given as goal

abbrev pub invariant-loop-place : goal.invariant-loop-place
invariant-loop-place l = l.chart ≡ setting_of l.grammar l.lexicon l.chart.tokens
