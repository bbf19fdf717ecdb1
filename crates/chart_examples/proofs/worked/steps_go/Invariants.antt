use Rattle.std.proofs.Common.{◌≡◌}
use Rattle.derivation_trees.specs.Sentences.{setting_of}
use Rattle.chart_examples.proofs.worked.steps_go.Given as goal

abbrev pub invariant-loop-text : goal.invariant-loop-text
invariant-loop-text g l = l.chart ≡ setting_of l.grammar l.lexicon l.chart.tokens
