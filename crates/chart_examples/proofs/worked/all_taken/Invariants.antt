use Rattle.std.proofs.Common.{◌≡◌}
use Rattle.derivation_trees.specs.Sentences.{setting_of}
use Rattle.chart_examples.proofs.worked.all_taken.Given as goal

abbrev pub invariant-loop-token : goal.invariant-loop-token
invariant-loop-token l = l.chart ≡ setting_of l.grammar l.lexicon l.chart.tokens
