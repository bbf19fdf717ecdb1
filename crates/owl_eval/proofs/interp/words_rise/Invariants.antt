use Rattle.std.proofs.Common.{◌≡◌, drop}
use Rattle.logic_terms.specs.Interpretation.{words_above}
use Rattle.owl_eval.proofs.interp.words_rise.Given as goal

abbrev pub invariant-loop-entry : goal.invariant-loop-entry
invariant-loop-entry g l = words_above l.word (drop l.entry-index l.rest) ≡ words_above l.initial.word l.rest
