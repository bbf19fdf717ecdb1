use Rattle.std.proofs.Common.{All}
use Rattle.std.specs.Prelude.{IsTrue}
use Rattle.logic_terms.specs.Plain.{are_plain}
use Rattle.absorb.specs.Mentioned.{are_over}
use Rattle.explain.specs.Answers.{claims_in}
use Rattle.explain_examples.proofs.PartLemmas.{AreFit}
use Rattle.explain_examples.proofs.explaining.parts_of.Given as goal

abbrev pub invariant-loop-text : goal.invariant-loop-text
invariant-loop-text l = AreFit l.names l.parts
