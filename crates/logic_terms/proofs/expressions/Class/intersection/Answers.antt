use Rattle.logic_terms.proofs.ShownLemmas.{intersection_part-And}
use Rattle.logic_terms.proofs.expressions.Class.intersection.Goals as goal

pub returns-in-And-clause-part : goal.returns-in-And-clause-part
returns-in-And-clause-part c = intersection_part-And c.args.self.now c.in-And.members c.in-And.is
