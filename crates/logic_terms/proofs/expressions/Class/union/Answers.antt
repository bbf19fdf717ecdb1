use Rattle.logic_terms.proofs.ShownLemmas.{union_part-Or}
use Rattle.logic_terms.proofs.expressions.Class.union.Goals as goal

pub returns-in-Or-clause-part : goal.returns-in-Or-clause-part
returns-in-Or-clause-part c = union_part-Or c.args.self.now c.in-Or.members c.in-Or.is
