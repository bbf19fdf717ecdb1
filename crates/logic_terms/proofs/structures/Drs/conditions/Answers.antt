use Rattle.std.proofs.Common.{sym}
use Rattle.logic_terms.proofs.ShownLemmas.{conditions_in_is}
use Rattle.logic_terms.proofs.structures.Drs.conditions.Goals as goal

pub returns-clause-list : goal.returns-clause-list
returns-clause-list c = sym (conditions_in_is c.args.self.now)
