use Rattle.logic_terms.specs.Shown.{claims_of, structure_of}
use Rattle.ace_to_owl.proofs.Keeps.{statement_keeps, statement_reads}
use Rattle.ace_to_owl.proofs.PlainLemmas.{statement_plain}
use Rattle.ace_to_owl.proofs.mapping.map_statement.Goals as goal

pub returns-in-Ok-clause-truth : goal.returns-in-Ok-clause-truth
returns-in-Ok-clause-truth c = statement_keeps (structure_of c.args.drs.now) (claims_of c.in-Ok.axioms) c.in-Ok.ensures

pub returns-in-Ok-clause-reading : goal.returns-in-Ok-clause-reading
returns-in-Ok-clause-reading c = statement_reads (structure_of c.args.drs.now) (claims_of c.in-Ok.axioms) c.in-Ok.ensures

pub returns-in-Ok-clause-plain : goal.returns-in-Ok-clause-plain
returns-in-Ok-clause-plain c = statement_plain (structure_of c.args.drs.now) (claims_of c.in-Ok.axioms) c.in-Ok.ensures
