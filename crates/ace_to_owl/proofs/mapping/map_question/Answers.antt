use Rattle.logic_terms.specs.Shown.{concept_of, structure_of}
use Rattle.ace_to_owl.proofs.Keeps.{question_keeps, question_reads}
use Rattle.ace_to_owl.proofs.PlainLemmas.{question_plain}
use Rattle.ace_to_owl.proofs.mapping.map_question.Goals as goal

pub returns-in-Ok-clause-truth : goal.returns-in-Ok-clause-truth
returns-in-Ok-clause-truth c = question_keeps (structure_of c.args.drs.now) c.args.referent (concept_of c.in-Ok.class) c.in-Ok.ensures

pub returns-in-Ok-clause-reading : goal.returns-in-Ok-clause-reading
returns-in-Ok-clause-reading c = question_reads (structure_of c.args.drs.now) c.args.referent (concept_of c.in-Ok.class) c.in-Ok.ensures

pub returns-in-Ok-clause-plain : goal.returns-in-Ok-clause-plain
returns-in-Ok-clause-plain c = question_plain (structure_of c.args.drs.now) c.args.referent (concept_of c.in-Ok.class) c.in-Ok.ensures
