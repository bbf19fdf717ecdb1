use Rattle.logic_terms.specs.Shown.{concept_of, structure_of}
use Rattle.ace_to_owl.proofs.Keeps.{roll_keeps}
use Rattle.ace_to_owl.proofs.rolling.class_at_root.Goals as goal

pub returns-in-Ok-clause-truth : goal.returns-in-Ok-clause-truth
returns-in-Ok-clause-truth c = roll_keeps c.args.root (structure_of c.args.drs.now) (concept_of c.in-Ok.class) c.in-Ok.ensures
