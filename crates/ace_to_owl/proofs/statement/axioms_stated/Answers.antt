use Rattle.std.proofs.Common.{◌∙◌, subst}
use Rattle.logic_terms.specs.Shown.{claims_of, structure_of, conditions_of}
use Rattle.ace_to_owl.specs.Answers.{Agrees}
use Rattle.ace_to_owl.proofs.ClaimLemmas.{stated_by}
use Rattle.ace_to_owl.proofs.statement.axioms_stated.Goals as goal

pub returns : goal.returns
returns c =
    subst (Agrees claims_of c.axioms_of.result)
    (stated_by (structure_of c.args.drs.now) c.as_slice.result.now (conditions_of c.conditions.result.now) (c.as_slice.ensures ∙ c.referents.ensures)
    c.conditions.ensures.list)
    c.axioms_of.ensures
