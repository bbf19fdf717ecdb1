use Rattle.std.proofs.Common.{Some, Ok, sym, ap, ◌∙◌}
use Rattle.logic_terms.specs.declared.structures.Thing.TheVariants.{Name}
use Rattle.logic_terms.specs.Concept.{ClassAssertion}
use Rattle.logic_terms.specs.Shown.{conditions_of}
use Rattle.logic_terms.specs.Structure.{Conditions, conditions_from}
use Rattle.ace_to_owl.specs.Outcomes.{next}
use Rattle.ace_to_owl.specs.Parts.{class_of_tree}
use Rattle.ace_to_owl.specs.Rolling.{parts}
use Rattle.ace_to_owl.specs.Mapping.{conditions_with}
use Rattle.ace_to_owl.proofs.statement.claim_named.Goals as goal

pub returns-in-Ok : goal.returns-in-Ok
returns-in-Ok c =
    let w = c.args.whole.now in
    let cs : Conditions = conditions_from (conditions_with w.referents.now w.groups.now c.args.own.now (conditions_of w.conditions.now)) in
    ap (λ k. next k (λ d. Ok (ClassAssertion d c.args.name)))
    (ap (λ rs. next (parts (Some (Name c.args.name)) rs cs) (class_of_tree rs)) (sym (c.as_slice.ensures ∙ c.in_ok-inside.ensures)) ∙ c.in-Ok.ensures)
