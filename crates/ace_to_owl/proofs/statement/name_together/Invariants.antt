use Rattle.std.proofs.Common.{◌≡◌, [], drop}
use Rattle.logic_terms.specs.Shown.{conditions_of}
use Rattle.logic_terms.specs.Structure.{conditions_from}
use Rattle.ace_to_owl.specs.Terms.{first_name, terms_in_all}
use Rattle.ace_to_owl.specs.Mapping.{conditions_with}
use Rattle.ace_to_owl.proofs.statement.name_together.Given as goal

abbrev pub invariant-loop-place : goal.invariant-loop-place
invariant-loop-place l =
    first_name (terms_in_all [] (conditions_from
    (conditions_with l.whole.referents.now l.whole.groups.now l.own (drop l.place (conditions_of l.whole.conditions.now)))))
    ≡ first_name (terms_in_all [] (conditions_from (conditions_with l.whole.referents.now l.whole.groups.now l.own (conditions_of l.whole.conditions.now))))
