use Rattle.std.proofs.Common.{◌≡◌, ◌++◌, map, drop, Ok}
use Rattle.logic_terms.specs.Shown.{conditions_of}
use Rattle.logic_terms.specs.Structure.{conditions_from}
use Rattle.ace_to_owl.specs.Answers.{part_shown}
use Rattle.ace_to_owl.specs.Outcomes.{next}
use Rattle.ace_to_owl.specs.Rolling.{parts}
use Rattle.ace_to_owl.specs.Mapping.{conditions_with}
use Rattle.ace_to_owl.proofs.statement.parts_together.Given as goal

abbrev pub invariant-loop-place : goal.invariant-loop-place
invariant-loop-place l =
    next (parts l.root l.inside (conditions_from
    (conditions_with l.whole.referents.now l.whole.groups.now l.own (drop l.place (conditions_of l.whole.conditions.now)))))
    (λ ps. Ok (map part_shown l.given ++ ps))
    ≡ parts l.root l.inside (conditions_from (conditions_with l.whole.referents.now l.whole.groups.now l.own (conditions_of l.whole.conditions.now)))
