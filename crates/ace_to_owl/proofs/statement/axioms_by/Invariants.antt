use Rattle.std.proofs.Common.{◌≡◌, ◌++◌, [], take, drop, Ok}
use Rattle.logic_terms.specs.Shown.{claims_of, conditions_of}
use Rattle.ace_to_owl.specs.Outcomes.{next}
use Rattle.ace_to_owl.specs.Mapping.{claims_after}
use Rattle.ace_to_owl.proofs.statement.axioms_by.Given as goal

-- what is left decides
abbrev pub invariant-loop-place : goal.invariant-loop-place
invariant-loop-place l =
    next (claims_after l.whole.referents.now l.whole.groups.now (conditions_of l.whole.conditions.now) (take l.place l.whole.groups.now)
    (drop l.place (conditions_of l.whole.conditions.now))) (λ claims. Ok (claims_of l.axioms ++ claims))
    ≡ claims_after l.whole.referents.now l.whole.groups.now (conditions_of l.whole.conditions.now) [] (conditions_of l.whole.conditions.now)
