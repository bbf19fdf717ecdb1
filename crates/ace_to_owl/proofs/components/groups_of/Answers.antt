use Rattle.std.proofs.Common.{◌∙◌}
use Rattle.logic_terms.specs.Shown.{condition_of, conditions_of}
use Rattle.logic_terms.proofs.Taken.{made_more}
use Rattle.ace_to_owl.specs.Mapping.{own_terms}
use Rattle.ace_to_owl.proofs.components.groups_of.Goals as goal

pub loop-place-preserved : goal.loop-place-preserved
loop-place-preserved c =
    c.in_ok-push.ensures.ok
    ∙ made_more (own_terms c.args.referents.now) (conditions_of c.args.conditions.now) c.loop-place.place (condition_of c.get.result.now) c.loop-place.groups
    c.in_ok-own.own c.get.ensures.item c.loop-place.invariant c.in_ok-own.ensures
