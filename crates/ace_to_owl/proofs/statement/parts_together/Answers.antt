use Rattle.std.proofs.Common.{Bool, List, sym, ap, ◌∙◌, map}
use Rattle.logic_terms.specs.Shown.{condition_of, conditions_of}
use Rattle.logic_terms.specs.Structure.{Condition, conditions_from}
use Rattle.ace_to_owl.specs.Answers.{part_shown, option_shown}
use Rattle.ace_to_owl.specs.Rolling.{parts}
use Rattle.ace_to_owl.specs.Mapping.{own_terms, together, conditions_with}
use Rattle.ace_to_owl.proofs.ClaimLemmas.{with_stop, with_go, group_at}
use Rattle.ace_to_owl.proofs.statement.parts_together.Goals as goal

pub returns-in-Err : goal.returns-in-Err
returns-in-Err c =
    let w = c.args.whole.now in
    let cs : List Condition = conditions_of w.conditions.now in
    let own = c.args.own.now in
    let here : Condition = condition_of c.get.result.now in
    let wanted : Bool = together w.groups.now own c.as_slice-group.result.now in
    with_stop c.args.root c.args.inside.now (parts c.args.root c.args.inside.now (conditions_from (conditions_with w.referents.now w.groups.now own cs)))
    (λ d. together w.groups.now own (own_terms w.referents.now d)) cs c.loop-place.place here (map part_shown c.loop-place.given) c.get.ensures.item
    c.loop-place.invariant wanted
    (ap (together w.groups.now own) (c.as_slice-group.ensures ∙ sym c.index-whole-place.is
    ∙ group_at (own_terms w.referents.now) w.groups.now cs c.loop-place.place here c.index-whole-place.result c.requires.groups c.get.ensures.item
    c.index-whole-place.is))
    (option_shown part_shown) part_shown c.in-Err.fault c.in-Err.ensures

pub loop-place-preserved : goal.loop-place-preserved
loop-place-preserved c =
    let w = c.args.whole.now in
    let cs : List Condition = conditions_of w.conditions.now in
    let own = c.args.own.now in
    let here : Condition = condition_of c.get.result.now in
    let wanted : Bool = together w.groups.now own c.as_slice-group.result.now in
    with_go c.args.root c.args.inside.now (parts c.args.root c.args.inside.now (conditions_from (conditions_with w.referents.now w.groups.now own cs)))
    (λ d. together w.groups.now own (own_terms w.referents.now d)) cs c.loop-place.place here (map part_shown c.loop-place.given) c.get.ensures.item
    c.loop-place.invariant wanted
    (ap (together w.groups.now own) (c.as_slice-group.ensures ∙ sym c.index-whole-place.is
    ∙ group_at (own_terms w.referents.now) w.groups.now cs c.loop-place.place here c.index-whole-place.result c.requires.groups c.get.ensures.item
    c.index-whole-place.is))
    (option_shown part_shown c.in-Ok.part) (map part_shown c.push_part.new.given) c.in-Ok.ensures c.in_ok-push_part-in-Ok.ensures
