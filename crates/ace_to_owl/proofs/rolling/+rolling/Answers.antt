use Rattle.std.proofs.lemmas.List.{map-append}
use Rattle.std.proofs.Common.{◌+◌, List, [], ◌∷◌, map, drop, ap, ◌∙◌, subst}
use Rattle.wiki_base.proofs.ListLaws.{drop_slice_get}
use Rattle.logic_terms.specs.Shown.{concept_of, structure_of, condition_of, conditions_of}
use Rattle.logic_terms.specs.Structure.{Condition, conditions_from}
use Rattle.ace_to_owl.specs.Answers.{part_shown, Agrees}
use Rattle.ace_to_owl.specs.Rolling.{roll, negation_part, parts}
use Rattle.ace_to_owl.proofs.RollingLemmas.{roll_by, roll_with_by, parts_stop, parts_go}
use Rattle.ace_to_owl.proofs.rolling.+rolling.Goals as goal

pub roll-returns : goal.roll-returns
roll-returns t c =
    subst (Agrees concept_of c.rolled.result)
    (roll_by c.args.root (structure_of c.args.drs.now) c.as_slice.result.now (conditions_of c.conditions.result.now) (c.as_slice.ensures ∙ c.referents.ensures)
    c.conditions.ensures.list)
    c.rolled.ensures

pub roll_without-returns : goal.roll_without-returns
roll_without-returns t c =
    subst (Agrees concept_of c.rolled_without.result)
    (roll_with_by c.args.root (structure_of c.args.left.now)
    (negation_part (λ w. roll w (structure_of c.args.right.now)) (structure_of c.args.right.now) c.args.root) c.as_slice-referents.result.now
    (conditions_of c.conditions.result.now) (c.as_slice-referents.ensures ∙ c.referents.ensures) c.conditions.ensures.list)
    c.rolled_without.ensures

pub parts_of-returns-in-Err : goal.parts_of-returns-in-Err
parts_of-returns-in-Err t c =
    let cs : List Condition = conditions_of c.args.conditions.now in
    let k = c.loop-place.place in
    parts_stop c.args.root c.args.referents.now (parts c.args.root c.args.referents.now (conditions_from cs)) (drop k cs) (drop (k + 1) cs)
    (condition_of c.get.result.now) (map part_shown c.loop-place.given) (drop_slice_get cs k (condition_of c.get.result.now) c.get.ensures.item)
    c.loop-place.invariant part_shown c.in-Err.fault c.in-Err.ensures

pub parts_of-loop-place-preserved : goal.parts_of-loop-place-preserved
parts_of-loop-place-preserved t c =
    let cs : List Condition = conditions_of c.args.conditions.now in
    let k = c.loop-place.place in
    parts_go c.args.root c.args.referents.now (parts c.args.root c.args.referents.now (conditions_from cs)) (drop k cs) (drop (k + 1) cs)
    (condition_of c.get.result.now) (map part_shown c.loop-place.given) (drop_slice_get cs k (condition_of c.get.result.now) c.get.ensures.item)
    c.loop-place.invariant (part_shown c.in-Ok.part) (map part_shown c.push.new.self) c.in-Ok.ensures
    (ap (map part_shown) c.in_ok-push-in-Ok.ensures.ok ∙ map-append part_shown c.loop-place.given (c.in-Ok.part ∷ []))
