use Rattle.std.proofs.Common.{Bool, List, sym, ap, ◌∙◌}
use Rattle.logic_terms.specs.Shown.{condition_of, conditions_of}
use Rattle.logic_terms.specs.Structure.{Condition}
use Rattle.ace_to_owl.specs.Mapping.{own_terms, together}
use Rattle.ace_to_owl.proofs.ClaimLemmas.{name_stop, name_go_by, group_at}
use Rattle.ace_to_owl.proofs.statement.name_together.Goals as goal

pub returns-in-Some : goal.returns-in-Some
returns-in-Some c =
    let w = c.args.whole.now in
    let cs : List Condition = conditions_of w.conditions.now in
    let own = c.args.own.now in
    let here : Condition = condition_of c.get.result.now in
    let wanted : Bool = together w.groups.now own c.as_slice-group.result.now in
    name_stop wanted (λ d. together w.groups.now own (own_terms w.referents.now d)) cs c.loop-place.place here c.in-Some.name _ c.get.ensures.item
    (ap (together w.groups.now own) (c.as_slice-group.ensures ∙ sym c.index-whole-place.is
    ∙ group_at (own_terms w.referents.now) w.groups.now cs c.loop-place.place here c.index-whole-place.result c.requires.groups c.get.ensures.item
    c.index-whole-place.is))
    (sym c.in-Some.is ∙ c.in_ok-name.ensures)
    c.loop-place.invariant

pub loop-place-preserved : goal.loop-place-preserved
loop-place-preserved c =
    let w = c.args.whole.now in
    let cs : List Condition = conditions_of w.conditions.now in
    let own = c.args.own.now in
    let here : Condition = condition_of c.get.result.now in
    let wanted : Bool = together w.groups.now own c.as_slice-group.result.now in
    name_go_by wanted (λ d. together w.groups.now own (own_terms w.referents.now d)) cs c.loop-place.place here c.get.ensures.item
    (ap (together w.groups.now own) (c.as_slice-group.ensures ∙ sym c.index-whole-place.is
    ∙ group_at (own_terms w.referents.now) w.groups.now cs c.loop-place.place here c.index-whole-place.result c.requires.groups c.get.ensures.item
    c.index-whole-place.is))
    (sym c.in_default.is ∙ c.in_ok-name.ensures)
    ∙ c.loop-place.invariant
