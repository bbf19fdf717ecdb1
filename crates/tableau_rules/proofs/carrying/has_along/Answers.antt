use Rattle.std.proofs.Common.{sym, ap, ◌∙◌}
use Rattle.std.specs.List.{list_any}
use Rattle.logic_terms.specs.Same.{same_concept}
use Rattle.logic_terms.specs.Shown.{concept_of}
use Rattle.tableau_rules.specs.Carrying.{along}
use Rattle.tableau_rules.proofs.MapWalks.{map_passes, map_some_more, map_all}
use Rattle.tableau_rules.proofs.carrying.has_along.Goals as goal

pub returns-then-is_along : goal.returns-then-is_along
returns-then-is_along c =
    sym (map_passes concept_of (λ d. same_concept d (along c.args.role (concept_of c.args.class.now))) c.args.label.now c.loop-own.own-index c.own-item.result
    c.loop-own-test.true
    c.own-item.is (sym c.is_along.ensures ∙ c.if-is_along.true))

pub loop-own-preserved : goal.loop-own-preserved
loop-own-preserved c =
    map_some_more concept_of (λ d. same_concept d (along c.args.role (concept_of c.args.class.now))) c.args.label.now c.loop-own.own-index c.own-item.result
    c.loop-own-test.true
    c.own-item.is c.loop-own.invariant (sym c.is_along.ensures ∙ c.if-is_along.false)

pub returns : goal.returns
returns c =
    sym c.loop-own.invariant ∙ ap (λ cs. list_any (λ d. same_concept d (along c.args.role (concept_of c.args.class.now))) cs)
    (map_all concept_of c.args.label.now c.loop-own.own-index c.loop-own-test.false)
