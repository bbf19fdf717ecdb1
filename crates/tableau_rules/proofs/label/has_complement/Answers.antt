use Rattle.std.proofs.Common.{sym, ap, ◌∙◌}
use Rattle.std.specs.List.{list_any}
use Rattle.logic_terms.specs.Complement.{complement}
use Rattle.logic_terms.specs.Same.{same_concept}
use Rattle.logic_terms.specs.Shown.{concept_of}
use Rattle.tableau_rules.proofs.MapWalks.{map_passes, map_some_more, map_all}
use Rattle.tableau_rules.proofs.label.has_complement.Goals as goal

pub returns-then-is_complement_of : goal.returns-then-is_complement_of
returns-then-is_complement_of c =
    sym (map_passes concept_of (λ d. same_concept d (complement (concept_of c.args.class.now))) c.args.label.now c.loop-own.own-index c.own-item.result
    c.loop-own-test.true c.own-item.is (sym c.is_complement_of.ensures ∙ c.if-is_complement_of.true))

pub loop-own-preserved : goal.loop-own-preserved
loop-own-preserved c =
    map_some_more concept_of (λ d. same_concept d (complement (concept_of c.args.class.now))) c.args.label.now c.loop-own.own-index c.own-item.result
    c.loop-own-test.true c.own-item.is c.loop-own.invariant (sym c.is_complement_of.ensures ∙ c.if-is_complement_of.false)

pub returns : goal.returns
returns c =
    sym c.loop-own.invariant ∙ ap (λ cs. list_any (λ d. same_concept d (complement (concept_of c.args.class.now))) cs)
    (map_all concept_of c.args.label.now c.loop-own.own-index c.loop-own-test.false)
