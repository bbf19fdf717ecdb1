use Rattle.std.proofs.Common.{map, sym, ap, ◌∙◌}
use Rattle.std.specs.Prelude.{not}
use Rattle.std.specs.List.{list_any}
use Rattle.logic_terms.specs.Same.{has_concept}
use Rattle.logic_terms.specs.Shown.{concept_of}
use Rattle.tableau_rules.proofs.MapWalks.{map_passes, map_some_more, map_all}
use Rattle.tableau_rules.proofs.label.lacks_some_of.Goals as goal

pub returns-then-not-has : goal.returns-then-not-has
returns-then-not-has c =
    sym (map_passes concept_of (λ d. not (has_concept (map concept_of c.args.label.now) d)) c.args.classes.now c.loop-class.class-index c.class-item.result
    c.loop-class-test.true c.class-item.is (ap not (sym c.has.ensures ∙ c.if-not-has.true)))

pub loop-class-preserved : goal.loop-class-preserved
loop-class-preserved c =
    map_some_more concept_of (λ d. not (has_concept (map concept_of c.args.label.now) d)) c.args.classes.now c.loop-class.class-index c.class-item.result
    c.loop-class-test.true c.class-item.is c.loop-class.invariant (ap not (sym c.has.ensures ∙ c.if-not-has.false))

pub returns : goal.returns
returns c =
    sym c.loop-class.invariant ∙ ap (λ cs. list_any (λ d. not (has_concept (map concept_of c.args.label.now) d)) cs)
    (map_all concept_of c.args.classes.now c.loop-class.class-index c.loop-class-test.false)
