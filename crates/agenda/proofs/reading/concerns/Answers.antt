use Rattle.std.proofs.Common.{sym, ap, ◌∙◌}
use Rattle.std.specs.List.{list_any}
use Rattle.logic_terms.specs.Shown.{concept_of}
use Rattle.tableau_rules.proofs.MapWalks.{map_passes, map_some_more, map_all}
use Rattle.agenda.specs.Resting.{reads}
use Rattle.agenda.proofs.reading.concerns.Goals as goal

pub returns-then-reads : goal.returns-then-reads
returns-then-reads c =
    sym (map_passes concept_of (reads c.args.rule) c.args.label.now c.loop-class.class-index c.class-item.result c.loop-class-test.true c.class-item.is
    (sym c.reads.ensures ∙ c.if-reads.true))

pub loop-class-preserved : goal.loop-class-preserved
loop-class-preserved c =
    map_some_more concept_of (reads c.args.rule) c.args.label.now c.loop-class.class-index c.class-item.result c.loop-class-test.true c.class-item.is
    c.loop-class.invariant (sym c.reads.ensures ∙ c.if-reads.false)

pub returns : goal.returns
returns c =
    sym c.loop-class.invariant ∙ ap (λ cs. list_any (reads c.args.rule) cs)
    (map_all concept_of c.args.label.now c.loop-class.class-index c.loop-class-test.false)
