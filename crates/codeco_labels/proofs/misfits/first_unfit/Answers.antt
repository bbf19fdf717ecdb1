use Rattle.std.proofs.Common.{sym, ◌∙◌}
use Rattle.codeco_labels.proofs.MisfitLemmas.{seen_more, differs_here, unfit_here, all_seen}
use Rattle.codeco_labels.proofs.misfits.first_unfit.Goals as goal

pub returns-then-differs : goal.returns-then-differs
returns-then-differs c =
    differs_here c.args.rules.now c.args.marks.now c.args.table.now c.loop-place.table c.loop-place.place c.index-rules-place.result c.requires.known
    c.loop-place.invariant c.loop-place-test.true c.index-rules-place.is (sym c.differs.ensures ∙ c.if-differs.true)

pub returns-then-not-fit_rule : goal.returns-then-not-fit_rule
returns-then-not-fit_rule c =
    unfit_here c.args.rules.now c.args.marks.now c.args.table.now c.loop-place.table c.fit_rule.new.table c.loop-place.place c.index-rules-place.result
    c.fit_rule.result c.requires.known c.loop-place.invariant c.loop-place-test.true c.index-rules-place.is c.if-not-fit_rule.true c.fit_rule.ensures

pub loop-place-preserved : goal.loop-place-preserved
loop-place-preserved c =
    seen_more c.args.rules.now c.args.marks.now c.args.table.now c.loop-place.table c.fit_rule.new.table c.loop-place.place c.index-rules-place.result
    c.fit_rule.result c.loop-place.invariant c.loop-place-test.true c.index-rules-place.is (sym c.differs.ensures ∙ c.if-differs.false)
    c.if-not-fit_rule.false c.fit_rule.ensures

pub returns : goal.returns
returns c =
    all_seen c.args.rules.now c.args.marks.now c.args.table.now c.loop-place.table c.loop-place.place c.requires.known c.loop-place.invariant
    c.loop-place-test.false
