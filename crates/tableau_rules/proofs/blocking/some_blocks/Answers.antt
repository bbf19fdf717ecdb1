use Rattle.std.proofs.Common.{sym, ◌∙◌}
use Rattle.logic_terms.specs.Known.{theory_of}
use Rattle.tableau_rules.specs.Shown.{graph_of}
use Rattle.tableau_rules.proofs.Climbing.{block_here, block_passed}
use Rattle.tableau_rules.proofs.blocking.some_blocks.Goals as goal

pub returns-then-repeats : goal.returns-then-repeats
returns-then-repeats c =
    block_here (theory_of c.args.k.now) (graph_of c.args.b.now) c.loop-left.at c.loop-left.left _ c.loop-left.invariant c.in-Some.parent c.loop-left-test.true
    (sym c.in-Some.ensures) (sym c.repeats.ensures ∙ c.if-repeats.true)

pub loop-left-preserved : goal.loop-left-preserved
loop-left-preserved c =
    block_passed (theory_of c.args.k.now) (graph_of c.args.b.now) c.loop-left.at c.loop-left.left _ c.loop-left.invariant c.in-Some.parent c.loop-left-test.true
    (sym c.in-Some.ensures) (sym c.repeats.ensures ∙ c.if-repeats.false)
