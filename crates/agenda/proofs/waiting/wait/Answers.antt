use Rattle.std.proofs.Common.{sym}
use Rattle.tableau_rules.specs.Shown.{graph_of}
use Rattle.agenda.specs.Views.{is_listed}
use Rattle.agenda.proofs.Waits.{decides_on, decided_top}
use Rattle.agenda.proofs.waiting.wait.Goals as goal

pub loop-left-preserved : goal.loop-left-preserved
loop-left-preserved c = record {
  more = λ z x h. c.in_ok-add-in-Some.ensures.more z x (c.loop-left.invariant.more z x h);
  left_decides = decides_on (graph_of c.args.b.now) c.args.item c.args.from (is_listed c.loop-left.waiting.items) (is_listed c.add-in-Some.new.waiting.items)
      c.loop-left.left c.loop-left.at c.in-Some.parent c.loop-left-test.true (sym c.in-Some.ensures) c.in_ok-add-in-Some.ensures.more
      c.in_ok-add-in-Some.ensures.there c.loop-left.invariant.left_decides;
}

pub returns-in-None-clause-there : goal.returns-in-None-clause-there
returns-in-None-clause-there c =
    decided_top (graph_of c.args.b.now) c.args.item c.args.from (is_listed c.loop-left.waiting.items) c.loop-left.left c.loop-left.at (sym c.in-None.ensures)
    c.loop-left.invariant.left_decides
