use Rattle.std.proofs.Common.{sym}
use Rattle.std.specs.BTreeSet.{IsLowerBound}
use Rattle.std.specs.Ordering.{nat_cmp}
use Rattle.logic_terms.specs.Known.{theory_of}
use Rattle.tableau_rules.specs.Shown.{graph_of}
use Rattle.agenda.specs.Views.{is_due, is_waiting}
use Rattle.agenda.proofs.Nexts.{first_is, first_not}
use Rattle.agenda.proofs.Queueing.{least_key, from_copied, not_some, no_keys}
use Rattle.agenda.proofs.queue.Queue.next.Goals as goal

pub returns-in-Some-first_at-clause-first : goal.returns-in-Some-first_at-clause-first
returns-in-Some-first_at-clause-first c =
    first_is (theory_of c.args.k.now) (graph_of c.args.b.now) c.args.rule (is_due c.loop-node.self) (is_waiting c.loop-node.self) c.loop-node.invariant
    c.in-Some.node c.in-Some-first_at.step
    (least_key c.loop-node.self.due c.in-Some.node
    (from_copied c.first.result (IsLowerBound nat_cmp c.loop-node.self.due) c.in-Some.node c.in-Some.ensures c.first.ensures.least))
    (sym c.in-Some-first_at.ensures)

pub returns-clause-first : goal.returns-clause-first
returns-clause-first c =
    first_not (theory_of c.args.k.now) (graph_of c.args.b.now) c.args.rule (is_due c.loop-node.self) (is_waiting c.loop-node.self) c.loop-node.invariant
    (no_keys c.loop-node.self.due.keys (λ lt. not_some c.first.result c.in_default.ensures (c.first.ensures.variant.1 lt)))
