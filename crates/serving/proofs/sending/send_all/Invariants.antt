use Rattle.std.proofs.Common.{◌≡◌, length}
use Rattle.serving.proofs.DeliverLemmas.{Sending}
use Rattle.serving.proofs.sending.send_all.Given as goal

-- what was sent so far, and what is left
abbrev pub invariant-pieces : goal.invariant-pieces
invariant-pieces g l =
    let link = g.L.Link in
    record {
      sending : Sending l.connection l.bytes l.rest (link.sent l.fn.link) (link.send_faults l.fn.link) (link.sent l.link) (link.send_faults l.link);
      connections : link.connections l.link ≡ link.connections l.fn.link;
      handed : link.handed l.link ≡ link.handed l.fn.link;
      listening : link.listens_at l.link ≡ link.listens_at l.fn.link;
      faults : link.faults l.link ≡ link.faults l.fn.link;
    }

abbrev pub decreases-pieces : goal.decreases-pieces
decreases-pieces g l = length l.rest
