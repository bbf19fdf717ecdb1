use Rattle.std.proofs.Common.{◌≡◌}
use Rattle.serving.proofs.ServeLemmas.{Serving}
use Rattle.serving.specs.Events.{Outside}
use Rattle.serving.proofs.serving.serve_events.Given as goal

-- the events handed in so far were handled, and the link listens where it did
abbrev pub invariant-events : goal.invariant-events
invariant-events g l =
    let link = g.L.Link in
    let sink = g.K.Sink in
    let told_first : Outside = record { journal = sink.taken l.fn.journal; sent = link.sent l.fn.link; send_faults = link.send_faults l.fn.link } in
    let told : Outside = record { journal = sink.taken l.journal; sent = link.sent l.link; send_faults = link.send_faults l.link } in
    record {
      serving : Serving g.W.Machine.Steps l.fn.machine told_first (link.handed l.fn.link) l.machine l.server told (link.handed l.link) (link.connections l.link)
          l._handled (sink.faults l.fn.journal) (sink.faults l.journal) (link.faults l.fn.link) (link.faults l.link);
      listening : link.listens_at l.link ≡ link.listens_at l.fn.link;
    }
