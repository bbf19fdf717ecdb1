use Rattle.std.proofs.Common.{◌≡◌, ◌<◌, ◌≤◌, ℕ, List, refl, ap, subst, ◌∙◌, inl, arith, IsTrue}
use Rattle.wiki_io.specs.Link.{can_come, connections_after}
use Rattle.serving.proofs.ServeLemmas.{Serving-first, Serving-more, told_same, told_all, ended_over, ended_full, ended_failed, ended_memory, ended_journal, come_event, come_over, come_failed, come_unread}
use Rattle.serving.proofs.serving.serve_events.Goals as goal

pub events-init : goal.events-init
events-init g c = record {
  serving = Serving-first g.W.Machine.Steps _ _ _ _ _ _ _ _ refl c.requires.none c.requires.connections;
  listening = refl;
}

pub returns-in-Over-clause-serves : goal.returns-in-Over-clause-serves
returns-in-Over-clause-serves g c =
    let next = c.next_event.ensures in
    let few : c.events._handled ≤ c.args.most = omega arith in
    ended_over g.W.Machine.Steps _ _ _ _ _ _ _ _ _ _ _ _ _ c.events.invariant.serving _ (told_same _ _ _ _ _ next.sent next.send_faults) _ _ _
    (come_over _ _ _ next.handed c.in-Over.is) (next.over c.in-Over.is) few

pub returns-in-Over-clause-listening : goal.returns-in-Over-clause-listening
returns-in-Over-clause-listening g c = c.next_event.ensures.listening ∙ c.events.invariant.listening

pub returns-in-Failed-clause-serves : goal.returns-in-Failed-clause-serves
returns-in-Failed-clause-serves g c =
    let next = c.next_event.ensures in
    let few : c.events._handled ≤ c.args.most = omega arith in
    ended_failed g.W.Machine.Steps _ _ _ _ _ _ _ _ _ _ _ _ _ c.events.invariant.serving _ (told_same _ _ _ _ _ next.sent next.send_faults) _ _
    (g.L.Link.left c.next_event.new.link)
    (come_failed _ _ _ next.handed c.in-Failed.is) few

pub returns-in-Failed-clause-listening : goal.returns-in-Failed-clause-listening
returns-in-Failed-clause-listening g c = c.next_event.ensures.listening ∙ c.events.invariant.listening

pub returns-in-Failed-clause-link_fault : goal.returns-in-Failed-clause-link_fault
returns-in-Failed-clause-link_fault g c = λ _. omega (arith, c.events.invariant.serving.link_faults, c.next_event.ensures.failed c.in-Failed.is)

pub returns-in-Unread-clause-serves : goal.returns-in-Unread-clause-serves
returns-in-Unread-clause-serves g c =
    let next = c.next_event.ensures in
    let room : c.events._handled < c.args.most = omega arith in
    let unread = come_unread _ _ _ next.handed c.in-Unread.is in
    ended_memory g.W.Machine.Steps _ _ _ _ _ _ _ _ _ _ _ _ _ c.events.invariant.serving _ (told_same _ _ _ _ _ next.sent next.send_faults) _ unread.0 _
    (g.L.Link.left c.next_event.new.link) _ unread.1 (inl refl) room

pub returns-in-Unread-clause-listening : goal.returns-in-Unread-clause-listening
returns-in-Unread-clause-listening g c = c.next_event.ensures.listening ∙ c.events.invariant.listening

pub event-requires : goal.event-requires
event-requires g c =
    let next = c.next_event.ensures in
    record {
      comes = subst (λ (ns : List ℕ). IsTrue (can_come ns c.in-Event.come)) c.events.invariant.serving.open_now (next.comes c.in-Event.come c.in-Event.is);
      connections = next.connections c.in-Event.come c.in-Event.is
          ∙ ap (λ (ns : List ℕ). connections_after ns c.in-Event.come) c.events.invariant.serving.open_now;
    }

pub returns-in-JournalFault-clause-serves : goal.returns-in-JournalFault-clause-serves
returns-in-JournalFault-clause-serves g c =
    let next = c.next_event.ensures in
    let done = c.event.ensures in
    let room : c.events._handled < c.args.most = omega arith in
    ended_journal g.W.Machine.Steps _ _ _ _ _ _ _ _ _ _ _ _ _ c.events.invariant.serving _ (told_same _ _ _ _ _ next.sent next.send_faults) _ c.in-Event.come _
    (g.L.Link.left c.event.new.link) _ _ _
    (done.handed ∙ come_event _ _ _ c.in-Event.come next.handed c.in-Event.is) (done.journal c.in-JournalFault.is)
    (ap g.L.Link.sent (done.unsent (λ is. cc (c.in-JournalFault.is, is))), ap g.L.Link.send_faults (done.unsent (λ is. cc (c.in-JournalFault.is, is)))) room

pub returns-in-JournalFault-clause-listening : goal.returns-in-JournalFault-clause-listening
returns-in-JournalFault-clause-listening g c = c.event.ensures.listening ∙ c.next_event.ensures.listening ∙ c.events.invariant.listening

pub returns-in-JournalFault-clause-journal_fault : goal.returns-in-JournalFault-clause-journal_fault
returns-in-JournalFault-clause-journal_fault g c =
    λ _. omega (arith, c.events.invariant.serving.journal_faults, c.event.ensures.journal_fault c.in-JournalFault.is)

pub returns-in-Memory-clause-serves : goal.returns-in-Memory-clause-serves
returns-in-Memory-clause-serves g c =
    let next = c.next_event.ensures in
    let done = c.event.ensures in
    let room : c.events._handled < c.args.most = omega arith in
    let unsent = done.unsent (λ is. cc (c.in-Memory.is, is)) in
    ended_memory g.W.Machine.Steps _ _ _ _ _ _ _ _ _ _ _ _ _ c.events.invariant.serving _
    (told_all _ _ _ _ _ _ (ap g.K.Sink.taken (done.unwritten c.in-Memory.is)) (ap g.L.Link.sent unsent ∙ next.sent)
    (ap g.L.Link.send_faults unsent ∙ next.send_faults)) _ c.in-Event.come _ (g.L.Link.left c.event.new.link) _
    (done.handed ∙ come_event _ _ _ c.in-Event.come next.handed c.in-Event.is) (done.memory c.in-Memory.is) room

pub returns-in-Memory-clause-listening : goal.returns-in-Memory-clause-listening
returns-in-Memory-clause-listening g c = c.event.ensures.listening ∙ c.next_event.ensures.listening ∙ c.events.invariant.listening

pub events-preserved : goal.events-preserved
events-preserved g c =
    let next = c.next_event.ensures in
    let done = c.event.ensures in
    record {
      serving = Serving-more g.W.Machine.Steps _ _ _ _ _ _ _ _ _ _ _ _ _ c.events.invariant.serving _ (told_same _ _ _ _ _ next.sent next.send_faults)
          c.in-Event.come _ _ _ _ _ _ _
          (done.handed ∙ come_event _ _ _ c.in-Event.come next.handed c.in-Event.is) (done.done c.in-Done.is) (done.connections c.in-Done.is) done.faults
          (omega (arith, next.faults, done.link_faults));
      listening = done.listening ∙ next.listening ∙ c.events.invariant.listening;
    }

pub returns-clause-serves : goal.returns-clause-serves
returns-clause-serves g c =
    let full : c.events._handled ≡ c.args.most = omega arith in
    ended_full g.W.Machine.Steps _ _ _ _ _ _ _ _ _ _ _ _ _ c.events.invariant.serving _ refl _ _ full

pub returns-clause-listening : goal.returns-clause-listening
returns-clause-listening g c = c.events.invariant.listening
