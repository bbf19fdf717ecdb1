use Rattle.std.proofs.Common.{refl, ◌∙◌, sym, subst, ℕ, Bool, IsTrue, List, inl, inr}
use Rattle.commands.proofs.ServeLemmas.{served_same, fault_of_journal, no_read_fault}
use Rattle.commands.proofs.serve.serve_link.Goals as goal

pub returns-in-Ready-clause-serves : goal.returns-in-Ready-clause-serves
returns-in-Ready-clause-serves g c =
    let link = g.L.Link in
    let sink = g.K.Sink in
    let listens : IsTrue (link.listens_at c.serve-served.new.link c.args.address.now) =
    subst (λ (listens_at : List ℕ → Bool). IsTrue (listens_at c.args.address.now)) (sym c.serve-served.ensures.listening)
    (c.listen.ensures.ready c.in-Ready.is) in
    inl (
      listens,
      (
        c.serve-served.result,
        c.ended.ensures,
        served_same c.args.wiki.now c.args.events (sink.taken c.args.output.now) (link.sent c.args.link.now) (link.sent c.listen.new.self)
            (link.send_faults c.args.link.now) (link.send_faults c.listen.new.self)
            (link.handed c.args.link.now) (link.handed c.listen.new.self) (link.handed c.serve-served.new.link) c.serve-served.result
            (link.left c.serve-served.new.link)
            (record {
              journal = sink.taken c.serve-served.new.journal;
              sent = link.sent c.serve-served.new.link;
              send_faults = link.send_faults c.serve-served.new.link;
            })
            c.listen.ensures.sent c.listen.ensures.send_faults c.listen.ensures.handed c.serve-served.ensures.serves,
      ),
    )

pub returns-in-Ready-clause-write_fault : goal.returns-in-Ready-clause-write_fault
returns-in-Ready-clause-write_fault g c = λ is. c.serve-served.ensures.journal_fault (fault_of_journal c.serve-served.result (sym is ∙ c.ended.ensures))

pub returns-in-Ready-clause-read_fault : goal.returns-in-Ready-clause-read_fault
returns-in-Ready-clause-read_fault g c = no_read_fault c.serve-served.result c.ended.result c.ended.ensures

pub returns-in-Failed-clause-serves : goal.returns-in-Failed-clause-serves
returns-in-Failed-clause-serves g c = inr (refl, rw (c.listen.ensures.sent, c.listen.ensures.send_faults) refl, c.listen.ensures.handed)
