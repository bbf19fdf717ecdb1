use Rattle.std.proofs.Common.{refl, sym, subst, ◌∙◌}
use Rattle.server.specs.declared.turns.Turn.{Turn}
use Rattle.server.specs.Taking.{Takes}
use Rattle.serving.proofs.EventLemmas.{done_waiting, done_own_answer, done_request, cut_request, was_request, same_response}
use Rattle.serving.proofs.OpenLemmas.{IsOn, open_on, open_after, open_waiting, on_own_answer, on_request}
use Rattle.serving.proofs.events.event.Goals as goal

pub returns-in-Wait-clause-done : goal.returns-in-Wait-clause-done
returns-in-Wait-clause-done g c =
    λ _. done_waiting g.W.Machine.Steps c.args.machine.now c.args.server.now _ c.args.event.now c.in-Ok.turn c.take.new.self c.requires.comes
    c.in-Ok.ensures.turn c.in-Wait.is

pub returns-in-Wait-clause-connections : goal.returns-in-Wait-clause-connections
returns-in-Wait-clause-connections g c =
    λ _. c.requires.connections ∙ open_waiting c.args.server.now c.args.event.now c.take.new.self
    (subst (λ (t : Turn). Takes c.args.server.now c.args.event.now t c.take.new.self) c.in-Wait.is c.in-Ok.ensures.turn)

pub answer-requires : goal.answer-requires
answer-requires g c =
    open_on c.args.server.now c.args.event.now c.in-Ok.turn c.take.new.self c.in-Own.connection (g.L.Link.connections c.args.link.now) c.requires.comes
    c.in-Ok.ensures.turn
    (subst (IsOn c.in-Own.connection) (sym c.in-Own.is) (on_own_answer c.in-Own.connection c.in-Own.response)) c.requires.connections

pub returns-in-Own-clause-done : goal.returns-in-Own-clause-done
returns-in-Own-clause-done g c =
    λ _. done_own_answer g.W.Machine.Steps c.args.machine.now c.args.server.now _ _ c.args.event.now c.in-Ok.turn c.take.new.self c.in-Own.connection
    c.in-Own.response
    c.requires.comes c.in-Ok.ensures.turn c.in-Own.is refl (same_response _ _ _ _ _ _ _ _ c.as_bytes.ensures.value refl c.answer.ensures.delivers)

pub returns-in-Own-clause-connections : goal.returns-in-Own-clause-connections
returns-in-Own-clause-connections g c =
    λ _. open_after c.args.server.now c.args.event.now c.in-Ok.turn c.take.new.self c.in-Own.connection (g.L.Link.connections c.args.link.now) _
    c.requires.comes c.in-Ok.ensures.turn
    (subst (IsOn c.in-Own.connection) (sym c.in-Own.is) (on_own_answer c.in-Own.connection c.in-Own.response)) c.requires.connections
    c.answer.ensures.connections

pub ask-handled-requires : goal.ask-handled-requires
ask-handled-requires g c =
    open_on c.args.server.now c.args.event.now c.in-Ok.turn c.take.new.self c.in-Ask.connection (g.L.Link.connections c.args.link.now) c.requires.comes
    c.in-Ok.ensures.turn
    (subst (IsOn c.in-Ask.connection) (sym c.in-Ask.is) (on_request c.in-Ask.connection c.in-Ask.request c.in-Ask.then)) c.requires.connections

pub returns-in-Ask-clause-done : goal.returns-in-Ask-clause-done
returns-in-Ask-clause-done g c =
    λ is.
    let done = c.ask-handled.ensures.done is in
    done_request g.W.Machine.Steps c.args.machine.now c.args.server.now _ _ c.args.event.now c.in-Ok.turn c.take.new.self c.in-Ask.connection c.in-Ask.request
    c.in-Ask.then done.0 _
    c.requires.comes c.in-Ok.ensures.turn c.in-Ask.is done.1 done.2 done.3

pub returns-in-Ask-clause-connections : goal.returns-in-Ask-clause-connections
returns-in-Ask-clause-connections g c =
    λ is. open_after c.args.server.now c.args.event.now c.in-Ok.turn c.take.new.self c.in-Ask.connection (g.L.Link.connections c.args.link.now) _
    c.requires.comes c.in-Ok.ensures.turn
    (subst (IsOn c.in-Ask.connection) (sym c.in-Ask.is) (on_request c.in-Ask.connection c.in-Ask.request c.in-Ask.then)) c.requires.connections
    (c.ask-handled.ensures.closed is)

pub returns-in-Ask-clause-journal : goal.returns-in-Ask-clause-journal
returns-in-Ask-clause-journal g c =
    λ is. cut_request g.W.Machine.Steps c.args.machine.now c.args.server.now c.args.event.now c.in-Ok.turn c.take.new.self c.in-Ask.connection c.in-Ask.request
    c.in-Ask.then _ _ _
    c.in-Ok.ensures.turn c.in-Ask.is (c.ask-handled.ensures.journal is)

pub returns-in-Ask-clause-memory : goal.returns-in-Ask-clause-memory
returns-in-Ask-clause-memory g c =
    λ is. was_request g.W.Machine.Steps c.args.machine.now c.args.server.now c.args.event.now c.in-Ok.turn c.take.new.self c.in-Ask.connection c.in-Ask.request
    c.in-Ask.then _
    c.in-Ok.ensures.turn c.in-Ask.is (c.ask-handled.ensures.memory is)
