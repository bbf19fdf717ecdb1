use Rattle.std.proofs.Common.{sym}
use Rattle.std.proofs.lemmas.Result.{on_ok_weaker}
use Rattle.tableau_rules.specs.Shown.{graph_of}
use Rattle.agenda.specs.Views.{NotesEdge}
use Rattle.agenda.proofs.Noting.{follows_label, follows_edge, follows_none}
use Rattle.agenda.proofs.queue.Queue.note.Goals as goal
use Rattle.std.proofs.Common.{subst}

pub returns-in-Some : goal.returns-in-Some
returns-in-Some c =
    on_ok_weaker c.note_label.result
    (λ notes k. follows_label k c.args.step.now (graph_of c.args.b.now) c.args.rule c.args.self.now c.note_label.new.self c.in-Some.node (sym c.in-Some.ensures)
    notes)
    c.note_label.ensures

pub returns-in-Some-last_edge : goal.returns-in-Some-last_edge
returns-in-Some-last_edge c =
    on_ok_weaker c.note_edge.result
    (λ notes k. follows_edge k c.args.step.now (graph_of c.args.b.now) c.args.rule c.args.self.now c.note_edge.new.self c.in-Some-last_edge.edge
    (sym c.in-None.ensures) (sym c.in-Some-last_edge.ensures)
    (subst (λ b. NotesEdge (graph_of c.args.b.now) c.args.rule c.in-Some-last_edge.edge b c.args.self.now c.note_edge.new.self) c.sprouts.ensures notes))
    c.note_edge.ensures

pub returns-in-None-last_edge : goal.returns-in-None-last_edge
returns-in-None-last_edge c k =
    follows_none k c.args.step.now (graph_of c.args.b.now) c.args.rule c.args.self.now c.args.self.now (sym c.in-None.ensures) (sym c.in-None-last_edge.ensures)
