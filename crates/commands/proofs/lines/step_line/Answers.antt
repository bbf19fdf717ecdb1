use Rattle.std.proofs.Common.{◌≡◌, refl, sym, ◌∙◌}
use Rattle.std.proofs.lemmas.Result.{on_ok_weaker}
use Rattle.commands.specs.Lines.{line_handed, asked}
use Rattle.commands.proofs.ServeLemmas.{stepped_request, stepped_none}
use Rattle.commands.proofs.lines.step_line.Goals as goal
use Rattle.commands.proofs.lines.step_line.Goals.{in-Some+in_ok-request-in-Some, in-None}

pub returns-in-Some-request : goal.returns-in-Some-request
returns-in-Some-request c =
    let is_asked = elim c.match-line.branch as (λ _. c.match-line.request ≡ asked (line_handed c.args.line)) [
      | in-Some+in_ok-request-in-Some w ↦ rw (w.in-Some.is, w.request-is) w.in_ok-request-in-Some.ensures
      | in-None w ↦ rw (w.in-None.is, w.request-is) refl
    ] in
    on_ok_weaker c.turn-done.result
    (λ stepped. stepped_request c.args.wiki.now (line_handed c.args.line) c.turn-done.new.wiki c.in-Some-request.request
    (sym c.in-Some-request.is ∙ is_asked) stepped) c.turn-done.ensures

pub returns-in-None-request : goal.returns-in-None-request
returns-in-None-request c =
    let is_asked = elim c.match-line.branch as (λ _. c.match-line.request ≡ asked (line_handed c.args.line)) [
      | in-Some+in_ok-request-in-Some w ↦ rw (w.in-Some.is, w.request-is) w.in_ok-request-in-Some.ensures
      | in-None w ↦ rw (w.in-None.is, w.request-is) refl
    ] in
    stepped_none c.args.wiki.now (line_handed c.args.line) (sym c.in-None-request.is ∙ is_asked)
