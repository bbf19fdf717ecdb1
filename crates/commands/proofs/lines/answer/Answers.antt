use Rattle.std.proofs.Common.{◌≡◌, List, ℕ, refl, sym, ◌∙◌}
use Rattle.std.proofs.lemmas.Result.{IfOk-weaker, on_err_weaker}
use Rattle.commands.specs.Lines.{line_handed, asked, RepliesTo}
use Rattle.commands.proofs.RunLemmas.{RepliesTo-step, WasStepped-step}
use Rattle.commands.proofs.lines.answer.Goals as goal
use Rattle.commands.proofs.lines.answer.Goals.{in-Some+in_ok-request-in-Some, in-None}

pub returns-in-Some-request-clause-reply : goal.returns-in-Some-request-clause-reply
returns-in-Some-request-clause-reply c =
    let is_asked = elim c.match-line.branch as (λ _. c.match-line.request ≡ asked (line_handed c.args.line)) [
      | in-Some+in_ok-request-in-Some w ↦ rw (w.in-Some.is, w.request-is) w.in_ok-request-in-Some.ensures
      | in-None w ↦ rw (w.in-None.is, w.request-is) refl
    ] in
    IfOk-weaker c.reply_to-line.result _ (RepliesTo c.args.wiki.now (line_handed c.args.line) c.reply_to-line.new.wiki)
    (λ (bytes : List ℕ) stepped. RepliesTo-step _ _ _ _ bytes (sym c.in-Some-request.is ∙ is_asked) stepped) c.reply_to-line.ensures.reply

pub returns-in-Some-request-clause-memory : goal.returns-in-Some-request-clause-memory
returns-in-Some-request-clause-memory c =
    let is_asked = elim c.match-line.branch as (λ _. c.match-line.request ≡ asked (line_handed c.args.line)) [
      | in-Some+in_ok-request-in-Some w ↦ rw (w.in-Some.is, w.request-is) w.in_ok-request-in-Some.ensures
      | in-None w ↦ rw (w.in-None.is, w.request-is) refl
    ] in
    on_err_weaker c.reply_to-line.result
    (λ stepped. WasStepped-step c.args.wiki.now (line_handed c.args.line) c.reply_to-line.new.wiki c.in-Some-request.request
    (sym c.in-Some-request.is ∙ is_asked) stepped) c.reply_to-line.ensures.memory
