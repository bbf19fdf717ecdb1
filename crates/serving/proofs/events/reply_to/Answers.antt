use Rattle.std.proofs.Common.{◌≡◌, inr}
use Rattle.wiki_base.proofs.OptionLaws.{OnErr_any}
use Rattle.serving.specs.declared.events.Answer.{Answer}
use Rattle.wiki_talk.specs.declared.replies.Reply.{Reply}
use Rattle.server.specs.Responses.{response_of}
use Rattle.serving.specs.Journal.{journal_line}
use Rattle.serving.proofs.EventLemmas.{with_reply}
use Rattle.serving.proofs.events.reply_to.Goals as goal

pub returns-clause-answer : goal.returns-clause-answer
returns-clause-answer g c =
    with_reply (λ (a : Answer) (reply : Reply). a.line ≡ journal_line c.args.request.now reply)
    (λ (a : Answer) (reply : Reply). a.response ≡ response_of c.args.then.now reply)
    (λ (reply : Reply). g.W.Machine.Steps c.args.machine.now c.args.request.now reply c.step.new.self) c.answer_to-answer.result c.in_ok-reply.reply
    c.in_ok-reply.ensures.step c.answer_to-answer.ensures

pub returns-clause-memory : goal.returns-clause-memory
returns-clause-memory g c = OnErr_any c.answer_to-answer.result (inr (c.in_ok-reply.reply, c.in_ok-reply.ensures.step))
