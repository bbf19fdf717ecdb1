use Rattle.std.proofs.Common.{inr}
use Rattle.wiki_base.proofs.OptionLaws.{OnErr_any}
use Rattle.commands.proofs.ServeLemmas.{with_line}
use Rattle.commands.proofs.lines.reply_to.Goals as goal

pub returns-clause-reply : goal.returns-clause-reply
returns-clause-reply c = with_line c.args.wiki.now c.args.request.now c.turn.new.self c.in_ok-reply.reply c.reply_line-line.result c.in_ok-reply.ensures.turn
    c.reply_line-line.ensures

pub returns-clause-memory : goal.returns-clause-memory
returns-clause-memory c = OnErr_any c.reply_line-line.result (inr (c.in_ok-reply.reply, c.in_ok-reply.ensures.turn))
