use Rattle.std.proofs.lemmas.Result.{on_ok_weaker}
use Rattle.agenda.proofs.Waits.{added_more, lists_same}
use Rattle.agenda.proofs.waiting.add.Goals as goal

pub returns-clause-more : goal.returns-clause-more
returns-clause-more c =
    on_ok_weaker c.add_at.result
    (λ is z x h. added_more c.reach.new.waiting.items c.add_at.new.waiting.items c.args.node c.args.item c.in_ok-reach.ensures.ok is z x
    (lists_same c.args.waiting.now.items c.reach.new.waiting.items c.reach.ensures.same z x h))
    c.add_at.ensures
