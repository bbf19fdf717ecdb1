use Rattle.wiki_store.proofs.StepLemmas.{reasserts-step, reasserts-spent}
use Rattle.wiki_store.proofs.base.Base.reassert.Goals as goal

pub returns-clause-does : goal.returns-clause-does
returns-clause-does c =
    reasserts-step c.args.self.now c.args.form.now c.in_ok-change.change c.in_ok-status.status c.put.new.self c.in_ok-status.ensures.made
    c.is_kept.ensures.in_order c.args.at c.in_ok-change.ensures.from c.in_ok-change.ensures.to c.in_ok-change.ensures.there

pub returns-clause-spent : goal.returns-clause-spent
returns-clause-spent c =
    reasserts-spent c.args.self.now c.args.form.now c.in_ok-change.change c.in_ok-status.status c.put.new.self c.in_ok-status.ensures.made
    c.is_kept.ensures.in_order c.args.at c.in_ok-change.ensures.from c.in_ok-change.ensures.to c.in_ok-change.ensures.there
