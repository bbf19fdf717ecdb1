use Rattle.std.proofs.Common.{refl, sym, ◌∙◌}
use Rattle.turning.specs.Turning.{CarriesHistory}
use Rattle.turning.specs.Recalling.{recalling, FitsHistory}
use Rattle.turning.proofs.TurnLemmas.{carries_refused, carries_noted, refused_fits, noted_fits}
use Rattle.turning.proofs.turning.step_article.Goals as goal
use Rattle.turning.proofs.turning.step_article.Goals.{then-not-is_refused, else-not-is_refused}

pub returns-clause-history : goal.returns-clause-history
returns-clause-history c =
    elim c.if-not-is_refused.branch
    as (λ _. CarriesHistory (recalling c.args.wiki.now c.args.history.now) c.args.request.now c.in_ok-reply.reply
    (recalling c.step.new.self c.if-not-is_refused.history)) [
      | then-not-is_refused w ↦
          rw (w.history-is, w.note.ensures)
          (carries_noted c.args.wiki.now c.step.new.self c.args.history.now c.requires.fits c.is_kept.ensures.stored.in_order c.args.request.now
          c.in_ok-reply.reply c.in_ok-reply.ensures.step c.args.word c.requires.changed c.in_ok-before.before c.in_ok-before.ensures
          (sym c.is_refused.ensures ∙ w.if-not-is_refused.true) c.requires.words)
      | else-not-is_refused w ↦
          rw w.history-is
          (carries_refused (recalling c.args.wiki.now c.args.history.now) (recalling c.step.new.self c.args.history.now) c.args.request.now
          c.in_ok-reply.reply (sym c.is_refused.ensures ∙ w.if-not-is_refused.false) (refl, refl))
    ]

pub returns-clause-fits : goal.returns-clause-fits
returns-clause-fits c =
    elim c.if-not-is_refused.branch as (λ _. FitsHistory c.step.new.self.state.stored c.if-not-is_refused.history) [
      | then-not-is_refused w ↦
          rw (w.history-is, w.note.ensures)
          (noted_fits c.args.wiki.now c.step.new.self c.args.history.now c.requires.fits c.is_kept.ensures.stored.in_order c.args.request.now
          c.in_ok-reply.reply c.in_ok-reply.ensures.step c.args.word c.requires.changed c.in_ok-before.before c.in_ok-before.ensures
          (sym c.is_refused.ensures ∙ w.if-not-is_refused.true))
      | else-not-is_refused w ↦
          rw w.history-is
          (refused_fits c.args.wiki.now c.step.new.self c.args.history.now c.requires.fits c.is_kept.ensures.stored.in_order c.args.request.now
          c.in_ok-reply.reply c.in_ok-reply.ensures.step (sym c.is_refused.ensures ∙ w.if-not-is_refused.false))
    ]
