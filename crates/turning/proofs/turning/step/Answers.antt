use Rattle.std.proofs.Common.{sym, ◌∙◌}
use Rattle.turning.proofs.TurnLemmas.{other_fits}
use Rattle.turning.proofs.turning.step.Goals as goal

pub returns-in-None-clause-fits : goal.returns-in-None-clause-fits
returns-in-None-clause-fits c =
    other_fits c.args.wiki.now c.step.new.self c.args.history.now c.requires c.args.request.now (sym c.changes_words.ensures ∙ c.if-changes_words.false)
    (sym c.article_changed.ensures.changed ∙ c.in-None.is) c.step.result c.step.ensures.step c.step.ensures.memory
