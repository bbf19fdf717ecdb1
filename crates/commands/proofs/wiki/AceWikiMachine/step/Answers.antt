use Rattle.std.proofs.Common.{subst}
use Rattle.wiki_core.specs.Holding.{Holding}
use Rattle.wiki_core.specs.Stepping.{KeptStep}
use Rattle.commands.proofs.wiki.AceWikiMachine.step.Goals as goal

pub returns-clause-step : goal.returns-clause-step
returns-clause-step c =
    let kept : KeptStep c.self.inside.wiki c.args.request.now c.in_ok-reply.reply c.step.new.self = record {
      step = c.in_ok-reply.ensures.step;
      budget = c.step.ensures.budget;
      spent = c.in_ok-reply.ensures.spent;
      unknown = c.in_ok-reply.ensures.unknown;
      interpretation = c.in_ok-reply.ensures.interpretation;
      menu = c.in_ok-reply.ensures.menu;
      kept = c.step.ensures.kept;
      held = c.step.ensures.held;
    } in
    subst (λ (old : Holding). KeptStep old c.args.request.now c.in_ok-reply.reply c.step.new.self) c.self.view_is kept
