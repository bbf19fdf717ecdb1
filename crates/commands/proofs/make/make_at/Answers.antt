use Rattle.std.proofs.Common.{sym, ◌∙◌}
use Rattle.commands.proofs.MakeLemmas.{made_summary, made_fault}
use Rattle.commands.proofs.make.make_at.Goals as goal

pub returns-clause-makes : goal.returns-clause-makes
returns-clause-makes g c = made_summary _ _ _ _ c.make-made.result c.outcome.result _ c.outcome.ensures c.make-made.ensures.makes

pub returns-clause-write_fault : goal.returns-clause-write_fault
returns-clause-write_fault g c = λ is. c.make-made.ensures.write_fault (made_fault c.make-made.result (sym is ∙ c.outcome.ensures))
