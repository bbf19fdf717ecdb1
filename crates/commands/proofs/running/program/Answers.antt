use Rattle.std.proofs.Common.{refl, inl, inr}
use Rattle.commands.proofs.StandingLemmas.{holds_of_runs}
use Rattle.commands.proofs.StatusLemmas.{told_words}
use Rattle.commands.proofs.running.program.Goals as goal

pub returns-in-Ok : goal.returns-in-Ok
returns-in-Ok g c = record { theorem = inl (c.deref.result.now, told_words _ _ _ c.in-Ok.ensures c.deref.ensures.value, c.run.ensures.theorem) }

pub returns-in-Err : goal.returns-in-Err
returns-in-Err g c = record { theorem = inr (c.end.ensures.status, c.end.ensures.words, refl, holds_of_runs) }
