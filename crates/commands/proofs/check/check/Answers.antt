use Rattle.std.proofs.Common.{sym, ◌∙◌, ap, subst, ℕ, List, Err}
use Rattle.std.specs.Prelude.{IfOk}
use Rattle.owl_intake.specs.Checked.{TellsCheck}
use Rattle.commands.proofs.FileLemmas.{TellsOfFile-written, TellsOfFile-cut, fault_of_cut, no_write_cut, no_link_cut}
use Rattle.commands.proofs.RetellLemmas.{writes_not, no_read_end, no_link_end}
use Rattle.commands.proofs.check.check.Goals as goal

pub returns-in-Ok-clause-tells : goal.returns-in-Ok-clause-tells
returns-in-Ok-clause-tells g c =
    TellsOfFile-written (TellsCheck c.args.budget) _ _ c.read_input.result c.in-Ok.file c.check-text.result _ _ _ c.in-Ok.is c.read_input.ensures.reads
    (subst (λ (file : List ℕ). IfOk c.check-text.result (TellsCheck c.args.budget file)) c.as_slice.ensures c.check-text.ensures) c.write.ensures.ends

pub returns-in-Ok-clause-read_fault : goal.returns-in-Ok-clause-read_fault
returns-in-Ok-clause-read_fault g c = λ is. absurd (no_read_end c.check-text.result _ _ (writes_not c.check-text.result _ _ _ _ c.write.ensures.ends is))

pub returns-in-Ok-clause-link_fault : goal.returns-in-Ok-clause-link_fault
returns-in-Ok-clause-link_fault g c = λ is. no_link_end c.check-text.result _ _ (writes_not c.check-text.result _ _ _ _ c.write.ensures.ends is)

pub returns-in-Err-clause-tells : goal.returns-in-Err-clause-tells
returns-in-Err-clause-tells g c =
    TellsOfFile-cut (TellsCheck c.args.budget) _ _ c.read_input.result c.in-Err.cut _ _ c.in-Err.is c.read_input.ensures.reads c.cut_outcome.ensures

pub returns-in-Err-clause-read_fault : goal.returns-in-Err-clause-read_fault
returns-in-Err-clause-read_fault g c = λ is. c.read_input.ensures.read_fault (c.in-Err.is ∙ ap Err (fault_of_cut c.in-Err.cut (sym c.cut_outcome.ensures ∙ is)))

pub returns-in-Err-clause-write_fault : goal.returns-in-Err-clause-write_fault
returns-in-Err-clause-write_fault g c = λ is. absurd (no_write_cut c.in-Err.cut (sym c.cut_outcome.ensures ∙ is))

pub returns-in-Err-clause-link_fault : goal.returns-in-Err-clause-link_fault
returns-in-Err-clause-link_fault g c = λ is. no_link_cut c.in-Err.cut (sym c.cut_outcome.ensures ∙ is)
