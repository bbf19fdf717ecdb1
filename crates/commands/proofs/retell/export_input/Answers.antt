use Rattle.std.proofs.Common.{subst}
use Rattle.std.specs.Prelude.{IfOk}
use Rattle.wiki_core.specs.Holding.{Holding}
use Rattle.commands.specs.Theorem.{IsFile}
use Rattle.commands.proofs.RetellLemmas.{Retells-written, Retells-stopped, writes_not, no_read_end, no_link_end}
use Rattle.commands.proofs.StatusLemmas.{no_link_fault}
use Rattle.commands.proofs.retell.export_input.Goals as goal

pub returns-in-Done-clause-retells : goal.returns-in-Done-clause-retells
returns-in-Done-clause-retells g c =
    Retells-written IsFile _ _ _ _ _ _ _ _ c.file_of-text.result c.in-Done.is c.step_input.ensures.steps
    (subst (λ (wiki : Holding). IfOk c.file_of-text.result (IsFile wiki)) c.inner.ensures c.file_of-text.ensures) c.write.ensures.ends

pub returns-in-Done-clause-read_fault : goal.returns-in-Done-clause-read_fault
returns-in-Done-clause-read_fault g c = λ is. absurd (no_read_end c.file_of-text.result _ _ (writes_not c.file_of-text.result _ _ _ _ c.write.ensures.ends is))

pub returns-in-Done-clause-link_fault : goal.returns-in-Done-clause-link_fault
returns-in-Done-clause-link_fault g c = λ is. no_link_end c.file_of-text.result _ _ (writes_not c.file_of-text.result _ _ _ _ c.write.ensures.ends is)

pub returns-in_default-clause-retells : goal.returns-in_default-clause-retells
returns-in_default-clause-retells g c = Retells-stopped IsFile _ _ _ _ _ _ c.step_input.ensures.steps c.in_default.not-Done c.step_input.ensures.write_fault

pub returns-in_default-clause-write_fault : goal.returns-in_default-clause-write_fault
returns-in_default-clause-write_fault g c = λ is. absurd (c.step_input.ensures.write_fault is)

pub returns-in_default-clause-link_fault : goal.returns-in_default-clause-link_fault
returns-in_default-clause-link_fault g c = λ is. no_link_fault _ _ _ _ c.step_input.ensures.steps.reads is
