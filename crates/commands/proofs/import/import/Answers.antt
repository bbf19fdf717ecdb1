use Rattle.std.proofs.Common.{sym, ◌∙◌, ap, Err}
use Rattle.commands.specs.Theorem.{TellsImport}
use Rattle.commands.proofs.FileLemmas.{TellsOfFile-retold, TellsOfFile-cut, no_read_retold, no_link_retold, fault_of_cut, no_write_cut, no_link_cut}
use Rattle.commands.proofs.import.import.Goals as goal

pub returns-in-Ok-clause-tells : goal.returns-in-Ok-clause-tells
returns-in-Ok-clause-tells g c =
    TellsOfFile-retold (TellsImport c.import_file.result.remarks) _ _ c.read_input.result c.in-Ok.file _ c.import_file.result.outcome _ _ c.in-Ok.is
    c.read_input.ensures.reads c.as_slice.ensures c.import_file.ensures.ends

pub returns-in-Ok-clause-read_fault : goal.returns-in-Ok-clause-read_fault
returns-in-Ok-clause-read_fault g c = λ is. absurd (no_read_retold _ _ _ _ c.import_file.ensures.ends is)

pub returns-in-Ok-clause-link_fault : goal.returns-in-Ok-clause-link_fault
returns-in-Ok-clause-link_fault g c = λ is. no_link_retold _ _ _ _ c.import_file.ensures.ends is

pub returns-in-Err-clause-tells : goal.returns-in-Err-clause-tells
returns-in-Err-clause-tells g c =
    TellsOfFile-cut (TellsImport c.quiet.result.remarks) _ _ c.read_input.result c.in-Err.cut c.quiet.result.outcome _ c.in-Err.is
    c.read_input.ensures.reads (c.quiet.ensures.outcome ∙ c.cut_outcome.ensures)

pub returns-in-Err-clause-read_fault : goal.returns-in-Err-clause-read_fault
returns-in-Err-clause-read_fault g c =
    λ is. c.read_input.ensures.read_fault (c.in-Err.is ∙ ap Err (fault_of_cut c.in-Err.cut (sym (c.quiet.ensures.outcome ∙ c.cut_outcome.ensures) ∙ is)))

pub returns-in-Err-clause-write_fault : goal.returns-in-Err-clause-write_fault
returns-in-Err-clause-write_fault g c = λ is. absurd (no_write_cut c.in-Err.cut (sym (c.quiet.ensures.outcome ∙ c.cut_outcome.ensures) ∙ is))

pub returns-in-Err-clause-link_fault : goal.returns-in-Err-clause-link_fault
returns-in-Err-clause-link_fault g c = λ is. no_link_cut c.in-Err.cut (sym (c.quiet.ensures.outcome ∙ c.cut_outcome.ensures) ∙ is)
