use Rattle.command_line.proofs.FormLemmas.{form_told, no_form}
use Rattle.command_line.proofs.forms.form_of.Goals as goal

pub returns-in-Ok : goal.returns-in-Ok
returns-in-Ok c = form_told _ _ _ c.in-Ok.ensures.cases c.text_of.ensures

pub returns-in-Err : goal.returns-in-Err
returns-in-Err c = no_form _ c.in-Err.ensures.cases.0
