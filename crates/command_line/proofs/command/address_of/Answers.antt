use Rattle.std.proofs.Common.{sym, ◌∙◌}
use Rattle.command_line.proofs.OptionLemmas.{an_address, no_address}
use Rattle.command_line.proofs.command.address_of.Goals as goal

pub returns-in-Ok : goal.returns-in-Ok
returns-in-Ok c = an_address _ _ (sym c.begins_with_hyphen.ensures ∙ c.if-begins_with_hyphen.false) c.in-Ok.ensures.cases

pub returns-in-Err : goal.returns-in-Err
returns-in-Err c = no_address _ (sym c.begins_with_hyphen.ensures ∙ c.if-begins_with_hyphen.false) c.in-Err.ensures.cases.0
