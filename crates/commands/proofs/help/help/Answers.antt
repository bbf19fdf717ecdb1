use Rattle.commands.proofs.help.help.Goals as goal

pub returns-then-write_help-clause-helps : goal.returns-then-write_help-clause-helps
returns-then-write_help-clause-helps g c = c.if-write_help.ensures.all

pub returns-else-write_help-clause-helps : goal.returns-else-write_help-clause-helps
returns-else-write_help-clause-helps g c = c.write_help.ensures.front
