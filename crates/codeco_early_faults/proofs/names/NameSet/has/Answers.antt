use Rattle.std.proofs.Common.{ap, ◌∙◌}
use Rattle.codeco_text.specs.Names.{is_among}
use Rattle.codeco_early_faults.proofs.Keys.{among_texts}
use Rattle.codeco_early_faults.proofs.names.NameSet.has.Goals as goal

pub returns : goal.returns
returns c = c.contains.ensures ∙ among_texts c.args.name.now c.self.inside.names.keys ∙ ap (λ names. is_among names c.args.name.now) c.self.view_is
