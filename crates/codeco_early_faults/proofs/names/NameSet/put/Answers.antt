use Rattle.std.proofs.Common.{◌∷◌, [], not, ap, ◌∙◌}
use Rattle.codeco_text.specs.Names.{is_among}
use Rattle.codeco_numbering.specs.Numbered.{gathered}
use Rattle.codeco_early_faults.proofs.Keys.{texts, among_texts, put_text}
use Rattle.codeco_early_faults.proofs.names.NameSet.put.Goals as goal

pub returns-clause-new : goal.returns-clause-new
returns-clause-new c = c.in_ok-insert.ensures.added
    ∙ ap not (among_texts c.args.name.now c.self.inside.names.keys ∙ ap (λ names. is_among names c.args.name.now) c.self.view_is)

pub returns-clause-names : goal.returns-clause-names
returns-clause-names c = ap texts c.in_ok-insert.ensures.keys ∙ put_text c.self.inside.names.keys c.args.name
    ∙ ap (λ names. gathered names (c.args.name.now ∷ [])) c.self.view_is
