use Rattle.std.specs.Prelude.{option_map}
use Rattle.commands.specs.Theorem.{IsWhy}
use Rattle.commands.proofs.RetellLemmas.{Retells-none}
use Rattle.commands.proofs.retell.why.Goals as goal

pub returns-in-Err-clause-retells : goal.returns-in-Err-clause-retells
returns-in-Err-clause-retells g c = Retells-none (IsWhy c.args.budget c.args.article.now c.args.at (option_map (λ form. form.now) c.args.name)) _ _ _
