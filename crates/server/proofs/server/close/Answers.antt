use Rattle.std.proofs.Common.{◌==◌, not, rules}
use Rattle.std.proofs.lemmas.Fn.{filter_same}
use Rattle.server.specs.declared.connections.Connection.{Connection}
use Rattle.server.proofs.server.close.Goals as goal

pub returns : goal.returns
returns c = filter_same _ (λ (x : Connection). not (x.number == c.args.number)) _ (λ x b q called. search (rules, called)) _ _ c.retain.ensures.filtered
