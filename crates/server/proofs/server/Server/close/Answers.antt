use Rattle.std.proofs.Common.{◌==◌, not, All, List, sym, subst, ap, ◌∙◌, map}
use Rattle.std.proofs.lemmas.List.Elements.{All-filter}
use Rattle.server.specs.declared.connections.Connection.{Connection}
use Rattle.server.specs.Kept.{closed}
use Rattle.server.specs.Reading.{shown, IsRead}
use Rattle.server.proofs.KeptLemmas.{closed_shown}
use Rattle.server.proofs.server.Server.close.Goals as goal

pub invariant_of-self : goal.invariant_of-self
invariant_of-self c =
    subst (λ (items : List Connection). All IsRead items) (sym c.close.ensures)
    (All-filter (λ (x : Connection). not (x.number == c.args.number)) IsRead c.self.inside.kept.items c.self.invariant)

pub returns : goal.returns
returns c = ap (map shown) c.close.ensures ∙ closed_shown c.args.number c.self.inside.kept.items ∙ ap (closed c.args.number) c.self.view_is
