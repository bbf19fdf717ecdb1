use Rattle.std.proofs.Common.{sym, ◌∙◌}
use Rattle.socket_link.proofs.switchboard.Switchboard.is_closed.Goals as goal

pub returns-in-Some : goal.returns-in-Some
returns-in-Some g c = λ is. (c.in-Some.place.now, c.in-Some.ensures, sym c.is_closed.ensures ∙ is)
