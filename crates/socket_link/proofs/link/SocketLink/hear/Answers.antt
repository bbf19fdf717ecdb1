use Rattle.std.proofs.Common.{refl}
use Rattle.socket_link.proofs.link.SocketLink.hear.Goals as goal

pub end-requires : goal.end-requires
end-requires g c = c.in-End.ensures.ended refl
