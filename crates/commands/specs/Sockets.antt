-- What a link over sockets tells, by what the sockets tell.
use Rattle.std.specs.Prelude.{ℕ, Bool, List, Option, None}
use Rattle.wiki_io.specs.declared.links.Event.{Event}
use Rattle.socket_link.specs.Deeds.{Deed, sent_in}
use Rattle.commands.specs.Theorem.{Network}

-- A link over these sockets, of which this tells where they listen, what happened on them and what they did: it hands in what happened,
-- and what it took to be sent is what they were to write. What is still to come it doesn't tell.
abbrev pub network_over : {X N : Type 0} → (N → List ℕ → Bool) → (N → Option (List Event)) → (N → Option (List Deed)) → N → ℕ → ℕ → X → Network X
network_over listens_at events deeds sockets faults send_faults itself = record {
  itself = itself;
  listens_at = listens_at sockets;
  handed = events sockets;
  coming = None;
  sent = sent_in (deeds sockets);
  faults = faults;
  send_faults = send_faults;
}
