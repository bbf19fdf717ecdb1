use Rattle.std.proofs.Common.{◌≡◌, map, take}
use Rattle.owl_reader.proofs.entities.EntityTable.entities.Given as goal

abbrev pub invariant-loop-key : goal.invariant-loop-key
invariant-loop-key l = l.list ≡ map (λ k. record { kind = k.kind; iri = k.iri.items }) (take l.key-index l.key-items)
