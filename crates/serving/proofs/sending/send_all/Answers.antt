use Rattle.std.proofs.Common.{◌∙◌, refl, inl, inr, arith, rules}
use Rattle.std.proofs.lemmas.List.{nil_from_length}
use Rattle.serving.proofs.DeliverLemmas.{Sending-first, Sending-more, Delivers-sending, with_more-nil}
use Rattle.serving.proofs.sending.send_all.Goals as goal

pub pieces-init : goal.pieces-init
pieces-init g c = record { sending = Sending-first _ _ _ _ _ refl; connections = refl; handed = refl; listening = refl; faults = refl }

pub pieces-preserved : goal.pieces-preserved
pieces-preserved g c = record {
  sending = Sending-more _ c.in-Bytes.size _ _ _ _ _ _ _ _ c.pieces.invariant.sending c.in-Bytes.ensures.sent c.send.ensures.send_faults;
  connections = c.send.ensures.connections ∙ c.pieces.invariant.connections;
  handed = c.send.ensures.handed ∙ c.pieces.invariant.handed;
  listening = c.send.ensures.listening ∙ c.pieces.invariant.listening;
  faults = c.send.ensures.faults ∙ c.pieces.invariant.faults;
}

pub returns-in-Failed-clause-delivers : goal.returns-in-Failed-clause-delivers
returns-in-Failed-clause-delivers g c =
    Delivers-sending _ _ _ _ _ _ _ _ _ c.pieces.invariant.sending (c.in-Failed.ensures.sent ∙ with_more-nil _) (inr (c.send.ensures.failed c.in-Failed.is))

pub returns-clause-delivers : goal.returns-clause-delivers
returns-clause-delivers g c =
    Delivers-sending _ _ _ _ _ _ _ _ _ c.pieces.invariant.sending refl
    (inl (nil_from_length c.pieces.rest.now (search (rules, c.is_empty.ensures, c.pieces-test.false)), omega arith))
