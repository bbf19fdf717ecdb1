use Rattle.server.proofs.ReadLemmas.{seen_wait, seen_refusal, seen_head, begins_head}
use Rattle.server.proofs.connections.Connection.reading.Goals as goal

pub returns-in-Wait-clause-turn : goal.returns-in-Wait-clause-turn
returns-in-Wait-clause-turn c = seen_wait _ _ _ _ c.as_slice-bytes.ensures c.in_ok-head_of.ensures c.in-Wait.is

pub returns-in_ok-status_response-in-Refuse-clause-turn : goal.returns-in_ok-status_response-in-Refuse-clause-turn
returns-in_ok-status_response-in-Refuse-clause-turn c =
    seen_refusal _ _ _ _ _ _ _ c.as_slice-bytes.ensures c.in_ok-head_of.ensures c.in-Refuse.is c.in_ok-status_response-in-Refuse.ensures

pub returns-in_ok-turn_of-in-Head-clause-turn : goal.returns-in_ok-turn_of-in-Head-clause-turn
returns-in_ok-turn_of-in-Head-clause-turn c =
    seen_head _ _ _ _ _ _ c.as_slice-bytes.ensures (begins_head _ _ _ _ c.as_slice-bytes.ensures c.in_ok-head_of.ensures c.in-Head.is)
    c.in_ok-seen-in-Head.ensures.value c.in_ok-turn_of-in-Head.ensures

pub returns-in_ok-turn_of-in-Head-clause-head : goal.returns-in_ok-turn_of-in-Head-clause-head
returns-in_ok-turn_of-in-Head-clause-head c = begins_head _ _ _ _ c.as_slice-bytes.ensures c.in_ok-head_of.ensures c.in-Head.is
