use Rattle.std.proofs.Common.{ℕ, ◌<◌, get_or}
use Rattle.owl_eval.specs.Leads.{IsLedBy, AreRelayed}
use Rattle.owl_eval.proofs.relation.leads_on_from.Given as goal

abbrev pub invariant-loop-pair : goal.invariant-loop-pair
invariant-loop-pair l = record {
  relay : AreRelayed l.pairs l.first l.relay.0 l.relay.1.now;
  known : (k : ℕ) (d : ℕ × ℕ) → k < l.pair-index → IsLedBy l.pairs l.first (get_or l.own k d).1;
}
