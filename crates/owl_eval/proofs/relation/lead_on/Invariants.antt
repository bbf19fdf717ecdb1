use Rattle.std.proofs.Common.{ℕ, ◌<◌, get_or}
use Rattle.owl_eval.specs.Leads.{IsLed}
use Rattle.owl_eval.proofs.relation.lead_on.Given as goal

abbrev pub invariant-loop-place : goal.invariant-loop-place
invariant-loop-place l = (k : ℕ) (d : ℕ × ℕ) → k < l.place → IsLed l.pairs (get_or l.pairs k d).0
