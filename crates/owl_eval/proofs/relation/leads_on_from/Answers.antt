use Rattle.std.proofs.Common.{arith}
use Rattle.owl_eval.specs.Leads.{IsLedBy}
use Rattle.owl_eval.proofs.Leading.{own_led, own_paired}
use Rattle.owl_eval.proofs.Spanning.{place_more, not_led}
use Rattle.owl_eval.proofs.relation.leads_on_from.Goals as goal

pub loop-pair-init : goal.loop-pair-init
loop-pair-init c = record {
  relay = c.last_relay-relay.ensures;
  known = λ k d lt. absurd (omega (arith, lt));
}

pub loop-pair-preserved : goal.loop-pair-preserved
loop-pair-preserved c = record {
  relay = c.in-Some.ensures.relay;
  known = place_more (λ p. IsLedBy c.args.pairs.now c.args.first p.1) c.run_of-own.result.now c.loop-pair.pair-index _ c.loop-pair-test.true
      c.loop-pair.invariant.known c.in-Some.ensures.led;
}

pub returns-in_default-clause-fails : goal.returns-in_default-clause-fails
returns-in_default-clause-fails c =
    λ _. not_led c.args.pairs.now c.args.first _
    (own_paired c.args.pairs.now c.run_of-own.result.now c.args.first c.loop-pair.pair-index _ c.run_of-own.ensures c.loop-pair-test.true)
    c.in_default.ensures.led

pub returns-clause-leads : goal.returns-clause-leads
returns-clause-leads c =
    λ _. own_led c.args.pairs.now c.run_of-own.result.now c.args.first c.run_of-own.ensures
    (λ k d lt. c.loop-pair.invariant.known k d (omega (arith, lt, c.loop-pair-test.false)))
