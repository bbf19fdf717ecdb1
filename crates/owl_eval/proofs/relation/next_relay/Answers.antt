use Rattle.std.proofs.Common.{inl, inr, sym, ◌∙◌}
use Rattle.owl_eval.proofs.Leading.{run_begins, ends_rise, told, relay_of, relayed_left, relayed_first}
use Rattle.owl_eval.proofs.relation.next_relay.Goals as goal

pub returns-then-is_first-clause-led : goal.returns-then-is_first-clause-led
returns-then-is_first-clause-led c =
    inr (relayed_first c.args.pairs.now c.args.known.1.now c.from_place-left.result.now c.args.first c.args.known.0 c.args.other _ c.requires.known
    c.from_place-left.ensures (c.is_first.ensures.some c.if-is_first.true) (c.is_first.ensures.same c.if-is_first.true))

pub returns-then-is_first-clause-relay : goal.returns-then-is_first-clause-relay
returns-then-is_first-clause-relay c =
    relayed_left c.args.pairs.now c.args.known.1.now c.from_place-left.result.now c.args.first c.args.known.0 _ c.requires.known
    c.from_place-left.ensures

pub reaches_ends-requires-clause-own : goal.reaches_ends-requires-clause-own
reaches_ends-requires-clause-own c = run_begins c.args.pairs.now c.args.own.now c.args.first c.requires.own

pub reaches_ends-requires-clause-rising : goal.reaches_ends-requires-clause-rising
reaches_ends-requires-clause-rising c = ends_rise c.args.pairs.now c.args.own.now c.args.first c.requires.sorted c.requires.own

pub reaches_ends-requires-clause-others : goal.reaches_ends-requires-clause-others
reaches_ends-requires-clause-others c = ends_rise c.args.pairs.now c.run_of-next.result.now c.args.other c.requires.sorted c.run_of-next.ensures

pub returns-then-not-reaches_ends-clause-led : goal.returns-then-not-reaches_ends-clause-led
returns-then-not-reaches_ends-clause-led c =
    told c.args.pairs.now c.args.own.now c.run_of-next.result.now c.args.first c.args.other c.reaches_ends.result c.requires.own c.run_of-next.ensures
    c.reaches_ends.ensures ∙ c.if-not-reaches_ends.true

pub returns-then-comes_before-clause-led : goal.returns-then-comes_before-clause-led
returns-then-comes_before-clause-led c =
    inl (told c.args.pairs.now c.args.own.now c.run_of-next.result.now c.args.first c.args.other c.reaches_ends.result c.requires.own
    c.run_of-next.ensures c.reaches_ends.ensures ∙ c.if-not-reaches_ends.false)

pub returns-then-comes_before-clause-relay : goal.returns-then-comes_before-clause-relay
returns-then-comes_before-clause-relay c =
    relay_of c.args.pairs.now c.args.own.now c.run_of-next.result.now c.args.first c.args.other c.requires.own c.run_of-next.ensures
    (told c.args.pairs.now c.args.own.now c.run_of-next.result.now c.args.first c.args.other c.reaches_ends.result c.requires.own
    c.run_of-next.ensures c.reaches_ends.ensures ∙ c.if-not-reaches_ends.false)
    (sym c.comes_before.ensures ∙ c.if-comes_before.true)

pub returns-clause-led : goal.returns-clause-led
returns-clause-led c =
    inl (told c.args.pairs.now c.args.own.now c.run_of-next.result.now c.args.first c.args.other c.reaches_ends.result c.requires.own
    c.run_of-next.ensures c.reaches_ends.ensures ∙ c.if-not-reaches_ends.false)

pub returns-clause-relay : goal.returns-clause-relay
returns-clause-relay c =
    relayed_left c.args.pairs.now c.args.known.1.now c.from_place-left.result.now c.args.first c.args.known.0 _ c.requires.known
    c.from_place-left.ensures
