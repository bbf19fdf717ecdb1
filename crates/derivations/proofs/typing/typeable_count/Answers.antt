use Rattle.std.proofs.Common.{◌≡◌, ◌+◌, ◌-◌, ◌<◌, ◌≤◌, length, take, true, rules, sym, ◌∙◌, ap, subst, arith}
use Rattle.derivation_trees.proofs.TruthLemmas.{true_is_false}
use Rattle.derivation_trees.specs.Partial.{IsBeginning}
use Rattle.derivations.proofs.TypingLemmas.{AreBeginnings, count_stops, count_all, one_beginning_more}
use Rattle.derivations.proofs.typing.typeable_count.Goals as goal

pub loop-longer-preserved : goal.loop-longer-preserved
loop-longer-preserved c =
    let g = c.args.grammar.now in
    let l = c.args.lexicon.now in
    let t = c.args.tokens.now in
    let longer = c.loop-longer.longer in
    let yes : c.in_ok-is_beginning.field-0 ≡ true = search rules in (
      one_beginning_more g l t longer c.loop-longer.invariant.0
          (subst (λ ts. IsBeginning g l (take longer ts)) c.as_slice-tokens.ensures (c.in_ok-is_beginning.ensures.partial.0 yes)),
      omega arith,
    )

pub returns-then-not-branch : goal.returns-then-not-branch
returns-then-not-branch c =
    let g = c.args.grammar.now in
    let l = c.args.lexicon.now in
    let t = c.args.tokens.now in
    let longer = c.loop-longer.longer in
    let long : length c.as_slice-tokens.result.now ≡ length t = ap length c.as_slice-tokens.ensures in
    count_stops g l t longer c.loop-longer.count (omega (arith, c.loop-longer-test.true, long)) c.loop-longer.invariant.1 c.loop-longer.invariant.0
    (λ h. true_is_false (sym (c.in_ok-is_beginning.ensures.partial.1 (subst (λ ts. IsBeginning g l (take longer ts)) (sym c.as_slice-tokens.ensures) h))
    ∙ c.if-not-branch.true))

pub returns : goal.returns
returns c =
    let g = c.args.grammar.now in
    let l = c.args.lexicon.now in
    let t = c.args.tokens.now in
    let long : length c.as_slice-tokens.result.now ≡ length t = ap length c.as_slice-tokens.ensures in
    let all : c.loop-longer.longer ≡ length t + 1 = omega (arith, c.loop-longer-test.false, c.loop-longer.auto.longer-end, long) in
    count_all g l t c.loop-longer.count (omega (arith, c.loop-longer.invariant.1, all)) (subst (AreBeginnings g l t) all c.loop-longer.invariant.0)
