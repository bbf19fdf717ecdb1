use Rattle.std.proofs.Common.{◌≡◌, ◌+◌, ◌-◌, ◌<◌, ◌≤◌, length, take, true, rules, sym, ◌∙◌, subst, arith}
use Rattle.derivation_trees.proofs.TruthLemmas.{true_is_false}
use Rattle.derivation_trees.specs.Partial.{IsBeginning}
use Rattle.derivations.proofs.TypingLemmas.{AreBeginnings, count_stops, count_all, one_beginning_more}
use Rattle.wiki_parts.proofs.typing.typeable_count.Goals as goal

pub loop-longer-preserved : goal.loop-longer-preserved
loop-longer-preserved c =
    let g = c.args.grammar.now in
    let l = c.args.lexicon.now in
    let t = c.args.tokens.now in
    let longer = c.loop-longer.longer in
    let yes : c.in_ok-begins.field-0 ≡ true = search rules in
    let begins : IsBeginning g l (take longer t) = search (rules, c.in_ok-begins.ensures.0 yes) in
    (one_beginning_more g l t longer c.loop-longer.invariant.0 begins, omega arith)

pub returns-then-not-branch : goal.returns-then-not-branch
returns-then-not-branch c =
    let g = c.args.grammar.now in
    let l = c.args.lexicon.now in
    let t = c.args.tokens.now in
    let longer = c.loop-longer.longer in
    let no : IsBeginning g l (take longer t) → c.in_ok-begins.field-0 ≡ true = λ h. search (rules, c.in_ok-begins.ensures.1, h) in
    count_stops g l t longer c.loop-longer.count (omega (arith, c.loop-longer-test.true)) c.loop-longer.invariant.1 c.loop-longer.invariant.0
    (λ h. true_is_false (sym (no h) ∙ c.if-not-branch.true))

pub returns : goal.returns
returns c =
    let g = c.args.grammar.now in
    let l = c.args.lexicon.now in
    let t = c.args.tokens.now in
    let all : c.loop-longer.longer ≡ length t + 1 = omega (arith, c.loop-longer-test.false, c.loop-longer.auto.longer-end) in
    count_all g l t c.loop-longer.count (omega (arith, c.loop-longer.invariant.1, all)) (subst (AreBeginnings g l t) all c.loop-longer.invariant.0)
