use Rattle.std.proofs.Common.{◌+◌, ◌<◌, All, sym, subst, arith}
use Rattle.std.proofs.lemmas.List.Elements.{All-push, All-weaker}
use Rattle.wiki_base.specs.declared.numbers.WordId.{WordId}
use Rattle.bench.proofs.choices.numbered.Goals as goal

pub loop-number-preserved : goal.loop-number-preserved
loop-number-preserved c =
    let i = c.loop-number.number in
    subst (All (λ (n : WordId). n.0 < i + 1)) (sym c.in_ok-push.ensures.ok)
    (All-push (λ (n : WordId). n.0 < i + 1) c.loop-number.names (record { 0 = i })
    (All-weaker (λ (n : WordId). n.0 < i) (λ (n : WordId). n.0 < i + 1) (λ n h. omega arith) c.loop-number.names c.loop-number.invariant) (omega arith))
