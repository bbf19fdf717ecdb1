use Rattle.std.proofs.Common.{◌≡◌, ◌+◌, ◌-◌, length, length-append, drop, arith, ap, ◌∙◌}
use Rattle.std.proofs.lemmas.Result.{IfOk-weaker}
use Rattle.scopes.specs.Links.{entries}
use Rattle.scopes.proofs.NewestLemmas.{drop_past}
use Rattle.scopes.proofs.access.+suffix_of.Goals as goal

pub returns-then-first-before : goal.returns-then-first-before
returns-then-first-before t c =
    let pair = c.in-Join.pair.value in
    let counted = rw c.in-Join.is at c.requires.counted in
    let rest = c.args.first - (c.args.len - c.deref-in-Join.result.now.count) in
    let same : c.deref-in-Join.result.now.count ≡ pair.count = ap (λ n. n.count) c.deref-in-Join.ensures in
    let long : length (entries c.args.links.now) ≡ length (entries pair.older) + length (entries pair.newer) =
    ap (λ l. length (entries l)) c.in-Join.is ∙ length-append (entries pair.older) (entries pair.newer) in
    let at : length (entries pair.older) + rest ≡ c.args.first = omega (arith, c.requires.len, long, c.if-first-before.true, same, counted.0) in
    IfOk-weaker c.suffix_of-then-first-before.result _ _ (λ access is. is
    ∙ ap (λ n. drop rest (entries n.newer)) c.deref-then-first-before.ensures
    ∙ drop_past (entries pair.older) (entries pair.newer) (entries c.args.links.now) c.args.first rest (ap entries c.in-Join.is) at)
    c.suffix_of-then-first-before.ensures
