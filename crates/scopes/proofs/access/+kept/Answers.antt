use Rattle.std.proofs.Common.{◌≡◌, ◌≤◌, ◌-◌, ◌||◌, ◌++◌, [], ◌∷◌, length, arith, refl, ap, ◌∙◌}
use Rattle.std.proofs.lemmas.Result.{IfOk-weaker}
use Rattle.scopes.specs.AccessList.{any_opener, left_of, newest_of}
use Rattle.scopes.specs.Links.{entries}
use Rattle.scopes.proofs.ClosingLemmas.{kept_more}
use Rattle.scopes.proofs.NewestLemmas.{newest_within, newest_all}
use Rattle.scopes.proofs.access.+kept.Goals as goal

pub returns-in_ok-older-in-Cons-clause-list : goal.returns-in_ok-older-in-Cons-clause-list
returns-in_ok-older-in-Cons-clause-list t c =
    let node = c.in-Cons.node.value in
    let older = c.in_ok-older-in-Cons.older in
    let opened = c.in_ok-older-in-Cons.opened in
    let fits : 1 ≤ c.args.count = omega (arith, c.if-count-gt0.true) in
    IfOk-weaker c.kept_with.result _ _ (λ r e.
    e ∙ ap (λ n. older ++ left_of opened (n.entry ∷ [])) c.deref-in-Cons.ensures
    ∙ kept_more c.args.begun (entries node.older) (node.entry ∷ []) (entries c.args.links.now) older c.args.opened opened c.args.count (c.args.count - 1)
    (ap entries c.in-Cons.is) fits refl
    (c.in_ok-older-in-Cons.ensures.list ∙ ap (λ n. c.args.begun ++ left_of c.args.opened (newest_of (c.args.count - 1) (entries n.older))) c.deref.ensures)
    (c.in_ok-older-in-Cons.ensures.opened ∙ ap (λ n. c.args.opened || any_opener (newest_of (c.args.count - 1) (entries n.older))) c.deref.ensures))
    c.kept_with.ensures.list

pub returns-then-count-deref-clause-list : goal.returns-then-count-deref-clause-list
returns-then-count-deref-clause-list t c =
    let pair = c.in-Join.pair.value in
    let counted = rw c.in-Join.is at c.requires.counted in
    let same : c.deref-in-Join.result.now.count ≡ pair.count = ap (λ n. n.count) c.deref-in-Join.ensures in
    let fits : c.args.count ≤ length (entries pair.newer) = omega (arith, c.if-count-deref.true, same, counted.0) in
    IfOk-weaker c.kept-then-count-deref.result _ _ (λ r e.
    e ∙ ap (λ n. c.args.begun ++ left_of c.args.opened (newest_of c.args.count (entries n.newer))) c.deref-then-count-deref.ensures
    ∙ ap (λ ys. c.args.begun ++ left_of c.args.opened ys)
    (newest_within (entries pair.older) (entries pair.newer) (entries c.args.links.now) c.args.count (ap entries c.in-Join.is) fits))
    c.kept-then-count-deref.ensures.list

pub returns-then-count-deref-clause-opened : goal.returns-then-count-deref-clause-opened
returns-then-count-deref-clause-opened t c =
    let pair = c.in-Join.pair.value in
    let counted = rw c.in-Join.is at c.requires.counted in
    let same : c.deref-in-Join.result.now.count ≡ pair.count = ap (λ n. n.count) c.deref-in-Join.ensures in
    let fits : c.args.count ≤ length (entries pair.newer) = omega (arith, c.if-count-deref.true, same, counted.0) in
    IfOk-weaker c.kept-then-count-deref.result _ _ (λ r e.
    e ∙ ap (λ n. c.args.opened || any_opener (newest_of c.args.count (entries n.newer))) c.deref-then-count-deref.ensures
    ∙ ap (λ ys. c.args.opened || any_opener ys)
    (newest_within (entries pair.older) (entries pair.newer) (entries c.args.links.now) c.args.count (ap entries c.in-Join.is) fits))
    c.kept-then-count-deref.ensures.opened

pub returns-in_ok-older-in-Join-clause-list : goal.returns-in_ok-older-in-Join-clause-list
returns-in_ok-older-in-Join-clause-list t c =
    let pair = c.in-Join.pair.value in
    let counted = rw c.in-Join.is at c.requires.counted in
    let older = c.in_ok-older-in-Join.older in
    let opened = c.in_ok-older-in-Join.opened in
    let rest = c.args.count - c.deref-in-Join-3.result.now.count in
    let test : c.deref-in-Join.result.now.count ≡ pair.count = ap (λ n. n.count) c.deref-in-Join.ensures in
    let taken : c.deref-in-Join-3.result.now.count ≡ pair.count = ap (λ n. n.count) c.deref-in-Join-3.ensures in
    let all : c.deref-in-Join-5.result.now.count ≡ length (entries pair.newer) = ap (λ n. n.count) c.deref-in-Join-5.ensures ∙ counted.0 in
    let fits : length (entries pair.newer) ≤ c.args.count = omega (arith, c.if-count-deref.false, test, counted.0) in
    let at : rest ≡ c.args.count - length (entries pair.newer) = omega (arith, taken, counted.0) in
    IfOk-weaker c.kept-in-Join-2.result _ _ (λ r e.
    e ∙ ap (λ n. older ++ left_of opened (newest_of c.deref-in-Join-5.result.now.count (entries n.newer))) c.deref-in-Join-4.ensures
    ∙ ap (λ ys. older ++ left_of opened ys) (newest_all (entries pair.newer) c.deref-in-Join-5.result.now.count all)
    ∙ kept_more c.args.begun (entries pair.older) (entries pair.newer) (entries c.args.links.now) older c.args.opened opened c.args.count rest
    (ap entries c.in-Join.is) fits at
    (c.in_ok-older-in-Join.ensures.list ∙ ap (λ n. c.args.begun ++ left_of c.args.opened (newest_of rest (entries n.older))) c.deref-in-Join-2.ensures)
    (c.in_ok-older-in-Join.ensures.opened ∙ ap (λ n. c.args.opened || any_opener (newest_of rest (entries n.older))) c.deref-in-Join-2.ensures))
    c.kept-in-Join-2.ensures.list
