use Rattle.std.proofs.Common.{◌≡◌, ◌≤◌, length, arith, ap, ◌∙◌}
use Rattle.scopes.specs.AccessList.{any_opener, newest_of}
use Rattle.scopes.specs.Links.{entries}
use Rattle.scopes.proofs.ClosingLemmas.{none_newest, newest_plain}
use Rattle.scopes.proofs.NewestLemmas.{newest_within}
use Rattle.scopes.proofs.access.+has_opener.Goals.{then-count-eq0-via-then-count-eq0, then-count-eq0-via-else-count-eq0+then-is_plain}
use Rattle.scopes.proofs.access.+has_opener.Goals as goal

pub returns-then-count-eq0 : goal.returns-then-count-eq0
returns-then-count-eq0 t c =
    let all = entries c.args.links.now in
    elim c.then-count-eq0.branch [
      | then-count-eq0-via-then-count-eq0 w ↦ none_newest all c.args.count w.if-count-eq0.true
      | then-count-eq0-via-else-count-eq0+then-is_plain w ↦ newest_plain all c.args.count w.is_plain.result w.is_plain.ensures w.if-is_plain.true
    ]

pub returns-then-count-deref : goal.returns-then-count-deref
returns-then-count-deref t c =
    let pair = c.in-Join.pair.value in
    let counted = rw c.in-Join.is at c.requires.counted in
    let same : c.deref-in-Join.result.now.count ≡ pair.count = ap (λ n. n.count) c.deref-in-Join.ensures in
    let fits : c.args.count ≤ length (entries pair.newer) = omega (arith, c.if-count-deref.true, same, counted.0) in
    c.has_opener-then-count-deref.ensures
    ∙ ap (λ n. any_opener (newest_of c.args.count (entries n.newer))) c.deref-then-count-deref.ensures
    ∙ ap any_opener (newest_within (entries pair.older) (entries pair.newer) (entries c.args.links.now) c.args.count (ap entries c.in-Join.is) fits)
