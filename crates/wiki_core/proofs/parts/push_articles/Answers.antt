use Rattle.std.proofs.Common.{◌≡◌, ◌≤◌, min, ◌++◌, length, append-nil, sym, ap, ◌∙◌, arith}
use Rattle.wiki_core.specs.Counting.{plain_parts}
use Rattle.wiki_core.proofs.PartLemmas.{parts_in-past}
use Rattle.wiki_core.proofs.parts.push_articles.Goals as goal

pub returns : goal.returns
returns c =
    let past : min (length c.args.articles.now) (length c.args.senses.now) ≤ c.loop-place.place = omega (arith, c.loop-place-test.false, c.min-count.ensures) in
    sym (append-nil (plain_parts c.loop-place.parts))
    ∙ ap (λ ps. plain_parts c.loop-place.parts ++ ps) (sym (parts_in-past c.args.taken c.args.articles.now c.args.senses.now c.loop-place.place past))
    ∙ c.loop-place.invariant
