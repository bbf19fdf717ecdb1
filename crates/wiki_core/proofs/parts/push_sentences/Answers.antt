use Rattle.std.proofs.Common.{◌≡◌, ◌≤◌, min, ◌++◌, length, append-nil, sym, ap, ◌∙◌, arith}
use Rattle.wiki_core.specs.Counting.{plain_parts}
use Rattle.wiki_core.proofs.PartLemmas.{parts_from-past}
use Rattle.wiki_core.proofs.parts.push_sentences.Goals as goal

pub returns : goal.returns
returns c =
    let past : min (length c.args.sentences.now) (length c.args.senses.now) ≤ c.loop-at.at = omega (arith, c.loop-at-test.false, c.min-count.ensures) in
    sym (append-nil (plain_parts c.loop-at.parts))
    ∙ ap (λ ps. plain_parts c.loop-at.parts ++ ps)
    (sym (parts_from-past c.args.taken c.args.word c.loop-at.at c.args.sentences.now c.args.senses.now c.loop-at.at past))
    ∙ c.loop-at.invariant
