use Rattle.std.proofs.Common.{◌≤◌, min, length, ap, arith}
use Rattle.wiki_parts.proofs.KnownLemmas.{known_of-past}
use Rattle.wiki_store.proofs.joining.count_of.Goals as goal

pub returns : goal.returns
returns c =
    let past : min (length c.args.sentences.now) (length c.args.senses.now) ≤ c.loop-place.place =
    omega (arith, c.loop-place-test.false, c.min-place-end.ensures) in
    let none = ap length (known_of-past c.args.sentences.now c.args.senses.now c.loop-place.place past) in
    omega (arith, none, c.loop-place.invariant)
