use Rattle.std.proofs.Common.{◌≡◌, ◌≤◌, min, ◌++◌, length, append-nil, sym, ap, ◌∙◌, arith}
use Rattle.logic_terms.specs.Shown.{claims_of}
use Rattle.wiki_parts.proofs.KnownLemmas.{known_of-past}
use Rattle.wiki_parts.proofs.knowing.push_sentences.Goals as goal

pub returns : goal.returns
returns c =
    let past : min (length c.args.sentences.now) (length c.args.senses.now) ≤ c.loop-place.place =
    omega (arith, c.loop-place-test.false, c.min-count.ensures) in
    sym (append-nil (claims_of c.loop-place.known))
    ∙ ap (λ cs. claims_of c.loop-place.known ++ cs) (sym (known_of-past c.args.sentences.now c.args.senses.now c.loop-place.place past))
    ∙ c.loop-place.invariant
