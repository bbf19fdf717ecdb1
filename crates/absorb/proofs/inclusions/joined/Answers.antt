use Rattle.std.proofs.Common.{◌≡◌, ◌<◌, length, sym, ◌∙◌, arith}
use Rattle.logic_terms.specs.Shown.{concepts_of}
use Rattle.logic_terms.proofs.ShownLemmas.{concept_of-And}
use Rattle.absorb.proofs.PlaceLemmas.{together_wide}
use Rattle.absorb.proofs.inclusions.joined.Goals as goal

pub returns-then-len-gt1 : goal.returns-then-len-gt1
returns-then-len-gt1 c =
    let wide : 1 < length (concepts_of c.args.classes) = omega (arith, c.len.ensures, c.if-len-gt1.true) in
    concept_of-And c.args.classes ∙ sym (together_wide (concepts_of c.args.classes) wide)
