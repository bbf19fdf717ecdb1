use Rattle.std.proofs.Common.{◌≡◌, ℕ, List, [], ◌∷◌, ◌++◌, get_or, take, ap, sym, ◌∙◌}
use Rattle.std.specs.Prelude.{map}
use Rattle.owl_words.specs.Bases.{respelled}
use Rattle.owl_words.proofs.BaseLemmas.{map_more_at}
use Rattle.owl_words.proofs.attempts.letters.Goals as goal

pub loop-digit-preserved : goal.loop-digit-preserved
loop-digit-preserved c =
    let digits = c.args.digits.now in
    let k = c.loop-digit.digit-index in
    let is : c.respelled.result ≡ respelled (get_or digits k 0) = c.respelled.ensures ∙ ap respelled c.from.ensures in
    c.in_ok-push.ensures.items ∙ ap (λ (cs : List ℕ). cs ++ c.respelled.result ∷ []) c.loop-digit.invariant
    ∙ ap (λ (letter : ℕ). map respelled (take k digits) ++ letter ∷ []) is ∙ sym (map_more_at respelled digits k 0 c.loop-digit-test.true)
