use Rattle.std.proofs.Common.{◌≡◌, ℕ, ◌+◌, List, ◌∷◌, ◌++◌, drop, sym, ap, ◌∙◌}
use Rattle.std.specs.Prelude.{map}
use Rattle.owl_words.specs.Bases.{respelled}
use Rattle.owl_words.proofs.BaseLemmas.{tidied_left, hyphen_step, map_drop}
use Rattle.owl_words.proofs.bases.tidied.Goals as goal

pub loop-c-preserved-then-c-eq45 : goal.loop-c-preserved-then-c-eq45
loop-c-preserved-then-c-eq45 c =
    let cs = c.args.cs.now in
    let k = c.loop-c.c-index in
    let is : respelled c.c-item.result ≡ 45 = sym c.respelled-c.ensures ∙ c.if-c-eq45.true in
    let rest = map respelled (drop (k + 1) cs) in
    c.loop-c.invariant
    ∙ ap (λ (left : List ℕ). c.loop-c.made.items ++ left)
    (ap (tidied_left c.loop-c.begun c.loop-c.due)
    (map_drop respelled cs k c.c-item.result c.loop-c-test.true c.c-item.is ∙ ap (λ (d : ℕ). d ∷ rest) is)
    ∙ hyphen_step c.loop-c.begun c.loop-c.due rest)
