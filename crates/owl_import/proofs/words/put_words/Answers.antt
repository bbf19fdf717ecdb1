use Rattle.std.proofs.Common.{ℕ, List, ◌++◌, ap, ◌∙◌}
use Rattle.owl_import.proofs.WordLemmas.{lines_more}
use Rattle.owl_import.proofs.words.put_words.Goals as goal

pub loop-place-preserved : goal.loop-place-preserved
loop-place-preserved c =
    c.in_ok-push_str.ensures.ok ∙ ap (λ (l : List ℕ). c.loop-place.out ++ l) c.as_str.ensures.value
    ∙ lines_more c.args.words.now.live c.loop-place.place c.get.result.now c.args.out.now c.loop-place.out c.in_ok-line.line c.get.ensures
    c.loop-place.invariant
    c.in_ok-line.ensures
