use Rattle.std.proofs.Common.{ℕ, ◌+◌, List, ◌++◌, ap, drop, ◌∙◌}
use Rattle.std.specs.Prelude.{map}
use Rattle.lexicon.specs.declared.words.TheConstants.{MOST_WORDS}
use Rattle.owl_import.specs.Words.{enclosed}
use Rattle.owl_import.proofs.WordLemmas.{iris_more}
use Rattle.owl_import.proofs.calling.wordless.Goals as goal

pub loop-place-preserved : goal.loop-place-preserved
loop-place-preserved c =
    let es = c.args.entities.now in
    let k = c.loop-place.place in
    ap (λ (iris : List (List ℕ)). iris ++ map enclosed (drop (k + 1) es)) c.in_ok-push.ensures.ok
    ∙ iris_more es k c.get.result.now c.loop-place.iris c.in_ok-enclosed.field-0 (map enclosed (drop MOST_WORDS es)) c.get.ensures c.in_ok-enclosed.ensures
    c.loop-place.invariant
