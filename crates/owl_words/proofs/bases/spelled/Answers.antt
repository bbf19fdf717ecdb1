use Rattle.std.proofs.Common.{ℕ, List, ◌++◌, ap, sym, ◌∙◌}
use Rattle.std.specs.Prelude.{encode_utf8}
use Rattle.owl_words.proofs.BaseLemmas.{encodes_more}
use Rattle.owl_words.proofs.bases.spelled.Goals as goal

pub loop-c-preserved : goal.loop-c-preserved
loop-c-preserved c =
    c.in_ok-push.ensures.bytes ∙ ap (λ (bs : List ℕ). bs ++ encode_utf8 c.c-item.result) c.loop-c.invariant
    ∙ sym (encodes_more c.args.cs.now c.loop-c.c-index c.c-item.result c.loop-c-test.true c.c-item.is)
