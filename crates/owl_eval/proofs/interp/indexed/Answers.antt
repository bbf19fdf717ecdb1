use Rattle.owl_eval.specs.Pairs.{pair_cmp}
use Rattle.owl_eval.proofs.Arranged.{arranged_more}
use Rattle.owl_eval.proofs.interp.indexed.Goals as goal

pub loop-word-preserved : goal.loop-word-preserved
loop-word-preserved c =
    rw c.in_ok-push.ensures.items
    (arranged_more pair_cmp c.loop-word.yielded (c.in-Some.word, c.in-Some.pairs) c.loop-word.made.items c.in_ok-new.field-0 c.loop-word.invariant
    c.in_ok-new.ensures.word c.in_ok-new.ensures.same c.in_ok-new.ensures.sorted)
