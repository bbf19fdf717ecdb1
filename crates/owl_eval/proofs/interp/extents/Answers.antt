use Rattle.std.specs.Ordering.{nat_cmp}
use Rattle.owl_eval.proofs.Arranged.{arranged_more}
use Rattle.owl_eval.proofs.interp.extents.Goals as goal

pub loop-word-preserved : goal.loop-word-preserved
loop-word-preserved c =
    rw c.in_ok-push.ensures.items
    (arranged_more nat_cmp c.loop-word.yielded (c.in-Some.word, c.in-Some.elements) c.loop-word.made.items c.new.result c.loop-word.invariant c.new.ensures.word
    c.new.ensures.same c.new.ensures.sorted)
