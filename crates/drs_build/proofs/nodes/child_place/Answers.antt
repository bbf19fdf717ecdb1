use Rattle.std.proofs.Common.{drop, sym, ap, ◌∙◌}
use Rattle.std.specs.Prelude.{filter, slice_get}
use Rattle.derivation_trees.specs.declared.skeletons.Skeleton.{Skeleton, out-Skeleton}
use Rattle.drs_build.specs.Nodes.{is_meant}
use Rattle.drs_build.proofs.NodeLemmas.{here_meant}
use Rattle.drs_build.proofs.nodes.child_place.Goals as goal

pub returns-then-left-eq0 : goal.returns-then-left-eq0
returns-then-left-eq0 c = (
  c.loop-place-test.true,
  sym c.loop-place.invariant
      ∙ ap (slice_get (filter (λ (k : Skeleton). is_meant c.args.grammar.now (out-Skeleton k).rule) (drop c.loop-place.place c.args.children.now)))
      c.if-left-eq0.true
      ∙ here_meant (λ k. is_meant c.args.grammar.now (out-Skeleton k).rule) c.args.children.now c.loop-place.place c.index-children-place.result
      c.loop-place-test.true c.index-children-place.is (sym c.is_meant.ensures ∙ c.if-is_meant.true),
)
