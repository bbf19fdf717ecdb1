use Rattle.std.proofs.Common.{◌≡◌, ◌<◌, List, length, None, subst, ◌∙◌}
use Rattle.std.specs.Prelude.{filter, slice_get}
use Rattle.derivation_trees.specs.declared.skeletons.Skeleton.{Skeleton, out-Skeleton}
use Rattle.drs_build.specs.Nodes.{is_meant}
use Rattle.drs_build.proofs.OrderLemmas.{child_in_order}
use Rattle.drs_build.proofs.nodes.child_of.Goals as goal

pub child_at-requires : goal.child_at-requires
child_at-requires c =
    let P : List Skeleton → Type 0 = λ ks. c.in-Some.place < length ks in
    subst P c.as_slice.ensures c.in-Some.ensures.0

pub returns-in-Some : goal.returns-in-Some
returns-in-Some c =
    let P : List Skeleton → Type 0 = λ ks. slice_get (filter (λ k. is_meant c.args.grammar.now (out-Skeleton k).rule) ks) c.args.number
    ≡ slice_get ks c.in-Some.place in
    record {
      is = subst P c.as_slice.ensures c.in-Some.ensures.1 ∙ c.child_at.ensures.item;
      smaller = c.child_at.ensures.smaller;
      in_order = λ h. child_in_order c.args.grammar.now c.args.skeleton.now c.in-Some.place c.child_at.result.now h c.child_at.ensures.item;
    }

pub returns-in-None : goal.returns-in-None
returns-in-None c =
    let P : List Skeleton → Type 0 = λ ks. slice_get (filter (λ k. is_meant c.args.grammar.now (out-Skeleton k).rule) ks) c.args.number ≡ None in
    subst P c.as_slice.ensures c.in-None.ensures
