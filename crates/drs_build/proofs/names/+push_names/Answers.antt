use Rattle.std.proofs.Common.{◌++◌, ◌≤◌, length, ap, ◌∙◌, arith}
use Rattle.std.proofs.lemmas.List.{take_all}
use Rattle.std.specs.List.{flat_map}
use Rattle.derivation_trees.specs.declared.skeletons.Skeleton.{out-Skeleton}
use Rattle.drs_build.specs.Nodes.{names_of, own_name, ends_of}
use Rattle.drs_build.proofs.NodeLemmas.{names_whole, names_more}
use Rattle.drs_build.proofs.OrderLemmas.{child_in_order}
use Rattle.drs_build.proofs.names.+push_names.Goals as goal

pub push_names-requires : goal.push_names-requires
push_names-requires t c = (
  omega (arith, c.child_at.ensures.smaller),
  child_in_order c.args.grammar.now c.args.skeleton.now c.loop-place.place c.child_at.result.now c.requires c.child_at.ensures.item,
)

pub loop-place-preserved : goal.loop-place-preserved
loop-place-preserved t c =
    let sk = c.args.skeleton.now in
    names_more c.args.grammar.now (out-Skeleton sk).children c.loop-place.place c.child_at.result.now
    (c.args.names.now ++ own_name c.args.grammar.now (out-Skeleton sk).rule (out-Skeleton sk).start (out-Skeleton sk).words
    (ends_of (out-Skeleton sk).children)) c.loop-place.names c.push_names.new.names c.child_at.ensures.item c.loop-place.invariant
    c.in_ok-push_names.ensures

pub returns : goal.returns
returns t c =
    let sk = c.args.skeleton.now in
    let end : length (out-Skeleton sk).children ≤ c.loop-place.place = omega (arith, c.len-place-end.ensures) in
    names_whole c.args.grammar.now sk c.args.names.now c.loop-place.names
    (c.loop-place.invariant ∙ ap (λ xs.
    (c.args.names.now ++ own_name c.args.grammar.now (out-Skeleton sk).rule (out-Skeleton sk).start (out-Skeleton sk).words
    (ends_of (out-Skeleton sk).children)) ++ flat_map (names_of c.args.grammar.now) xs) (take_all c.loop-place.place (out-Skeleton sk).children end))
