use Rattle.std.proofs.Common.{arith}
use Rattle.derivation_trees.specs.Trees.{node_of, nodes_of}
use Rattle.derivation_trees.specs.declared.trees.Tree.{out-Tree}
use Rattle.derivation_trees.specs.Stands.{values_in, found_in}
use Rattle.derivation_trees.proofs.StandLemmas.{node_of_is}
use Rattle.chart_trees.proofs.OrderLemmas.{code_whole, codes_next, codes_done}
use Rattle.chart_trees.proofs.codes.+coding.Goals as goal

pub push_code-returns : goal.push_code-returns
push_code-returns t c =
    let tree = c.args.tree.now in
    code_whole (node_of tree) (out-Tree tree).rule (values_in tree) (found_in tree) c.as_slice.result.now (nodes_of (out-Tree tree).children) c.args.code.now
    c.push.new.self c.push_found.new.code c.push_codes.new.code (node_of_is tree) c.as_slice.ensures c.in_ok-push.ensures.ok c.in_ok-push_found.ensures
    c.in_ok-push_codes.ensures

pub push_codes-loop-place-preserved : goal.push_codes-loop-place-preserved
push_codes-loop-place-preserved t c =
    codes_next (nodes_of c.args.trees.now) c.loop-place.place (node_of c.get.result.now) c.args.code.now c.loop-place.code c.push_code.new.code
    c.get.ensures.item c.loop-place.invariant c.in_ok-push_code.ensures

pub push_codes-returns : goal.push_codes-returns
push_codes-returns t c =
    codes_done (nodes_of c.args.trees.now) c.loop-place.place c.args.code.now c.loop-place.code
    (omega (arith, c.len-place-end.ensures, c.loop-place-test.false)) c.loop-place.invariant
