use Rattle.std.proofs.Common.{◌≡◌, ◌∷◌, ◌++◌, ◌≤◌, take, length, rules, ap, ◌∙◌}
use Rattle.std.proofs.lemmas.List.{take_all}
use Rattle.std.specs.List.{flat_map}
use Rattle.derivation_trees.specs.declared.skeletons.Skeleton.{out-Skeleton}
use Rattle.derivation_trees.specs.Codes.{skeleton_code}
use Rattle.derivation_trees.proofs.CodeLemmas.{code_whole}
use Rattle.derivation_trees.proofs.skeletons.Skeleton.+push_code.Goals as goal

pub returns : goal.returns
returns t c =
    let sk = c.args.self.now in
    let end : length c.as_slice-child-items.result.now ≤ c.loop-child.child-index = search rules in
    let all : take c.loop-child.child-index c.as_slice-child-items.result.now ≡ c.as_slice-child-items.result.now =
    take_all c.loop-child.child-index c.as_slice-child-items.result.now end in
    code_whole sk c.args.code.now c.loop-child.code
    (c.loop-child.invariant ∙ ap (λ xs. (c.args.code.now ++ (out-Skeleton sk).rule ∷ (out-Skeleton sk).found) ++ flat_map skeleton_code xs)
    (all ∙ c.as_slice-child-items.ensures))
