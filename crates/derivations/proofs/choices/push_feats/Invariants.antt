use Rattle.std.proofs.Common.{◌≡◌, ℕ, ◌+◌, ◌*◌, [], ◌∷◌, ◌++◌, take, drop, map}
use Rattle.derivations.proofs.choices.push_feats.Given as goal

abbrev pub invariant-loop-feat : goal.invariant-loop-feat
invariant-loop-feat l =
    l.out ≡ l.initial.out ++ take l.feat-index l.feats
