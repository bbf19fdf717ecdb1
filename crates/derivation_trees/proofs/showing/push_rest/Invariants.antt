use Rattle.std.proofs.Common.{◌≡◌, ◌++◌, drop}
use Rattle.std.specs.String.{string_bytes}
use Rattle.derivation_trees.specs.Cutting.{continued}
use Rattle.derivation_trees.proofs.showing.push_rest.Given as goal

abbrev pub invariant-loop-place : goal.invariant-loop-place
invariant-loop-place l =
    string_bytes l.text ++ continued (drop l.place l.tokens) ≡ string_bytes l.initial.text ++ continued l.tokens
