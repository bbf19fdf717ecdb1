use Rattle.std.proofs.Common.{arith, length, get_or, ap, ◌<◌}
use Rattle.derivation_trees.proofs.PieceLemmas.{boundary_one}
use Rattle.derivation_trees.proofs.showing.push_raised.Goals as goal

pub split_at-requires : goal.split_at-requires
split_at-requires c =
    let lower = c.if-starts_with_lower.ensures in
    let some : 0 < length c.args.token.now = omega (arith, lower.0, ap length c.as_bytes.ensures.value) in
    let low : get_or c.args.token.now 0 0 < 128 = omega (arith, lower.2, ap (λ bs. get_or bs 0 0) c.as_bytes.ensures.value) in
    boundary_one c.args.token.now c.utf8.token some low
