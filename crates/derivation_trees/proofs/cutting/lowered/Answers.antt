use Rattle.std.proofs.Common.{arith, length, get_or, ap, ◌<◌}
use Rattle.derivation_trees.proofs.PieceLemmas.{boundary_one}
use Rattle.derivation_trees.proofs.cutting.lowered.Goals as goal

pub split_at-requires : goal.split_at-requires
split_at-requires c =
    let upper = c.if-not-is_ascii_uppercase.ensures.cases in
    let some : 0 < length c.as_str-text.result.now = omega (arith, c.as_str-text.ensures.token.0, ap length c.as_str-text.ensures.value) in
    let low : get_or c.as_str-text.result.now 0 0 < 128 = omega (arith, upper.1, ap (λ bs. get_or bs 0 0) c.as_bytes.ensures.value) in
    boundary_one c.as_str-text.result.now c.as_str-text.utf8 some low
