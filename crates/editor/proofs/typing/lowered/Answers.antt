use Rattle.std.proofs.Common.{◌≡◌, ℕ, ◌<◌, ◌==◌, false, arith, length, get_or, ap, sym, ◌∙◌}
use Rattle.std.proofs.lemmas.Bool.Decides.{nat_tests}
use Rattle.derivation_trees.proofs.PieceLemmas.{boundary_one}
use Rattle.editor.proofs.typing.lowered.Goals as goal

positive_from : (n : ℕ) → false ≡ (n == 0) → 0 < n
positive_from n h = grind (arith, nat_tests)

pub split_at-requires : goal.split_at-requires
split_at-requires c =
    let upper = c.if-not-is_ascii_uppercase.ensures.cases in
    let there : 0 < length c.as_bytes-bytes.result.now = positive_from _ (sym c.if-is_empty.false ∙ c.is_empty.ensures) in
    let some : 0 < length c.args.text.now = omega (arith, there, ap length c.as_bytes-bytes.ensures.value) in
    let low : get_or c.args.text.now 0 0 < 128 = omega (arith, upper.1, ap (λ bs. get_or bs 0 0) c.as_bytes-bytes.ensures.value) in
    boundary_one c.args.text.now c.utf8.text some low
