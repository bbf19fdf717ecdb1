use Rattle.std.proofs.Common.{◌≤◌, length, sym, arith}
use Rattle.std.proofs.lemmas.Bool.Decides.{nat_tests}
use Rattle.std.proofs.lemmas.List.{length-take-le}
use Rattle.http_front.proofs.front.head_part.Goals as goal

pub slice_bounds-result-end : goal.slice_bounds-result-end
slice_bounds-result-end c =
    let long : 16384 ≤ length c.args.bytes.now = grind (arith, nat_tests, c.if-bytes-gt-MOST_HEAD.true) in
    sym (length-take-le 16384 c.args.bytes.now long)
