use Rattle.std.proofs.Common.{ℕ, ◌==◌, length, take, sym, ap, ◌∙◌, arith, rules, take_all}
use Rattle.std.proofs.lemmas.List.Sums.{position_or_len_is}
use Rattle.http_front.proofs.routes.before_slash.Goals as goal

pub returns-in-Some : goal.returns-in-Some
returns-in-Some c =
    let bytes = c.args.bytes.now in
    let found = position_or_len_is (λ (b : ℕ). b == 47) bytes c.in-Some.end 0 (search rules) (search rules) (search rules) in
    ap (λ n. take n bytes) (sym found)

pub returns-in-None : goal.returns-in-None
returns-in-None c =
    let bytes = c.args.bytes.now in
    let none = position_or_len_is (λ (b : ℕ). b == 47) bytes (length bytes) 0 (omega arith) (search rules) (search rules) in
    sym (ap (λ n. take n bytes) none ∙ take_all (length bytes) bytes (omega arith))
