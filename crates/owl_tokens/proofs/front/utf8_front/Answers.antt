use Rattle.std.proofs.Common.{take, sym, ap, ◌∙◌}
use Rattle.std.proofs.lemmas.Str.{utf8_valid_len-IsUtf8}
use Rattle.std.proofs.Math.Seq.{take-length}
use Rattle.owl_tokens.proofs.front.utf8_front.Goals as goal

pub returns-in-Ok : goal.returns-in-Ok
returns-in-Ok c =
    let text = c.args.text.now in sym (ap (λ n. take n text) (utf8_valid_len-IsUtf8 text c.in-Ok.ensures.cases.1) ∙ take-length text)
