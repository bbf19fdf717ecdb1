use Rattle.std.proofs.Common.{◌∙◌, sym, ap, not, arith}
use Rattle.codeco_text.proofs.Fronts.{last_well}
use Rattle.codeco_text.proofs.words.ends_well.Goals as goal

pub returns-in-len1-up : goal.returns-in-len1-up
returns-in-len1-up c = ap not c.is_end_mark.ensures ∙ sym (last_well c.args.bytes.now (omega (arith, c.in-len1-up.len_at_least)))
