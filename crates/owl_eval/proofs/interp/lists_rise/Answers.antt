use Rattle.std.proofs.Common.{sym, ◌∙◌}
use Rattle.owl_eval.proofs.Arranged.{words_rise-lists_in}
use Rattle.owl_eval.proofs.interp.lists_rise.Goals as goal

pub returns : goal.returns
returns g c = c.words_rise.ensures ∙ sym (words_rise-lists_in c.args.entries.now)
