use Rattle.std.proofs.Common.{sym, ◌∙◌}
use Rattle.owl_words.proofs.AttemptLemmas.{attempted_complete}
use Rattle.owl_words.proofs.naming.try_add.Goals as goal

pub add-requires : goal.add-requires
add-requires c = attempted_complete c.args.kind c.args.base.now c.args.attempt c.in-Some.forms (sym c.in_ok-forms.ensures ∙ c.in-Some.is)
