use Rattle.std.proofs.Common.{sym, subst}
use Rattle.wiki_base.specs.Text.{IsText}
use Rattle.derivations.proofs.TokenLemmas.{text_token}
use Rattle.verbalise.proofs.phrases.form_token.Goals as goal

pub the-requires : goal.the-requires
the-requires c = text_token c.as_str.result.now c.as_str.utf8 (subst IsText (sym c.as_str.ensures.value) c.as_str.ensures.text)
