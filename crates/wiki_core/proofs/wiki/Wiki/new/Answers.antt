use Rattle.wiki_core.proofs.ApartLemmas.{tokens_own}
use Rattle.wiki_core.proofs.StandsLemmas.{stands_again}
use Rattle.wiki_core.proofs.LineLemmas.{changes_fit}
use Rattle.wiki_core.proofs.wiki.Wiki.new.Goals as goal

pub returns-in_err-store-clause-apart : goal.returns-in_err-store-clause-apart
returns-in_err-store-clause-apart c = tokens_own c.args.grammar

pub returns-in_err-store-clause-stands : goal.returns-in_err-store-clause-stands
returns-in_err-store-clause-stands c = stands_again c.args.grammar c.grammar.ensures.sound

pub returns-in_err-store-clause-lines : goal.returns-in_err-store-clause-lines
returns-in_err-store-clause-lines c = changes_fit c.args.grammar c.grammar.ensures.sound

pub returns-clause-apart : goal.returns-clause-apart
returns-clause-apart c = tokens_own c.args.grammar

pub returns-clause-stands : goal.returns-clause-stands
returns-clause-stands c = stands_again c.args.grammar c.grammar.ensures.sound

pub returns-clause-lines : goal.returns-clause-lines
returns-clause-lines c = changes_fit c.args.grammar c.grammar.ensures.sound
