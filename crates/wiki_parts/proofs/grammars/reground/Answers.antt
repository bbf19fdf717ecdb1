use Rattle.std.proofs.lemmas.Bool.{false≢true}
use Rattle.lexicon.specs.declared.words.LexFault.TheVariants.{Taken, NoWord, Full}
use Rattle.wiki_parts.proofs.GrammarLemmas.{form_alone}
use Rattle.wiki_parts.proofs.grammars.reground.Goals as goal

pub unreachable-requires : goal.unreachable-requires
unreachable-requires c = false≢true (form_alone c.args.lexicon.now.live c.grammar.result.now.terminals
    (Taken c.in-Err-Taken.field-0-0 c.in-Err-Taken.field-0-1) (rw c.in-Err-Taken.field-0-is at c.in-Err-Taken.ensures.refused))

pub unreachable-requires-in-Err-NoWord : goal.unreachable-requires-in-Err-NoWord
unreachable-requires-in-Err-NoWord c = false≢true (form_alone c.args.lexicon.now.live c.grammar.result.now.terminals
    (NoWord c.in-Err-NoWord.field-0-0) (rw c.in-Err-NoWord.field-0-is at c.in-Err-NoWord.ensures.refused))

pub unreachable-requires-in-Err-Full : goal.unreachable-requires-in-Err-Full
unreachable-requires-in-Err-Full c = false≢true (form_alone c.args.lexicon.now.live c.grammar.result.now.terminals
    (Full c.in-Err-Full.field-0-0) (rw c.in-Err-Full.field-0-is at c.in-Err-Full.ensures.refused))
