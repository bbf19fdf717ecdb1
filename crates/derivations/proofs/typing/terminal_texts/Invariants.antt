use Rattle.std.proofs.Common.{take, All}
use Rattle.wiki_base.specs.Token.{IsToken}
use Rattle.derivations.specs.Entries.{texts_of, AreTexts}
use Rattle.derivations.proofs.typing.terminal_texts.Given as goal

abbrev pub invariant-loop-terminal : goal.invariant-loop-terminal
invariant-loop-terminal l =
    All IsToken (texts_of l.texts.items) × AreTexts (texts_of l.texts.items) (take l.terminal-index l.fn.grammar.terminals)
