use Rattle.std.proofs.Common.{Option, drop}
use Rattle.std.specs.Option.{option_copied}
use Rattle.codeco_terms.specs.GrammarParts.{GrammarParts}
use Rattle.lexicon.specs.Words.{Listed}
use Rattle.wiki_parts.specs.Kept.{MeanEach, meanings_in}
use Rattle.plain_wiki.specs.Places.{Placed, placed_from, placed_in}
use Rattle.plain_wiki.specs.Causes.{KeepsMeaning}
use Rattle.wiki_store.specs.Rewording.{PassesOthers, Finds}
use Rattle.wiki_store.proofs.rewording.broken_in.Given as goal

-- the first one that is broken is the first of those that are left
abbrev pub invariant-loop-at : goal.invariant-loop-at
invariant-loop-at l = (g : GrammarParts) (words : Listed) → MeanEach g words l.article.sentences (meanings_in l.senses)
    → PassesOthers g words l.grammar l.lexicon (option_copied l.forms) → (found : Option Placed)
    → Finds (λ placed. KeepsMeaning g words l.grammar l.lexicon placed.sentence.tokens) (placed_from l.article.word l.at (drop l.at l.article.sentences)) found
    → Finds (λ placed. KeepsMeaning g words l.grammar l.lexicon placed.sentence.tokens) (placed_in l.article) found
