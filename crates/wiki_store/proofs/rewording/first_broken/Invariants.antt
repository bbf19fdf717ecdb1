use Rattle.std.proofs.Common.{Option, drop}
use Rattle.std.specs.Option.{option_copied}
use Rattle.codeco_terms.specs.GrammarParts.{GrammarParts}
use Rattle.lexicon.specs.Words.{Listed}
use Rattle.wiki_parts.specs.Kept.{MeanInEach}
use Rattle.plain_wiki.specs.Places.{Placed, all_placed}
use Rattle.plain_wiki.specs.Causes.{KeepsMeaning}
use Rattle.wiki_store.specs.Rewording.{PassesOthers, Finds}
use Rattle.wiki_store.proofs.rewording.first_broken.Given as goal

-- the first one that is broken is the first of those that are left
abbrev pub invariant-loop-place : goal.invariant-loop-place
invariant-loop-place l = (g : GrammarParts) (words : Listed) → MeanInEach g words l.articles l.senses
    → PassesOthers g words l.grammar l.lexicon (option_copied l.forms)
    → (found : Option Placed)
    → Finds (λ placed. KeepsMeaning g words l.grammar l.lexicon placed.sentence.tokens) (all_placed (drop l.place l.articles)) found
    → Finds (λ placed. KeepsMeaning g words l.grammar l.lexicon placed.sentence.tokens) (all_placed l.articles) found
