use Rattle.std.proofs.Common.{◌≡◌, None, arith}
use Rattle.lexicon.specs.Words.{Listed, reground_refusal}
use Rattle.lexicon.proofs.Regrounding.{lexicon_beside}
use Rattle.lexicon.proofs.words.Lexicon.reground.Goals as goal
use Rattle.lexicon.proofs.words.Lexicon.reground.Goals.{After-drop-self-inside}

abbrev listed : After-drop-self-inside → Listed
listed c = record { live = c.self.inside.words.items; terminals = c.self.inside.terminals; last = c.self.inside.last }

-- the words stand beside the terminals that were copied, of which they have none
pub invariant_of-self : goal.invariant_of-self
invariant_of-self c =
    let free : reground_refusal c.self.inside.words.items c.in_ok-self-inside.field-0 ≡ None =
    grind (arith, c.deref.ensures.value, c.terminals.ensures, c.terminals-2.ensures, c.in_ok-self-inside.ensures, c.in_ok-refuse_words.ensures.free) in
    (lexicon_beside (listed c) c.self.invariant.0 c.in_ok-self-inside.field-0 free, c.self.invariant.1)
