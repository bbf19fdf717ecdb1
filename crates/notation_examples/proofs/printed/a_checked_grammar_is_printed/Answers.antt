use Rattle.std.proofs.Common.{subst, sym}
use Rattle.codeco_checked.specs.Sound.{IsSound}
use Rattle.notation_examples.proofs.SmallestSound.{smallest_sound}
use Rattle.notation_examples.proofs.printed.a_checked_grammar_is_printed.Goals as goal

pub admit-grammar-requires : goal.admit-grammar-requires
admit-grammar-requires g c = subst IsSound (sym c.in_ok-smallest_grammar.ensures) smallest_sound
