use Rattle.std.proofs.Common.{refl}
use Rattle.ace_grammar.proofs.Soundness.{sound, labelled}
use Rattle.ace_grammar.proofs.whole.built_in.Goals as goal

pub admit-requires : goal.admit-requires
admit-requires c = rw c.in_ok-grammar.ensures sound

pub returns-clause-labelled : goal.returns-clause-labelled
returns-clause-labelled c = rw (c.admit.ensures, c.in_ok-grammar.ensures, labelled) refl
