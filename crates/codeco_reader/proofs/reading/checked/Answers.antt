use Rattle.std.proofs.Common.{IsTrue, length, sym, subst}
use Rattle.std.specs.Option.{IfNone}
use Rattle.codeco_terms.specs.GrammarParts.{GrammarParts}
use Rattle.codeco_checked.specs.Numbering.{counts_up, grammar_atoms, IsNumbered}
use Rattle.codeco_checked.specs.Sound.{IsWritten}
use Rattle.codeco_numbering.proofs.Sound.Contents.{atoms_count_up}
use Rattle.codeco_numbering.proofs.Sound.Numbered.{numbered_is_written, sound_without_bad_values}
use Rattle.codeco_reader.specs.Texts.{IsFaultless}
use Rattle.codeco_reader.proofs.reading.checked.Goals as goal

pub first_fault-requires-clause-written : goal.first_fault-requires-clause-written
first_fault-requires-clause-written c =
    subst IsWritten (sym c.in_ok-grammar.ensures) (numbered_is_written c.requires.0 c.args.items.now c.requires.1)

pub first_fault-requires-clause-atoms : goal.first_fault-requires-clause-atoms
first_fault-requires-clause-atoms c =
    subst (λ (g : GrammarParts). IsTrue (counts_up 7 (length g.atoms) (grammar_atoms g))) (sym c.in_ok-grammar.ensures) (atoms_count_up c.args.items.now)

pub admit-requires : goal.admit-requires
admit-requires c =
    let none : IsFaultless c.in_ok-grammar.grammar =
    subst (λ found. IfNone found (IsFaultless c.in_ok-grammar.grammar)) c.in-None.is c.in_ok-fault-2.ensures.none in
    let none_spelled = subst IsFaultless c.in_ok-grammar.ensures none in
    let sound = sound_without_bad_values c.requires.0 c.args.items.now c.requires.1 (λ f before. none_spelled f) in
    record {
      written = subst IsWritten (sym c.in_ok-grammar.ensures) sound.0;
      numbered = subst IsNumbered (sym c.in_ok-grammar.ensures) sound.1;
      faultless = none;
    }
