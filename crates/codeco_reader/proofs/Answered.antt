-- What is answered for a text that makes a grammar without faults.
use Rattle.std.proofs.Common.{◌≡◌, ℕ, List, IfOk, IfErr, IsErr, IsErrAnd, Result, Ok, Err, refl, sym, ap, ◌∙◌, subst}
use Rattle.codeco_terms.specs.GrammarParts.{GrammarParts}
use Rattle.codeco_text.specs.declared.written.WrittenItem.{WrittenItem}
use Rattle.codeco_text.specs.Notation.{lexemes, IsSpelling}
use Rattle.codeco_checked.specs.declared.fault.GrammarFault.{GrammarFault}
use Rattle.codeco_checked.specs.declared.fault.GrammarFault.TheVariants.{Syntax, TooLarge, Undeclared, BadValue, EmptyRule, LeftRecursion, TakenVariable, LabelKind, NoStart, Memory}
use Rattle.codeco_checked.specs.Sound.{Holds, IsSound}
use Rattle.codeco_numbering.specs.Numbered.{numbered_of}
use Rattle.codeco_printer.specs.Printing.{printed}
use Rattle.codeco_printer.specs.Unnumbered.{written_of}
use Rattle.codeco_printer.proofs.GrammarPrinted.{printed_spells}
use Rattle.codeco_printer.proofs.ReadBack.{numbered_of-written_of}
use Rattle.codeco_reader.specs.Texts.{Makes, MakesFaulty, IsFaultless, SaysOf, Gives}

-- these are the only declarations and rules that the text spells
abbrev pub IsOnly : List ℕ → List WrittenItem → Type 0
IsOnly text items = (others : List WrittenItem) → IsSpelling text others → items ≡ others

same_grammar : (text : List ℕ) (items : List WrittenItem) (g : GrammarParts) → IsOnly text items → Makes text g → numbered_of items ≡ g
same_grammar text items g only m = ap numbered_of (only m.0 m.1) ∙ m.2

not_faulty : (text : List ℕ) (items : List WrittenItem) (g : GrammarParts) (fault : GrammarFault) → IsOnly text items → Makes text g → IsFaultless g
    → MakesFaulty text fault → ⊥
not_faulty text items g fault only m none bad =
    let same : bad.0 ≡ g = sym (same_grammar text items bad.0 only bad.1) ∙ same_grammar text items g only m in
    none fault (subst (λ x. Holds x fault) same bad.2.holds)

pub grammar_given : (text : List ℕ) (items : List WrittenItem) (r : Result GrammarParts GrammarFault) → IsOnly text items
    → IfOk r (λ g. g ≡ numbered_of items) → IfErr r (SaysOf text) → (g : GrammarParts) → Makes text g → IsFaultless g → Gives g r
grammar_given text items (Ok given) only ok err g m none = ok ∙ same_grammar text items g only m
grammar_given text items (Err Memory) only ok err g m none = refl
grammar_given text items (Err (Syntax p)) only ok err g m none = absurd (err.none (m.0, m.1))
grammar_given text items (Err (TooLarge n)) only ok err g m none = absurd (not_faulty text items g (TooLarge n) only m none err)
grammar_given text items (Err (Undeclared n)) only ok err g m none = absurd (not_faulty text items g (Undeclared n) only m none err)
grammar_given text items (Err (BadValue n)) only ok err g m none = absurd (not_faulty text items g (BadValue n) only m none err)
grammar_given text items (Err (EmptyRule n)) only ok err g m none = absurd (not_faulty text items g (EmptyRule n) only m none err)
grammar_given text items (Err (LeftRecursion n)) only ok err g m none = absurd (not_faulty text items g (LeftRecursion n) only m none err)
grammar_given text items (Err (TakenVariable n)) only ok err g m none = absurd (not_faulty text items g (TakenVariable n) only m none err)
grammar_given text items (Err (LabelKind n)) only ok err g m none = absurd (not_faulty text items g (LabelKind n) only m none err)
grammar_given text items (Err NoStart) only ok err g m none = absurd (not_faulty text items g NoStart only m none err)

-- the text that is printed for a grammar makes that grammar
pub printed_makes : (text : List ℕ) (g : GrammarParts) → IsSound g → text ≡ printed (lexemes (written_of g)) → Makes text g
printed_makes text g sound is = (written_of g, printed_spells g sound text is, numbered_of-written_of g sound)

-- an error that is want of memory
pub memory_given : (g : GrammarParts) (fault : GrammarFault) (r : Result GrammarParts GrammarFault) → IsErr r → IsErrAnd r (λ e. e ≡ fault) → fault ≡ Memory
    → Gives g r
memory_given g fault (Ok given) err same memory = absurd cc
memory_given g fault (Err e) err same memory = same ∙ memory
