-- What is answered for the text of a grammar.
use Rattle.std.specs.Prelude.{◌≡◌, ℕ, List, length, nat_le, Result, Ok, Err, Bool, IsTrue, MatchBool}
use Rattle.codeco_terms.specs.GrammarParts.{GrammarParts}
use Rattle.codeco_text.specs.declared.written.WrittenItem.{WrittenItem}
use Rattle.codeco_text.specs.Notation.{IsSpelling, IsSyntaxFault}
use Rattle.codeco_checked.specs.declared.fault.GrammarFault.{GrammarFault}
use Rattle.codeco_checked.specs.declared.fault.GrammarFault.TheVariants.{Syntax, TooLarge, Undeclared, BadValue, EmptyRule, LeftRecursion, TakenVariable, LabelKind, NoStart, Memory}
use Rattle.codeco_checked.specs.Sound.{Holds}
use Rattle.codeco_checked.specs.FirstFault.{IsFirst}
use Rattle.codeco_numbering.specs.Numbered.{numbered_of}

-- the text has at most 1,048,576 bytes
abbrev pub is_in_size : List ℕ → Bool
is_in_size text = nat_le (length text) 1048576

-- the text is a sentence of the notation, and this is the grammar that its declarations and rules make
abbrev pub Makes : List ℕ → GrammarParts → Type 0
Makes text g = (items : List WrittenItem) × IsSpelling text items × (numbered_of items ≡ g)

-- no fault holds of the grammar
abbrev pub IsFaultless : GrammarParts → Type 0
IsFaultless g = (fault : GrammarFault) → Holds g fault → ⊥

-- the text makes a grammar of which this is the first fault
abbrev pub MakesFaulty : List ℕ → GrammarFault → Type 0
MakesFaulty text fault = (g : GrammarParts) × Makes text g × IsFirst g fault

-- What a fault says of a text in size: it is no sentence, and by this place none begins as it does; or else of the faults
-- of the grammar that it makes this is the one of least number at its first place. Want of memory says nothing.
abbrev pub SaysOf : List ℕ → GrammarFault → Type 0
SaysOf text (Syntax place) = IsSyntaxFault text place
SaysOf text (TooLarge n) = MakesFaulty text (TooLarge n)
SaysOf text (Undeclared n) = MakesFaulty text (Undeclared n)
SaysOf text (BadValue n) = MakesFaulty text (BadValue n)
SaysOf text (EmptyRule n) = MakesFaulty text (EmptyRule n)
SaysOf text (LeftRecursion n) = MakesFaulty text (LeftRecursion n)
SaysOf text (TakenVariable n) = MakesFaulty text (TakenVariable n)
SaysOf text (LabelKind n) = MakesFaulty text (LabelKind n)
SaysOf text NoStart = MakesFaulty text NoStart
SaysOf text Memory = Unit {0}

-- the text is that of the grammar: it is in size, its declarations and rules make the grammar, and no fault holds of it
pub record IsTextOf (text : List ℕ) (g : GrammarParts) : Type 0 where
  pub in_size : IsTrue (is_in_size text)
  pub makes : Makes text g
  pub faultless : IsFaultless g

-- the fault for which a text is refused: that it is over the size, or else what is said of it. Want of memory is none.
abbrev pub IsFaultOf : List ℕ → GrammarFault → Type 0
IsFaultOf text Memory = ⊥
IsFaultOf text fault = MatchBool (is_in_size text) (SaysOf text fault) (fault ≡ TooLarge 0)

-- the call gives this value, unless memory ran out
abbrev pub Gives : {X : Type 0} → X → Result X GrammarFault → Type 0
Gives x (Ok given) = given ≡ x
Gives x (Err fault) = fault ≡ Memory
