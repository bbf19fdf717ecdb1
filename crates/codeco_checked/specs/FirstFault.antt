-- The fault that is told of a grammar: of all that hold, the one of least number at its first place.
use Rattle.std.specs.Prelude.{ℕ, ◌==◌, nat_lt, Bool, ◌&&◌, ◌||◌, IsTrue}
use Rattle.codeco_terms.specs.GrammarParts.{GrammarParts}
use Rattle.codeco_checked.specs.declared.fault.GrammarFault.{GrammarFault}
use Rattle.codeco_checked.specs.declared.fault.GrammarFault.TheVariants.{Syntax, TooLarge, Undeclared, BadValue, EmptyRule, LeftRecursion, TakenVariable, LabelKind, NoStart, Memory}
use Rattle.codeco_checked.specs.Sound.{Holds}

-- the number of a fault, by which faults are told
abbrev pub fault_number : GrammarFault → ℕ
fault_number (Syntax n) = 1
fault_number (TooLarge n) = 2
fault_number (Undeclared n) = 3
fault_number (BadValue n) = 4
fault_number (EmptyRule n) = 5
fault_number (LeftRecursion n) = 6
fault_number (TakenVariable n) = 7
fault_number (LabelKind n) = 8
fault_number NoStart = 9
fault_number Memory = 10

-- the byte or the rule of a fault
abbrev pub fault_place : GrammarFault → ℕ
fault_place (Syntax n) = n
fault_place (TooLarge n) = n
fault_place (Undeclared n) = n
fault_place (BadValue n) = n
fault_place (EmptyRule n) = n
fault_place (LeftRecursion n) = n
fault_place (TakenVariable n) = n
fault_place (LabelKind n) = n
fault_place NoStart = 0
fault_place Memory = 0

-- the one fault has a lower number than the other, or the same and an earlier place
abbrev pub is_before : GrammarFault → GrammarFault → Bool
is_before x y = nat_lt (fault_number x) (fault_number y) || ((fault_number x == fault_number y) && nat_lt (fault_place x) (fault_place y))

-- the fault holds of the grammar, and none before it does
pub record IsFirst (g : GrammarParts) (fault : GrammarFault) : Type 0 where
  pub holds : Holds g fault
  pub least : (other : GrammarFault) → IsTrue (is_before other fault) → Holds g other → ⊥
