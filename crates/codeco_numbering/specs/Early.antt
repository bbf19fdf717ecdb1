-- The faults that leave no grammar of the number types.
use Rattle.std.specs.Prelude.{IsTrue, List}
use Rattle.codeco_text.specs.declared.written.WrittenItem.{WrittenItem}
use Rattle.codeco_checked.specs.declared.fault.GrammarFault.{GrammarFault}
use Rattle.codeco_checked.specs.declared.fault.GrammarFault.TheVariants.{BadValue}
use Rattle.codeco_checked.specs.FirstFault.{is_before}
use Rattle.codeco_checked.specs.Sound.{Holds}
use Rattle.codeco_numbering.specs.Numbered.{numbered_of}

-- no fault holds before the first rule's BadValue: no limit is passed, and each feature is declared once with different atoms
abbrev pub HasNoEarlyFault : List WrittenItem → Type 0
HasNoEarlyFault items = (f : GrammarFault) → IsTrue (is_before f (BadValue 1)) → Holds (numbered_of items) f → ⊥
