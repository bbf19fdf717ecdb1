-- A text spells at most one list of declarations and rules.
use Rattle.std.proofs.Common.{◌≡◌, ℕ, List, sym, ap, ◌∙◌}
use Rattle.codeco_text.specs.declared.written.WrittenItem.{WrittenItem}
use Rattle.codeco_text.specs.Notation.{IsSpelling}
use Rattle.codeco_text.proofs.SoFar.{so_far}
use Rattle.codeco_text.proofs.Exactness.{spelling_ends}
use Rattle.codeco_text.proofs.OneSpelling.{lexemes_same}
use Rattle.codeco_terms.specs.GrammarParts.{GrammarParts}
use Rattle.codeco_checked.specs.Sound.{IsSound}
use Rattle.codeco_numbering.specs.Numbered.{numbered_of}
use Rattle.codeco_printer.specs.Unnumbered.{written_of}
use Rattle.codeco_printer.proofs.ReadBack.{numbered_of-written_of}

one_spelling : (text : List ℕ) (is js : List WrittenItem) → IsSpelling text is → IsSpelling text js → is ≡ js
one_spelling text is js s t =
    let a = spelling_ends text is s in
    let b = spelling_ends text js t in
    let same : a.0 ≡ b.0 = cc in
    lexemes_same is js (sym a.3 ∙ ap so_far same ∙ b.3)

-- whatever the text of a sound grammar spells makes that grammar
pub read_back : (g : GrammarParts) (text : List ℕ) → IsSound g → IsSpelling text (written_of g) → (items : List WrittenItem) → IsSpelling text items
    → numbered_of items ≡ g
read_back g text s printed items other = ap numbered_of (one_spelling text items (written_of g) other printed) ∙ numbered_of-written_of g s
