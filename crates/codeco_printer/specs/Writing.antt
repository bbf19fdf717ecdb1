-- Printing from left to right, symbol by symbol. Only calls inside the crate speak of it.
use Rattle.std.specs.Prelude.{map, flat_map, ℕ, Bool, true, false, List, [], ◌∷◌, ◌++◌, if◌then◌else◌}
use Rattle.codeco_text.specs.declared.symbols.Lexeme.{Lexeme}
use Rattle.codeco_text.specs.declared.symbols.Lexeme.TheVariants as lexeme
use Rattle.codeco_text.specs.declared.symbols.Sign.TheVariants as sign
use Rattle.codeco_terms.specs.declared.declarations.Declared.{Declared}
use Rattle.codeco_terms.specs.declared.declarations.Declared.TheVariants as declared
use Rattle.codeco_terms.specs.GrammarParts.{GrammarParts}
use Rattle.codeco_text.specs.declared.written.Domain.TheVariants as domain
use Rattle.codeco_text.specs.declared.written.WrittenFeat.{WrittenFeat}
use Rattle.codeco_text.specs.Notation.{sign_bytes, feat_lexemes, domain_lexemes}
use Rattle.codeco_printer.specs.Unnumbered.{name_at}

-- the bytes that were printed, and whether the last symbol is a word
pub record Output : Type 0 where
  pub bytes : List ℕ
  pub after_word : Bool

abbrev pub nothing : Output
nothing = record { bytes = []; after_word = false }

-- with the word behind what was printed, after a space where that ends with a word
abbrev pub put_word : Output → List ℕ → Output
put_word o w = record { bytes = (if o.after_word then o.bytes ++ 32 ∷ [] else o.bytes) ++ w; after_word = true }

-- with bytes that need no space before or after them
abbrev pub put_closed : Output → List ℕ → Output
put_closed o bytes = record { bytes = o.bytes ++ bytes; after_word = false }

abbrev pub put : Output → Lexeme → Output
put o (lexeme.Identifier w) = put_word o w
put o (lexeme.Variable w) = put_word o w
put o (lexeme.Keyword w) = put_word o w
put o (lexeme.Label w) = put_word o w
put o (lexeme.Kind w) = put_word o w
put o (lexeme.Terminal t) = put_closed o (91 ∷ t ++ 93 ∷ [])
put o (lexeme.Sign s) = put_closed o (sign_bytes s)

-- with the symbols behind what was printed
abbrev pub write : Output → List Lexeme → Output
write o [] = o
write o (x ∷ xs) = write (put o x) xs

-- what stands before a feature of a category
abbrev pub separator : Bool → Lexeme
separator true = lexeme.Sign sign.Comma
separator false = lexeme.Sign sign.OpenParen

-- features of a category, each with what stands before it; `opened` says whether others stand before them
abbrev pub opened_feats : Bool → List WrittenFeat → List Lexeme
opened_feats opened [] = []
opened_feats opened (f ∷ fs) = separator opened ∷ feat_lexemes f ++ opened_feats true fs

-- the same, and then what closes them
abbrev pub closed_feats : Bool → List WrittenFeat → List Lexeme
closed_feats false [] = []
closed_feats true [] = lexeme.Sign sign.CloseParen ∷ []
closed_feats opened (f ∷ fs) = separator opened ∷ feat_lexemes f ++ closed_feats true fs

-- atoms, each behind a comma
abbrev pub other_atoms : GrammarParts → List ℕ → List Lexeme
other_atoms g atoms = flat_map (λ a. lexeme.Sign sign.Comma ∷ lexeme.Identifier (name_at g.atoms a) ∷ []) atoms

-- what a feature is declared with
abbrev pub values_lexemes : GrammarParts → Declared → List Lexeme
values_lexemes g declared.Undeclared = []
values_lexemes g declared.Words = domain_lexemes domain.Words
values_lexemes g declared.Positions = domain_lexemes domain.Positions
values_lexemes g (declared.Atoms atoms) = domain_lexemes (domain.Atoms (map (name_at g.atoms) atoms))
