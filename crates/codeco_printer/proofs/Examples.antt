-- Some grammars with their texts, worked out by hand.
use Rattle.std.proofs.Common.{◌≡◌, ℕ, true, false, List, [], ◌∷◌, ◌++◌, Some, None, refl}
use Rattle.std.specs.Prelude.{codes}
use Rattle.codeco_terms.specs.declared.values.Value.TheVariants.{Atom}
use Rattle.codeco_terms.specs.declared.values.Term.{Term}
use Rattle.codeco_terms.specs.declared.values.Term.TheVariants.{Val, Var}
use Rattle.codeco_terms.specs.declared.categories.Category.{Category}
use Rattle.codeco_terms.specs.declared.categories.Pattern.{Pattern}
use Rattle.codeco_terms.specs.declared.elements.Element.{Element}
use Rattle.codeco_terms.specs.declared.elements.Element.TheVariants.{Terminal, Preterminal, Sub, Position, Opener, Forward, Strong, Back, NoBack}
use Rattle.codeco_terms.specs.declared.declarations.Declared.{Declared}
use Rattle.codeco_terms.specs.declared.declarations.Declared.TheVariants.{Undeclared, Words, Positions, Atoms}
use Rattle.codeco_terms.specs.declared.declarations.Feature.{Feature}
use Rattle.codeco_terms.specs.declared.rules.Label.TheVariants as label
use Rattle.codeco_terms.specs.declared.rules.Rule.{Rule}
use Rattle.codeco_terms.specs.GrammarParts.{GrammarParts}
use Rattle.codeco_text.specs.declared.symbols.Sign.TheVariants as sign
use Rattle.codeco_text.specs.declared.symbols.Lexeme.TheVariants as lexeme
use Rattle.codeco_text.specs.Notation.{lexemes}
use Rattle.codeco_checked.specs.Numbering.{first_atoms, first_categories}
use Rattle.codeco_numbering.specs.Numbered.{numbered_of}
use Rattle.codeco_printer.specs.Printing.{printed}
use Rattle.codeco_printer.specs.Unnumbered.{written_of}

abbrev text_of : GrammarParts → List ℕ
text_of g = printed (lexemes (written_of g))

abbrev feature : List ℕ → Declared → Feature
feature name values = record { name = name; declared = values }

abbrev category : ℕ → List (ℕ × Term) → Category
category name feats = record { name = name; feats = feats }

abbrev pattern : ℕ → List (ℕ × Term) → List (ℕ × ℕ) → List Pattern
pattern name feats taken = record { cat = category name feats; taken = taken } ∷ []

abbrev rule : Category → List Element → Rule
rule head body = record { label = None; head = head; closing = false; body = body }

abbrev p : Term
p = Val (Atom 7)

abbrev q : Term
q = Val (Atom 8)

-- feature k: p, q. feature id: position. text --> m n r [e]. m --> [m] #P > x(k: p, id: P).
-- n --> [n] #P > x(k: q, id: P). r --> < +x(k: K, id: ?I) [r].
abbrev references : GrammarParts
references = record {
  features = feature (codes "num") Undeclared ∷ feature (codes "vow") Undeclared ∷ feature (codes "form") Undeclared ∷ feature (codes "w") Undeclared
      ∷ feature (codes "k") (Atoms (7 ∷ 8 ∷ [])) ∷ feature (codes "id") Positions ∷ [];
  atoms = first_atoms ++ codes "p" ∷ codes "q" ∷ [];
  terminals = codes "e" ∷ codes "m" ∷ codes "n" ∷ codes "r" ∷ [];
  categories = first_categories ++ codes "m" ∷ codes "n" ∷ codes "r" ∷ codes "x" ∷ [];
  rules = rule (category 5 []) (Sub (category 6 []) ∷ Sub (category 7 []) ∷ Sub (category 8 []) ∷ Terminal 0 ∷ [])
      ∷ rule (category 6 []) (Terminal 1 ∷ Position 0 ∷ Forward (category 9 ((4, p) ∷ (5, Var 0) ∷ [])) ∷ [])
      ∷ rule (category 7 []) (Terminal 2 ∷ Position 0 ∷ Forward (category 9 ((4, q) ∷ (5, Var 0) ∷ [])) ∷ [])
      ∷ rule (category 8 []) (Back (pattern 9 ((4, Var 0) ∷ []) ((5, 1) ∷ [])) [] ∷ Terminal 3 ∷ [])
      ∷ [];
}

references_text : text_of references ≡ codes
    "feature k:p,q.feature id:position.text-->m n r[e].m-->[m]#A>x(k:p,id:A).n-->[n]#A>x(k:q,id:A).r--><+x(k:A,id:?B)[r]."
references_text = refl

references_back : numbered_of (written_of references) ≡ references
references_back = refl

-- every kind of element, a label, a scope-closing rule, and a marked feature before one that is written plain
abbrev everything : GrammarParts
everything = record {
  features = feature (codes "num") (Atoms (0 ∷ 1 ∷ [])) ∷ feature (codes "vow") Undeclared ∷ feature (codes "form") Undeclared ∷ feature (codes "w") Words
      ∷ feature (codes "k") (Atoms (7 ∷ [])) ∷ feature (codes "id") Positions ∷ [];
  atoms = first_atoms ++ codes "p" ∷ [];
  terminals = codes "a" ∷ codes "." ∷ [];
  categories = first_categories ++ codes "s" ∷ codes "x" ∷ [];
  rules = record {
    label = Some label.Statement;
    head = category 5 ((0, Var 0) ∷ []);
    closing = true;
    body = Opener ∷ Terminal 0 ∷ Preterminal (category 1 ((0, Var 0) ∷ (3, Var 1) ∷ [])) ∷ Sub (category 6 []) ∷ Position 2
        ∷ Forward (category 7 ((5, Var 2) ∷ [])) ∷ Strong (category 7 ((5, Var 2) ∷ []))
        ∷ Back (pattern 7 ((4, p) ∷ []) ((5, 3) ∷ [])) (pattern 7 ((4, p) ∷ []) []) ∷ NoBack (pattern 7 ((5, Var 2) ∷ []) []) ∷ [];
  }
      ∷ rule (category 6 []) (Terminal 1 ∷ Back (pattern 7 ((4, p) ∷ []) ((0, 0) ∷ [])) [] ∷ [])
      ∷ [];
}

everything_text : text_of everything ≡ codes
    "feature num:sg,pl.feature w:word.feature k:p.feature id:position.{statement}text(num:A)~~>//[a]$noun(num:A,w:B)s#C>x(id:C)>>x(id:C)<+x(k:p,id:?D)-x(k:p)/<+x(id:C).s-->[.]<+x(num:?A,k:p)."
everything_text = refl

everything_back : numbered_of (written_of everything) ≡ everything
everything_back = refl

-- a space stands between two words alone
abbrev neighbours : GrammarParts
neighbours = record {
  features = [];
  atoms = first_atoms;
  terminals = codes "t" ∷ [];
  categories = first_categories ++ codes "s" ∷ [];
  rules = rule (category 5 []) (Sub (category 6 []) ∷ Sub (category 6 []) ∷ Terminal 0 ∷ Sub (category 6 []) ∷ Opener ∷ Strong (category 6 [])
      ∷ Forward (category 6 []) ∷ Forward (category 6 []) ∷ []) ∷ [];
}

neighbours_text : text_of neighbours ≡ codes "text-->s s[t]s//>>s>s>s."
neighbours_text = refl

-- between signs too, where a longer one would be read
signs_text : printed (lexeme.Sign sign.Weak ∷ lexeme.Sign sign.Weak ∷ lexeme.Identifier (codes "x") ∷ lexeme.Sign sign.Strong ∷ lexeme.Sign sign.Weak
    ∷ lexeme.Sign sign.Minus ∷ lexeme.Sign sign.Minus ∷ lexeme.Sign sign.Weak ∷ []) ≡ codes "> >x>>>- ->"
signs_text = refl
