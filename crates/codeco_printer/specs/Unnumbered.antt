-- The declarations and rules that are written for a grammar: names and letters in place of numbers.
use Rattle.std.specs.Prelude.{ℕ, ◌+◌, min, nat_lt, if◌then◌else◌, List, [], ◌∷◌, ◌++◌, map, flat_map, slice_index_or, option_map}
use Rattle.codeco_terms.specs.declared.values.Value.{Value}
use Rattle.codeco_terms.specs.declared.values.Value.TheVariants.{Atom, Word, Pos}
use Rattle.codeco_terms.specs.declared.values.Term.{Term}
use Rattle.codeco_terms.specs.declared.values.Term.TheVariants.{Val, Var}
use Rattle.codeco_terms.specs.declared.categories.Category.{Category}
use Rattle.codeco_terms.specs.declared.categories.Pattern.{Pattern}
use Rattle.codeco_terms.specs.declared.elements.Element.{Element}
use Rattle.codeco_terms.specs.declared.elements.Element.TheVariants.{Terminal, Preterminal, Sub, Position, Opener, Forward, Strong, Back, NoBack}
use Rattle.codeco_terms.specs.declared.declarations.Declared.{Declared}
use Rattle.codeco_terms.specs.declared.declarations.Declared.TheVariants as declared
use Rattle.codeco_terms.specs.declared.declarations.Feature.{Feature}
use Rattle.codeco_terms.specs.declared.rules.Rule.{Rule}
use Rattle.codeco_terms.specs.GrammarParts.{GrammarParts}
use Rattle.codeco_text.specs.declared.written.WrittenTerm.{WrittenTerm}
use Rattle.codeco_text.specs.declared.written.WrittenTerm.TheVariants as term
use Rattle.codeco_text.specs.declared.written.WrittenFeat.{WrittenFeat}
use Rattle.codeco_text.specs.declared.written.WrittenCategory.{WrittenCategory}
use Rattle.codeco_text.specs.declared.written.WrittenElement.{WrittenElement}
use Rattle.codeco_text.specs.declared.written.WrittenElement.TheVariants as element
use Rattle.codeco_text.specs.declared.written.WrittenRule.{WrittenRule}
use Rattle.codeco_text.specs.declared.written.Domain.TheVariants as domain
use Rattle.codeco_text.specs.declared.written.WrittenItem.{WrittenItem}
use Rattle.codeco_text.specs.declared.written.WrittenItem.TheVariants as item
use Rattle.codeco_numbering.specs.Labels.{label_name}

-- the name, or the terminal, with this number
abbrev pub name_at : List (List ℕ) → ℕ → List ℕ
name_at names n = slice_index_or names n []

abbrev pub feature_name : List Feature → ℕ → List ℕ
feature_name features f = name_at (map (λ x. x.name) features) f

-- variable 0 is A, variable 1 is B, and so on up to Z
abbrev pub letter_byte : ℕ → ℕ
letter_byte x = 65 + min x 25

abbrev pub letter : ℕ → List ℕ
letter x = letter_byte x ∷ []

-- an atom's name; other values have none
abbrev pub value_name : GrammarParts → Value → List ℕ
value_name g (Atom a) = name_at g.atoms a
value_name g (Word w) = []
value_name g (Pos p) = []

abbrev pub written_term : GrammarParts → Term → WrittenTerm
written_term g (Val v) = term.Atom (value_name g v)
written_term g (Var x) = term.Variable (letter x)

-- features by number, with what is written for each
abbrev pub plain_terms : GrammarParts → List (ℕ × Term) → List (ℕ × WrittenTerm)
plain_terms g feats = map (λ f. (f.0, written_term g f.1)) feats

abbrev pub taken_terms : List (ℕ × ℕ) → List (ℕ × WrittenTerm)
taken_terms taken = map (λ t. (t.0, term.Taken (letter t.1))) taken

-- the features at the front with a number below n, and those from the first other one on
abbrev pub below : ℕ → List (ℕ × WrittenTerm) → List (ℕ × WrittenTerm)
below n [] = []
below n (t ∷ ts) = if nat_lt t.0 n then t ∷ below n ts else []

abbrev pub from : ℕ → List (ℕ × WrittenTerm) → List (ℕ × WrittenTerm)
from n [] = []
from n (t ∷ ts) = if nat_lt t.0 n then from n ts else t ∷ ts

-- two lists of features, each in order of number, as one in order of number
abbrev pub merged : List (ℕ × WrittenTerm) → List (ℕ × WrittenTerm) → List (ℕ × WrittenTerm)
merged [] ts = ts
merged (f ∷ fs) ts = below f.0 ts ++ f ∷ merged fs (from f.0 ts)

abbrev pub with_names : GrammarParts → List (ℕ × WrittenTerm) → List WrittenFeat
with_names g feats = map (λ f. record { name = feature_name g.features f.0; term = f.1 }) feats

abbrev pub written_category : GrammarParts → Category → WrittenCategory
written_category g c = record { name = name_at g.categories c.name; feats = with_names g (plain_terms g c.feats) }

-- a pattern with its marked variables among the other features
abbrev pub written_pattern : GrammarParts → Pattern → WrittenCategory
written_pattern g p = record { name = name_at g.categories p.cat.name; feats = with_names g (merged (plain_terms g p.cat.feats) (taken_terms p.taken)) }

abbrev pub written_element : GrammarParts → Element → WrittenElement
written_element g (Terminal t) = element.Terminal (name_at g.terminals t)
written_element g (Preterminal c) = element.Preterminal (written_category g c)
written_element g (Sub c) = element.Sub (written_category g c)
written_element g (Position x) = element.Position (letter x)
written_element g Opener = element.Opener
written_element g (Forward c) = element.Forward (written_category g c)
written_element g (Strong c) = element.Strong (written_category g c)
written_element g (Back ps ns) = element.Back (map (written_pattern g) ps) (map (written_pattern g) ns)
written_element g (NoBack ps) = element.NoBack (map (written_pattern g) ps)

abbrev pub written_rule : GrammarParts → Rule → WrittenRule
written_rule g r = record {
  label = option_map label_name r.label;
  head = written_category g r.head;
  closing = r.closing;
  body = map (written_element g) r.body;
}

-- a feature's declaration, where it has one
abbrev pub declaration : GrammarParts → List ℕ → Declared → List WrittenItem
declaration g name declared.Undeclared = []
declaration g name declared.Words = item.Feature name domain.Words ∷ []
declaration g name declared.Positions = item.Feature name domain.Positions ∷ []
declaration g name (declared.Atoms atoms) = item.Feature name (domain.Atoms (map (name_at g.atoms) atoms)) ∷ []

abbrev pub written_feature : GrammarParts → Feature → List WrittenItem
written_feature g f = declaration g f.name f.declared

-- the declarations in order of number, and then the rules
abbrev pub written_of : GrammarParts → List WrittenItem
written_of g = flat_map (written_feature g) g.features ++ map (λ r. item.Rule (written_rule g r)) g.rules
