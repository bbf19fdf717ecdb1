-- What the rows of tables stand for. Only private calls speak of it.
use Rattle.std.specs.Prelude.{map, Some}
use Rattle.codeco_terms.specs.declared.categories.Pattern.{Pattern}
use Rattle.codeco_terms.specs.declared.elements.Element.{Element}
use Rattle.codeco_terms.specs.declared.elements.Element.TheVariants.{Terminal, Preterminal, Sub, Position, Opener, Forward, Strong, Back, NoBack}
use Rattle.codeco_terms.specs.declared.rules.Rule.{Rule}
use Rattle.codeco_terms.specs.declared.declarations.Declared.{Declared}
use Rattle.codeco_terms.specs.declared.declarations.Declared.TheVariants.{Words, Positions, Atoms}
use Rattle.codeco_terms.specs.declared.declarations.Feature.{Feature}
use Rattle.ace_grammar.specs.declared.rows.DeclaredRow.{DeclaredRow}
use Rattle.ace_grammar.specs.declared.rows.DeclaredRow.TheVariants as values
use Rattle.ace_grammar.specs.declared.rows.FeatureRow.{FeatureRow}
use Rattle.ace_grammar.specs.declared.rows.PatternRow.{PatternRow}
use Rattle.ace_grammar.specs.declared.rows.ElementRow.{ElementRow}
use Rattle.ace_grammar.specs.declared.rows.ElementRow.TheVariants as row
use Rattle.ace_grammar.specs.declared.rows.RuleRow.{RuleRow}

abbrev pub pattern_of : PatternRow → Pattern
pattern_of r = record { cat = record { name = r.0; feats = r.1.now }; taken = r.2.now }

abbrev pub element_of : ElementRow → Element
element_of (row.Token t) = Terminal t
element_of (row.Word name feats) = Preterminal (record { name = name; feats = feats.now })
element_of (row.Phrase name feats) = Sub (record { name = name; feats = feats.now })
element_of (row.Here x) = Position x
element_of row.Opener = Opener
element_of (row.Weak name feats) = Forward (record { name = name; feats = feats.now })
element_of (row.Strong name feats) = Strong (record { name = name; feats = feats.now })
element_of (row.Back ps ns) = Back (map pattern_of ps.now) (map pattern_of ns.now)
element_of (row.NoBack ps) = NoBack (map pattern_of ps.now)

abbrev pub rule_of : RuleRow → Rule
rule_of r = record {
  label = Some r.label;
  head = record { name = r.head; feats = r.feats.now };
  closing = r.closing;
  body = map element_of r.body.now;
}

abbrev pub declared_of : DeclaredRow → Declared
declared_of values.Words = Words
declared_of values.Positions = Positions
declared_of (values.Atoms atoms) = Atoms atoms.now

abbrev pub feature_of : FeatureRow → Feature
feature_of r = record { name = r.0.now; declared = declared_of r.1 }
