-- The grammar of the text `text --> [a].` has no fault.
use Rattle.std.proofs.Common.{List, [], ◌∷◌, refl}
use Rattle.codeco_checked.specs.declared.labels.Kind.{Kind}
use Rattle.codeco_checked.specs.declared.labels.Kind.TheVariants.{Text, Sentence}
use Rattle.codeco_checked.specs.Numbering.{IsNumbered}
use Rattle.codeco_checked.specs.Sound.{IsWritten, IsSound}
use Rattle.codeco_checked.proofs.FaultTests.{PassesTests, faultless}
use Rattle.notation_examples.specs.Smallest.{smallest_grammar}

-- text is a text
abbrev kinds : List Kind
kinds = Sentence ∷ Sentence ∷ Sentence ∷ Sentence ∷ Sentence ∷ Text ∷ []

passes : PassesTests smallest_grammar (λ _. 0) kinds
passes = record {
  declarations = refl;
  broad = refl;
  large = refl;
  count = refl;
  undeclared = refl;
  double = refl;
  bad = refl;
  empty = refl;
  falls = refl;
  taken = refl;
  alike = refl;
  marked = refl;
  marks = refl;
  text = refl;
  fit = refl;
  start = refl;
}

written : IsWritten smallest_grammar
written = record { features = refl; values = refl; atoms = refl; categories = refl; terminals = refl; rules = refl }

numbered : IsNumbered smallest_grammar
numbered = record {
  first_features = refl;
  first_atoms = refl;
  first_categories = refl;
  features = refl;
  atoms = refl;
  categories = refl;
  terminals = refl;
  variables = refl;
  different_atoms = refl;
  different_categories = refl;
  different_terminals = refl;
}

pub smallest_sound : IsSound smallest_grammar
smallest_sound = record { written = written; numbered = numbered; faultless = faultless smallest_grammar (λ _. 0) kinds passes }
