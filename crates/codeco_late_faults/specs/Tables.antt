-- What the features of a grammar have as values.
use Rattle.std.specs.Prelude.{◌≡◌, ℕ, length, IsTrue, ◌&&◌, Bool, false, not, List, [], slice_get, slice_index_or}
use Rattle.std.specs.List.{position_or_len, list_any}
use Rattle.std.specs.Option.{option_map_or}
use Rattle.codeco_terms.specs.declared.values.Term.{Term}
use Rattle.codeco_terms.specs.declared.declarations.Declared.{Declared}
use Rattle.codeco_terms.specs.declared.declarations.Declared.TheVariants as declared
use Rattle.codeco_terms.specs.declared.declarations.Feature.{Feature}
use Rattle.codeco_terms.specs.GrammarParts.{GrammarParts}
use Rattle.codeco_checked.specs.Numbering.{has, counts_up, declared_atoms, grammar_atoms}
use Rattle.codeco_checked.specs.Occurrences.{term_variables}
use Rattle.codeco_checked.specs.Faults.{values_of, same_values, same_variable, fits_declared}

-- the atoms of the declarations are numbered by first occurrence, behind the seven first ones
abbrev pub CountsAtoms : GrammarParts → Type 0
CountsAtoms g = IsTrue (counts_up 7 (length g.atoms) (grammar_atoms g))

-- the set has exactly the atoms of the declaration
abbrev pub HoldsAtoms : List Bool → Declared → Type 0
HoldsAtoms set d = (a : ℕ) → slice_index_or set a false ≡ has (declared_atoms d) a

-- what the feature of a number is declared with
abbrev pub values_in : List Feature → ℕ → Declared
values_in features f = option_map_or (λ x. x.declared) (slice_get features f) declared.Undeclared

-- each feature's atoms as a set
abbrev pub AreSets : List Feature → List (List Bool) → Type 0
AreSets features sets = (f : ℕ) → HoldsAtoms (slice_index_or sets f []) (values_in features f)

-- the number of the first feature with these values, or how many features there are where there is none
abbrev pub class_in : List Feature → Declared → ℕ
class_in features d = position_or_len (λ x. same_values d x.declared) features

-- each feature's class; others are undeclared
abbrev pub AreClasses : List Feature → List ℕ → ℕ → Type 0
AreClasses features classes undeclared = (f : ℕ) → slice_index_or classes f undeclared ≡ class_in features (values_in features f)

-- what is kept of a grammar's features
pub record IsTable (g : GrammarParts) (sets : List (List Bool)) (classes : List ℕ) (undeclared : ℕ) : Type 0 where
  pub held : AreSets g.features sets
  pub classed : AreClasses g.features classes undeclared

-- The faults of features that are written with their terms.

-- an atom that its feature doesn't have
abbrev pub has_wrong_atom : GrammarParts → List (ℕ × Term) → Bool
has_wrong_atom g feats = list_any (λ f. not (fits_declared (values_of g f.0) f.1)) feats

-- one variable in two features of different values
abbrev pub is_mixed : GrammarParts → ℕ × Term → ℕ × Term → Bool
is_mixed g f h = same_variable f.1 h.1 && not (same_values (values_of g f.0) (values_of g h.0))

abbrev pub has_mixed_variable : GrammarParts → List (ℕ × Term) → Bool
has_mixed_variable g feats = list_any (λ f. list_any (is_mixed g f) feats) feats

-- the variable in a feature that isn't of positions
abbrev pub is_misplaced : GrammarParts → List (ℕ × Term) → ℕ → Bool
is_misplaced g feats x = list_any (λ f. has (term_variables f.1) x && not (same_values (values_of g f.0) declared.Positions)) feats
