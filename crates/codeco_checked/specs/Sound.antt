-- The grammars that may be used: those of the notation, numbered by it, in which no fault holds.
use Rattle.std.specs.Prelude.{◌≡◌, ℕ, ◌-◌, ◌<◌, nat_lt, nat_le, Bool, true, false, not, ◌&&◌, List, [], ◌∷◌, map, slice_get, IsTrue, Some, is_some}
use Rattle.std.specs.List.{list_all}
use Rattle.codeco_terms.specs.declared.values.Value.{Value}
use Rattle.codeco_terms.specs.declared.values.Value.TheVariants.{Atom, Word, Pos}
use Rattle.codeco_terms.specs.declared.values.Term.{Term}
use Rattle.codeco_terms.specs.declared.values.Term.TheVariants.{Val, Var}
use Rattle.codeco_terms.specs.declared.categories.Category.{Category}
use Rattle.codeco_terms.specs.declared.categories.Pattern.{Pattern}
use Rattle.codeco_terms.specs.declared.elements.Element.{Element}
use Rattle.codeco_terms.specs.declared.elements.Element.TheVariants.{Preterminal, Sub, Forward, Strong, Back, NoBack}
use Rattle.codeco_terms.specs.declared.declarations.Declared.{Declared}
use Rattle.codeco_terms.specs.declared.declarations.Declared.TheVariants as declared
use Rattle.codeco_terms.specs.declared.rules.Rule.{Rule}
use Rattle.codeco_terms.specs.GrammarParts.{GrammarParts}
use Rattle.codeco_text.specs.Names.{is_identifier, is_terminal}
use Rattle.codeco_checked.specs.declared.fault.GrammarFault.{GrammarFault}
use Rattle.codeco_checked.specs.declared.numbers.TheConstants.{FIRST_PLAIN}
use Rattle.codeco_checked.specs.declared.fault.GrammarFault.TheVariants.{Syntax, TooLarge, Undeclared, BadValue, EmptyRule, LeftRecursion, TakenVariable, LabelKind, NoStart, Memory}
use Rattle.codeco_checked.specs.Numbering.{IsNumbered}
use Rattle.codeco_checked.specs.Labels.{IsMisfit}
use Rattle.codeco_checked.specs.Faults.{at_rule, is_too_large, is_undeclared_rule, is_bad_value, is_empty_rule, IsRecursive, is_taking_rule, has_start}

-- the fault holds of the grammar, at the place that it names
abbrev pub Holds : GrammarParts → GrammarFault → Type 0
Holds g (Syntax byte) = ⊥
Holds g (TooLarge n) = IsTrue (is_too_large g n)
Holds g (Undeclared n) = IsTrue (at_rule (is_undeclared_rule g) g.rules n)
Holds g (BadValue n) = IsTrue (is_bad_value g n)
Holds g (EmptyRule n) = IsTrue (at_rule is_empty_rule g.rules n)
Holds g (LeftRecursion n) = (r : Rule) × (0 < n) × (slice_get g.rules (n - 1) ≡ Some r) × IsRecursive g r.head.name
Holds g (TakenVariable n) = IsTrue (at_rule is_taking_rule g.rules n)
Holds g (LabelKind n) = IsMisfit g.rules n
Holds g NoStart = IsTrue (not (has_start g))
Holds g Memory = ⊥

-- each number is at least the one before it
abbrev pub ascends : List ℕ → Bool
ascends [] = true
ascends (x ∷ []) = true
ascends (x ∷ y ∷ ys) = nat_le x y && ascends (y ∷ ys)

abbrev pub is_atom : Value → Bool
is_atom (Atom a) = true
is_atom (Word w) = false
is_atom (Pos p) = false

abbrev pub is_written_term : Term → Bool
is_written_term (Val v) = is_atom v
is_written_term (Var x) = true

-- the features stand in order of number, each with an atom or a variable
abbrev pub is_written : Category → Bool
is_written c = ascends (map (λ f. f.0) c.feats) && list_all (λ f. is_written_term f.1) c.feats

-- a category that is no preterminal
abbrev pub is_written_name : Category → Bool
is_written_name c = nat_le FIRST_PLAIN c.name && is_written c

abbrev pub is_empty : {X : Type 0} → List X → Bool
is_empty [] = true
is_empty (x ∷ xs) = false

abbrev pub is_written_pattern : Pattern → Bool
is_written_pattern p = is_written_name p.cat && ascends (map (λ t. t.0) p.taken)

-- a pattern without marked features
abbrev pub is_plain_pattern : Pattern → Bool
is_plain_pattern p = is_written_name p.cat && is_empty p.taken

abbrev pub is_written_element : Element → Bool
is_written_element (Preterminal c) = nat_lt c.name FIRST_PLAIN && is_written c
is_written_element (Sub c) = is_written_name c
is_written_element (Forward c) = is_written_name c
is_written_element (Strong c) = is_written_name c
is_written_element (Back ps ns) = not (is_empty ps) && list_all is_written_pattern ps && list_all is_plain_pattern ns
is_written_element (NoBack ps) = not (is_empty ps) && list_all is_plain_pattern ps
is_written_element _ = true

abbrev pub is_written_rule : Rule → Bool
is_written_rule r = is_written_name r.head && list_all is_written_element r.body

-- words, positions, or one atom or more
abbrev pub has_values : Declared → Bool
has_values (declared.Atoms xs) = not (is_empty xs)
has_values _ = true

-- The grammar has a text in the notation: the references have their patterns, marked features stand in positive patterns
-- alone, values are atoms, preterminals have the names from 0 to 4 and other categories those from 5 on, features stand
-- in order of number, and names and terminals are spelled as the notation wants.
pub record IsWritten (g : GrammarParts) : Type 0 where
  pub features : IsTrue (list_all (λ f. is_identifier f.name) g.features)
  pub values : IsTrue (list_all (λ f. has_values f.declared) g.features)
  pub atoms : IsTrue (list_all is_identifier g.atoms)
  pub categories : IsTrue (list_all is_identifier g.categories)
  pub terminals : IsTrue (list_all is_terminal g.terminals)
  pub rules : IsTrue (list_all is_written_rule g.rules)

-- The grammar is one of the notation, with the numbers that it gives, and no fault holds.
pub record IsSound (g : GrammarParts) : Type 0 where
  pub written : IsWritten g
  pub numbered : IsNumbered g
  pub faultless : (fault : GrammarFault) → Holds g fault → ⊥

-- every rule has a label
abbrev pub is_labelled : GrammarParts → Bool
is_labelled g = list_all (λ r. is_some r.label) g.rules
