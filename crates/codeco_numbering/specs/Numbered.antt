-- The grammar that declarations and rules make: numbers in place of names, given by first occurrence.
use Rattle.std.specs.Prelude.{ℕ, ◌+◌, ◌&&◌, nat_lt, if◌then◌else◌, Bool, true, false, List, [], ◌∷◌, ◌++◌, map, flat_map, Option, Some, None, codes}
use Rattle.codeco_terms.specs.declared.values.Value.TheVariants.{Atom}
use Rattle.codeco_terms.specs.declared.values.Term.{Term}
use Rattle.codeco_terms.specs.declared.values.Term.TheVariants.{Val, Var}
use Rattle.codeco_terms.specs.declared.categories.Category.{Category}
use Rattle.codeco_terms.specs.declared.categories.Pattern.{Pattern}
use Rattle.codeco_terms.specs.declared.elements.Element.{Element}
use Rattle.codeco_terms.specs.declared.elements.Element.TheVariants.{Terminal, Preterminal, Sub, Position, Opener, Forward, Strong, Back, NoBack}
use Rattle.codeco_terms.specs.declared.declarations.Declared.{Declared}
use Rattle.codeco_terms.specs.declared.declarations.Declared.TheVariants as declared
use Rattle.codeco_terms.specs.declared.declarations.Feature.{Feature}
use Rattle.codeco_terms.specs.declared.rules.Label.{Label}
use Rattle.codeco_terms.specs.declared.rules.Rule.{Rule}
use Rattle.codeco_terms.specs.GrammarParts.{GrammarParts}
use Rattle.codeco_text.specs.declared.written.WrittenTerm.{WrittenTerm}
use Rattle.codeco_text.specs.declared.written.WrittenTerm.TheVariants as term
use Rattle.codeco_text.specs.declared.written.WrittenCategory.{WrittenCategory}
use Rattle.codeco_text.specs.declared.written.WrittenElement.{WrittenElement}
use Rattle.codeco_text.specs.declared.written.WrittenElement.TheVariants as element
use Rattle.codeco_text.specs.declared.written.WrittenRule.{WrittenRule}
use Rattle.codeco_text.specs.declared.written.Domain.{Domain}
use Rattle.codeco_text.specs.declared.written.Domain.TheVariants as domain
use Rattle.codeco_text.specs.declared.written.WrittenItem.{WrittenItem}
use Rattle.codeco_text.specs.declared.written.WrittenItem.TheVariants as item
use Rattle.codeco_text.specs.Names.{same_bytes, is_among}
use Rattle.codeco_text.specs.Notation.{kinds}
use Rattle.codeco_checked.specs.declared.numbers.TheConstants.{FIRST_PLAIN}
use Rattle.codeco_checked.specs.Numbering.{first_features, first_atoms}
use Rattle.codeco_numbering.specs.Labels.{label_name, all_labels}

-- Tables of names

-- the names, and behind them those of the words that are new, each once, in the order of their first occurrence
abbrev pub gathered : List (List ℕ) → List (List ℕ) → List (List ℕ)
gathered names [] = names
gathered names (w ∷ ws) = gathered (if is_among names w then names else names ++ w ∷ []) ws

-- the number of a name: its place, or how many names there are where it isn't among them
abbrev pub number_of : List (List ℕ) → List ℕ → ℕ
number_of [] w = 0
number_of (x ∷ xs) w = if same_bytes w x then 0 else number_of xs w + 1

-- Features and atoms

-- a feature's name, and what it is declared with, if it is
pub record NamedFeature : Type 0 where
  pub name : List ℕ
  pub domain : Option Domain

abbrev pub undeclared : List ℕ → NamedFeature
undeclared name = record { name = name; domain = None }

abbrev pub is_open : Option Domain → Bool
is_open None = true
is_open (Some d) = false

-- with a declaration: at the feature of this name that has none yet, or else behind the others
abbrev pub with_declaration : List NamedFeature → List ℕ → Domain → List NamedFeature
with_declaration [] name d = record { name = name; domain = Some d } ∷ []
with_declaration (f ∷ fs) name d = if same_bytes name f.name && is_open f.domain then record { name = name; domain = Some d } ∷ fs
    else f ∷ with_declaration fs name d

abbrev pub with_item : List NamedFeature → WrittenItem → List NamedFeature
with_item fs (item.Feature name d) = with_declaration fs name d
with_item fs (item.Rule r) = fs

abbrev pub with_items : List NamedFeature → List WrittenItem → List NamedFeature
with_items fs [] = fs
with_items fs (i ∷ is) = with_items (with_item fs i) is

abbrev pub element_categories : WrittenElement → List WrittenCategory
element_categories (element.Preterminal c) = c ∷ []
element_categories (element.Sub c) = c ∷ []
element_categories (element.Forward c) = c ∷ []
element_categories (element.Strong c) = c ∷ []
element_categories (element.Back ps ns) = ps ++ ns
element_categories (element.NoBack ps) = ps
element_categories _ = []

abbrev pub item_rules : WrittenItem → List WrittenRule
item_rules (item.Feature name d) = []
item_rules (item.Rule r) = r ∷ []

abbrev pub rules_of : List WrittenItem → List WrittenRule
rules_of items = flat_map item_rules items

-- with the features of these names that aren't among the others, each once, in the order of their first occurrence
abbrev pub with_undeclared : List NamedFeature → List (List ℕ) → List NamedFeature
with_undeclared fs [] = fs
with_undeclared fs (w ∷ ws) = with_undeclared (if is_among (map (λ f. f.name) fs) w then fs else fs ++ undeclared w ∷ []) ws

abbrev pub category_features : WrittenCategory → List (List ℕ)
category_features c = map (λ f. f.name) c.feats

-- the names of the features that a rule writes, the head's first
abbrev pub written_features : WrittenRule → List (List ℕ)
written_features r = flat_map category_features (r.head ∷ flat_map element_categories r.body)

-- the features: the four first ones, the others that are declared, and those that rules write without a declaration
abbrev pub all_features : List WrittenItem → List NamedFeature
all_features items = with_undeclared (with_items (map undeclared first_features) items) (flat_map written_features (rules_of items))

abbrev pub domain_atoms : Domain → List (List ℕ)
domain_atoms domain.Words = []
domain_atoms domain.Positions = []
domain_atoms (domain.Atoms atoms) = atoms

abbrev pub feature_atoms : Option Domain → List (List ℕ)
feature_atoms None = []
feature_atoms (Some d) = domain_atoms d

-- the atoms by the number of their feature, and then by their place in its declaration
abbrev pub atoms_of : List NamedFeature → List (List ℕ)
atoms_of fs = gathered first_atoms (flat_map (λ f. feature_atoms f.domain) fs)

abbrev pub numbered_domain : List (List ℕ) → Option Domain → Declared
numbered_domain atoms None = declared.Undeclared
numbered_domain atoms (Some domain.Words) = declared.Words
numbered_domain atoms (Some domain.Positions) = declared.Positions
numbered_domain atoms (Some (domain.Atoms names)) = declared.Atoms (map (number_of atoms) names)

abbrev pub numbered_feature : List (List ℕ) → NamedFeature → Feature
numbered_feature atoms f = record { name = f.name; declared = numbered_domain atoms f.domain }

-- Categories

-- a feature put among others that stand in order of number, before the first that isn't of a lower one
abbrev pub put_in_order : ℕ × WrittenTerm → List (ℕ × WrittenTerm) → List (ℕ × WrittenTerm)
put_in_order x [] = x ∷ []
put_in_order x (y ∷ ys) = if nat_lt y.0 x.0 then y ∷ put_in_order x ys else x ∷ y ∷ ys

abbrev pub in_order : List (ℕ × WrittenTerm) → List (ℕ × WrittenTerm)
in_order [] = []
in_order (x ∷ xs) = put_in_order x (in_order xs)

-- the features that a category writes, in order of number
abbrev pub ordered : List (List ℕ) → WrittenCategory → List (ℕ × WrittenTerm)
ordered features c = in_order (map (λ f. (number_of features f.name, f.term)) c.feats)

abbrev pub term_names : WrittenTerm → List (List ℕ)
term_names (term.Atom w) = []
term_names (term.Variable w) = w ∷ []
term_names (term.Taken w) = w ∷ []

abbrev pub category_names : List (List ℕ) → WrittenCategory → List (List ℕ)
category_names features c = flat_map (λ f. term_names f.1) (ordered features c)

-- The tables by which a rule is numbered. The categories are those that are no preterminals, from the first plain number on.
pub record Tables : Type 0 where
  pub features : List (List ℕ)
  pub atoms : List (List ℕ)
  pub terminals : List (List ℕ)
  pub categories : List (List ℕ)
  pub variables : List (List ℕ)

abbrev pub numbered_term : Tables → WrittenTerm → Term
numbered_term t (term.Atom w) = Val (Atom (number_of t.atoms w))
numbered_term t (term.Variable w) = Var (number_of t.variables w)
numbered_term t (term.Taken w) = Var (number_of t.variables w)

-- the features that aren't marked, and those that are
abbrev pub plain_feats : Tables → List (ℕ × WrittenTerm) → List (ℕ × Term)
plain_feats t [] = []
plain_feats t ((n, term.Atom w) ∷ fs) = (n, numbered_term t (term.Atom w)) ∷ plain_feats t fs
plain_feats t ((n, term.Variable w) ∷ fs) = (n, numbered_term t (term.Variable w)) ∷ plain_feats t fs
plain_feats t ((n, term.Taken w) ∷ fs) = plain_feats t fs

abbrev pub taken_feats : Tables → List (ℕ × WrittenTerm) → List (ℕ × ℕ)
taken_feats t [] = []
taken_feats t ((n, term.Atom w) ∷ fs) = taken_feats t fs
taken_feats t ((n, term.Variable w) ∷ fs) = taken_feats t fs
taken_feats t ((n, term.Taken w) ∷ fs) = (n, number_of t.variables w) ∷ taken_feats t fs

abbrev pub numbered_category : Tables → WrittenCategory → Category
numbered_category t c = record { name = FIRST_PLAIN + number_of t.categories c.name; feats = plain_feats t (ordered t.features c) }

-- a preterminal, whose number is the place of its name among the five
abbrev pub numbered_preterminal : Tables → WrittenCategory → Category
numbered_preterminal t c = record { name = number_of kinds c.name; feats = plain_feats t (ordered t.features c) }

abbrev pub numbered_pattern : Tables → WrittenCategory → Pattern
numbered_pattern t c = record { cat = numbered_category t c; taken = taken_feats t (ordered t.features c) }

-- Rules

abbrev pub numbered_element : Tables → WrittenElement → Element
numbered_element t (element.Terminal w) = Terminal (number_of t.terminals w)
numbered_element t (element.Preterminal c) = Preterminal (numbered_preterminal t c)
numbered_element t (element.Sub c) = Sub (numbered_category t c)
numbered_element t (element.Position w) = Position (number_of t.variables w)
numbered_element t element.Opener = Opener
numbered_element t (element.Forward c) = Forward (numbered_category t c)
numbered_element t (element.Strong c) = Strong (numbered_category t c)
numbered_element t (element.Back ps ns) = Back (map (numbered_pattern t) ps) (map (numbered_pattern t) ns)
numbered_element t (element.NoBack ps) = NoBack (map (numbered_pattern t) ps)

-- the variables that an element writes, the features of each category in order of number
abbrev pub element_names : List (List ℕ) → WrittenElement → List (List ℕ)
element_names features (element.Terminal w) = []
element_names features (element.Preterminal c) = category_names features c
element_names features (element.Sub c) = category_names features c
element_names features (element.Position w) = w ∷ []
element_names features element.Opener = []
element_names features (element.Forward c) = category_names features c
element_names features (element.Strong c) = category_names features c
element_names features (element.Back ps ns) = flat_map (category_names features) ps ++ flat_map (category_names features) ns
element_names features (element.NoBack ps) = flat_map (category_names features) ps

-- the variables of a rule in the order of their first occurrence, the head first
abbrev pub variable_names : List (List ℕ) → WrittenRule → List (List ℕ)
variable_names features r = gathered [] (category_names features r.head ++ flat_map (element_names features) r.body)

-- the label of this name among these
abbrev pub label_among : List Label → List ℕ → Option Label
label_among [] w = None
label_among (l ∷ ls) w = if same_bytes w (label_name l) then Some l else label_among ls w

abbrev pub numbered_label : Option (List ℕ) → Option Label
numbered_label None = None
numbered_label (Some w) = label_among all_labels w

abbrev pub numbered_rule : Tables → WrittenRule → Rule
numbered_rule t r = record {
  label = numbered_label r.label;
  head = numbered_category t r.head;
  closing = r.closing;
  body = map (numbered_element t) r.body;
}

-- the categories of an element that are no preterminals
abbrev pub plain_categories : WrittenElement → List WrittenCategory
plain_categories (element.Sub c) = c ∷ []
plain_categories (element.Forward c) = c ∷ []
plain_categories (element.Strong c) = c ∷ []
plain_categories (element.Back ps ns) = ps ++ ns
plain_categories (element.NoBack ps) = ps
plain_categories _ = []

-- the names of the categories that a rule writes and that are no preterminals, the head first
abbrev pub rule_names : WrittenRule → List (List ℕ)
rule_names r = map (λ c. c.name) (r.head ∷ flat_map plain_categories r.body)

abbrev pub written_terminals : WrittenElement → List (List ℕ)
written_terminals (element.Terminal w) = w ∷ []
written_terminals _ = []

-- the grammar that declarations and rules make
abbrev pub numbered_of : List WrittenItem → GrammarParts
numbered_of items =
    let features = all_features items in
    let rules = rules_of items in
    let names = map (λ f. f.name) features in
    let atoms = atoms_of features in
    let terminals = gathered [] (flat_map (λ r. flat_map written_terminals r.body) rules) in
    let categories = gathered (codes "text" ∷ []) (flat_map rule_names rules) in
    record {
      features = map (numbered_feature atoms) features;
      atoms = atoms;
      terminals = terminals;
      categories = kinds ++ categories;
      rules = map (λ r. numbered_rule (record {
        features = names;
        atoms = atoms;
        terminals = terminals;
        categories = categories;
        variables = variable_names names r;
      }) r) rules;
    }
