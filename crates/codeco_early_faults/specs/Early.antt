-- The faults that are told before numbers are given, as tests of what is written. Only private calls speak of it.
use Rattle.std.specs.Prelude.{◌≡◌, ℕ, ◌-◌, ◌<◌, ◌==◌, nat_lt, Bool, true, false, not, ◌&&◌, ◌||◌, List, [], ◌∷◌, ◌++◌, length, map, flat_map, slice_get, Option, Some, None, codes, if◌then◌else◌}
use Rattle.std.specs.List.{list_any}
use Rattle.std.specs.Option.{option_map_or}
use Rattle.wiki_base.specs.declared.text.TheConstants.{LONGEST_TEXT}
use Rattle.codeco_text.specs.declared.written.WrittenCategory.{WrittenCategory}
use Rattle.codeco_text.specs.declared.written.WrittenElement.{WrittenElement}
use Rattle.codeco_text.specs.declared.written.WrittenElement.TheVariants as element
use Rattle.codeco_text.specs.declared.written.WrittenRule.{WrittenRule}
use Rattle.codeco_text.specs.declared.written.WrittenItem.{WrittenItem}
use Rattle.codeco_text.specs.declared.written.WrittenItem.TheVariants as item
use Rattle.codeco_text.specs.Names.{is_among}
use Rattle.codeco_text.specs.Notation.{kinds}
use Rattle.codeco_checked.specs.Numbering.{differ}
use Rattle.codeco_checked.specs.Faults.{count_texts}
use Rattle.codeco_numbering.specs.Numbered.{domain_atoms, element_categories, rules_of, written_features, written_terminals, term_names}
use Rattle.codeco_early_faults.specs.Pairs.{names_with}

-- Declarations

-- the name that an item declares
abbrev pub item_names : WrittenItem → List (List ℕ)
item_names (item.Feature name d) = name ∷ []
item_names (item.Rule r) = []

-- the atoms that an item declares
abbrev pub item_atoms : WrittenItem → List (List ℕ)
item_atoms (item.Feature name d) = domain_atoms d
item_atoms (item.Rule r) = []

abbrev pub declared_names : List WrittenItem → List (List ℕ)
declared_names items = flat_map item_names items

abbrev pub declared_atoms : List WrittenItem → List (List ℕ)
declared_atoms items = flat_map item_atoms items

-- over 1,000 different features or 10,000 different atoms
abbrev pub has_large_written_declarations : List WrittenItem → Bool
has_large_written_declarations items = nat_lt 1000 (count_texts (declared_names items)) || nat_lt 10000 (count_texts (declared_atoms items))

-- a feature that is declared twice, or with one atom twice
abbrev pub has_double_written_declaration : List WrittenItem → Bool
has_double_written_declaration items = not (differ (declared_names items)) || list_any (λ i. not (differ (item_atoms i))) items

-- Categories

-- the features of a category, each with this name
abbrev pub named_pairs : List ℕ → WrittenCategory → List (List ℕ × List ℕ)
named_pairs name c = map (λ f. (name, f.name)) c.feats

-- the features of a category, each with its name
abbrev pub category_pairs : WrittenCategory → List (List ℕ × List ℕ)
category_pairs c = named_pairs c.name c

-- The features of an element's categories that are no preterminals, each with the name of its category. A preterminal
-- that is none of the five would have the number of `text`.
abbrev pub plain_pairs : WrittenElement → List (List ℕ × List ℕ)
plain_pairs (element.Preterminal c) = if is_among kinds c.name then [] else named_pairs (codes "text") c
plain_pairs (element.Sub c) = category_pairs c
plain_pairs (element.Forward c) = category_pairs c
plain_pairs (element.Strong c) = category_pairs c
plain_pairs (element.Back ps ns) = flat_map category_pairs (ps ++ ns)
plain_pairs (element.NoBack ps) = flat_map category_pairs ps
plain_pairs _ = []

-- the features of an element's preterminal, each with its name
abbrev pub kind_pairs : WrittenElement → List (List ℕ × List ℕ)
kind_pairs (element.Preterminal c) = if is_among kinds c.name then category_pairs c else []
kind_pairs _ = []

abbrev pub rule_plain_pairs : WrittenRule → List (List ℕ × List ℕ)
rule_plain_pairs r = category_pairs r.head ++ flat_map plain_pairs r.body

abbrev pub rule_kind_pairs : WrittenRule → List (List ℕ × List ℕ)
rule_kind_pairs r = flat_map kind_pairs r.body

-- each feature that rules write for a category that is no preterminal, with the category's name
abbrev pub written_plain_pairs : List WrittenItem → List (List ℕ × List ℕ)
written_plain_pairs items = flat_map rule_plain_pairs (rules_of items)

-- each feature that rules write for a preterminal, with the preterminal's name
abbrev pub written_kind_pairs : List WrittenItem → List (List ℕ × List ℕ)
written_kind_pairs items = flat_map rule_kind_pairs (rules_of items)

-- one first name with over 16 different second names
abbrev pub has_wide : List (List ℕ × List ℕ) → Bool
has_wide ps = list_any (λ p. nat_lt 16 (count_texts (names_with p.0 ps))) ps

-- a category's name, or a preterminal's, with over 16 different features anywhere
abbrev pub has_broad_written_category : List WrittenItem → Bool
has_broad_written_category items = has_wide (written_plain_pairs items) || has_wide (written_kind_pairs items)

-- Rules

-- the patterns of a reference
abbrev pub written_patterns : WrittenElement → List WrittenCategory
written_patterns (element.Back ps ns) = ps ++ ns
written_patterns (element.NoBack ps) = ps
written_patterns _ = []

-- the variables of #X
abbrev pub written_positions : WrittenElement → List (List ℕ)
written_positions (element.Position w) = w ∷ []
written_positions _ = []

abbrev pub category_variables : WrittenCategory → List (List ℕ)
category_variables c = flat_map (λ f. term_names f.term) c.feats

abbrev pub element_variables : WrittenElement → List (List ℕ)
element_variables e = written_positions e ++ flat_map category_variables (element_categories e)

-- the variables that a rule writes, marked or not
abbrev pub written_variables : WrittenRule → List (List ℕ)
written_variables r = category_variables r.head ++ flat_map element_variables r.body

-- over 16 elements, 16 patterns or 16 different variables, or a terminal over 64 bytes
abbrev pub is_large_written_rule : WrittenRule → Bool
is_large_written_rule r = nat_lt 16 (length r.body)
    || nat_lt 16 (length (flat_map written_patterns r.body))
    || nat_lt 16 (count_texts (written_variables r))
    || list_any (λ w. nat_lt LONGEST_TEXT (length w)) (flat_map written_terminals r.body)

-- a feature that isn't among these names
abbrev pub is_undeclared_written_rule : List (List ℕ) → WrittenRule → Bool
is_undeclared_written_rule names r = list_any (λ w. not (is_among names w)) (written_features r)

-- Places

-- the test at the rule of this number, from 1
abbrev pub at_written_rule : (WrittenRule → Bool) → List WrittenRule → ℕ → Bool
at_written_rule test rules n = nat_lt 0 n && option_map_or test (slice_get rules (n - 1)) false

-- a large rule, or rule 501
abbrev pub is_large_place : List WrittenRule → ℕ → Bool
is_large_place rules n = at_written_rule is_large_written_rule rules n || ((n == 501) && nat_lt 500 (length rules))

-- a rule with a feature that isn't declared
abbrev pub is_undeclared_place : List WrittenItem → ℕ → Bool
is_undeclared_place items n = at_written_rule (is_undeclared_written_rule (declared_names items)) (rules_of items) n

-- a limit that is passed
abbrev pub is_too_large_place : List WrittenItem → ℕ → Bool
is_too_large_place items n = ((n == 0) && has_large_written_declarations items)
    || ((n == 1) && has_broad_written_category items)
    || is_large_place (rules_of items) n

-- the test holds at this place, and at none before it
pub record IsFirstPlace (test : ℕ → Bool) (place : ℕ) : Type 0 where
  pub holds : test place ≡ true
  pub least : (n : ℕ) → n < place → test n ≡ false

-- the first place at which the test holds, or none where it holds nowhere
abbrev pub FindsFirst : (ℕ → Bool) → Option ℕ → Type 0
FindsFirst test None = (n : ℕ) → test n ≡ false
FindsFirst test (Some place) = IsFirstPlace test place
