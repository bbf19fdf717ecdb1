-- The faults of a grammar that a text spells, each with the rule at which it holds.
use Rattle.std.specs.Prelude.{◌≡◌, ℕ, ◌+◌, ◌-◌, ◌==◌, nat_lt, if◌then◌else◌, Bool, true, false, not, ◌&&◌, ◌||◌, List, [], ◌∷◌, length, map, filter, flat_map, slice_get, slice_index_or, Contains, Option, Some, None}
use Rattle.std.specs.List.{list_all, list_any, range_with_len}
use Rattle.std.specs.Option.{option_map_or}
use Rattle.codeco_terms.specs.declared.values.Value.{Value}
use Rattle.codeco_terms.specs.declared.values.Value.TheVariants.{Atom, Word, Pos}
use Rattle.codeco_terms.specs.declared.values.Term.{Term}
use Rattle.codeco_terms.specs.declared.values.Term.TheVariants.{Val, Var}
use Rattle.codeco_terms.specs.declared.categories.Category.{Category}
use Rattle.codeco_terms.specs.declared.categories.Pattern.{Pattern}
use Rattle.codeco_terms.specs.declared.elements.Element.{Element}
use Rattle.codeco_terms.specs.declared.elements.Element.TheVariants.{Terminal, Preterminal, Sub}
use Rattle.codeco_terms.specs.declared.declarations.Declared.{Declared}
use Rattle.codeco_terms.specs.declared.declarations.Declared.TheVariants as declared
use Rattle.codeco_terms.specs.declared.rules.Rule.{Rule}
use Rattle.codeco_terms.specs.GrammarParts.{GrammarParts}
use Rattle.codeco_text.specs.Names.{is_among}
use Rattle.wiki_base.specs.declared.text.TheConstants.{LONGEST_TEXT}
use Rattle.codeco_checked.specs.declared.numbers.TheConstants.{FIRST_PLAIN}
use Rattle.codeco_checked.specs.Occurrences.{rule_mentions, rule_features, rule_variables, rule_terminals, term_variables, category_variables, positions, patterns}
use Rattle.codeco_checked.specs.Numbering.{has, count_different, differ, declared_atoms, grammar_atoms, is_declared}

-- the test at the rule of this number, from 1
abbrev pub at_rule : (Rule → Bool) → List Rule → ℕ → Bool
at_rule test rules n = nat_lt 0 n && option_map_or test (slice_get rules (n - 1)) false

-- what a feature is declared with
abbrev pub values_of : GrammarParts → ℕ → Declared
values_of g f = option_map_or (λ x. x.declared) (slice_get g.features f) declared.Undeclared

-- TooLarge

-- how many texts there are, each counted once
abbrev pub count_texts : List (List ℕ) → ℕ
count_texts [] = 0
count_texts (x ∷ xs) = count_texts xs + (if is_among xs x then 0 else 1)

-- the features that are written with a category's name anywhere
abbrev pub features_written : GrammarParts → ℕ → List ℕ
features_written g name = flat_map (λ r. flat_map (λ c. if c.name == name then map (λ f. f.0) c.feats else []) (rule_mentions r)) g.rules

abbrev pub has_broad_category : GrammarParts → Bool
has_broad_category g = list_any (λ name. nat_lt 16 (count_different (features_written g name))) (range_with_len 0 (length g.categories))

abbrev pub is_large_rule : GrammarParts → Rule → Bool
is_large_rule g r = nat_lt 16 (length r.body)
    || nat_lt 16 (length (flat_map patterns r.body))
    || nat_lt 16 (count_different (rule_variables r))
    || list_any (λ t. nat_lt LONGEST_TEXT (length (slice_index_or g.terminals t []))) (rule_terminals r)

abbrev pub has_large_declarations : GrammarParts → Bool
has_large_declarations g = nat_lt 1000 (count_texts (map (λ f. f.name) (filter (λ f. is_declared f.declared) g.features)))
    || nat_lt 10000 (count_different (grammar_atoms g))

abbrev pub is_too_large : GrammarParts → ℕ → Bool
is_too_large g n = ((n == 0) && has_large_declarations g)
    || ((n == 1) && has_broad_category g)
    || at_rule (is_large_rule g) g.rules n
    || ((n == 501) && nat_lt 500 (length g.rules))

-- Undeclared

abbrev pub is_undeclared_rule : GrammarParts → Rule → Bool
is_undeclared_rule g r = list_any (λ f. not (is_declared (values_of g f.0))) (rule_features r)

-- BadValue

-- the same values, atoms as a set
abbrev pub same_values : Declared → Declared → Bool
same_values declared.Undeclared declared.Undeclared = true
same_values declared.Words declared.Words = true
same_values declared.Positions declared.Positions = true
same_values (declared.Atoms xs) (declared.Atoms ys) = list_all (has ys) xs && list_all (has xs) ys
same_values _ _ = false

abbrev pub value_fits : Declared → Value → Bool
value_fits d (Atom a) = has (declared_atoms d) a
value_fits d (Word w) = false
value_fits d (Pos p) = false

-- a variable, or an atom that is among the values
abbrev pub fits_declared : Declared → Term → Bool
fits_declared d (Val v) = value_fits d v
fits_declared d (Var x) = true

abbrev pub has_wrong_atom : GrammarParts → Rule → Bool
has_wrong_atom g r = list_any (λ f. not (fits_declared (values_of g f.0) f.1)) (rule_features r)

abbrev pub same_variable : Term → Term → Bool
same_variable (Val v) u = false
same_variable (Var x) u = has (term_variables u) x

-- a variable in two features of different values
abbrev pub has_mixed_variable : GrammarParts → Rule → Bool
has_mixed_variable g r = list_any (λ f. list_any (λ h. same_variable f.1 h.1 && not (same_values (values_of g f.0) (values_of g h.0))) (rule_features r))
    (rule_features r)

-- #X where X stands in a feature that isn't of positions
abbrev pub has_wrong_position : GrammarParts → Rule → Bool
has_wrong_position g r = list_any (λ x. list_any (λ f. has (term_variables f.1) x && not (same_values (values_of g f.0) declared.Positions)) (rule_features r))
    (flat_map positions r.body)

abbrev pub is_double : List ℕ → Bool
is_double xs = nat_lt (count_different xs) (length xs)

-- a feature that is written twice in a category
abbrev pub has_double_feature : Rule → Bool
has_double_feature r = list_any (λ c. is_double (map (λ f. f.0) c.feats)) (rule_mentions r)

-- the features that the words of a kind give, by the number of the preterminal
abbrev pub given_features : ℕ → List ℕ
given_features name = if name == 0 then 3 ∷ []
    else (if name == 1 then 0 ∷ 1 ∷ 3 ∷ [] else (if name == 2 then 1 ∷ 3 ∷ [] else (if name == 3 then 2 ∷ 3 ∷ [] else (if name == 4 then 3 ∷ [] else []))))

-- the values of the features that words give: num is sg or pl, vow yes or no, form third, inf or part, and w a word
abbrev pub given_values : ℕ → Declared
given_values f = if f == 0 then declared.Atoms (0 ∷ 1 ∷ [])
    else (if f == 1 then declared.Atoms (2 ∷ 3 ∷ []) else (if f == 2 then declared.Atoms (4 ∷ 5 ∷ 6 ∷ []) else declared.Words))

abbrev pub preterminals : Element → List Category
preterminals (Preterminal c) = c ∷ []
preterminals _ = []

abbrev pub is_wrong_preterminal : GrammarParts → Category → Bool
is_wrong_preterminal g c = list_any (λ f. not (has (given_features c.name) f.0 && same_values (values_of g f.0) (given_values f.0))) c.feats

-- a preterminal with a feature that words of its kind don't give, or with one that is declared with other values
abbrev pub has_wrong_preterminal : GrammarParts → Rule → Bool
has_wrong_preterminal g r = list_any (is_wrong_preterminal g) (flat_map preterminals r.body)

abbrev pub is_bad_rule : GrammarParts → Rule → Bool
is_bad_rule g r = has_wrong_atom g r || has_mixed_variable g r || has_wrong_position g r || has_double_feature r || has_wrong_preterminal g r

-- a feature that is declared twice, or with one atom twice
abbrev pub has_double_declaration : GrammarParts → Bool
has_double_declaration g = not (differ (map (λ f. f.name) g.features)) || list_any (λ f. is_double (declared_atoms f.declared)) g.features

abbrev pub is_bad_value : GrammarParts → ℕ → Bool
is_bad_value g n = ((n == 0) && has_double_declaration g) || at_rule (is_bad_rule g) g.rules n

-- EmptyRule

-- a terminal, a preterminal or a category
abbrev pub is_phrase : Element → Bool
is_phrase (Terminal t) = true
is_phrase (Preterminal c) = true
is_phrase (Sub c) = true
is_phrase _ = false

abbrev pub is_empty_rule : Rule → Bool
is_empty_rule r = not (list_any is_phrase r.body)

-- LeftRecursion

abbrev pub sub_name : Element → Option ℕ
sub_name (Sub c) = Some c.name
sub_name _ = None

-- the category that stands first in a body, where special elements are passed over
abbrev pub first_category : List Element → Option ℕ
first_category [] = None
first_category (e ∷ es) = if is_phrase e then sub_name e else first_category es

-- a step from the head of a rule to the category that stands first in it
abbrev pub StepsTo : GrammarParts → ℕ → ℕ → Type 0
StepsTo g from to = (r : Rule) × Contains g.rules r × (r.head.name ≡ from) × (first_category r.body ≡ Some to)

-- steps from one category to the next, over those named between
abbrev pub Leads : GrammarParts → ℕ → List ℕ → ℕ → Type 0
Leads g from [] to = StepsTo g from to
Leads g from (c ∷ cs) to = StepsTo g from c × Leads g c cs to

-- a category that reaches itself by one step or more
abbrev pub IsRecursive : GrammarParts → ℕ → Type 0
IsRecursive g name = (between : List ℕ) × Leads g name between name

-- TakenVariable

abbrev pub taken_variables : Pattern → List ℕ
taken_variables p = map (λ t. t.1) p.taken

-- a variable that is marked and also plain in one reference
abbrev pub is_taken : Element → Bool
is_taken e = list_any (λ x. has (flat_map (λ p. category_variables p.cat) (patterns e)) x) (flat_map taken_variables (patterns e))

abbrev pub is_taking_rule : Rule → Bool
is_taking_rule r = list_any is_taken r.body

-- NoStart

abbrev pub has_start : GrammarParts → Bool
has_start g = list_any (λ r. r.head.name == FIRST_PLAIN) g.rules
