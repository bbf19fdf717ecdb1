-- How derivations are listed. Only private calls speak of it. Rules are gone through top down, each with its ground instances,
-- and a variable that the category asked for has fixed isn't tried again.
use Rattle.std.specs.Prelude.{ℕ, zero, suc, ◌+◌, ◌==◌, ◌&&◌, if◌then◌else◌, Bool, false, List, [], ◌∷◌, ◌++◌, length, map, Option, Some, None}
use Rattle.std.specs.List.{flat_map, list_any, range_with_len}
use Rattle.std.specs.Option.{option_map_or}
use Rattle.codeco_terms.specs.declared.values.Value.{Value}
use Rattle.codeco_terms.specs.declared.values.Value.TheVariants.{Atom, Word, Pos}
use Rattle.codeco_terms.specs.declared.values.Term.{Term}
use Rattle.codeco_terms.specs.declared.values.Term.TheVariants.{Val, Var}
use Rattle.codeco_terms.specs.declared.categories.Pattern.{Pattern}
use Rattle.codeco_terms.specs.declared.categories.Ground.{Ground}
use Rattle.codeco_terms.specs.declared.declarations.Declared.{Declared}
use Rattle.codeco_terms.specs.declared.declarations.Declared.TheVariants as declared
use Rattle.codeco_terms.specs.declared.elements.Element.{Element}
use Rattle.codeco_terms.specs.declared.elements.Element.TheVariants.{Terminal, Preterminal, Sub, Position, Opener, Forward, Strong, Back, NoBack}
use Rattle.codeco_terms.specs.declared.rules.Rule.{Rule}
use Rattle.codeco_terms.specs.Values.{same_value}
use Rattle.scopes.specs.declared.entries.Entry.{Entry}
use Rattle.scopes.specs.declared.agreement.Test.{Test}
use Rattle.scopes.specs.Resolution.{Finding, closest_finding}
use Rattle.codeco_checked.specs.Faults.{values_of}
use Rattle.derivation_trees.specs.Trees.{Node, node, nodes_from}
use Rattle.derivation_trees.specs.Settings.{Setting}
use Rattle.derivation_trees.specs.Instances.{under, written_variables, rule_own_features, own_values, is_instance}
use Rattle.derivation_trees.specs.Derives.{At, pass, reference_tests, fits, list_after}
use Rattle.derivation_trees.specs.Starts.{may_start}

-- A node of which some elements are passed: the positions that its references have found, its own variables to come, its
-- children, and the place and the list where it stands.
pub record Path : Type 0 where
  pub found : List ℕ
  pub own : List (ℕ × Value)
  pub children : List Node
  pub at : At

-- a tree, and where it leads
pub record Outcome : Type 0 where
  pub tree : Node
  pub at : At

-- Values

-- the values with one more, where it isn't there yet
abbrev pub with_value : List Value → Value → List Value
with_value values value = if list_any (same_value value) values then values else values ++ value ∷ []

-- the values with those of a feature among pairs, each once
abbrev pub with_given : List Value → List (ℕ × Value) → ℕ → List Value
with_given values [] feature = values
with_given values (p ∷ ps) feature = with_given (if p.0 == feature then with_value values p.1 else values) ps feature

-- the values of a feature among pairs
abbrev pub given : List (ℕ × Value) → ℕ → List Value
given pairs feature = with_given [] pairs feature

-- the values with the words of readings
abbrev pub with_words : List Value → List Ground → List Value
with_words values [] = values
with_words values (r ∷ rs) = with_words (with_given values r.vals 3) rs

abbrev pub with_all_words : List Value → List (List Ground) → List Value
with_all_words values [] = values
with_all_words values (rs ∷ rest) = with_all_words (with_words values rs) rest

-- word 0 and the words with a form among the tokens
abbrev pub word_values : Setting → List Value
word_values s = with_all_words (Word (record { 0 = 0 }) ∷ []) s.readings

-- the positions 0 to the number of tokens
abbrev pub position_values : Setting → List Value
position_values s = map (λ p. Pos p) (range_with_len 0 (length s.tokens + 1))

abbrev pub atom_values : List ℕ → List Value
atom_values atoms = map (λ a. Atom a) atoms

-- the values that are declared
abbrev pub declared_values : Setting → Declared → List Value
declared_values s declared.Undeclared = []
declared_values s declared.Words = word_values s
declared_values s declared.Positions = position_values s
declared_values s (declared.Atoms atoms) = atom_values atoms

-- the values of a feature
abbrev pub feature_values : Setting → ℕ → List Value
feature_values s feature = declared_values s (values_of s.grammar feature)

-- Instances

-- marked variables, as features
abbrev pub taken_terms : List (ℕ × ℕ) → List (ℕ × Term)
taken_terms taken = map (λ t. (t.0, Var t.1)) taken

-- the features that are written in a pattern, the marked ones last
abbrev pub pattern_terms : Pattern → List (ℕ × Term)
pattern_terms p = p.cat.feats ++ taken_terms p.taken

-- the features that are written in an element
abbrev pub element_terms : Element → List (ℕ × Term)
element_terms (Preterminal c) = c.feats
element_terms (Sub c) = c.feats
element_terms (Forward c) = c.feats
element_terms (Strong c) = c.feats
element_terms (Back positive negative) = flat_map pattern_terms positive ++ flat_map pattern_terms negative
element_terms (NoBack patterns) = flat_map pattern_terms patterns
element_terms _ = []

-- the features that are written in a rule
abbrev pub rule_terms : Rule → List (ℕ × Term)
rule_terms rule = rule.head.feats ++ flat_map element_terms rule.body

-- the term is the variable
abbrev pub is_variable : ℕ → Term → Bool
is_variable x (Val v) = false
is_variable x (Var y) = x == y

-- the first feature at which a variable is written
abbrev pub feature_at : ℕ → List (ℕ × Term) → Option ℕ
feature_at x [] = None
feature_at x (f ∷ fs) = if is_variable x f.1 then Some f.0 else feature_at x fs

-- the pairs have the feature
abbrev pub has_feature : List (ℕ × Value) → ℕ → Bool
has_feature pairs feature = list_any (λ p. p.0 == feature) pairs

-- the first feature at which a variable is written, of those that pairs have
abbrev pub fixed_at : List (ℕ × Value) → ℕ → List (ℕ × Term) → Option ℕ
fixed_at pairs x [] = None
fixed_at pairs x (f ∷ fs) = if is_variable x f.1 && has_feature pairs f.0 then Some f.0 else fixed_at pairs x fs

-- the values to be tried for a variable that isn't fixed: those of a feature at which it is written, or the positions
abbrev pub free_among : Setting → List (ℕ × Term) → ℕ → List Value
free_among s terms x = option_map_or (feature_values s) (feature_at x terms) (position_values s)

-- the values to be tried for a variable: the one that the category asked for fixes, or all
abbrev pub tried_among : Setting → Rule → List (ℕ × Term) → Test → ℕ → List Value
tried_among s rule terms wanted x = option_map_or (given wanted.values) (fixed_at wanted.values x rule.head.feats) (free_among s terms x)

-- a variable with the values to be tried
abbrev pub choice_among : Setting → Rule → List (ℕ × Term) → Test → ℕ → ℕ × List Value
choice_among s rule terms wanted x = (x, tried_among s rule terms wanted x)

-- the own variables with the values to be tried, from a number on
abbrev pub own_choices : Setting → ℕ → List ℕ → List (ℕ × List Value)
own_choices s number [] = []
own_choices s number (f ∷ fs) = (number, feature_values s f) ∷ own_choices s (number + 1) fs

-- the written variables of a rule with the values to be tried
abbrev pub written_choices : Setting → Rule → Test → List (ℕ × List Value)
written_choices s rule wanted = map (choice_among s rule (rule_terms rule) wanted) (written_variables rule)

-- the features of a rule's own variables
abbrev pub own_features_of : Setting → Rule → List ℕ
own_features_of s rule = rule_own_features s.grammar rule

-- the variables of a rule with the values to be tried
abbrev pub choices : Setting → Rule → Test → List (ℕ × List Value)
choices s rule wanted = written_choices s rule wanted ++ own_choices s 16 (own_features_of s rule)

-- an instance with one more variable, in each way
abbrev pub lengthened_one : ℕ × List Value → List (ℕ × Value) → List (List (ℕ × Value))
lengthened_one choice values = map (λ v. values ++ (choice.0, v) ∷ []) choice.1

-- the instances with one more variable, in each way
abbrev pub lengthened : ℕ × List Value → List (List (ℕ × Value)) → List (List (ℕ × Value))
lengthened choice done = flat_map (lengthened_one choice) done

-- the instances that choices give, after values that are chosen
abbrev pub chosen : List (ℕ × List Value) → List (List (ℕ × Value)) → List (List (ℕ × Value))
chosen [] done = done
chosen (c ∷ cs) done = chosen cs (lengthened c done)

-- the instances of a rule whose head may fit a category
abbrev pub instances : Setting → Rule → Test → List (List (ℕ × Value))
instances s rule wanted = chosen (choices s rule wanted) ([] ∷ [])

-- Elements

-- the position of what is found
abbrev pub found_position : Option Finding → List ℕ
found_position finding = option_map_or (λ f. f.pos ∷ []) finding []

-- what a backward reference finds
abbrev pub found_at : List (ℕ × Value) → Element → List Entry → List ℕ
found_at values (Back positive negative) list =
    found_position (closest_finding (reference_tests values positive negative) list)
found_at values _ list = []

-- the path after an element that is no category
abbrev pub passed : Setting → List (ℕ × Value) → Element → Path → List Path
passed s values e path =
    option_map_or (λ stand. record { found = path.found ++ found_at values e path.at.list; own = stand.own; children = path.children; at = stand.at } ∷ [])
    (pass s values e (record { at = path.at; found = found_at values e path.at.list; own = path.own; children = [] })) []

-- the path after a child
abbrev pub joined : Path → Outcome → Path
joined path child = record { found = path.found; own = path.own; children = path.children ++ child.tree ∷ []; at = child.at }

-- the paths after an element, where the trees for a category at a place and a list are given
abbrev pub steps : Setting → (Test → At → List Outcome) → List (ℕ × Value) → Element → Path → List Path
steps s trees values (Terminal t) path = passed s values (Terminal t) path
steps s trees values (Preterminal c) path = passed s values (Preterminal c) path
steps s trees values (Sub c) path = map (joined path) (trees (under values c) path.at)
steps s trees values (Position x) path = passed s values (Position x) path
steps s trees values Opener path = passed s values Opener path
steps s trees values (Forward c) path = passed s values (Forward c) path
steps s trees values (Strong c) path = passed s values (Strong c) path
steps s trees values (Back positive negative) path = passed s values (Back positive negative) path
steps s trees values (NoBack patterns) path = passed s values (NoBack patterns) path

-- the paths after elements
abbrev pub all_steps : Setting → (Test → At → List Outcome) → List (ℕ × Value) → List Element → List Path → List Path
all_steps s trees values [] paths = paths
all_steps s trees values (e ∷ es) paths = all_steps s trees values es (flat_map (steps s trees values e) paths)

-- Rules

-- the path at a node's start
abbrev pub opened : Rule → List (ℕ × Value) → At → Path
opened rule values at = record { found = []; own = own_values rule values; children = []; at = at }

-- the tree at the end of a path
abbrev pub ended_path : ℕ → Rule → List (ℕ × Value) → List Entry → Path → Outcome
ended_path number rule values begun path = record {
  tree = node number values path.found (nodes_from path.children);
  at = record { place = path.at.place; list = list_after rule.closing begun path.at.list };
}

-- a node with the rule and these values may begin: they are an instance, and the head fits the category
abbrev pub may_begin : Setting → Rule → Test → List (ℕ × Value) → Bool
may_begin s rule wanted values = fits (under values rule.head) wanted && is_instance s rule values

-- the trees with a rule and an instance
abbrev pub instance_trees : Setting → (Test → At → List Outcome) → Test → At → ℕ → Rule → List (ℕ × Value) → List Outcome
instance_trees s trees wanted at number rule values =
    if may_begin s rule wanted values
    then map (ended_path number rule values at.list) (all_steps s trees values rule.body (opened rule values at ∷ []))
    else []

-- the trees with a rule, of which the first element that takes tokens may stand at the place
abbrev pub rule_trees : Setting → (Test → At → List Outcome) → Test → At → ℕ → Rule → List Outcome
rule_trees s trees wanted at number rule =
    if (rule.head.name == wanted.name) && may_start s at.place rule.body then flat_map (instance_trees s trees wanted at number rule) (instances s rule wanted)
    else []

-- the trees with any of the rules, of which the first has the number
abbrev pub rules_trees : Setting → (Test → At → List Outcome) → Test → At → ℕ → List Rule → List Outcome
rules_trees s trees wanted at number [] = []
rules_trees s trees wanted at number (rule ∷ rules) =
    rule_trees s trees wanted at number rule ++ rules_trees s trees wanted at (number + 1) rules

-- the trees for a category at a place and a list, up to a depth
abbrev pub trees_of : Setting → ℕ → Test → At → List Outcome
trees_of s zero wanted at = []
trees_of s (suc depth) wanted at = rules_trees s (trees_of s depth) wanted at 1 s.grammar.rules
