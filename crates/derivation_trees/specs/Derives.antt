-- Derivations: what the elements of a rule do, and where a tree leads.
use Rattle.std.specs.Prelude.{◌≡◌, ℕ, ◌+◌, ◌-◌, ◌==◌, ◌&&◌, ◌||◌, not, if◌then◌else◌, Bool, true, false, List, [], ◌∷◌, ◌++◌, length, drop, slice_get, Option, Some, None, option_and_then}
use Rattle.std.specs.List.{list_all, list_any}
use Rattle.codeco_terms.specs.declared.values.Value.{Value}
use Rattle.codeco_terms.specs.declared.values.Value.TheVariants.{Atom, Pos}
use Rattle.codeco_terms.specs.declared.values.Term.{Term}
use Rattle.codeco_terms.specs.declared.categories.Category.{Category}
use Rattle.codeco_terms.specs.declared.categories.Pattern.{Pattern}
use Rattle.codeco_terms.specs.declared.categories.Ground.{Ground}
use Rattle.codeco_terms.specs.declared.elements.Element.{Element}
use Rattle.codeco_terms.specs.declared.elements.Element.TheVariants.{Terminal, Preterminal, Sub, Position, Opener, Forward, Strong, Back, NoBack}
use Rattle.codeco_terms.specs.declared.rules.Rule.{Rule}
use Rattle.codeco_terms.specs.GrammarParts.{GrammarParts}
use Rattle.codeco_terms.specs.Values.{same_value}
use Rattle.codeco_checked.specs.declared.numbers.TheConstants.{FIRST_PLAIN}
use Rattle.scopes.specs.declared.entries.Entry.{Entry}
use Rattle.scopes.specs.declared.entries.Entry.TheVariants as entry
use Rattle.scopes.specs.declared.agreement.Test.{Test}
use Rattle.scopes.specs.declared.agreement.Tests.{Tests}
use Rattle.scopes.specs.AccessList.{closed, introduced}
use Rattle.scopes.specs.Resolution.{has_value, is_agreeing, Finding, closest_finding}
use Rattle.derivation_trees.specs.Trees.{Node, Nodes, node, none, more}
use Rattle.derivation_trees.specs.Settings.{Setting, matches_terminal, matches_preterminal}
use Rattle.derivation_trees.specs.Instances.{looked_up, unwritten, value_under, term_value, under, tests_under, features_of, own_values, is_instance}

-- a place in the tokens, the number of tokens before it, and the access list there
pub record At : Type 0 where
  pub place : ℕ
  pub list : List Entry

-- what a phrase does: for a category that is asked for, from a place and a list, it leads to a place and a list, or fails
abbrev pub Phrase : Type 0
Phrase = Test → At → Option At

-- Where a node stands after some of its elements: the place and the list there, and what is still to come, which is the
-- positions that its references have found, the rule's own variables, and the phrases of its children.
pub record Stand : Type 0 where
  pub at : At
  pub found : List ℕ
  pub own : List (ℕ × Value)
  pub children : List Phrase

-- the stand with another place and list
abbrev pub moved : Stand → ℕ → List Entry → Stand
moved stand place list = record { at = record { place = place; list = list }; found = stand.found; own = stand.own; children = stand.children }

-- a token at the place, where it matches
abbrev pub pass_token : Bool → Stand → Option Stand
pass_token matching stand = if matching then Some (moved stand (stand.at.place + 1) stand.at.list) else None

-- the next child, where it is a phrase for the category
abbrev pub pass_child : Test → List Phrase → Stand → Option Stand
pass_child asked [] stand = None
pass_child asked (child ∷ rest) stand =
    option_and_then (λ at. Some (record { at = at; found = stand.found; own = stand.own; children = rest })) (child asked stand.at)

-- the first of the own variables' values
abbrev pub first_value : List (ℕ × Value) → Value
first_value [] = Atom 0
first_value (p ∷ ps) = p.1

-- the value of a feature of an introduced referent: that of the term that is written, else that of an own variable
abbrev pub filled_value : List (ℕ × Value) → List (ℕ × Value) → Option Term → Value
filled_value values own (Some t) = term_value values t
filled_value values own None = first_value own

-- the own variables to come after that
abbrev pub own_after : List (ℕ × Value) → Option Term → List (ℕ × Value)
own_after own (Some t) = own
own_after own None = drop 1 own

-- the values of features, where a category writes some of them and leaves the others to own variables
abbrev pub filled : List (ℕ × Value) → List (ℕ × Term) → List ℕ → List (ℕ × Value) → List (ℕ × Value)
filled values feats [] own = []
filled values feats (f ∷ fs) own =
    (f, filled_value values own (looked_up feats f)) ∷ filled values feats fs (own_after own (looked_up feats f))

-- the own variables to come after the features: one has gone for each that isn't written
abbrev pub own_rest : List (ℕ × Term) → List ℕ → List (ℕ × Value) → List (ℕ × Value)
own_rest feats features own = drop (length (unwritten feats features)) own

-- the referent that a category introduces: it has all features of the category
abbrev pub referent : GrammarParts → List (ℕ × Value) → Category → List (ℕ × Value) → Ground
referent g values category own = record { name = category.name; vals = filled values category.feats (features_of g category.name) own }

-- an introduction, at the present place
abbrev pub pass_introduction : GrammarParts → List (ℕ × Value) → Category → Bool → Stand → Stand
pass_introduction g values category strong stand = record {
  at = record { place = stand.at.place; list = stand.at.list ++ introduced (referent g values category stand.own) stand.at.place strong ∷ [] };
  found = stand.found;
  own = own_rest category.feats (features_of g category.name) stand.own;
  children = stand.children;
}

-- the marked variables of a pattern have the values of the referent
abbrev pub takes : List (ℕ × Value) → Ground → Option Pattern → Bool
takes values referent None = false
takes values referent (Some pattern) = list_all (λ t. has_value referent.vals (t.0, value_under values t.1)) pattern.taken

-- the referent that is found is at the position, and the first pattern that agrees takes its values
abbrev pub is_found : List (ℕ × Value) → List Pattern → ℕ → Option Finding → Bool
is_found values positive pos None = false
is_found values positive pos (Some finding) = (finding.pos == pos) && takes values finding.referent (slice_get positive finding.pattern)

-- a reference finds the referent at the position that is to come
abbrev pub pass_finding : List (ℕ × Value) → List Pattern → Option Finding → List ℕ → Stand → Option Stand
pass_finding values positive finding [] stand = None
pass_finding values positive finding (pos ∷ rest) stand =
    if is_found values positive pos finding then Some (record { at = stand.at; found = rest; own = stand.own; children = stand.children }) else None

-- the tests of a reference
abbrev pub reference_tests : List (ℕ × Value) → List Pattern → List Pattern → Tests
reference_tests values positive negative = record { positive = tests_under values positive; negative = tests_under values negative }

-- Where a node stands after an element, from where it stood before: a terminal or a preterminal matches the token at the
-- place and moves on by one; a category's child is a phrase for it; `#X` holds where X is the place; `//`, `>` and `>>`
-- add to the list; `<` finds the closest referent, and `/<` holds where no referent agrees.
abbrev pub pass : Setting → List (ℕ × Value) → Element → Stand → Option Stand
pass s values (Terminal t) stand = pass_token (matches_terminal s t stand.at.place) stand
pass s values (Preterminal c) stand = pass_token (matches_preterminal s (under values c) stand.at.place) stand
pass s values (Sub c) stand = pass_child (under values c) stand.children stand
pass s values (Position x) stand = if same_value (value_under values x) (Pos stand.at.place) then Some stand else None
pass s values Opener stand = Some (moved stand stand.at.place (stand.at.list ++ entry.Opener ∷ []))
pass s values (Forward c) stand = Some (pass_introduction s.grammar values c false stand)
pass s values (Strong c) stand = Some (pass_introduction s.grammar values c true stand)
pass s values (Back positive negative) stand =
    pass_finding values positive (closest_finding (reference_tests values positive negative) stand.at.list) stand.found stand
pass s values (NoBack patterns) stand = if list_any (is_agreeing (tests_under values patterns)) stand.at.list then None else Some stand

-- where a node stands after elements, from left to right
abbrev pub run : Setting → List (ℕ × Value) → List Element → Stand → Option Stand
run s values [] stand = Some stand
run s values (e ∷ es) stand = option_and_then (run s values es) (pass s values e stand)

abbrev pub is_none_left : {X : Type 0} → List X → Bool
is_none_left [] = true
is_none_left (x ∷ xs) = false

-- the list after a phrase that began with a list: closed where the rule is scope-closing
abbrev pub list_after : Bool → List Entry → List Entry → List Entry
list_after closing begun list = if closing then begun ++ closed (drop (length begun) list) else list

-- where a phrase ends after its last element: no found position and no child is left over
abbrev pub ended : Rule → List Entry → Stand → Option At
ended rule begun stand =
    if is_none_left stand.found && is_none_left stand.children then Some (record { place = stand.at.place; list = list_after rule.closing begun stand.at.list })
    else None

-- where the features are one, the values are the same
abbrev pub same_where_both : (ℕ × Value) → (ℕ × Value) → Bool
same_where_both p q = not (p.0 == q.0) || same_value p.1 q.1

-- the names are equal, and each feature written in both has the same value
abbrev pub fits : Test → Test → Bool
fits head asked = (head.name == asked.name) && list_all (λ p. list_all (same_where_both p) asked.values) head.values

-- where a node begins, at a place with a list: its rule's head fits the category, and its values are an instance
abbrev pub begun : Setting → Rule → List (ℕ × Value) → List ℕ → List Phrase → Test → At → Option Stand
begun s rule values found children asked at =
    if fits (under values rule.head) asked && is_instance s rule values
    then Some (record { at = at; found = found; own = own_values rule values; children = children }) else None

-- what a node does whose rule, instance, found positions and children are these
abbrev pub phrase : Setting → Rule → List (ℕ × Value) → List ℕ → List Phrase → Phrase
phrase s rule values found children asked at =
    option_and_then (λ stand. option_and_then (ended rule at.list) (run s values rule.body stand)) (begun s rule values found children asked at)

-- the rule with the number, from 1
abbrev pub rule_with : GrammarParts → ℕ → Option Rule
rule_with g n = if n == 0 then None else slice_get g.rules (n - 1)

abbrev mutual
  -- what a node does, by its rule and its children
  pub phrase_of : Setting → Node → Phrase
  phrase_of s (node rule values found children) asked at =
      option_and_then (λ r. phrase s r values found (phrases_of s children) asked at) (rule_with s.grammar rule)

  pub phrases_of : Setting → Nodes → List Phrase
  phrases_of s none = []
  phrases_of s (more n ns) = phrase_of s n ∷ phrases_of s ns

-- the category of sentences, without features
abbrev pub text_category : Test
text_category = record { name = FIRST_PLAIN; values = [] }

-- the node derives: as a phrase for the category it leads from a place and a list to a place and a list
abbrev pub Derives : Setting → Test → Node → ℕ → List Entry → ℕ → List Entry → Type 0
Derives s asked tree i before j after =
    phrase_of s tree asked (record { place = i; list = before }) ≡ Some (record { place = j; list = after })

-- the tree is a derivation of the tokens: one with a rule for `text`, from place 0 and the empty list to their end
abbrev pub IsDerivation : Setting → Node → Type 0
IsDerivation s tree = (after : List Entry) × Derives s text_category tree 0 [] (length s.tokens) after
