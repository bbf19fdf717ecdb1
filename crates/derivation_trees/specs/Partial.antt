-- Partial derivations: derivations that are cut off where the tokens end.
use Rattle.std.specs.Prelude.{◌≡◌, ℕ, ◌≤◌, ◌&&◌, if◌then◌else◌, List, [], ◌∷◌, length, take, slice_get, Option, Some, None, option_map, option_and_then}
use Rattle.codeco_terms.specs.declared.values.Value.{Value}
use Rattle.codeco_terms.specs.declared.categories.Category.{Category}
use Rattle.codeco_terms.specs.declared.elements.Element.{Element}
use Rattle.codeco_terms.specs.declared.elements.Element.TheVariants.{Sub}
use Rattle.codeco_terms.specs.declared.rules.Rule.{Rule}
use Rattle.codeco_terms.specs.GrammarParts.{GrammarParts}
use Rattle.lexicon.specs.Words.{Listed}
use Rattle.scopes.specs.declared.agreement.Test.{Test}
use Rattle.derivation_trees.specs.Trees.{Nodes}
use Rattle.derivation_trees.specs.Settings.{Setting}
use Rattle.derivation_trees.specs.Instances.{under}
use Rattle.derivation_trees.specs.Derives.{At, Phrase, Stand, run, begun, rule_with, phrases_of, is_none_left, text_category}
use Rattle.derivation_trees.specs.Sentences.{setting_of}

-- A node that is cut off after its first `count` elements: the number of its rule, an instance of the rule, the positions
-- that the references among these elements have found, and a child for each category among them. It is cut off there by
-- the end of the tokens, or the next element is a category, of which it has a child that is cut off itself.
pub data CutNode : Type 0 where
  stopped : (rule : ℕ) → (values : List (ℕ × Value)) → (found : List ℕ) → (children : Nodes) → (count : ℕ) → CutNode
  entered : (rule : ℕ) → (values : List (ℕ × Value)) → (found : List ℕ) → (children : Nodes) → (count : ℕ) → CutNode → CutNode

-- the stand, where no found position and no child is left over
abbrev pub used_up : Stand → Option Stand
used_up stand = if is_none_left stand.found && is_none_left stand.children then Some stand else None

-- Where a node stands after its first `count` elements, as a phrase for a category, from a place and a list. The found
-- positions and the children are those of these elements. A rule that has fewer elements stands after all of them.
abbrev pub front : Setting → Rule → List (ℕ × Value) → List ℕ → List Phrase → ℕ → Test → At → Option Stand
front s rule values found children count asked at =
    option_and_then (λ stand. option_and_then used_up (run s values (take count rule.body) stand)) (begun s rule values found children asked at)

-- the category that an element is
abbrev pub sub_of : Element → Option Category
sub_of (Sub c) = Some c
sub_of _ = None

-- the category that is the next element after the first `count`
abbrev pub next_category : Rule → ℕ → Option Category
next_category rule count = option_and_then sub_of (slice_get rule.body count)

-- where a cut-off node stands after its own elements, by the number of its rule
abbrev pub front_of : Setting → ℕ → List (ℕ × Value) → List ℕ → Nodes → ℕ → Test → At → Option Stand
front_of s number values found children count asked at =
    option_and_then (λ rule. front s rule values found (phrases_of s children) count asked at) (rule_with s.grammar number)

-- the place at which a cut-off node ends, as a phrase for a category, from a place and a list
abbrev pub cut_end : Setting → CutNode → Test → At → Option ℕ
cut_end s (stopped rule values found children count) asked at =
    option_map (λ stand. stand.at.place) (front_of s rule values found children count asked at)
cut_end s (entered rule values found children count child) asked at =
    option_and_then (λ stand. option_and_then (λ category. cut_end s child (under values category) stand.at)
    (option_and_then (λ r. next_category r count) (rule_with s.grammar rule)))
    (front_of s rule values found children count asked at)

-- The cut-off node is a partial derivation of the tokens: one with a rule for `text`, from place 0 and the empty list, that
-- ends at the end of the tokens. After Kuhn's partial analyses.
abbrev pub IsPartialDerivation : Setting → CutNode → Type 0
IsPartialDerivation s cut = cut_end s cut text_category (record { place = 0; list = [] }) ≡ Some (length s.tokens)

-- the tokens have a partial derivation
abbrev pub IsBeginning : GrammarParts → Listed → List (List ℕ) → Type 0
IsBeginning g lexicon tokens = (cut : CutNode) × IsPartialDerivation (setting_of g lexicon tokens) cut

-- the tokens and each of their prefixes have a partial derivation, each with the values at its own tokens
abbrev pub IsTypeable : GrammarParts → Listed → List (List ℕ) → Type 0
IsTypeable g lexicon tokens = (count : ℕ) → count ≤ length tokens → IsBeginning g lexicon (take count tokens)
