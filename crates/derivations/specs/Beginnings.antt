-- Whether there is a partial derivation, by listing the fronts of rules. Only private calls speak of it.
use Rattle.std.specs.Prelude.{◌≡◌, ℕ, zero, suc, ◌+◌, ◌*◌, ◌==◌, ◌&&◌, ◌||◌, Bool, false, List, [], ◌∷◌, length}
use Rattle.std.specs.List.{list_any, flat_map}
use Rattle.codeco_terms.specs.declared.values.Value.{Value}
use Rattle.codeco_terms.specs.declared.elements.Element.{Element}
use Rattle.codeco_terms.specs.declared.elements.Element.TheVariants.{Sub}
use Rattle.codeco_terms.specs.declared.rules.Rule.{Rule}
use Rattle.scopes.specs.declared.agreement.Test.{Test}
use Rattle.derivation_trees.specs.Settings.{Setting}
use Rattle.derivation_trees.specs.Instances.{under}
use Rattle.derivation_trees.specs.Derives.{At, text_category}
use Rattle.derivations.specs.Enumeration.{Path, Outcome, steps, opened, instances, may_begin, trees_of}

-- the path stands at the end of the tokens
abbrev pub is_at_end : Setting → Path → Bool
is_at_end s path = path.at.place == length s.tokens

-- the element is a category of which a cut-off child ends there, where the tests for cut-off nodes are given
abbrev pub enters : (Test → At → Bool) → List (ℕ × Value) → Element → Path → Bool
enters cuts values (Sub c) path = cuts (under values c) path.at
enters _ _ _ _ = false

-- one of the paths goes on to the end of the tokens over some of the elements
abbrev pub goes_from : Setting → (Test → At → List Outcome) → (Test → At → Bool) → List (ℕ × Value) → List Element → List Path → Bool
goes_from s trees cuts values [] paths = list_any (is_at_end s) paths
goes_from s trees cuts values (e ∷ es) paths =
    list_any (is_at_end s) paths || (list_any (enters cuts values e) paths || goes_from s trees cuts values es (flat_map (steps s trees values e) paths))

-- there is a cut-off node with the rule and the instance
abbrev pub instance_cut : Setting → (Test → At → List Outcome) → (Test → At → Bool) → Test → At → Rule → List (ℕ × Value) → Bool
instance_cut s trees cuts wanted at rule values =
    may_begin s rule wanted values && goes_from s trees cuts values rule.body (opened rule values at ∷ [])

-- there is a cut-off node with the rule
abbrev pub rule_cut : Setting → (Test → At → List Outcome) → (Test → At → Bool) → Test → At → Rule → Bool
rule_cut s trees cuts wanted at rule =
    (rule.head.name == wanted.name) && list_any (instance_cut s trees cuts wanted at rule) (instances s rule wanted)

-- there is a cut-off node for a category from a place and a list, up to a depth
abbrev pub cut_of : Setting → ℕ → Test → At → Bool
cut_of s zero wanted at = false
cut_of s (suc depth) wanted at = list_any (rule_cut s (trees_of s depth) (cut_of s depth) wanted at) s.grammar.rules

-- how deep nodes are at most
abbrev pub depth_of : Setting → ℕ
depth_of s = (length s.tokens + 1) * (length s.grammar.rules + 1)

-- the tokens have a partial derivation
abbrev pub has_partial : Setting → Bool
has_partial s = cut_of s (depth_of s) text_category (record { place = 0; list = [] })
