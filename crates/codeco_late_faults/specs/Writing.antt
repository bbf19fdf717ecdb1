-- What a rule writes, element by element. Only private calls speak of it.
use Rattle.std.specs.Prelude.{ℕ, List, [], ◌++◌, map, flat_map}
use Rattle.codeco_terms.specs.declared.values.Term.{Term}
use Rattle.codeco_terms.specs.declared.values.Term.TheVariants.{Var}
use Rattle.codeco_terms.specs.declared.categories.Pattern.{Pattern}
use Rattle.codeco_terms.specs.declared.elements.Element.{Element}
use Rattle.codeco_terms.specs.declared.elements.Element.TheVariants.{Preterminal, Sub, Forward, Strong, Back, NoBack}
use Rattle.codeco_terms.specs.declared.rules.Rule.{Rule}

-- the features of a pattern, the marked ones last
abbrev pub pattern_feats : Pattern → List (ℕ × Term)
pattern_feats p = p.cat.feats ++ map (λ t. (t.0, Var t.1)) p.taken

-- the features that an element writes
abbrev pub element_feats : Element → List (ℕ × Term)
element_feats (Preterminal c) = c.feats
element_feats (Sub c) = c.feats
element_feats (Forward c) = c.feats
element_feats (Strong c) = c.feats
element_feats (Back ps ns) = flat_map pattern_feats ps ++ flat_map pattern_feats ns
element_feats (NoBack ps) = flat_map pattern_feats ps
element_feats _ = []

-- the features that a rule writes, those of the head first
abbrev pub rule_feats : Rule → List (ℕ × Term)
rule_feats r = r.head.feats ++ flat_map element_feats r.body
