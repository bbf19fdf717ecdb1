-- What stands in a rule, in the order in which it is written.
use Rattle.std.specs.Prelude.{ℕ, nat_lt, if◌then◌else◌, List, [], ◌∷◌, ◌++◌, map, flat_map}
use Rattle.codeco_terms.specs.declared.values.Term.{Term}
use Rattle.codeco_terms.specs.declared.values.Term.TheVariants.{Val, Var}
use Rattle.codeco_terms.specs.declared.categories.Category.{Category}
use Rattle.codeco_terms.specs.declared.categories.Pattern.{Pattern}
use Rattle.codeco_terms.specs.declared.elements.Element.{Element}
use Rattle.codeco_terms.specs.declared.elements.Element.TheVariants.{Terminal, Preterminal, Sub, Position, Forward, Strong, Back, NoBack}
use Rattle.codeco_terms.specs.declared.rules.Rule.{Rule}

-- a feature with its term, put among others that stand in order of number, before the first of a greater number
abbrev pub put_feature : ℕ × Term → List (ℕ × Term) → List (ℕ × Term)
put_feature x [] = x ∷ []
put_feature x (y ∷ ys) = if nat_lt x.0 y.0 then x ∷ y ∷ ys else y ∷ put_feature x ys

-- the features of a pattern, the marked ones among the others
abbrev pub with_taken : List (ℕ × Term) → List (ℕ × ℕ) → List (ℕ × Term)
with_taken feats [] = feats
with_taken feats (t ∷ ts) = with_taken (put_feature (t.0, Var t.1) feats) ts

-- a pattern as a category with all the features that it writes
abbrev pub whole : Pattern → Category
whole p = record { name = p.cat.name; feats = with_taken p.cat.feats p.taken }

-- the categories that an element writes
abbrev pub mentions : Element → List Category
mentions (Preterminal c) = c ∷ []
mentions (Sub c) = c ∷ []
mentions (Forward c) = c ∷ []
mentions (Strong c) = c ∷ []
mentions (Back ps ns) = map whole ps ++ map whole ns
mentions (NoBack ps) = map whole ps
mentions _ = []

-- the categories that a rule writes, the head first
abbrev pub rule_mentions : Rule → List Category
rule_mentions r = r.head ∷ flat_map mentions r.body

-- the features that a rule writes, with their terms
abbrev pub rule_features : Rule → List (ℕ × Term)
rule_features r = flat_map (λ c. c.feats) (rule_mentions r)

abbrev pub term_variables : Term → List ℕ
term_variables (Val v) = []
term_variables (Var x) = x ∷ []

abbrev pub category_variables : Category → List ℕ
category_variables c = flat_map (λ f. term_variables f.1) c.feats

-- the variables of #X
abbrev pub positions : Element → List ℕ
positions (Position x) = x ∷ []
positions _ = []

-- the variables that an element writes
abbrev pub element_variables : Element → List ℕ
element_variables e = positions e ++ flat_map category_variables (mentions e)

-- the variables that a rule writes, the head's first
abbrev pub rule_variables : Rule → List ℕ
rule_variables r = category_variables r.head ++ flat_map element_variables r.body

abbrev pub element_terminals : Element → List ℕ
element_terminals (Terminal t) = t ∷ []
element_terminals _ = []

-- the terminals that a rule writes
abbrev pub rule_terminals : Rule → List ℕ
rule_terminals r = flat_map element_terminals r.body

-- the patterns of an element
abbrev pub patterns : Element → List Pattern
patterns (Back ps ns) = ps ++ ns
patterns (NoBack ps) = ps
patterns _ = []
