-- How a rule is written: a label, a head with its features, an arrow, and the elements of the body.
use Prim.Native.String.{String}
use Rattle.std.specs.Prelude.{ℕ, true, false, List, [], ◌∷◌, ◌++◌, codes, Some}
use Rattle.codeco_terms.specs.declared.values.Value.TheVariants.{Atom}
use Rattle.codeco_terms.specs.declared.values.Term.{Term}
use Rattle.codeco_terms.specs.declared.values.Term.TheVariants.{Val, Var}
use Rattle.codeco_terms.specs.declared.categories.Category.{Category}
use Rattle.codeco_terms.specs.declared.categories.Pattern.{Pattern}
use Rattle.codeco_terms.specs.declared.elements.Element.{Element}
use Rattle.codeco_terms.specs.declared.elements.Element.TheVariants.{Terminal}
use Rattle.codeco_terms.specs.declared.rules.Label.{Label}
use Rattle.codeco_terms.specs.declared.rules.Rule.{Rule}
use Rattle.ace_grammar.specs.Names.{place_of, feature_names, atom_names, terminal_texts, category_names}

infix 80 ◌∶◌
infix 80 ◌≔◌
infixl 70 ◌&◌
infixl 70 ◌&?id◌
infix 2 ⟨◌⟩◌⟶◌
infix 2 ⟨◌⟩◌⟿◌
-- a terminal by its text: [if]
abbrev pub token : String → Element
token s = Terminal (place_of terminal_texts (codes s))

-- a category by its name, without features; category_names says what each is
abbrev pub cat : String → Category
cat s = record { name = place_of category_names (codes s); feats = [] }

-- a feature with a variable: sub: S
abbrev pub ◌∶◌ : String → ℕ → ℕ × Term
s ∶ x = (place_of feature_names (codes s), Var x)

-- a feature with an atom: num: sg
abbrev pub ◌≔◌ : String → String → ℕ × Term
s ≔ a = (place_of feature_names (codes s), Val (Atom (place_of atom_names (codes a))))

-- a category with one more feature: cat "vp" & "num" ≔ "sg" & "sub" ∶ S is vp(num: sg, sub: S)
abbrev pub ◌&◌ : Category → ℕ × Term → Category
c & f = record { name = c.name; feats = c.feats ++ f ∷ [] }

-- a pattern without marked features
abbrev pub plain : Category → Pattern
plain c = record { cat = c; taken = [] }

-- a pattern whose id is marked: cat "rnoun" & "w" ∶ W &?id I is rnoun(w: W, id: ?I)
abbrev pub ◌&?id◌ : Category → ℕ → Pattern
c &?id x = record { cat = c; taken = (place_of feature_names (codes "id"), x) ∷ [] }

-- a normal rule: {label} head --> body
abbrev pub ⟨◌⟩◌⟶◌ : Label → Category → List Element → Rule
⟨ l ⟩ head ⟶ body = record { label = Some l; head = head; closing = false; body = body }

-- a scope-closing rule: {label} head ~~> body
abbrev pub ⟨◌⟩◌⟿◌ : Label → Category → List Element → Rule
⟨ l ⟩ head ⟿ body = record { label = Some l; head = head; closing = true; body = body }

-- a rule with variables, which have their numbers in the order of their first occurrence
abbrev pub over-1 : (ℕ → Rule) → Rule
over-1 rule = rule 0

abbrev pub over-2 : (ℕ → ℕ → Rule) → Rule
over-2 rule = rule 0 1

abbrev pub over-3 : (ℕ → ℕ → ℕ → Rule) → Rule
over-3 rule = rule 0 1 2
