-- Menus: the tokens that may follow.
use Rattle.std.specs.Prelude.{◌≡◌, ℕ, ◌&&◌, Bool, true, false, List, [], ◌∷◌, ◌++◌, AllPairs, Contains, IsTrue, ◌↔◌}
use Rattle.std.specs.List.{list_any}
use Rattle.std.specs.declared.cmp.Ordering.{Ordering}
use Rattle.std.specs.declared.cmp.Ordering.TheVariants.{Less}
use Rattle.std.specs.Ordering.{nat_cmp, ordering_then}
use Rattle.std.specs.Cmp.Lexicographic.{slice_cmp}
use Rattle.codeco_terms.specs.GrammarParts.{GrammarParts}
use Rattle.lexicon.specs.declared.kinds.Kind.{Kind}
use Rattle.lexicon.specs.declared.kinds.Kind.TheVariants as kind
use Rattle.lexicon.specs.declared.words.Word.{Word}
use Rattle.lexicon.specs.Words.{Listed, has_form}
use Rattle.derivation_trees.specs.declared.menus.Group.{Group}
use Rattle.derivation_trees.specs.declared.menus.Group.TheVariants.{Function, Name, Noun, Of, Verb, Adjective}
use Rattle.derivation_trees.specs.Cutting.{is_terminal}
use Rattle.derivation_trees.specs.Partial.{IsBeginning}

-- the group of the forms of words of a kind
abbrev pub group_of : Kind → Group
group_of kind.Name = Name
group_of kind.Noun = Noun
group_of kind.Of = Of
group_of kind.Verb = Verb
group_of kind.Adjective = Adjective

-- the place of a group among the groups
abbrev pub group_number : Group → ℕ
group_number Function = 0
group_number Name = 1
group_number Noun = 2
group_number Of = 3
group_number Verb = 4
group_number Adjective = 5

-- the token is a form of a live word whose kind has the group
abbrev pub IsFormIn : List Word → Group → List ℕ → Type 0
IsFormIn live group token = (word : Word) × Contains live word × (group_of word.forms.kind ≡ group) × IsTrue (has_form token word)

-- the token is one of the group: a terminal of the grammar, or a form of a live word of the kind
abbrev pub IsOfGroup : GrammarParts → Listed → Group → List ℕ → Type 0
IsOfGroup g lexicon Function token = IsTrue (is_terminal g.terminals token)
IsOfGroup g lexicon Name token = IsFormIn lexicon.live Name token
IsOfGroup g lexicon Noun token = IsFormIn lexicon.live Noun token
IsOfGroup g lexicon Of token = IsFormIn lexicon.live Of token
IsOfGroup g lexicon Verb token = IsFormIn lexicon.live Verb token
IsOfGroup g lexicon Adjective token = IsFormIn lexicon.live Adjective token

-- The token, as one of the group, may follow: the tokens with it at their end have a partial derivation, with the values at
-- that longer list.
pub record IsOffered (g : GrammarParts) (lexicon : Listed) (tokens : List (List ℕ)) (entry : Group × List ℕ) : Type 0 where
  pub of_group : IsOfGroup g lexicon entry.0 entry.1
  pub goes_on : IsBeginning g lexicon (tokens ++ entry.1 ∷ [])

-- entries in order of their groups, and in a group in order of their bytes
abbrev pub entry_cmp : Group × List ℕ → Group × List ℕ → Ordering
entry_cmp a b = ordering_then (nat_cmp (group_number a.0) (group_number b.0)) (slice_cmp nat_cmp a.1 b.1)

-- The menu of tokens: the tokens that may follow, each with its group, in order of groups and bytes, each once. By the
-- order there is at most one such list.
pub record IsMenu (g : GrammarParts) (lexicon : Listed) (tokens : List (List ℕ)) (menu : List (Group × List ℕ)) : Type 0 where
  pub in_order : AllPairs (λ entry later. entry_cmp entry later ≡ Less) menu
  pub offered : (entry : Group × List ℕ) → Contains menu entry ↔ IsOffered g lexicon tokens entry
