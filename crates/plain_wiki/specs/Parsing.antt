-- The tokens of texts, menus as they are told, and how far tokens that are no sentence can be typed.
use Rattle.std.specs.Prelude.{◌≡◌, ℕ, ◌==◌, List, take, map, filter}
use Rattle.codeco_terms.specs.GrammarParts.{GrammarParts}
use Rattle.lexicon.specs.Words.{Listed}
use Rattle.derivation_trees.specs.declared.menus.Group.{Group}
use Rattle.derivation_trees.specs.declared.menus.Group.TheVariants.{Function, Name, Noun, Of, Verb, Adjective}
use Rattle.derivation_trees.specs.Cutting.{cut_of}
use Rattle.derivation_trees.specs.Sentences.{IsSentence}
use Rattle.derivation_trees.specs.Menus.{group_number}
use Rattle.derivations.specs.Typing.{IsTextMenu, IsTypeableCount}
use Rattle.wiki_talk.specs.declared.refusals.Refusal.{Refusal}
use Rattle.wiki_talk.specs.declared.refusals.Refusal.TheVariants.{NotSentence}
use Rattle.wiki_talk.specs.declared.replies.MenuView.{MenuView}
use Rattle.plain_wiki.specs.State.{Stored}

-- the tokens of a text
abbrev pub tokens_of : Stored → List ℕ → List (List ℕ)
tokens_of stored text = cut_of stored.grammar.terminals text

-- the tokens of a group
abbrev pub of_group : Group → List (Group × List ℕ) → List (List ℕ)
of_group group menu = map (λ entry. entry.1) (filter (λ entry. group_number entry.0 == group_number group) menu)

-- a menu as it is told
abbrev pub told_menu : List (Group × List ℕ) → MenuView
told_menu menu = record {
  adjective = of_group Adjective menu;
  function = of_group Function menu;
  name = of_group Name menu;
  noun = of_group Noun menu;
  of = of_group Of menu;
  verb = of_group Verb menu;
}

-- the tokens have no derivation, and the refusal tells how many of them can be typed, and their menu
pub record IsNoSentence (g : GrammarParts) (words : Listed) (tokens : List (List ℕ)) (refusal : Refusal) : Type 0 where
  pub none : ¬ IsSentence g words tokens
  pub count : ℕ
  pub typeable : IsTypeableCount g words tokens count
  pub menu : List (Group × List ℕ)
  pub follows : IsTextMenu g words (take count tokens) menu
  pub told : refusal ≡ NotSentence count (told_menu menu)
