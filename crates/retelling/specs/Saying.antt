-- What a wiki knows, said again: a line for each axiom.
use Rattle.std.specs.Prelude.{◌≡◌, ◌≤◌, ◌⊎◌, ℕ, List, [], ◌∷◌, ◌++◌, codes, length, Some}
use Rattle.std.specs.List.{AllZip, flat_map}
use Rattle.wiki_base.specs.declared.tokens.TheConstants.{MOST_TOKENS}
use Rattle.codeco_terms.specs.GrammarParts.{GrammarParts}
use Rattle.lexicon.specs.Words.{Listed, canonical_form_of}
use Rattle.derivation_trees.specs.Cutting.{shown}
use Rattle.logic_terms.specs.Concept.{Claim}
use Rattle.owl_text.specs.Texts.{claim_text}
use Rattle.verbalise.specs.Said.{said}
use Rattle.verbalise.specs.Readings.{stating, ReadsAs}
use Rattle.plain_wiki.specs.State.{Stored}
use Rattle.plain_wiki.specs.Knowledge.{Knows}

-- the tokens are a sentence of the axiom: it is said as them, they are not too many, and they are read as exactly that axiom
pub record IsSentenceOf (g : GrammarParts) (words : Listed) (claim : Claim) (tokens : List (List ℕ)) : Type 0 where
  pub is_said : said words.live claim ≡ Some tokens
  pub few : length tokens ≤ MOST_TOKENS
  pub reads : ReadsAs g words tokens (stating (claim ∷ []))

-- the text of an axiom that has no sentence, behind a hyphen: that in functional-style syntax
abbrev pub bare_text : Listed → Claim → List ℕ
bare_text words claim = codes "- " ++ claim_text (canonical_form_of words.live) claim

-- the text of an axiom: that of its sentence, where it has one
abbrev pub IsTextOf : GrammarParts → Listed → Claim → List ℕ → Type 0
IsTextOf g words claim text =
    ((tokens : List (List ℕ)) × IsSentenceOf g words claim tokens × (text ≡ shown g.terminals tokens))
    ⊎ (((tokens : List (List ℕ)) → ¬ IsSentenceOf g words claim tokens) × (text ≡ bare_text words claim))

-- texts as lines
abbrev pub lines_of : List (List ℕ) → List ℕ
lines_of texts = flat_map (λ text. text ++ 10 ∷ []) texts

-- the lines of axioms, in order
pub record AreLinesOf (g : GrammarParts) (words : Listed) (claims : List Claim) (lines : List ℕ) : Type 0 where
  pub texts : List (List ℕ)
  pub each : AllZip (IsTextOf g words) claims texts
  pub are : lines ≡ lines_of texts

-- the lines of all that a wiki knows
pub record SaysAll (state : Stored) (lines : List ℕ) : Type 0 where
  pub claims : List Claim
  pub known : Knows state claims
  pub said : AreLinesOf state.grammar state.words claims lines
