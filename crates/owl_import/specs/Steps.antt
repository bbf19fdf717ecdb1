-- What the calls below `import` come to. Only private calls speak of it.
use Rattle.std.specs.Prelude.{◌≡◌, ℕ, ◌+◌, List, [], ◌∷◌, ◌++◌, Option, Some, None}
use Rattle.std.specs.List.{flat_map}
use Rattle.codeco_terms.specs.GrammarParts.{GrammarParts}
use Rattle.lexicon.specs.Words.{Listed}
use Rattle.derivation_trees.specs.Cutting.{shown, cut_of}
use Rattle.logic_terms.specs.Concept.{Claim}
use Rattle.owl_import.specs.Sentences.{IsSentenceOf, HasNoSentence, first_word, Fate, added, added_count, IsFateAt, AreFates, add_line, left_line}

-- the sentence of an axiom, if it has one
abbrev pub TellsSentence : GrammarParts → Listed → Claim → Option (List (List ℕ)) → Type 0
TellsSentence g words claim (Some tokens) = IsSentenceOf g words claim tokens
TellsSentence g words claim None = HasNoSentence g words claim

-- the tokens are the sentence of some axiom
pub record IsSomeSentence (g : GrammarParts) (words : Listed) (tokens : List (List ℕ)) : Type 0 where
  pub claim : Claim
  pub sentence : IsSentenceOf g words claim tokens

-- the line that adds a sentence was written
pub record AddsLine (g : GrammarParts) (words : Listed) (tokens : List (List ℕ)) (old new : List ℕ) : Type 0 where
  pub article : List ℕ
  pub names : first_word words.live tokens ≡ Some article
  pub again : cut_of g.terminals (shown g.terminals tokens) ≡ tokens
  pub written : new ≡ old ++ add_line g (added article tokens)

-- lines, and how many of them add a sentence
pub record Written : Type 0 where
  pub requests : List ℕ
  pub left_out : List ℕ
  pub count : ℕ

-- the lines with these fates behind them
abbrev pub with_fates : GrammarParts → Listed → List (List ℕ) → Written → List Fate → Written
with_fates g words iris old fates = record {
  requests = old.requests ++ flat_map (add_line g) fates;
  left_out = old.left_out ++ flat_map (left_line words iris) fates;
  count = old.count + added_count fates;
}

-- an axiom with this number was sorted, and its line was written
pub record SortsOne (g : GrammarParts) (words : Listed) (iris : List (List ℕ)) (number : ℕ) (claim : Claim) (old new : Written) : Type 0 where
  pub fate : Fate
  pub is : IsFateAt g words number old.count claim fate
  pub written : new ≡ with_fates g words iris old (fate ∷ [])

-- axioms were sorted, and their lines were written, where none were before
pub record SortsAll (g : GrammarParts) (words : Listed) (iris : List (List ℕ)) (claims : List Claim) (old new : Written) : Type 0 where
  pub fates : List Fate
  pub each : AreFates g words [] claims fates
  pub written : new ≡ with_fates g words iris old fates
