-- Which axioms have a sentence.
use Rattle.std.proofs.Common.{◌≡◌, ◌↔◌, inl, inr, ℕ, ◌<◌, ◌≤◌, List, [], ◌∷◌, length, Some, None, refl, sym, ap, subst, ◌∙◌, arith}
use Rattle.std.specs.Prelude.{◌≢◌}
use Rattle.std.proofs.lemmas.Bool.{cases_lt}
use Rattle.std.proofs.lemmas.Option.{none-some, same_Some}
use Rattle.wiki_base.specs.declared.tokens.TheConstants.{MOST_TOKENS}
use Rattle.codeco_terms.specs.GrammarParts.{GrammarParts}
use Rattle.lexicon.specs.Words.{Listed}
use Rattle.derivation_trees.specs.Sentences.{setting_of}
use Rattle.derivations.proofs.UniqueLemmas.{least_unique}
use Rattle.logic_terms.specs.Concept.{Claim}
use Rattle.verbalise.specs.declared.saying.Spoken.TheVariants.{Sentence, TooLong}
use Rattle.verbalise.specs.Said.{said}
use Rattle.verbalise.specs.Readings.{Understood, no_sentence, question, outside, stating, skeleton_read, IsRead, ReadsAs}
use Rattle.verbalise.specs.Spoken.{told, IsTooLong}
use Rattle.owl_import.specs.Sentences.{HasNoSentence}

-- tokens are read in one way
read_same : (g : GrammarParts) (words : Listed) (tokens : List (List ℕ)) (one other : Understood) → IsRead g words tokens one → IsRead g words tokens other
    → one ≡ other
read_same g words tokens one other a b =
    a.is ∙ ap (skeleton_read g) (least_unique (setting_of g words tokens) b.least a.least b.is_least a.is_least) ∙ sym b.is

read_one : (g : GrammarParts) (words : Listed) (tokens : List (List ℕ)) (one : Understood) (claims : List Claim) → ReadsAs g words tokens one
    → ReadsAs g words tokens (stating claims) → one ≡ stating claims
read_one g words tokens no_sentence claims a b = absurd (a (b.is_least.tree, b.is_least.derives))
read_one g words tokens question claims a b = read_same g words tokens question (stating claims) a b
read_one g words tokens (outside cause) claims a b = read_same g words tokens (outside cause) (stating claims) a b
read_one g words tokens (stating others) claims a b = read_same g words tokens (stating others) (stating claims) a b

-- a sentence that is told isn't too long
pub few_tokens : (words : Listed) (claim : Claim) (tokens : List (List ℕ)) → said words.live claim ≡ Some tokens
    → ((n : ℕ) → (Sentence tokens ≡ TooLong n) ↔ IsTooLong words claim n) → length tokens ≤ MOST_TOKENS
few_tokens words claim tokens is_said too_long = elim (cases_lt MOST_TOKENS (length tokens)) [
  | inl long ↦ absurd (not_both ((too_long (told (length tokens))).1 (record { tokens = tokens; is_said = is_said; long = long; number = refl })))
  | inr few ↦ few
]
  where
    not_both : Sentence tokens ≡ TooLong (told (length tokens)) → ⊥
    not_both is = cc

module _ (g : GrammarParts) (words : Listed) (claim : Claim) where
  pub by_no_pattern : said words.live claim ≡ None → HasNoSentence g words claim
  by_no_pattern none tokens is = none-some tokens (sym none ∙ is.is_said)

  pub by_length : (n : ℕ) → IsTooLong words claim n → HasNoSentence g words claim
  by_length n too_long tokens is =
      let same : too_long.tokens ≡ tokens = same_Some too_long.tokens tokens (sym too_long.is_said ∙ is.is_said) in
      let long : MOST_TOKENS < length tokens = subst (λ (ts : List (List ℕ)). MOST_TOKENS < length ts) same too_long.long in
      let few = is.few in
      absurd (omega arith)

  pub by_reading : (tokens : List (List ℕ)) (reading : Understood)
      → (said words.live claim ≡ Some tokens) × ReadsAs g words tokens reading × (reading ≢ stating (claim ∷ [])) → HasNoSentence g words claim
  by_reading tokens reading otherwise others is =
      otherwise.2 (read_one g words tokens reading (claim ∷ []) otherwise.1
      (subst (λ (ts : List (List ℕ)). ReadsAs g words ts (stating (claim ∷ []))) (same_Some others tokens (sym is.is_said ∙ otherwise.0)) is.reads))
