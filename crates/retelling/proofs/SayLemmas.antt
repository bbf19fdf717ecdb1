-- What axioms are said as, and the lines of many.
use Rattle.std.proofs.Common.{◌≡◌, ◌↔◌, ◌⊎◌, inl, inr, ℕ, ◌+◌, ◌<◌, ◌≤◌, List, [], ◌∷◌, ◌++◌, length, take, Option, Some, None, refl, sym, ap, subst, ◌∙◌, append-nil, arith}
use Rattle.std.specs.Prelude.{◌≢◌}
use Rattle.std.specs.List.{AllZip, slice_get}
use Rattle.std.proofs.lemmas.Bool.{cases_lt}
use Rattle.std.proofs.lemmas.Grind.{flat_map-append}
use Rattle.std.proofs.lemmas.List.{take_more}
use Rattle.std.proofs.lemmas.Option.{none-some, same_Some, slice_get_within, get_or_from_slice_get}
use Rattle.std.proofs.lemmas.Slice.Zip.{all_zipped_more}
use Rattle.wiki_base.specs.declared.tokens.TheConstants.{MOST_TOKENS}
use Rattle.codeco_terms.specs.GrammarParts.{GrammarParts}
use Rattle.lexicon.specs.Words.{Listed}
use Rattle.derivation_trees.specs.Cutting.{shown}
use Rattle.derivation_trees.specs.Sentences.{setting_of}
use Rattle.derivations.proofs.UniqueLemmas.{least_unique}
use Rattle.logic_terms.specs.Concept.{Claim}
use Rattle.verbalise.specs.declared.saying.Spoken.{Spoken}
use Rattle.verbalise.specs.declared.saying.Spoken.TheVariants.{Sentence, TooLong}
use Rattle.verbalise.specs.Said.{said}
use Rattle.verbalise.specs.Readings.{Understood, no_sentence, question, outside, stating, skeleton_read, IsRead, ReadsAs}
use Rattle.verbalise.specs.Spoken.{told, IsTooLong}
use Rattle.retelling.specs.Saying.{IsSentenceOf, bare_text, IsTextOf, lines_of, AreLinesOf}

-- ---- one axiom

-- tokens are read in one way
read_same : (g : GrammarParts) (words : Listed) (tokens : List (List ℕ)) (one other : Understood) → IsRead g words tokens one → IsRead g words tokens other
    → one ≡ other
read_same g words tokens one other a b =
    a.is ∙ ap (skeleton_read g) (least_unique (setting_of g words tokens) b.least a.least b.is_least a.is_least) ∙ sym b.is

read_one : (g : GrammarParts) (words : Listed) (tokens : List (List ℕ)) (one : Understood) (claims : List Claim) → ReadsAs g words tokens one
    → ReadsAs g words tokens (stating claims) → one ≡ stating claims
read_one g words tokens no_sentence claims a b = absurd (a (b.is_least.tree, b.is_least.derives))
read_one g words tokens question claims a b = read_same g words tokens question (stating claims) a b
read_one g words tokens (outside cause) claims a b = read_same g words tokens (outside cause) (stating claims) a b
read_one g words tokens (stating others) claims a b = read_same g words tokens (stating others) (stating claims) a b

-- a sentence that is told isn't too long
pub few_tokens : (words : Listed) (claim : Claim) (tokens : List (List ℕ)) → said words.live claim ≡ Some tokens
    → ((n : ℕ) → (Sentence tokens ≡ TooLong n) ↔ IsTooLong words claim n) → length tokens ≤ MOST_TOKENS
few_tokens words claim tokens is_said too_long = elim (cases_lt MOST_TOKENS (length tokens)) [
  | inl long ↦ absurd (not_both ((too_long (told (length tokens))).1 (record { tokens = tokens; is_said = is_said; long = long; number = refl })))
  | inr few ↦ few
]
  where
    not_both : Sentence tokens ≡ TooLong (told (length tokens)) → ⊥
    not_both is = cc

module _ (g : GrammarParts) (words : Listed) (claim : Claim) where
  pub with_sentence : (tokens : List (List ℕ)) (text : List ℕ) → (said words.live claim ≡ Some tokens) × ReadsAs g words tokens (stating (claim ∷ []))
      → length tokens ≤ MOST_TOKENS → text ≡ shown g.terminals tokens → IsTextOf g words claim text
  with_sentence tokens text is few shows = inl (tokens, record { is_said = is.0; few = few; reads = is.1 }, shows)

  pub by_no_pattern : (text : List ℕ) → said words.live claim ≡ None → text ≡ bare_text words claim → IsTextOf g words claim text
  by_no_pattern text none bare = inr ((λ tokens is. absurd (none-some tokens (sym none ∙ is.is_said))), bare)

  pub by_length : (n : ℕ) (text : List ℕ) → IsTooLong words claim n → text ≡ bare_text words claim → IsTextOf g words claim text
  by_length n text too_long bare = inr (
    (λ tokens is. absurd (not_few tokens is (same_Some too_long.tokens tokens (sym too_long.is_said ∙ is.is_said)))),
    bare,
  )
    where
      not_few : (tokens : List (List ℕ)) → IsSentenceOf g words claim tokens → too_long.tokens ≡ tokens → ⊥
      not_few tokens is same =
          let long : MOST_TOKENS < length tokens = subst (λ (ts : List (List ℕ)). MOST_TOKENS < length ts) same too_long.long in
          let few = is.few in
          omega arith

  pub by_reading : (tokens : List (List ℕ)) (reading : Understood) (text : List ℕ)
      → (said words.live claim ≡ Some tokens) × ReadsAs g words tokens reading × (reading ≢ stating (claim ∷ []))
      → text ≡ bare_text words claim → IsTextOf g words claim text
  by_reading tokens reading text otherwise bare = inr (
    (λ others is. otherwise.2 (read_one g words tokens reading (claim ∷ []) otherwise.1
        (subst (λ (ts : List (List ℕ)). ReadsAs g words ts (stating (claim ∷ []))) (same_Some others tokens (sym is.is_said ∙ otherwise.0)) is.reads))),
    bare,
  )

-- ---- lines

lines_of-push : (texts : List (List ℕ)) (text : List ℕ) → lines_of texts ++ (text ++ 10 ∷ []) ≡ lines_of (texts ++ text ∷ [])
lines_of-push texts text =
    let line : List ℕ → List ℕ = λ (t : List ℕ). t ++ 10 ∷ [] in
    sym (flat_map-append line texts (text ∷ []) ∙ ap (λ (l : List ℕ). lines_of texts ++ l) (append-nil (text ++ 10 ∷ [])))

-- one line more
pub lines_more : (g : GrammarParts) (words : Listed) (claims : List Claim) (k : ℕ) (lines : List ℕ) (claim : Claim) (text after : List ℕ)
    → AreLinesOf g words (take k claims) lines → slice_get claims k ≡ Some claim → IsTextOf g words claim text → after ≡ lines ++ (text ++ 10 ∷ [])
    → AreLinesOf g words (take (k + 1) claims) after
lines_more g words claims k lines claim text after so_far at is added = record {
  texts = so_far.texts ++ text ∷ [];
  each = subst (λ (cs : List Claim). AllZip (IsTextOf g words) cs (so_far.texts ++ text ∷ []))
      (sym (take_more claims k claim (slice_get_within claims k claim at)
      ∙ ap (λ (c : Claim). take k claims ++ c ∷ []) (get_or_from_slice_get claims k claim claim at)))
      (all_zipped_more (IsTextOf g words) (take k claims) so_far.texts claim text so_far.each is);
  are = added ∙ ap (λ (l : List ℕ). l ++ (text ++ 10 ∷ [])) so_far.are ∙ lines_of-push so_far.texts text;
}

pub no_lines : (g : GrammarParts) (words : Listed) (lines : List ℕ) → lines ≡ [] → AreLinesOf g words [] lines
no_lines g words lines none = record { texts = []; each = tt; are = none }
