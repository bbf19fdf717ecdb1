-- When the wiki gets another grammar, and when not.
use Rattle.std.proofs.Common.{◌≡◌, ℕ, List, [], ◌∷◌, map, All, IsTrue, Some, None, inl, inr, sym, ap, subst, ◌∙◌}
use Rattle.std.proofs.lemmas.Bool.{false≢true}
use Rattle.std.proofs.lemmas.Option.{none-some}
use Rattle.codeco_terms.specs.GrammarParts.{GrammarParts}
use Rattle.codeco_checked.specs.Sound.{is_labelled}
use Rattle.codeco_reader.specs.Texts.{IsTextOf}
use Rattle.lexicon.specs.declared.words.Word.{Word}
use Rattle.lexicon.specs.Words.{Listed, with_terminals, reground_refusal}
use Rattle.wiki_talk.specs.declared.refusals.Refusal.{Refusal}
use Rattle.wiki_parts.specs.Faults.{IsAbsent}
use Rattle.plain_wiki.specs.Places.{all_placed, IsFirstPlaced}
use Rattle.plain_wiki.specs.Causes.{FirstOf, is_no_grammar, is_bare, has_a_form, breaks_by_grammar, KeepsMeaning, IsBroken, breaks_sentence}
use Rattle.plain_wiki.specs.State.{Stored}
use Rattle.plain_wiki.specs.Words.{lexicon_refusal}
use Rattle.wiki_parts.proofs.FirstLemmas.{none_stands, nothing_stands}
use Rattle.wiki_store.specs.Rewording.{KeepsSentences}
use Rattle.wiki_store.proofs.RewordLemmas.{each_sentence, kept_first}

-- where each sentence keeps its meaning by another grammar, the words beside its terminals keep what the wiki has
pub keeps_grammar : (state : Stored) (other : GrammarParts) (new : Listed) → new ≡ with_terminals state.words other.terminals
    → All (λ placed. KeepsMeaning state.grammar state.words other new placed.sentence.tokens) (all_placed state.articles) → KeepsSentences state other new
keeps_grammar state other new made all = record {
  numbers = ap (λ (words : Listed). map (λ (w : Word). w.id) words.live) made;
  terminals = ap (λ (words : Listed). words.terminals) made;
  last = ap (λ (words : Listed). words.last) made;
  keep = each_sentence (λ s. KeepsMeaning state.grammar state.words other new s.tokens) state.articles all;
}

-- the first of two causes is the first of more
pub first_of_more : (a b : Refusal → Type 0) (more : List (Refusal → Type 0)) (refusal : Refusal) → FirstOf (a ∷ b ∷ []) refusal
    → FirstOf (a ∷ b ∷ more) refusal
first_of_more a b more refusal (inl here) = inl here
first_of_more a b more refusal (inr (no_a, inl here)) = inr (no_a, inl here)
first_of_more a b more refusal (inr (no_a, inr (no_b, none))) = absurd none

module _ (state : Stored) (text : List ℕ) (g : GrammarParts) (is : IsTextOf text g) (only : (other : GrammarParts) → IsTextOf text other → other ≡ g)
    (labelled : IsTrue (is_labelled g)) where
  -- the text is that of a grammar
  makes_grammar : IsAbsent (is_no_grammar text)
  makes_grammar refusal bad = bad.0 g is

  -- its rules have labels
  not_bare : IsAbsent (is_bare text)
  not_bare refusal bad = false≢true (sym bad.2.0 ∙ ap is_labelled (only bad.0 bad.1) ∙ labelled)

  -- it has no form of a live word
  no_form : reground_refusal state.words.live g.terminals ≡ None → IsAbsent (has_a_form state text)
  no_form free refusal bad =
      none-some refusal
      (sym (ap (lexicon_refusal state.words) free)
      ∙ sym (ap (λ (h : GrammarParts). lexicon_refusal state.words (reground_refusal state.words.live h.terminals)) (only bad.0 bad.1)) ∙ bad.2)

  -- and by it no sentence breaks
  none_breaks : (new : Listed) → new ≡ with_terminals state.words g.terminals
      → All (λ placed. KeepsMeaning state.grammar state.words g new placed.sentence.tokens) (all_placed state.articles)
      → IsAbsent (breaks_by_grammar state text)
  none_breaks new made all refusal bad =
      let kept : KeepsMeaning state.grammar state.words g new bad.2.0.sentence.tokens =
      kept_first (λ placed. KeepsMeaning state.grammar state.words g new placed.sentence.tokens)
      (IsBroken state bad.0 (with_terminals state.words bad.0.terminals)) (all_placed state.articles) bad.2.0 bad.2.1 all in
      let beside : KeepsMeaning state.grammar state.words g (with_terminals state.words g.terminals) bad.2.0.sentence.tokens =
      subst (λ (ws : Listed). KeepsMeaning state.grammar state.words g ws bad.2.0.sentence.tokens) made kept in
      bad.2.1.holds
      (subst (λ (h : GrammarParts). KeepsMeaning state.grammar state.words h (with_terminals state.words h.terminals) bad.2.0.sentence.tokens)
      (sym (only bad.0 bad.1)) beside)

  -- so nothing stands against the text
  pub reground_free : reground_refusal state.words.live g.terminals ≡ None → (new : Listed) → new ≡ with_terminals state.words g.terminals
      → All (λ placed. KeepsMeaning state.grammar state.words g new placed.sentence.tokens) (all_placed state.articles)
      → IsAbsent (FirstOf (is_no_grammar text ∷ is_bare text ∷ has_a_form state text ∷ breaks_by_grammar state text ∷ []))
  reground_free free new made all =
      none_stands (is_no_grammar text) (is_bare text ∷ has_a_form state text ∷ breaks_by_grammar state text ∷ []) makes_grammar
      (none_stands (is_bare text) (has_a_form state text ∷ breaks_by_grammar state text ∷ []) not_bare
      (none_stands (has_a_form state text) (breaks_by_grammar state text ∷ []) (no_form free)
      (none_stands (breaks_by_grammar state text) [] (none_breaks new made all) nothing_stands)))

  -- a form of a live word is told
  pub form_told : (refusal : Refusal) → lexicon_refusal state.words (reground_refusal state.words.live g.terminals) ≡ Some refusal
      → FirstOf (is_no_grammar text ∷ is_bare text ∷ has_a_form state text ∷ breaks_by_grammar state text ∷ []) refusal
  form_told refusal told = inr (makes_grammar, inr (not_bare, inl (g, is, told)))

  -- a sentence that breaks is told
  pub break_told : reground_refusal state.words.live g.terminals ≡ None → (new : Listed) → new ≡ with_terminals state.words g.terminals
      → (refusal : Refusal) → breaks_sentence state g new refusal
      → FirstOf (is_no_grammar text ∷ is_bare text ∷ has_a_form state text ∷ breaks_by_grammar state text ∷ []) refusal
  break_told free new made refusal broken =
      inr (
        makes_grammar,
        inr (
          not_bare,
          inr (
            no_form free,
            inl (
              g,
              is,
              (
                broken.0,
                subst (λ (ws : Listed). IsFirstPlaced (IsBroken state g ws) (all_placed state.articles) broken.0) made broken.1,
                broken.2,
              ),
            ),
          ),
        ),
      )
