-- What is kept beside the state: as many meanings as sentences, and a model of what is known.
use Rattle.std.proofs.Common.{◌≡◌, ℕ, ◌≤◌, Bool, true, false, cond, List, [], ◌∷◌, ◌++◌, length, All, Option, Some, None, unwrap_or, refl, sym, ap, subst, arith}
use Rattle.std.specs.List.{slice_get}
use Rattle.std.proofs.lemmas.Bool.{eqb-true}
use Rattle.std.proofs.lemmas.List.Elements.{All-nil, All-cons, All-head, All-tail, All-append}
use Rattle.std.proofs.lemmas.Option.{none-some, slice_get_within, get_or_from_slice_get}
use Rattle.wiki_base.specs.declared.numbers.WordId.{WordId}
use Rattle.wiki_base.specs.declared.tokens.TheConstants.{MOST_TOKENS}
use Rattle.codeco_terms.specs.GrammarParts.{GrammarParts}
use Rattle.lexicon.specs.Words.{Listed}
use Rattle.derivation_trees.specs.Sentences.{IsSentence}
use Rattle.owl_eval.specs.declared.checked.CheckedModel.{CheckedModel}
use Rattle.owl_eval.specs.Checked.{kept_interp, kept_claims}
use Rattle.reasoner.specs.Verdicts.{IsFiniteModel}
use Rattle.wiki_talk.specs.declared.limits.TheConstants.{MOST_SENTENCES}
use Rattle.articles.specs.declared.sentences.Sentence.{Sentence}
use Rattle.articles.specs.declared.article.Article.{Article}
use Rattle.articles.specs.Articles.{AreInOrder, is_of, article_of}
use Rattle.wiki_parts.specs.declared.meanings.Sense.{Sense}
use Rattle.plain_wiki.specs.State.{Stored}
use Rattle.plain_wiki.specs.Meanings.{Meaning, MeansFaithfully}
use Rattle.plain_wiki.specs.Knowledge.{sentences_in, Knows}
use Rattle.wiki_parts.specs.Holding.{IsStored, IsKept}
use Rattle.wiki_parts.specs.Kept.{meanings_in, MeanEach, MeanInEach, IsKeeping}
use Rattle.wiki_parts.proofs.KnownLemmas.{knows_from_known}

-- as many meanings are kept as there are sentences, and lists of them as there are articles
pub as_many : (g : GrammarParts) (words : Listed) (sentences : List Sentence) (meanings : List Meaning) → MeanEach g words sentences meanings
    → length meanings ≡ length sentences
as_many g words [] [] mean = refl
as_many g words [] (m ∷ ms) mean = absurd mean
as_many g words (s ∷ ss) [] mean = absurd mean
as_many g words (s ∷ ss) (m ∷ ms) mean = let rest = as_many g words ss ms mean.1 in omega (arith, rest)

pub as_many_lists : (g : GrammarParts) (words : Listed) (articles : List Article) (senses : List (List Sense)) → MeanInEach g words articles senses
    → length senses ≡ length articles
as_many_lists g words [] [] mean = refl
as_many_lists g words [] (own ∷ senses) mean = absurd mean
as_many_lists g words (a ∷ articles) [] mean = absurd mean
as_many_lists g words (a ∷ articles) (own ∷ senses) mean = let rest = as_many_lists g words articles senses mean.1 in omega (arith, rest)

-- what is true of each of two lists together is true of each of either
pub all_parts : {X : Type 0} (P : X → Type 0) (xs ys : List X) → All P (xs ++ ys) → All P xs × All P ys
all_parts P [] ys all = (All-nil P, all)
all_parts P (x ∷ xs) ys all = let rest = all_parts P xs ys (All-tail P x (xs ++ ys) all) in (All-cons P x xs (All-head P x (xs ++ ys) all) rest.0, rest.1)

-- sentences that have their meanings are stored rightly, where they are short and whatever is meant keeps its truth
pub stored_each : (state : Stored) (sentences : List Sentence) (meanings : List Meaning)
    → ((tokens : List (List ℕ)) → MeansFaithfully state.grammar state.words tokens) → MeanEach state.grammar state.words sentences meanings
    → All (λ sentence. length sentence.tokens ≤ MOST_TOKENS) sentences → All (IsStored state) sentences
stored_each state [] [] faithful mean short = All-nil (IsStored state)
stored_each state [] (m ∷ ms) faithful mean short = absurd mean
stored_each state (s ∷ ss) [] faithful mean short = absurd mean
stored_each state (s ∷ ss) (m ∷ ms) faithful mean short =
    All-cons (IsStored state) s ss
    (record {
      meaning = m;
      means = mean.0.0;
      faithful = faithful s.tokens;
      fits = mean.0.1;
      few = All-head (λ (t : Sentence). length t.tokens ≤ MOST_TOKENS) s ss short;
    })
    (stored_each state ss ms faithful mean.1 (All-tail (λ (t : Sentence). length t.tokens ≤ MOST_TOKENS) s ss short))

pub stored_in : (state : Stored) (articles : List Article) (senses : List (List Sense))
    → ((tokens : List (List ℕ)) → MeansFaithfully state.grammar state.words tokens) → MeanInEach state.grammar state.words articles senses
    → All (λ sentence. length sentence.tokens ≤ MOST_TOKENS) (sentences_in articles) → All (IsStored state) (sentences_in articles)
stored_in state [] [] faithful mean short = All-nil (IsStored state)
stored_in state [] (own ∷ senses) faithful mean short = absurd mean
stored_in state (a ∷ articles) [] faithful mean short = absurd mean
stored_in state (a ∷ articles) (own ∷ senses) faithful mean short =
    All-append (IsStored state) a.sentences (sentences_in articles)
    (stored_each state a.sentences (meanings_in own) faithful mean.0
    (all_parts (λ (t : Sentence). length t.tokens ≤ MOST_TOKENS) a.sentences (sentences_in articles) short).0)
    (stored_in state articles senses faithful mean.1 (all_parts (λ (t : Sentence). length t.tokens ≤ MOST_TOKENS) a.sentences (sentences_in articles) short).1)

-- a wiki with what is kept beside its state keeps what it should
pub is_kept : (state : Stored) (budget : ℕ) (senses : List (List Sense)) (model : CheckedModel)
    → ((tokens : List (List ℕ)) → MeansFaithfully state.grammar state.words tokens) → IsKeeping state senses model → AreInOrder state.articles
    → IsFiniteModel (kept_interp model) (kept_claims model)
    → IsKept (record { state = state; budget = budget; interpretation = kept_interp model })
is_kept state budget senses model faithful keeping ordered finite = record {
  sound = keeping.sound;
  in_order = ordered;
  stored = stored_in state state.articles senses faithful keeping.mean keeping.short;
  claims = kept_claims model;
  known = subst (Knows state) (sym keeping.known) (knows_from_known state.grammar state.words state.articles senses keeping.mean);
  model = finite;
}

-- the article of a word is one of all, and its sentences are short and have their meanings
pub few_there : (articles : List Article) (word : WordId) (article : Article) → article_of articles word ≡ Some article
    → All (λ (a : Article). length a.sentences ≤ MOST_SENTENCES) articles → length article.sentences ≤ MOST_SENTENCES
few_there [] word article is few = absurd (none-some article is)
few_there (a ∷ articles) word article is few =
    by_test (is_of word a) (λ there. few_there articles word article there (All-tail (λ (b : Article). length b.sentences ≤ MOST_SENTENCES) a articles few)) is
  where
    by_test : (b : Bool) → (article_of articles word ≡ Some article → length article.sentences ≤ MOST_SENTENCES)
        → cond b (Some a) (article_of articles word) ≡ Some article
        → length article.sentences ≤ MOST_SENTENCES
    by_test true behind here =
        subst (λ (c : Article). length c.sentences ≤ MOST_SENTENCES) (ap (λ (o : Option Article). unwrap_or o a) here)
        (All-head (λ (b : Article). length b.sentences ≤ MOST_SENTENCES) a articles few)
    by_test false behind there = behind there

-- what is true of each sentence is true of each one of an article
pub each_there : (P : Sentence → Type 0) (articles : List Article) (word : WordId) (article : Article) → article_of articles word ≡ Some article
    → All P (sentences_in articles) → All P article.sentences
each_there P [] word article is all = absurd (none-some article is)
each_there P (a ∷ articles) word article is all =
    by_test (is_of word a) (λ there. each_there P articles word article there (all_parts P a.sentences (sentences_in articles) all).1) is
  where
    by_test : (b : Bool) → (article_of articles word ≡ Some article → All P article.sentences) → cond b (Some a) (article_of articles word) ≡ Some article
        → All P article.sentences
    by_test true behind here = subst (λ (c : Article). All P c.sentences) (ap (λ (o : Option Article). unwrap_or o a) here)
        (all_parts P a.sentences (sentences_in articles) all).0
    by_test false behind there = behind there

-- the sentence at a place of a word's article is stored rightly
pub stored_there : (state : Stored) (senses : List (List Sense)) (model : CheckedModel)
    → ((tokens : List (List ℕ)) → MeansFaithfully state.grammar state.words tokens) → IsKeeping state senses model → (word : WordId) (article : Article)
    → article_of state.articles word ≡ Some article → (at : ℕ) (sentence : Sentence) → slice_get article.sentences at ≡ Some sentence
    → IsStored state sentence
stored_there state senses model faithful keeping word article found at sentence here =
    let all = each_there (IsStored state) state.articles word article found (stored_in state state.articles senses faithful keeping.mean keeping.short) in
    subst (IsStored state) (get_or_from_slice_get article.sentences at sentence sentence here)
    (all at sentence (slice_get_within article.sentences at sentence here))

-- the article of a word has its number
pub article-word : (articles : List Article) (word : WordId) (article : Article) → article_of articles word ≡ Some article → article.word ≡ word
article-word [] word article is = absurd (none-some article is)
article-word (a ∷ articles) word article is = by_test (is_of word a) refl (article-word articles word article) is
  where
    by_test : (b : Bool) → is_of word a ≡ b → (article_of articles word ≡ Some article → article.word ≡ word)
        → cond b (Some a) (article_of articles word) ≡ Some article → article.word ≡ word
    by_test true same rest here =
        subst (λ (c : Article). c.word ≡ word) (ap (λ (o : Option Article). unwrap_or o a) here)
        (ap (λ n. let id : WordId = record { 0 = n } in id) (eqb-true a.word.0 word.0 same))
    by_test false same rest there = rest there

-- a stored sentence has a derivation
pub has_derivation : (state : Stored) (sentence : Sentence) → IsStored state sentence → IsSentence state.grammar state.words sentence.tokens
has_derivation state sentence stored = let least = stored.means.is_least in (least.tree, least.derives)
