-- What is kept where a sentence comes into an article, in place of those from a place to before another.
use Rattle.std.proofs.Common.{◌≡◌, ℕ, zero, suc, ◌+◌, ◌≤◌, cond, List, [], ◌∷◌, ◌++◌, length, take, drop, set, All, AllPairs, Option, Some, unwrap_or, refl, sym, ap, subst, ◌∙◌, append_assoc, length-append, length-drop, arith}
use Rattle.std.specs.Prelude.{IsTrue}
use Rattle.std.specs.List.{slice_get}
use Rattle.std.specs.Option.{option_map_or}
use Rattle.std.proofs.lemmas.List.{length-take-le, take-append-drop}
use Rattle.std.proofs.Math.Seq.{map-set_same}
use Rattle.std.proofs.lemmas.List.Elements.{All-append, All-cons, All-take, All-drop, All-set}
use Rattle.std.proofs.lemmas.Option.{none-some, get_or_from_slice_get, slice_get_within}
use Rattle.wiki_base.specs.declared.numbers.WordId.{WordId}
use Rattle.wiki_base.specs.declared.tokens.TheConstants.{MOST_TOKENS}
use Rattle.codeco_terms.specs.GrammarParts.{GrammarParts}
use Rattle.codeco_checked.specs.Sound.{IsSound as IsSoundGrammar}
use Rattle.lexicon.specs.Words.{Listed, SharesNoForm}
use Rattle.absorb.specs.Mentioned.{are_over}
use Rattle.logic_terms.specs.Concept.{Claim}
use Rattle.logic_terms.specs.Interpretation.{Interpretation}
use Rattle.logic_terms.specs.Plain.{are_plain}
use Rattle.logic_terms.specs.Reading.{IsModel}
use Rattle.owl_eval.specs.declared.checked.CheckedModel.{CheckedModel}
use Rattle.owl_eval.specs.Checked.{kept_claims}
use Rattle.wiki_talk.specs.declared.limits.TheConstants.{MOST_SENTENCES}
use Rattle.wiki_talk.specs.declared.statuses.Status.{Status}
use Rattle.wiki_talk.specs.declared.statuses.Status.TheVariants.{Asserted, Retracted, RedContradiction, RedBudget, Outside, Question, QuestionOutside}
use Rattle.articles.specs.declared.sentences.Sentence.{Sentence}
use Rattle.articles.specs.declared.article.Article.{Article}
use Rattle.articles.specs.Articles.{AreInOrder, changed, with_change, with_status}
use Rattle.articles.specs.Places.{IsPlaceOf}
use Rattle.articles.proofs.PlaceLemmas.{with_change-set}
use Rattle.wiki_parts.specs.declared.meanings.Sense.{Sense}
use Rattle.plain_wiki.specs.State.{Stored}
use Rattle.wiki_parts.specs.Sound.{IsSound}
use Rattle.plain_wiki.specs.Meanings.{Meaning, stating, outside, asking, asking_outside, Means}
use Rattle.plain_wiki.specs.Knowledge.{is_asserted, sentences_in, Knows, live_names, IsStatusOf}
use Rattle.wiki_parts.specs.Spending.{IsCutOff}
use Rattle.wiki_parts.specs.Holding.{FitsMeaning}
use Rattle.wiki_parts.specs.Found.{meaning_shown}
use Rattle.wiki_parts.specs.Kept.{stated_by, meanings_in, known_of, known_in, known_around, IsAround, MeanEach, MeanInEach, Stands, IsKeeping}
use Rattle.wiki_parts.proofs.KnownLemmas.{knows_from_known}
use Rattle.wiki_parts.proofs.MeaningLemmas.{knows_one}
use Rattle.wiki_parts.proofs.OverLemmas.{verdict_over, verdict_plain}
use Rattle.wiki_store.specs.Putting.{spliced}
use Rattle.wiki_store.proofs.KeepingLemmas.{all_parts, as_many_lists}
use Rattle.wiki_store.proofs.ChangeLemmas.{mean_of-append, mean_of-take, mean_of-drop, mean_in-set}
use Rattle.wiki_store.proofs.AroundLemmas.{known_of-append, known_in-set, known_around-is, same_take, set_parts, mean_at}

-- ---- lists

length-spliced : {X : Type 0} (xs : List X) (from to : ℕ) (x : X) → from ≤ to → to ≤ length xs → length (spliced xs from to x) + to ≡ length xs + from + 1
length-spliced xs from to x rises within =
    let front = length-take-le from xs (omega (arith, rises, within)) in
    let back = length-drop to xs in
    omega (arith, rises, within, front, back, length-append (take from xs) (x ∷ drop to xs))

All-spliced : {X : Type 0} (P : X → Type 0) (xs : List X) (from to : ℕ) (x : X) → All P xs → P x → All P (spliced xs from to x)
All-spliced P xs from to x all here = All-append P (take from xs) (x ∷ drop to xs) (All-take P from xs all)
    (All-cons P x (drop to xs) here (All-drop P to xs all))

-- the sentences of an article, of which one gets another status
pub marked-spliced : (sentences : List Sentence) (at : ℕ) (sentence : Sentence) (status : Status) → slice_get sentences at ≡ Some sentence
    → with_status sentences at status ≡ spliced sentences at (at + 1) (record { tokens = sentence.tokens; status = status })
marked-spliced sentences at sentence status here =
    ap (λ (o : Option Sentence). option_map_or (λ (s : Sentence). set sentences at (record s { status = status })) o sentences) here
    ∙ set_parts sentences at (record { tokens = sentence.tokens; status = status }) (slice_get_within sentences at sentence here)

-- ---- what is known, and what each sentence means

known_of-spliced : (ss : List Sentence) (ms : List Sense) (from to : ℕ) (s : Sentence) (m : Sense) → length ms ≡ length ss
    → known_of (spliced ss from to s) (meanings_in (spliced ms from to m))
    ≡ known_of (take from ss) (meanings_in (take from ms))
    ++ (cond (is_asserted s.status) (stated_by (meaning_shown m)) [] ++ known_of (drop to ss) (meanings_in (drop to ms)))
known_of-spliced ss ms from to s m same = known_of-append (take from ss) (s ∷ drop to ss) (take from ms) (m ∷ drop to ms) (same_take from ss ms same)

-- what is known with the sentence in an article
pub known-spliced : (articles : List Article) (senses : List (List Sense)) (place from to : ℕ) (around : IsAround articles senses place from to) (b : Article)
    (s : Sentence) (m : Sense)
    → length senses ≡ length articles → b.sentences ≡ spliced around.article.sentences from to s
    → known_in (set articles place b) (set senses place (spliced around.own from to m))
    ≡ known_around articles senses place from (cond (is_asserted s.status) (stated_by (meaning_shown m)) []) to
known-spliced articles senses place from to around b s m same is =
    let a = around.article in
    let front = known_in (take place articles) (take place senses) in
    let back = known_in (drop (place + 1) articles) (drop (place + 1) senses) in
    let before = known_of (take from a.sentences) (meanings_in (take from around.own)) in
    let behind = known_of (drop to a.sentences) (meanings_in (drop to around.own)) in
    let middle : List Claim = cond (is_asserted s.status) (stated_by (meaning_shown m)) [] in
    known_in-set articles senses place b (spliced around.own from to m) (slice_get_within articles place a around.here) same
    ∙ ap (λ (ss : List Sentence). front ++ (known_of ss (meanings_in (spliced around.own from to m)) ++ back)) is
    ∙ ap (λ (cs : List Claim). front ++ (cs ++ back)) (known_of-spliced a.sentences around.own from to s m around.many)
    ∙ ap (λ (cs : List Claim). front ++ cs)
    (append_assoc before (middle ++ behind) back ∙ ap (λ (cs : List Claim). before ++ cs) (append_assoc middle behind back))
    ∙ sym (known_around-is articles senses place from to middle a around.own around.here around.meant)

each-spliced : (g : GrammarParts) (words : Listed) (ss : List Sentence) (ms : List Sense) (from to : ℕ) (s : Sentence) (m : Sense)
    → MeanEach g words ss (meanings_in ms)
    → Means g words s.tokens (meaning_shown m) × FitsMeaning s.status (meaning_shown m)
    → MeanEach g words (spliced ss from to s) (meanings_in (spliced ms from to m))
each-spliced g words ss ms from to s m mean here =
    mean_of-append g words (take from ss) (s ∷ drop to ss) (take from ms) (m ∷ drop to ms) (mean_of-take g words from ss ms mean)
    (here, mean_of-drop g words to ss ms mean)

-- each sentence has its meaning, the one that comes too
pub mean-spliced : (g : GrammarParts) (words : Listed) (articles : List Article) (senses : List (List Sense)) (place from to : ℕ)
    (around : IsAround articles senses place from to) (b : Article) (s : Sentence)
    (m : Sense) → MeanInEach g words articles senses → b.sentences ≡ spliced around.article.sentences from to s → Means g words s.tokens (meaning_shown m)
    → FitsMeaning s.status (meaning_shown m)
    → MeanInEach g words (set articles place b) (set senses place (spliced around.own from to m))
mean-spliced g words articles senses place from to around b s m mean is means fits =
    mean_in-set g words articles senses place b (spliced around.own from to m) mean
    (subst (λ (ss : List Sentence). MeanEach g words ss (meanings_in (spliced around.own from to m))) (sym is)
    (each-spliced g words around.article.sentences around.own from to s m
    (mean_at g words articles senses place around.article around.own mean around.here around.meant) (means, fits)))

-- ---- how many sentences there are

all-in-set : (P : Sentence → Type 0) (articles : List Article) (place : ℕ) (b : Article) → All P (sentences_in articles) → All P b.sentences
    → All P (sentences_in (set articles place b))
all-in-set P [] place b all own = all
all-in-set P (a ∷ articles) zero b all own = All-append P b.sentences (sentences_in articles) own (all_parts P a.sentences (sentences_in articles) all).1
all-in-set P (a ∷ articles) (suc place) b all own =
    All-append P a.sentences (sentences_in (set articles place b)) (all_parts P a.sentences (sentences_in articles) all).0
    (all-in-set P articles place b (all_parts P a.sentences (sentences_in articles) all).1 own)

pub all-in-at : (P : Sentence → Type 0) (articles : List Article) (place : ℕ) (a : Article) → slice_get articles place ≡ Some a → All P (sentences_in articles)
    → All P a.sentences
all-in-at P [] place a here all = absurd (none-some a here)
all-in-at P (b ∷ articles) zero a here all =
    subst (λ (c : Article). All P c.sentences) (ap (λ (o : Option Article). unwrap_or o b) here) (all_parts P b.sentences (sentences_in articles) all).0
all-in-at P (b ∷ articles) (suc place) a here all = all-in-at P articles place a here (all_parts P b.sentences (sentences_in articles) all).1

count-set : (articles : List Article) (place : ℕ) (a b : Article) → slice_get articles place ≡ Some a
    → length (sentences_in (set articles place b)) + length a.sentences ≡ length (sentences_in articles) + length b.sentences
count-set [] place a b here = absurd (none-some a here)
count-set (c ∷ articles) zero a b here =
    let same : length c.sentences ≡ length a.sentences = ap (λ (o : Option Article). length (unwrap_or o c).sentences) here in
    omega (arith, same, length-append b.sentences (sentences_in articles), length-append c.sentences (sentences_in articles))
count-set (c ∷ articles) (suc place) a b here =
    let rest = count-set articles place a b here in
    omega (arith, rest, length-append c.sentences (sentences_in (set articles place b)), length-append c.sentences (sentences_in articles))

part-of-all : (articles : List Article) (place : ℕ) (a : Article) → slice_get articles place ≡ Some a → length a.sentences ≤ length (sentences_in articles)
part-of-all [] place a here = absurd (none-some a here)
part-of-all (c ∷ articles) zero a here =
    let same : length c.sentences ≡ length a.sentences = ap (λ (o : Option Article). length (unwrap_or o c).sentences) here in
    omega (arith, same, length-append c.sentences (sentences_in articles))
part-of-all (c ∷ articles) (suc place) a here =
    let rest = part-of-all articles place a here in
    omega (arith, rest, length-append c.sentences (sentences_in articles))

-- so many at most, if there was room for one more where none leaves
few-spliced : (articles : List Article) (senses : List (List Sense)) (place from to : ℕ) (around : IsAround articles senses place from to) (b : Article)
    (s : Sentence)
    → b.sentences ≡ spliced around.article.sentences from to s → length (sentences_in articles) + from + 1 ≤ MOST_SENTENCES + to
    → length (sentences_in (set articles place b)) ≤ MOST_SENTENCES
few-spliced articles senses place from to around b s is room =
    let count = count-set articles place around.article b around.here in
    let part = part-of-all articles place around.article around.here in
    let long : length b.sentences + to ≡ length around.article.sentences + from + 1 =
    ap (λ (ss : List Sentence). length ss + to) is ∙ length-spliced around.article.sentences from to s around.rises around.within in
    omega (arith, count, part, long, room)

few-own : (articles : List Article) (place : ℕ) (a b : Article) → slice_get articles place ≡ Some a
    → length (sentences_in (set articles place b)) ≤ MOST_SENTENCES → length b.sentences ≤ MOST_SENTENCES
few-own articles place a b here few =
    let count = count-set articles place a b here in
    let part = part-of-all articles place a here in
    omega (arith, count, part, few)

-- ---- the state with the sentence

-- a state with another article of the same word in place of one is sound
sound-set : (state : Stored) (place : ℕ) (a b : Article) → IsSound state → slice_get state.articles place ≡ Some a → b.word ≡ a.word
    → length b.sentences ≤ MOST_SENTENCES
    → IsSound (record state { articles = set state.articles place b })
sound-set state place a b sound here word few = record {
  labelled = sound.labelled;
  terminals = sound.terminals;
  articles = map-set_same (λ (c : Article). c.word) state.articles place b a
      (word ∙ ap (λ (c : Article). c.word) (sym (get_or_from_slice_get state.articles place a a here))) ∙ sound.articles;
  few = All-set (λ (c : Article). length c.sentences ≤ MOST_SENTENCES) state.articles place b few sound.few;
}

-- what is kept where a sentence comes into an article
pub keeps-set : (state : Stored) (senses : List (List Sense)) (model : CheckedModel) (place from to : ℕ) (around : IsAround state.articles senses place from to)
    (b : Article) (s : Sentence) (m : Sense)
    (after : CheckedModel) → IsKeeping state senses model → b.word ≡ around.article.word → b.sentences ≡ spliced around.article.sentences from to s
    → Means state.grammar state.words s.tokens (meaning_shown m) → FitsMeaning s.status (meaning_shown m) → length s.tokens ≤ MOST_TOKENS
    → length (sentences_in state.articles) + from + 1 ≤ MOST_SENTENCES + to
    → kept_claims after ≡ known_around state.articles senses place from (cond (is_asserted s.status) (stated_by (meaning_shown m)) []) to
    → IsKeeping (record state { articles = set state.articles place b }) (set senses place (spliced around.own from to m)) after
keeps-set state senses model place from to around b s m after keeping word is means fits short room known =
    let few = few-spliced state.articles senses place from to around b s is room in
    record {
      sound = sound-set state place around.article b keeping.sound around.here word (few-own state.articles place around.article b around.here few);
      mean = mean-spliced state.grammar state.words state.articles senses place from to around b s m keeping.mean is means fits;
      known = known ∙ sym (known-spliced state.articles senses place from to around b s m
          (as_many_lists state.grammar state.words state.articles senses keeping.mean) is);
      short = all-in-set (λ (t : Sentence). length t.tokens ≤ MOST_TOKENS) state.articles place b keeping.short
          (subst (λ (ss : List Sentence). All (λ (t : Sentence). length t.tokens ≤ MOST_TOKENS) ss) (sym is)
          (All-spliced (λ (t : Sentence). length t.tokens ≤ MOST_TOKENS) around.article.sentences from to s
          (all-in-at (λ (t : Sentence). length t.tokens ≤ MOST_TOKENS) state.articles place around.article around.here keeping.short) short));
      few = few;
    }

-- a change of a word's article is another article at its place
pub change-is : (articles : List Article) (senses : List (List Sense)) (word : WordId) (place from to : ℕ) → AreInOrder articles → IsPlaceOf articles word place
    → (around : IsAround articles senses place from to) (change : List Sentence → List Sentence)
    → with_change articles word change ≡ set articles place (changed change around.article)
change-is articles senses word place from to ordered is around change =
    with_change-set articles ordered word place is change around.article
    ∙ ap (λ (b : Article). set articles place (changed change b)) (get_or_from_slice_get articles place around.article around.article around.here)

-- what is kept where a word's article changes so that a sentence comes into it
pub keeps-changed : (state : Stored) (senses : List (List Sense)) (model : CheckedModel) (word : WordId) (place from to : ℕ) → AreInOrder state.articles
    → IsPlaceOf state.articles word place
    → (around : IsAround state.articles senses place from to) (change : List Sentence → List Sentence) (s : Sentence) (m : Sense) (after : CheckedModel)
    → IsKeeping state senses model
    → change around.article.sentences ≡ spliced around.article.sentences from to s
    → Means state.grammar state.words s.tokens (meaning_shown m) → FitsMeaning s.status (meaning_shown m) → length s.tokens ≤ MOST_TOKENS
    → length (sentences_in state.articles) + from + 1 ≤ MOST_SENTENCES + to
    → kept_claims after ≡ known_around state.articles senses place from (cond (is_asserted s.status) (stated_by (meaning_shown m)) []) to
    → IsKeeping (record state { articles = with_change state.articles word change }) (set senses place (spliced around.own from to m)) after
keeps-changed state senses model word place from to ordered here around change s m after keeping is means fits short room known =
    subst (λ (articles : List Article). IsKeeping (record state { articles = articles }) (set senses place (spliced around.own from to m)) after)
    (sym (change-is state.articles senses word place from to ordered here around change))
    (keeps-set state senses model place from to around (changed change around.article) s m after keeping refl is means fits short room known)

-- ---- what is known without the sentence

pub known_of-split : (ss : List Sentence) (ms : List Sense) (at : ℕ) → length ms ≡ length ss
    → known_of ss (meanings_in ms) ≡ known_of (take at ss) (meanings_in (take at ms)) ++ known_of (drop at ss) (meanings_in (drop at ms))
known_of-split ss ms at same =
    ap (λ (xs : List Sentence). known_of xs (meanings_in ms)) (sym (take-append-drop at ss))
    ∙ ap (λ (xs : List Sense). known_of (take at ss ++ drop at ss) (meanings_in xs)) (sym (take-append-drop at ms))
    ∙ known_of-append (take at ss) (drop at ss) (take at ms) (drop at ms) (same_take at ss ms same)

-- what the sentence at a place means
pub means-at : (g : GrammarParts) (words : Listed) (ss : List Sentence) (ms : List Sense) (at : ℕ) (s : Sentence) (m : Sense)
    → MeanEach g words ss (meanings_in ms)
    → slice_get ss at ≡ Some s → slice_get ms at ≡ Some m → Means g words s.tokens (meaning_shown m)
means-at g words [] ms at s m mean here meant = absurd (none-some s here)
means-at g words (t ∷ ss) [] at s m mean here meant = absurd mean
means-at g words (t ∷ ss) (n ∷ ms) zero s m mean here meant =
    subst (λ (u : Sentence). Means g words u.tokens (meaning_shown m)) (ap (λ (o : Option Sentence). unwrap_or o t) here)
    (subst (λ (k : Sense). Means g words t.tokens (meaning_shown k)) (ap (λ (o : Option Sense). unwrap_or o n) meant) mean.0.0)
means-at g words (t ∷ ss) (n ∷ ms) (suc at) s m mean here meant = means-at g words ss ms at s m mean.1 here meant

-- ---- the status

-- a status that a sentence of each meaning may have, and that counts its axioms
fitting : Meaning → Status
fitting (stating claims) = Asserted
fitting (outside cause) = Outside cause
fitting (asking concept) = Question
fitting (asking_outside cause) = QuestionOutside cause

fitting-fits : (meaning : Meaning) → FitsMeaning (fitting meaning) meaning
unfolding fitting
fitting-fits (stating claims) = tt
fitting-fits (outside cause) = refl
fitting-fits (asking concept) = tt
fitting-fits (asking_outside cause) = refl

fitting-states : (meaning : Meaning) → cond (is_asserted (fitting meaning)) (stated_by meaning) [] ≡ stated_by meaning
unfolding fitting
fitting-states (stating claims) = refl
fitting-states (outside cause) = refl
fitting-states (asking concept) = refl
fitting-states (asking_outside cause) = refl

-- the status that a sentence gets fits its meaning
pub fits-standing : (claims : List Claim) (names : List WordId) (budget : ℕ) (meaning : Meaning) (status : Status) → Stands claims names budget meaning status
    → FitsMeaning status meaning
fits-standing claims names budget (stating []) status stands = subst (λ (st : Status). FitsMeaning st (stating [])) (sym stands) tt
fits-standing claims names budget (stating (claim ∷ own)) Asserted stands = tt
fits-standing claims names budget (stating (claim ∷ own)) RedContradiction stands = tt
fits-standing claims names budget (stating (claim ∷ own)) RedBudget stands = tt
fits-standing claims names budget (stating (claim ∷ own)) Retracted stands = absurd stands
fits-standing claims names budget (stating (claim ∷ own)) (Outside cause) stands = absurd stands
fits-standing claims names budget (stating (claim ∷ own)) Question stands = absurd stands
fits-standing claims names budget (stating (claim ∷ own)) (QuestionOutside cause) stands = absurd stands
fits-standing claims names budget (outside cause) status stands = subst (λ (st : Status). FitsMeaning st (outside cause)) (sym stands) refl
fits-standing claims names budget (asking concept) status stands = subst (λ (st : Status). FitsMeaning st (asking concept)) (sym stands) tt
fits-standing claims names budget (asking_outside cause) status stands = subst (λ (st : Status). FitsMeaning st (asking_outside cause)) (sym stands) refl

-- The sentence of these tokens comes into an article with any status.
module _ (state : Stored) (senses : List (List Sense)) (place from to : ℕ) (around : IsAround state.articles senses place from to) (tokens : List (List ℕ))
    (m : Sense)
    (mean : MeanInEach state.grammar state.words state.articles senses) (means : Means state.grammar state.words tokens (meaning_shown m)) where
  -- all axioms, its own among them
  all_claims : List Claim
  all_claims = known_around state.articles senses place from (stated_by (meaning_shown m)) to

  -- the article with it
  article_with : Status → Article
  article_with status = record {
    word = around.article.word;
    revision = around.article.revision;
    sentences = spliced around.article.sentences from to (record { tokens = tokens; status = status });
  }

  taken_mean : MeanInEach state.grammar state.words (set state.articles place (article_with (fitting (meaning_shown m))))
      (set senses place (spliced around.own from to m))
  unfolding article_with
  taken_mean =
      mean-spliced state.grammar state.words state.articles senses place from to around (article_with (fitting (meaning_shown m)))
      (record { tokens = tokens; status = fitting (meaning_shown m) }) m mean refl means
      (fitting-fits (meaning_shown m))

  taken_known : all_claims ≡ known_in (set state.articles place (article_with (fitting (meaning_shown m)))) (set senses place (spliced around.own from to m))
  unfolding article_with all_claims
  taken_known =
      ap (λ (cs : List Claim). known_around state.articles senses place from cs to) (sym (fitting-states (meaning_shown m)))
      ∙ sym (known-spliced state.articles senses place from to around (article_with (fitting (meaning_shown m)))
      (record { tokens = tokens; status = fitting (meaning_shown m) }) m
      (as_many_lists state.grammar state.words state.articles senses mean) refl)

  -- the conditions of a verdict
  pub judged_over : IsSoundGrammar state.grammar → AllPairs SharesNoForm state.words.live
      → IsTrue (are_over (live_names state.words) (known_around state.articles senses place from (stated_by (meaning_shown m)) to))
  unfolding all_claims
  judged_over sound apart =
      verdict_over state.grammar state.words (set state.articles place (article_with (fitting (meaning_shown m))))
      (set senses place (spliced around.own from to m)) sound apart taken_mean
      (live_names state.words) all_claims refl taken_known

  pub judged_plain : IsSoundGrammar state.grammar → AllPairs SharesNoForm state.words.live
      → IsTrue (are_plain (known_around state.articles senses place from (stated_by (meaning_shown m)) to))
  unfolding all_claims
  judged_plain sound apart =
      verdict_plain state.grammar state.words (set state.articles place (article_with (fitting (meaning_shown m))))
      (set senses place (spliced around.own from to m)) sound apart taken_mean
      (live_names state.words) all_claims refl taken_known

  -- what the wiki knows that has it as asserted, if it is a statement
  module _ (word : WordId) (ordered : AreInOrder state.articles) (here : IsPlaceOf state.articles word place) (change : List Sentence → List Sentence)
      (is : change around.article.sentences ≡ spliced around.article.sentences from to (record { tokens = tokens; status = Asserted })) where
    taken_knows : FitsMeaning Asserted (meaning_shown m)
        → Knows (record state { articles = with_change state.articles word change })
        (known_around state.articles senses place from (stated_by (meaning_shown m)) to)
    taken_knows fits =
        let b = changed change around.article in
        let s : Sentence = record { tokens = tokens; status = Asserted } in
        subst (λ (articles : List Article). Knows (record state { articles = articles })
        (known_around state.articles senses place from (stated_by (meaning_shown m)) to))
        (sym (change-is state.articles senses word place from to ordered here around change))
        (subst (Knows (record state { articles = set state.articles place b }))
        (known-spliced state.articles senses place from to around b s m (as_many_lists state.grammar state.words state.articles senses mean) is)
        (knows_from_known state.grammar state.words (set state.articles place b) (set senses place (spliced around.own from to m))
        (mean-spliced state.grammar state.words state.articles senses place from to around b s m mean is means fits)))

    -- the status that it gets is one that it may have in that wiki
    pub status_taken : (budget : ℕ) (status : Status)
        → Stands (known_around state.articles senses place from (stated_by (meaning_shown m)) to) (live_names state.words) budget (meaning_shown m) status
        → IsStatusOf (IsCutOff budget) (record state { articles = with_change state.articles word change }) (meaning_shown m) status
    status_taken budget status stands = by_meaning (meaning_shown m) status stands taken_knows
      where
        by_meaning : (meaning : Meaning) (st : Status)
            → Stands (known_around state.articles senses place from (stated_by meaning) to) (live_names state.words) budget meaning st
            → (FitsMeaning Asserted meaning
            → Knows (record state { articles = with_change state.articles word change })
            (known_around state.articles senses place from (stated_by meaning) to))
            → IsStatusOf (IsCutOff budget) (record state { articles = with_change state.articles word change }) meaning st
        by_meaning (stating []) st stood knows = stood
        by_meaning (stating (claim ∷ own)) st stood knows =
            record { claims = known_around state.articles senses place from (claim ∷ own) to; known = knows tt; allowed = stood }
        by_meaning (outside cause) st stood knows = stood
        by_meaning (asking concept) st stood knows = stood
        by_meaning (asking_outside cause) st stood knows = stood

    -- where it is red for the budget, the interpretation that is no model of all axioms is none of what that wiki knows
    pub spends_taken : (budget : ℕ) (i : Interpretation) (status : Status)
        → Stands (known_around state.articles senses place from (stated_by (meaning_shown m)) to) (live_names state.words) budget (meaning_shown m) status
        → status ≡ RedBudget → (IsModel i (known_around state.articles senses place from (stated_by (meaning_shown m)) to) → ⊥)
        → (claims : List Claim) → Knows (record state { articles = with_change state.articles word change }) claims → ¬ IsModel i claims
    spends_taken budget i status stands red beyond claims knows model =
        let red_fits : FitsMeaning RedBudget (meaning_shown m) =
        subst (λ (st : Status). FitsMeaning st (meaning_shown m)) red
        (fits-standing (known_around state.articles senses place from (stated_by (meaning_shown m)) to) (live_names state.words) budget (meaning_shown m)
        status stands) in
        let taken : Stored = record state { articles = with_change state.articles word change } in
        beyond (subst (IsModel i) (knows_one taken claims (known_around state.articles senses place from (stated_by (meaning_shown m)) to) knows
        (taken_knows (by_meaning (meaning_shown m) red_fits))) model)
      where
        by_meaning : (meaning : Meaning) → FitsMeaning RedBudget meaning → FitsMeaning Asserted meaning
        by_meaning (stating own) fits = tt
        by_meaning (outside cause) fits = absurd fits
        by_meaning (asking concept) fits = absurd fits
        by_meaning (asking_outside cause) fits = absurd fits
