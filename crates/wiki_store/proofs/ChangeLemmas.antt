-- What a change of the sentences of one article leaves, and what is kept beside the changed state.
use Rattle.std.proofs.Common.{◌≡◌, ℕ, zero, suc, ◌+◌, ◌<◌, ◌≤◌, Bool, true, false, cond, List, [], ◌∷◌, ◌++◌, length, take, drop, get_or, set, map, All, Option, Some, None, unwrap_or, refl, sym, ap, subst, ◌∙◌, arith}
use Rattle.std.specs.List.{slice_get, remove}
use Rattle.std.specs.Option.{option_map_or, option_and_then, IsSomeAnd}
use Rattle.std.proofs.lemmas.Bool.{false≢true}
use Rattle.std.proofs.lemmas.List.{length-append, length-set, length-take, length-drop}
use Rattle.std.proofs.lemmas.List.Elements.{All-nil, All-cons, All-head, All-tail, All-append, All-take, All-drop, All-set}
use Rattle.std.proofs.lemmas.Option.{none-some, slice_get_within, get_or_from_slice_get}
use Rattle.wiki_base.specs.declared.numbers.WordId.{WordId}
use Rattle.wiki_base.specs.declared.tokens.TheConstants.{MOST_TOKENS}
use Rattle.codeco_terms.specs.GrammarParts.{GrammarParts}
use Rattle.lexicon.specs.Words.{Listed}
use Rattle.logic_terms.specs.Interpretation.{Interpretation}
use Rattle.owl_eval.specs.declared.checked.CheckedModel.{CheckedModel}
use Rattle.owl_eval.specs.Checked.{kept_claims}
use Rattle.wiki_talk.specs.declared.limits.TheConstants.{MOST_SENTENCES}
use Rattle.wiki_talk.specs.declared.statuses.Status.{Status}
use Rattle.wiki_talk.specs.declared.statuses.Status.TheVariants as statuses
use Rattle.articles.specs.declared.sentences.Sentence.{Sentence}
use Rattle.articles.specs.declared.article.Article.{Article}
use Rattle.articles.specs.Articles.{AreInOrder, HasSentence, is_of, article_of, sentence_at, changed, with_change, with_status}
use Rattle.articles.specs.Places.{IsPlaceOf}
use Rattle.articles.proofs.PlaceLemmas.{article_at, with_change-set}
use Rattle.wiki_parts.specs.declared.meanings.Sense.{Sense}
use Rattle.wiki_parts.specs.Holding.{FitsMeaning, Holding}
use Rattle.wiki_parts.specs.Kept.{meanings_in, known_around, IsAround, MeanEach, MeanInEach, IsKeeping}
use Rattle.plain_wiki.specs.Knowledge.{sentences_in}
use Rattle.plain_wiki.specs.Meanings.{Meaning, stating, outside, asking, asking_outside, Means}
use Rattle.plain_wiki.specs.Causes.{may_retract}
use Rattle.plain_wiki.specs.State.{Stored}
use Rattle.wiki_parts.specs.Sound.{IsSound}
use Rattle.wiki_store.proofs.KeepingLemmas.{all_parts, as_many_lists}
use Rattle.wiki_store.proofs.AroundLemmas.{known_taken, known_retracted, mean_at, around_place, place-behind}

-- ---- the articles

module _ (word : WordId) (change : List Sentence → List Sentence) where
  abbrev or_changed : Article → Article
  or_changed a = cond (is_of word a) (changed change a) a

  -- the words stay
  pub words-with_change : (articles : List Article) → map (λ (a : Article). a.word) (with_change articles word change) ≡ map (λ (a : Article). a.word) articles
  words-with_change [] = refl
  words-with_change (a ∷ articles) = by_test (is_of word a) (words-with_change articles)
    where
      by_test : (b : Bool) → map (λ (a : Article). a.word) (with_change articles word change) ≡ map (λ (a : Article). a.word) articles
          → (cond b (changed change a) a).word ∷ map (λ (a : Article). a.word) (with_change articles word change)
          ≡ a.word ∷ map (λ (a : Article). a.word) articles
      by_test true rest = ap (λ (ws : List WordId). a.word ∷ ws) rest
      by_test false rest = ap (λ (ws : List WordId). a.word ∷ ws) rest

  -- what is true of the sentences of each article stays so, if the change keeps it
  pub each-with_change : (P : List Sentence → Type 0) → ((ss : List Sentence) → P ss → P (change ss)) → (articles : List Article)
      → All (λ (a : Article). P a.sentences) articles
      → All (λ (a : Article). P a.sentences) (with_change articles word change)
  each-with_change P keeps [] all = All-nil (λ (a : Article). P a.sentences)
  each-with_change P keeps (a ∷ articles) all =
      All-cons (λ (b : Article). P b.sentences) (or_changed a) (with_change articles word change)
      (by_test (is_of word a) (All-head (λ (b : Article). P b.sentences) a articles all))
      (each-with_change P keeps articles (All-tail (λ (b : Article). P b.sentences) a articles all))
    where
      by_test : (b : Bool) → P a.sentences → P (cond b (changed change a) a).sentences
      by_test true holds = keeps a.sentences holds
      by_test false holds = holds

  -- what is true of each sentence stays so, if the change keeps it
  pub all-with_change : (P : Sentence → Type 0) → ((ss : List Sentence) → All P ss → All P (change ss)) → (articles : List Article)
      → All P (sentences_in articles)
      → All P (sentences_in (with_change articles word change))
  all-with_change P keeps [] all = All-nil P
  all-with_change P keeps (a ∷ articles) all =
      let parts = all_parts P a.sentences (sentences_in articles) all in
      All-append P (or_changed a).sentences (sentences_in (with_change articles word change)) (by_test (is_of word a) parts.0)
      (all-with_change P keeps articles parts.1)
    where
      by_test : (b : Bool) → All P a.sentences → All P (cond b (changed change a) a).sentences
      by_test true holds = keeps a.sentences holds
      by_test false holds = holds

  -- there are no more sentences, if the change makes no more
  pub fewer-with_change : ((ss : List Sentence) → length (change ss) ≤ length ss) → (articles : List Article)
      → length (sentences_in (with_change articles word change)) ≤ length (sentences_in articles)
  fewer-with_change no_more [] = omega arith
  fewer-with_change no_more (a ∷ articles) =
      let rest = fewer-with_change no_more articles in
      let own : length (or_changed a).sentences ≤ length a.sentences = by_test (is_of word a) in
      let before = length-append (or_changed a).sentences (sentences_in (with_change articles word change)) in
      let after = length-append a.sentences (sentences_in articles) in
      omega (arith, rest, own, before, after)
    where
      by_test : (b : Bool) → length (cond b (changed change a) a).sentences ≤ length a.sentences
      by_test true = no_more a.sentences
      by_test false = omega arith

  -- the changed wiki is sound
  pub sound-with_change : ((ss : List Sentence) → length (change ss) ≤ length ss) → (state : Stored) → IsSound state
      → IsSound (record state { articles = with_change state.articles word change })
  sound-with_change no_more state sound = record {
    labelled = sound.labelled;
    terminals = sound.terminals;
    articles = words-with_change state.articles ∙ sound.articles;
    few = each-with_change (λ (ss : List Sentence). length ss ≤ MOST_SENTENCES) (λ ss few. let less = no_more ss in omega (arith, few, less)) state.articles
        sound.few;
  }

-- ---- what is kept of sentences

module _ (g : GrammarParts) (words : Listed) where
  pub mean_of-append : (ss ts : List Sentence) (ms ns : List Sense) → MeanEach g words ss (meanings_in ms) → MeanEach g words ts (meanings_in ns)
      → MeanEach g words (ss ++ ts) (meanings_in (ms ++ ns))
  mean_of-append [] ts [] ns front back = back
  mean_of-append [] ts (m ∷ ms) ns front back = absurd front
  mean_of-append (s ∷ ss) ts [] ns front back = absurd front
  mean_of-append (s ∷ ss) ts (m ∷ ms) ns front back = (front.0, mean_of-append ss ts ms ns front.1 back)

  pub mean_of-take : (n : ℕ) (ss : List Sentence) (ms : List Sense) → MeanEach g words ss (meanings_in ms)
      → MeanEach g words (take n ss) (meanings_in (take n ms))
  mean_of-take zero ss ms mean = tt
  mean_of-take (suc n) [] [] mean = tt
  mean_of-take (suc n) [] (m ∷ ms) mean = absurd mean
  mean_of-take (suc n) (s ∷ ss) [] mean = absurd mean
  mean_of-take (suc n) (s ∷ ss) (m ∷ ms) mean = (mean.0, mean_of-take n ss ms mean.1)

  pub mean_of-drop : (n : ℕ) (ss : List Sentence) (ms : List Sense) → MeanEach g words ss (meanings_in ms)
      → MeanEach g words (drop n ss) (meanings_in (drop n ms))
  mean_of-drop zero ss ms mean = mean
  mean_of-drop (suc n) [] [] mean = tt
  mean_of-drop (suc n) [] (m ∷ ms) mean = absurd mean
  mean_of-drop (suc n) (s ∷ ss) [] mean = absurd mean
  mean_of-drop (suc n) (s ∷ ss) (m ∷ ms) mean = mean_of-drop n ss ms mean.1

  -- the sentences without the one at a place
  pub mean_of-remove : (at : ℕ) (ss : List Sentence) (ms : List Sense) → MeanEach g words ss (meanings_in ms)
      → MeanEach g words (remove ss at) (meanings_in (remove ms at))
  mean_of-remove at ss ms mean =
      mean_of-append (take at ss) (drop (suc at) ss) (take at ms) (drop (suc at) ms) (mean_of-take at ss ms mean) (mean_of-drop (suc at) ss ms mean)

  -- the sentences, of which one gets a status that fits each meaning that its own does
  pub mean_of-marked : (status : Status) (ss : List Sentence) (ms : List Meaning) (at : ℕ) (s : Sentence) → MeanEach g words ss ms → slice_get ss at ≡ Some s
      → ((m : Meaning) → FitsMeaning s.status m → FitsMeaning status m) → MeanEach g words (set ss at (record s { status = status })) ms
  mean_of-marked status [] ms at s mean here fits = absurd (none-some s here)
  mean_of-marked status (t ∷ ss) [] at s mean here fits = absurd mean
  mean_of-marked status (t ∷ ss) (m ∷ ms) zero s mean here fits =
      let first : Means g words s.tokens m × FitsMeaning s.status m =
      subst (λ (u : Sentence). Means g words u.tokens m × FitsMeaning u.status m) (ap (λ (o : Option Sentence). unwrap_or o t) here) mean.0 in
      ((first.0, fits m first.1), mean.1)
  mean_of-marked status (t ∷ ss) (m ∷ ms) (suc at) s mean here fits = (mean.0, mean_of-marked status ss ms at s mean.1 here fits)

  -- another article, and other meanings, at a place
  pub mean_in-set : (articles : List Article) (senses : List (List Sense)) (place : ℕ) (a : Article) (own : List Sense) → MeanInEach g words articles senses
      → MeanEach g words a.sentences (meanings_in own) → MeanInEach g words (set articles place a) (set senses place own)
  mean_in-set [] [] place a own mean new = tt
  mean_in-set [] (others ∷ senses) place a own mean new = absurd mean
  mean_in-set (b ∷ articles) [] place a own mean new = absurd mean
  mean_in-set (b ∷ articles) (others ∷ senses) zero a own mean new = (new, mean.1)
  mean_in-set (b ∷ articles) (others ∷ senses) (suc place) a own mean new = (mean.0, mean_in-set articles senses place a own mean.1 new)

  -- another article at a place, where the meanings stay
  pub mean_in-set_article : (articles : List Article) (senses : List (List Sense)) (place : ℕ) (a : Article) (own : List Sense)
      → MeanInEach g words articles senses
      → slice_get senses place ≡ Some own → MeanEach g words a.sentences (meanings_in own) → MeanInEach g words (set articles place a) senses
  mean_in-set_article [] [] place a own mean meant new = tt
  mean_in-set_article [] (others ∷ senses) place a own mean meant new = absurd mean
  mean_in-set_article (b ∷ articles) [] place a own mean meant new = absurd mean
  mean_in-set_article (b ∷ articles) (others ∷ senses) zero a own mean meant new = (
    subst (λ (ms : List Sense). MeanEach g words a.sentences (meanings_in ms)) (sym (ap (λ (o : Option (List Sense)). unwrap_or o others) meant)) new,
    mean.1,
  )
  mean_in-set_article (b ∷ articles) (others ∷ senses) (suc place) a own mean meant new =
      (mean.0, mean_in-set_article articles senses place a own mean.1 meant new)

-- ---- the sentence at a place taken out, or retracted

-- there are no more sentences without one
pub no_more-remove : (at : ℕ) (ss : List Sentence) → length (remove ss at) ≤ length ss
no_more-remove at ss =
    let front = length-take at ss in
    let back = length-drop (suc at) ss in
    let both = length-append (take at ss) (drop (suc at) ss) in
    omega (arith, front, back, both)

-- what is true of each is true of each that stays
pub all-remove : (P : Sentence → Type 0) (at : ℕ) (ss : List Sentence) → All P ss → All P (remove ss at)
all-remove P at ss all = All-append P (take at ss) (drop (suc at) ss) (All-take P at ss all) (All-drop P (suc at) ss all)

-- a status changes no number of sentences, and no tokens
pub no_more-with_status : (at : ℕ) (status : Status) (ss : List Sentence) → length (with_status ss at status) ≤ length ss
no_more-with_status at status ss = by_item (slice_get ss at)
  where
    by_item : (o : Option Sentence) → length (option_map_or (λ (s : Sentence). set ss at (record s { status = status })) o ss) ≤ length ss
    by_item None = omega arith
    by_item (Some s) = let same = length-set ss at (record s { status = status }) in omega (arith, same)

pub short-with_status : (at : ℕ) (status : Status) (ss : List Sentence) → All (λ (s : Sentence). length s.tokens ≤ MOST_TOKENS) ss
    → All (λ (s : Sentence). length s.tokens ≤ MOST_TOKENS) (with_status ss at status)
short-with_status at status ss all = by_item (slice_get ss at) refl
  where
    by_item : (o : Option Sentence) → slice_get ss at ≡ o
        → All (λ (s : Sentence). length s.tokens ≤ MOST_TOKENS) (option_map_or (λ (s : Sentence). set ss at (record s { status = status })) o ss)
    by_item None is = all
    by_item (Some s) is =
        let short : length s.tokens ≤ MOST_TOKENS =
        subst (λ (t : Sentence). length t.tokens ≤ MOST_TOKENS) (get_or_from_slice_get ss at s s is) (all at s (slice_get_within ss at s is)) in
        All-set (λ (t : Sentence). length t.tokens ≤ MOST_TOKENS) ss at (record s { status = status }) short all

-- a retracted sentence states what it did
pub retracted-fits : (status : Status) (m : Meaning) → may_retract status ≡ true → FitsMeaning status m → FitsMeaning statuses.Retracted m
retracted-fits statuses.Asserted (stating claims) may fits = tt
retracted-fits statuses.Asserted (outside cause) may fits = absurd fits
retracted-fits statuses.Asserted (asking concept) may fits = absurd fits
retracted-fits statuses.Asserted (asking_outside cause) may fits = absurd fits
retracted-fits statuses.Retracted m may fits = fits
retracted-fits statuses.RedContradiction m may fits = absurd (false≢true may)
retracted-fits statuses.RedBudget m may fits = absurd (false≢true may)
retracted-fits (statuses.Outside cause) m may fits = absurd (false≢true may)
retracted-fits statuses.Question m may fits = absurd (false≢true may)
retracted-fits (statuses.QuestionOutside cause) m may fits = absurd (false≢true may)

module _ (state : Stored) (senses : List (List Sense)) (model : CheckedModel) (keeping : IsKeeping state senses model) (ordered : AreInOrder state.articles)
    (word : WordId) (place at : ℕ) (is : IsPlaceOf state.articles word place) (around : IsAround state.articles senses place at (at + 1))
    (after : CheckedModel) (claims : kept_claims after ≡ known_around state.articles senses place at [] (at + 1)) where
  lists : length senses ≡ length state.articles
  lists = as_many_lists state.grammar state.words state.articles senses keeping.mean

  at_place : get_or state.articles place around.article ≡ around.article
  at_place = get_or_from_slice_get state.articles place around.article around.article around.here

  own-mean : MeanEach state.grammar state.words around.article.sentences (meanings_in around.own)
  own-mean = mean_at state.grammar state.words state.articles senses place around.article around.own keeping.mean around.here around.meant

  -- what is kept where the sentence is taken out
  pub keeps_taken : IsKeeping (record state { articles = with_change state.articles word (λ sentences. remove sentences at) })
      (set senses place (remove around.own at)) after
  keeps_taken =
      let change : List Sentence → List Sentence = λ sentences. remove sentences at in
      let article : Article = changed change around.article in
      let articles : with_change state.articles word change ≡ set state.articles place article =
      with_change-set state.articles ordered word place is change around.article ∙ ap (λ (b : Article). set state.articles place (changed change b)) at_place in
      record {
        sound = sound-with_change word change (no_more-remove at) state keeping.sound;
        mean =
            subst (λ (xs : List Article). MeanInEach state.grammar state.words xs (set senses place (remove around.own at))) (sym articles)
            (mean_in-set state.grammar state.words state.articles senses place article (remove around.own at) keeping.mean
            (mean_of-remove state.grammar state.words at around.article.sentences around.own own-mean));
        known = claims ∙ sym (known_taken state.articles senses word place at ordered lists is around);
        short = all-with_change word change (λ (s : Sentence). length s.tokens ≤ MOST_TOKENS) (all-remove (λ (s : Sentence). length s.tokens ≤ MOST_TOKENS) at)
            state.articles keeping.short;
        few = (let less = fewer-with_change word change (no_more-remove at) state.articles in let most = keeping.few in omega (arith, less, most));
      }

  -- what is kept where the sentence, which was asserted, is retracted
  pub keeps_marked : IsSomeAnd (sentence_at state.articles word at) (λ sentence. may_retract sentence.status ≡ true)
      → IsKeeping (record state { articles = with_change state.articles word (λ sentences. with_status sentences at statuses.Retracted) }) senses after
  keeps_marked may =
      let change : List Sentence → List Sentence = λ sentences. with_status sentences at statuses.Retracted in
      let article : Article = changed change around.article in
      let articles : with_change state.articles word change ≡ set state.articles place article =
      with_change-set state.articles ordered word place is change around.article ∙ ap (λ (b : Article). set state.articles place (changed change b)) at_place in
      record {
        sound = sound-with_change word change (no_more-with_status at statuses.Retracted) state keeping.sound;
        mean =
            subst (λ (xs : List Article). MeanInEach state.grammar state.words xs senses) (sym articles)
            (mean_in-set_article state.grammar state.words state.articles senses place article around.own keeping.mean around.meant
            (marked (slice_get around.article.sentences at) refl
            (subst (λ (o : Option Article). IsSomeAnd (option_and_then (λ (a : Article). slice_get a.sentences at) o)
            (λ sentence. may_retract sentence.status ≡ true)) found may)));
        known = claims ∙ sym (known_retracted state.articles senses word place at ordered lists is around);
        short = all-with_change word change (λ (s : Sentence). length s.tokens ≤ MOST_TOKENS) (short-with_status at statuses.Retracted) state.articles
            keeping.short;
        few = (let less = fewer-with_change word change (no_more-with_status at statuses.Retracted) state.articles in let most = keeping.few in
            omega (arith, less, most));
      }
    where
      found : article_of state.articles word ≡ Some around.article
      found = article_at state.articles ordered word place around.article is ∙ ap Some at_place

      marked : (o : Option Sentence) → slice_get around.article.sentences at ≡ o → IsSomeAnd o (λ sentence. may_retract sentence.status ≡ true)
          → MeanEach state.grammar state.words
          (option_map_or (λ (s : Sentence). set around.article.sentences at (record s { status = statuses.Retracted })) o around.article.sentences)
          (meanings_in around.own)
      marked None here may = absurd may
      marked (Some s) here may =
          mean_of-marked state.grammar state.words statuses.Retracted around.article.sentences (meanings_in around.own) at s own-mean here
          (λ m fits. retracted-fits s.status m may fits)

-- a sentence that may be retracted, by the word of its article
pub may-there : (articles : List Article) (word : WordId) (article : Article) (at : ℕ) (s : Sentence) → article_of articles word ≡ Some article
    → slice_get article.sentences at ≡ Some s → may_retract s.status ≡ true
    → IsSomeAnd (sentence_at articles word at) (λ sentence. may_retract sentence.status ≡ true)
may-there articles word article at s found here may =
    let there : sentence_at articles word at ≡ Some s = ap (option_and_then (λ (a : Article). slice_get a.sentences at)) found ∙ here in
    subst (λ (o : Option Sentence). IsSomeAnd o (λ sentence. may_retract sentence.status ≡ true)) (sym there) may

-- ---- a wiki as it is seen, whose parts are kept

module _ (state : Stored) (budget : ℕ) (interpretation : Interpretation) (wiki : Holding)
    (seen : record { state = state; budget = budget; interpretation = interpretation } ≡ wiki)
    (senses : List (List Sense)) (model : CheckedModel)
    (keeping : IsKeeping state senses model) (ordered : AreInOrder state.articles) (word : WordId) (place : ℕ) (is : IsPlaceOf wiki.state.articles word place)
  where
    -- the place of its article
    pub place-within : IsPlaceOf state.articles word place
    place-within = subst (λ (h : Holding). IsPlaceOf h.state.articles word place) (sym seen) is

    -- as many lists of meanings are kept as there are articles
    pub below-within : place < length senses
    below-within =
        let lists = as_many_lists state.grammar state.words state.articles senses keeping.mean in
        let within = place-within.in_range in
        omega (arith, lists, within)

    -- a sentence of the article, with what is kept of the article
    pub around-within : (at : ℕ) → HasSentence wiki.state.articles word at → IsAround state.articles senses place at (at + 1)
    around-within at there =
        around_place state.grammar state.words state.articles senses keeping.mean ordered word place place-within at (at + 1) (omega arith)
        (place-behind state.articles word at (subst (λ (h : Holding). HasSentence h.state.articles word at) (sym seen) there))

-- what is found at the place of an article is what is kept of it
pub own-found : (articles : List Article) (senses : List (List Sense)) (place at : ℕ) (around : IsAround articles senses place at (at + 1)) (found : List Sense)
    → found ≡ get_or senses place found
    → found ≡ around.own
own-found articles senses place at around found is = is ∙ get_or_from_slice_get senses place around.own found around.meant

-- the sentence is one of those of which a meaning is kept
pub below-own : (articles : List Article) (senses : List (List Sense)) (place at : ℕ) (around : IsAround articles senses place at (at + 1))
    → at < length around.own
below-own articles senses place at around =
    let many = around.many in
    let within = around.within in
    omega (arith, many, within)
