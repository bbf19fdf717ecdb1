-- What is kept beside the state by other words: with a word more, with one less, with other forms of one, and by another grammar.
use Rattle.std.proofs.Common.{◌≡◌, ℕ, zero, suc, ◌+◌, ◌<◌, ◌≤◌, ◌||◌, ◌==◌, Bool, true, false, cond, List, [], ◌∷◌, ◌++◌, length, map, find, All, IsTrue, Option, Some, None, unwrap_or, refl, sym, ap, subst, ◌∙◌, arith, append-nil}
use Rattle.std.specs.List.{slice_get, remove, list_any}
use Rattle.std.proofs.lemmas.Grind.{flat_map-append}
use Rattle.std.proofs.lemmas.List.{map-append}
use Rattle.std.proofs.lemmas.List.Elements.{All-nil, All-cons, All-head, All-tail, All-append}
use Rattle.std.proofs.lemmas.Option.{none-some, get_or_from_slice_get}
use Rattle.wiki_base.specs.declared.numbers.WordId.{WordId}
use Rattle.wiki_base.specs.declared.tokens.TheConstants.{MOST_TOKENS}
use Rattle.codeco_terms.specs.GrammarParts.{GrammarParts}
use Rattle.codeco_checked.specs.Sound.{is_labelled}
use Rattle.lexicon.specs.declared.kinds.Forms.{Forms}
use Rattle.lexicon.specs.declared.words.Word.{Word}
use Rattle.lexicon.specs.Words.{Listed, IsLexicon, is_among, next_word, with_word, without_word, add_refusal}
use Rattle.logic_terms.specs.Concept.{Claim}
use Rattle.owl_eval.specs.declared.checked.CheckedModel.{CheckedModel}
use Rattle.wiki_talk.specs.declared.limits.TheConstants.{MOST_SENTENCES}
use Rattle.articles.specs.declared.sentences.Sentence.{Sentence}
use Rattle.articles.specs.declared.article.Article.{Article}
use Rattle.articles.specs.Articles.{AreInOrder, article_of, new_article, without_article}
use Rattle.articles.specs.Places.{IsPlaceOf}
use Rattle.articles.proofs.PlaceLemmas.{article_at, without_article-remove}
use Rattle.wiki_parts.specs.declared.meanings.Sense.{Sense}
use Rattle.wiki_parts.specs.Kept.{meanings_in, known_of, known_in, MeanEach, MeanInEach, IsKeeping}
use Rattle.plain_wiki.specs.Knowledge.{sentences_in}
use Rattle.plain_wiki.specs.Meanings.{Meaning, Means}
use Rattle.plain_wiki.specs.Places.{placed_from, placed_in, all_placed}
use Rattle.plain_wiki.specs.Causes.{KeepsMeaning, uses_word}
use Rattle.plain_wiki.specs.State.{Stored}
use Rattle.wiki_parts.proofs.MeaningLemmas.{means_one}
use Rattle.wiki_parts.proofs.UseLemmas.{empty-unused, find-neither}
use Rattle.wiki_store.specs.Rewording.{KeepsSentences, IsGone}
use Rattle.wiki_store.proofs.AroundLemmas.{known_in-append, item}
use Rattle.wiki_store.proofs.KeepingLemmas.{all_parts, as_many_lists}
use Rattle.wiki_store.proofs.OtherWords.{means-with_word, means-without_word}
use Rattle.wiki_store.proofs.UnwordLemmas.{sound-without}

-- ---- sentences with their meanings by another grammar and other words

-- the sentence has each meaning by the other grammar and words that it has by these
abbrev pub StaysMeant : GrammarParts → Listed → GrammarParts → Listed → Sentence → Type 0
StaysMeant g words other new sentence = (meaning : Meaning) → Means g words sentence.tokens meaning → Means other new sentence.tokens meaning

mean_each-by : (g : GrammarParts) (words : Listed) (other : GrammarParts) (new : Listed) (sentences : List Sentence) (meanings : List Meaning)
    → All (StaysMeant g words other new) sentences
    → MeanEach g words sentences meanings
    → MeanEach other new sentences meanings
mean_each-by g words other new [] [] stay mean = tt
mean_each-by g words other new [] (m ∷ ms) stay mean = absurd mean
mean_each-by g words other new (s ∷ ss) [] stay mean = absurd mean
mean_each-by g words other new (s ∷ ss) (m ∷ ms) stay mean = (
  (All-head (StaysMeant g words other new) s ss stay m mean.0.0, mean.0.1),
  mean_each-by g words other new ss ms (All-tail (StaysMeant g words other new) s ss stay) mean.1,
)

mean_in_each-by : (g : GrammarParts) (words : Listed) (other : GrammarParts) (new : Listed) (articles : List Article) (senses : List (List Sense))
    → All (StaysMeant g words other new) (sentences_in articles) → MeanInEach g words articles senses
    → MeanInEach other new articles senses
mean_in_each-by g words other new [] [] stay mean = tt
mean_in_each-by g words other new [] (own ∷ senses) stay mean = absurd mean
mean_in_each-by g words other new (a ∷ articles) [] stay mean = absurd mean
mean_in_each-by g words other new (a ∷ articles) (own ∷ senses) stay mean =
    let parts = all_parts (StaysMeant g words other new) a.sentences (sentences_in articles) stay in
    (mean_each-by g words other new a.sentences (meanings_in own) parts.0 mean.0, mean_in_each-by g words other new articles senses parts.1 mean.1)

-- what is true of each item is true of all in a list
all_each : {X : Type 0} (P : X → Type 0) (xs : List X) → ((x : X) → P x) → All P xs
all_each P [] each = All-nil P
all_each P (x ∷ xs) each = All-cons P x xs (each x) (all_each P xs each)

all_map : {X : Type 0} (P Q : X → Type 0) (xs : List X) → ((x : X) → P x → Q x) → All P xs → All Q xs
all_map P Q [] each all = All-nil Q
all_map P Q (x ∷ xs) each all = All-cons Q x xs (each x (All-head P x xs all)) (all_map P Q xs each (All-tail P x xs all))

-- ---- a word more

-- an empty article at the end
mean_in-added : (g : GrammarParts) (words : Listed) (articles : List Article) (senses : List (List Sense)) (word : WordId) → MeanInEach g words articles senses
    → MeanInEach g words (articles ++ new_article word ∷ []) (senses ++ [] ∷ [])
mean_in-added g words [] [] word mean = (tt, tt)
mean_in-added g words [] (own ∷ senses) word mean = absurd mean
mean_in-added g words (a ∷ articles) [] word mean = absurd mean
mean_in-added g words (a ∷ articles) (own ∷ senses) word mean = (mean.0, mean_in-added g words articles senses word mean.1)

sentences-added : (articles : List Article) (word : WordId) → sentences_in (articles ++ new_article word ∷ []) ≡ sentences_in articles
sentences-added articles word = flat_map-append (λ (a : Article). a.sentences) articles (new_article word ∷ []) ∙ append-nil (sentences_in articles)

-- what is kept with a word more, and its empty article
pub keeps_added : (state : Stored) (senses : List (List Sense)) (model : CheckedModel) (forms : Forms) (word : WordId) → IsKeeping state senses model
    → add_refusal state.words forms ≡ None
    → word ≡ (next_word state.words forms).id
    → IsKeeping (record state { words = with_word state.words forms; articles = state.articles ++ new_article word ∷ [] }) (senses ++ [] ∷ []) model
keeps_added state senses model forms word keeping free named =
    let many = as_many_lists state.grammar state.words state.articles senses keeping.mean in
    let same = sentences-added state.articles word in
    let known : known_in (state.articles ++ new_article word ∷ []) (senses ++ [] ∷ []) ≡ known_in state.articles senses =
    known_in-append state.articles (new_article word ∷ []) senses ([] ∷ []) many ∙ append-nil (known_in state.articles senses) in
    let stay : All (StaysMeant state.grammar state.words state.grammar (with_word state.words forms)) (sentences_in state.articles) =
    all_each (StaysMeant state.grammar state.words state.grammar (with_word state.words forms)) (sentences_in state.articles)
    (λ s meaning means. means-with_word state.grammar state.words forms s.tokens meaning keeping.sound.terminals free means) in
    record {
      sound = record {
        labelled = keeping.sound.labelled;
        terminals = keeping.sound.terminals;
        articles = map-append (λ (a : Article). a.word) state.articles (new_article word ∷ [])
            ∙ ap (λ (ids : List WordId). ids ++ word ∷ []) keeping.sound.articles
            ∙ ap (λ (w : WordId). map (λ (v : Word). v.id) state.words.live ++ w ∷ []) named
            ∙ sym (map-append (λ (v : Word). v.id) state.words.live (next_word state.words forms ∷ []));
        few = All-append (λ (a : Article). length a.sentences ≤ MOST_SENTENCES) state.articles (new_article word ∷ []) keeping.sound.few
            (All-cons (λ (a : Article). length a.sentences ≤ MOST_SENTENCES) (new_article word) [] (omega arith)
            (All-nil (λ (a : Article). length a.sentences ≤ MOST_SENTENCES)));
      };
      mean = mean_in-added state.grammar (with_word state.words forms) state.articles senses word
          (mean_in_each-by state.grammar state.words state.grammar (with_word state.words forms) state.articles senses stay keeping.mean);
      known = keeping.known ∙ sym known;
      short = subst (λ (ss : List Sentence). All (λ sentence. length sentence.tokens ≤ MOST_TOKENS) ss) (sym same) keeping.short;
      few = subst (λ (ss : List Sentence). length ss ≤ MOST_SENTENCES) (sym same) keeping.few;
    }

-- ---- a word less

-- where no sentence needs the word, none has a form of it
unused-in : (word : WordId) (forms : Forms) (other : WordId) (place : ℕ) (sentences : List Sentence)
    → find (uses_word word forms) (placed_from other place sentences) ≡ None
    → All (λ s. list_any (is_among forms.texts) s.tokens ≡ false) sentences
unused-in word forms other place [] none = All-nil (λ s. list_any (is_among forms.texts) s.tokens ≡ false)
unused-in word forms other place (s ∷ ss) none =
    by_tests (other.0 == word.0) (list_any (is_among forms.texts) s.tokens) refl none (unused-in word forms other (place + 1) ss)
  where
    by_tests : (a b : Bool) → list_any (is_among forms.texts) s.tokens ≡ b
        → cond (a || b) (Some (record { word = other; place = place; sentence = s })) (find (uses_word word forms) (placed_from other (place + 1) ss)) ≡ None
        → (find (uses_word word forms) (placed_from other (place + 1) ss) ≡ None → All (λ t. list_any (is_among forms.texts) t.tokens ≡ false) ss)
        → All (λ t. list_any (is_among forms.texts) t.tokens ≡ false) (s ∷ ss)
    by_tests true b is found rest = absurd (none-some _ (sym found))
    by_tests false true is found rest = absurd (none-some _ (sym found))
    by_tests false false is none rest = All-cons (λ t. list_any (is_among forms.texts) t.tokens ≡ false) s ss is (rest none)

unused-each : (word : WordId) (forms : Forms) (articles : List Article) → find (uses_word word forms) (all_placed articles) ≡ None
    → All (λ s. list_any (is_among forms.texts) s.tokens ≡ false) (sentences_in articles)
unused-each word forms [] none = All-nil (λ s. list_any (is_among forms.texts) s.tokens ≡ false)
unused-each word forms (a ∷ articles) none =
    let parts = find-neither (uses_word word forms) (placed_in a) (all_placed articles) none in
    All-append (λ s. list_any (is_among forms.texts) s.tokens ≡ false) a.sentences (sentences_in articles) (unused-in word forms a.word 0 a.sentences parts.0)
    (unused-each word forms articles parts.1)

-- the articles without an empty one
mean_in-removed : (g : GrammarParts) (words : Listed) (articles : List Article) (senses : List (List Sense)) (place : ℕ) → place < length articles
    → MeanInEach g words articles senses
    → MeanInEach g words (remove articles place) (remove senses place)
mean_in-removed g words [] senses place within mean = absurd (omega (arith, within))
mean_in-removed g words (a ∷ articles) [] place within mean = absurd mean
mean_in-removed g words (a ∷ articles) (own ∷ senses) zero within mean = mean.1
mean_in-removed g words (a ∷ articles) (own ∷ senses) (suc place) within mean =
    (mean.0, mean_in-removed g words articles senses place (omega (arith, within)) mean.1)

known_in-removed : (g : GrammarParts) (words : Listed) (articles : List Article) (senses : List (List Sense)) (place : ℕ) (a : Article)
    → slice_get articles place ≡ Some a → a.sentences ≡ []
    → MeanInEach g words articles senses → known_in articles senses ≡ known_in (remove articles place) (remove senses place)
known_in-removed g words [] senses place a here empty mean = absurd (none-some a here)
known_in-removed g words (b ∷ articles) [] place a here empty mean = absurd mean
known_in-removed g words (b ∷ articles) (own ∷ senses) zero a here empty mean =
    let none : b.sentences ≡ [] = ap (λ (o : Option Article). (unwrap_or o b).sentences) here ∙ empty in
    ap (λ (ss : List Sentence). known_of ss (meanings_in own) ++ known_in articles senses) none
known_in-removed g words (b ∷ articles) (own ∷ senses) (suc place) a here empty mean =
    ap (λ (cs : List Claim). known_of b.sentences (meanings_in own) ++ cs) (known_in-removed g words articles senses place a here empty mean.1)

sentences-removed : (articles : List Article) (place : ℕ) (a : Article) → slice_get articles place ≡ Some a → a.sentences ≡ []
    → sentences_in articles ≡ sentences_in (remove articles place)
sentences-removed [] place a here empty = absurd (none-some a here)
sentences-removed (b ∷ articles) zero a here empty =
    let none : b.sentences ≡ [] = ap (λ (o : Option Article). (unwrap_or o b).sentences) here ∙ empty in
    ap (λ (ss : List Sentence). ss ++ sentences_in articles) none
sentences-removed (b ∷ articles) (suc place) a here empty = ap (λ (ss : List Sentence). b.sentences ++ ss) (sentences-removed articles place a here empty)

-- what is kept without a word that no sentence needs, and without its empty article
pub keeps_without : (state : Stored) (senses : List (List Sense)) (model : CheckedModel) (word : WordId) (place : ℕ) (new : Listed)
    → IsKeeping state senses model → AreInOrder state.articles
    → IsLexicon state.words → IsGone state word new → IsPlaceOf state.articles word place
    → IsKeeping (record state { words = new; articles = without_article state.articles word }) (remove senses place) model
keeps_without state senses model word place new keeping ordered lexicon gone is =
    let found = item state.articles place is.in_range in
    let own : article_of state.articles word ≡ Some found.0 =
    article_at state.articles ordered word place found.0 is ∙ ap Some (get_or_from_slice_get state.articles place found.0 found.0 found.1) in
    let empty = empty-unused word gone.forms state.articles gone.unused found.0 own in
    let left : remove state.articles place ≡ without_article state.articles word = sym (without_article-remove state.articles ordered word place is) in
    let same : sentences_in state.articles ≡ sentences_in (without_article state.articles word) =
    sentences-removed state.articles place found.0 found.1 empty ∙ ap sentences_in left in
    let stay : All (StaysMeant state.grammar state.words state.grammar (without_word state.words word)) (sentences_in state.articles) =
    all_map (λ s. list_any (is_among gone.forms.texts) s.tokens ≡ false) (StaysMeant state.grammar state.words state.grammar (without_word state.words word))
    (sentences_in state.articles)
    (λ s unused meaning means. means-without_word state.grammar state.words word gone.forms s.tokens meaning lexicon.in_order gone.of_word unused means)
    (unused-each word gone.forms state.articles gone.unused) in
    let mean = mean_in_each-by state.grammar state.words state.grammar (without_word state.words word) state.articles senses stay keeping.mean in
    let kept : IsKeeping (record state { words = without_word state.words word; articles = without_article state.articles word }) (remove senses place) model =
    record {
      sound = sound-without state keeping.sound word;
      mean = subst (λ (xs : List Article). MeanInEach state.grammar (without_word state.words word) xs (remove senses place)) left
          (mean_in-removed state.grammar (without_word state.words word) state.articles senses place is.in_range mean);
      known = keeping.known ∙ known_in-removed state.grammar state.words state.articles senses place found.0 found.1 empty keeping.mean
          ∙ ap (λ (xs : List Article). known_in xs (remove senses place)) left;
      short = subst (λ (ss : List Sentence). All (λ sentence. length sentence.tokens ≤ MOST_TOKENS) ss) same keeping.short;
      few = subst (λ (ss : List Sentence). length ss ≤ MOST_SENTENCES) same keeping.few;
    } in
    subst (λ (words : Listed). IsKeeping (record state { words = words; articles = without_article state.articles word }) (remove senses place) model)
    (sym gone.words) kept

-- ---- another grammar, or other forms

-- what is kept by a grammar and words by which each sentence keeps its meaning
pub keeps_regrounded : (state : Stored) (senses : List (List Sense)) (model : CheckedModel) (other : GrammarParts) (new : Listed)
    → IsKeeping state senses model → IsTrue (is_labelled other) → KeepsSentences state other new
    → IsKeeping (record state { grammar = other; words = new }) senses model
keeps_regrounded state senses model other new keeping labelled keeps =
    let stay : All (StaysMeant state.grammar state.words other new) (sentences_in state.articles) =
    all_map (λ s. KeepsMeaning state.grammar state.words other new s.tokens) (StaysMeant state.grammar state.words other new) (sentences_in state.articles)
    (λ s kept meaning means. subst (Means other new s.tokens) (means_one state.grammar state.words s.tokens kept.meaning meaning kept.before means)
    kept.after) keeps.keep in
    record {
      sound = record {
        labelled = labelled;
        terminals = keeps.terminals;
        articles = keeping.sound.articles ∙ sym keeps.numbers;
        few = keeping.sound.few;
      };
      mean = mean_in_each-by state.grammar state.words other new state.articles senses stay keeping.mean;
      known = keeping.known;
      short = keeping.short;
      few = keeping.few;
    }

-- and by words alone
pub keeps_reworded : (state : Stored) (senses : List (List Sense)) (model : CheckedModel) (new : Listed) → IsKeeping state senses model
    → KeepsSentences state state.grammar new
    → IsKeeping (record state { words = new }) senses model
keeps_reworded state senses model new keeping keeps = keeps_regrounded state senses model state.grammar new keeping keeping.sound.labelled keeps
