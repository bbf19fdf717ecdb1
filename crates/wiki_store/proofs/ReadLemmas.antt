-- What is kept of the sentences that are told.
use Rattle.std.proofs.Common.{◌≡◌, ℕ, zero, suc, ◌+◌, ◌<◌, ◌++◌, Bool, true, false, List, [], ◌∷◌, length, take, get_or, Option, Some, All, Result, Ok, Err, IfOk, refl, sym, ap, subst, ◌∙◌, unwrap_or, arith}
use Rattle.std.specs.List.{slice_get, AllZip}
use Rattle.std.proofs.lemmas.List.{take_more}
use Rattle.std.proofs.lemmas.Option.{get_or_from_slice_get}
use Rattle.std.proofs.lemmas.Slice.Zip.{all_zipped_more}
use Rattle.wiki_base.specs.declared.numbers.WordId.{WordId}
use Rattle.codeco_terms.specs.GrammarParts.{GrammarParts}
use Rattle.logic_terms.specs.Concept.{Concept, Claim}
use Rattle.logic_terms.specs.Interpretation.{element_of}
use Rattle.logic_terms.specs.Reading.{IsIn}
use Rattle.answers.specs.declared.asking.Answers.{Answers}
use Rattle.lexicon.specs.Words.{Listed}
use Rattle.wiki_talk.specs.declared.statuses.Status.{Status}
use Rattle.wiki_talk.specs.declared.statuses.Status.TheVariants as statuses
use Rattle.wiki_talk.specs.Statuses.{is_question}
use Rattle.articles.specs.declared.sentences.Sentence.{Sentence}
use Rattle.articles.specs.declared.article.Article.{Article}
use Rattle.articles.specs.Articles.{AreInOrder, article_of}
use Rattle.articles.specs.Places.{IsPlaceOf}
use Rattle.articles.proofs.PlaceLemmas.{article_at}
use Rattle.wiki_parts.specs.declared.meanings.Sense.{Sense}
use Rattle.wiki_parts.specs.declared.meanings.Sense.TheVariants as senses
use Rattle.wiki_parts.specs.Found.{meaning_shown}
use Rattle.wiki_parts.specs.Spending.{IsCutOff}
use Rattle.wiki_parts.specs.Holding.{Holding, FitsMeaning}
use Rattle.plain_wiki.specs.Knowledge.{Knows, live_names, Answer}
use Rattle.wiki_parts.specs.Kept.{meanings_in, MeanEach, MeanInEach}
use Rattle.plain_wiki.specs.Meanings.{Means}
use Rattle.wiki_store.specs.Remembered.{AreAnswers}
use Rattle.wiki_store.proofs.AroundLemmas.{mean_at, item}

-- what is kept of the article of a word is the meanings of its sentences
pub mean_there : (g : GrammarParts) (words : Listed) (articles : List Article) (senses : List (List Sense)) → MeanInEach g words articles senses
    → AreInOrder articles
    → (word : WordId) (place : ℕ) → IsPlaceOf articles word place → (own : List Sense) → slice_get senses place ≡ Some own → (article : Article)
    → article_of articles word ≡ Some article
    → MeanEach g words article.sentences (meanings_in own)
mean_there g words articles senses mean ordered word place is own meant article found =
    let a = item articles place is.in_range in
    let there : article_of articles word ≡ Some a.0 =
    article_at articles ordered word place a.0 is ∙ ap Some (get_or_from_slice_get articles place a.0 a.0 a.1) in
    let same : a.0 ≡ article = ap (λ (o : Option Article). unwrap_or o article) (sym there ∙ found) in
    subst (λ (b : Article). MeanEach g words b.sentences (meanings_in own)) same (mean_at g words articles senses place a.0 own mean a.1 meant)

-- a sentence with its meaning
abbrev pub IsMeant : GrammarParts → Listed → Sentence → Sense → Type 0
IsMeant g words sentence sense = Means g words sentence.tokens (meaning_shown sense) × FitsMeaning sentence.status (meaning_shown sense)

-- each of the sentences has its meaning
pub meant-at : (g : GrammarParts) (words : Listed) (ss : List Sentence) (ms : List Sense) → MeanEach g words ss (meanings_in ms)
    → (k : ℕ) (s : Sentence) (m : Sense) → k < length ss
    → s ≡ get_or ss k s → m ≡ get_or ms k m → IsMeant g words s m
meant-at g words [] ms mean k s m within here meant = absurd (omega (arith, within))
meant-at g words (t ∷ ss) [] mean k s m within here meant = absurd mean
meant-at g words (t ∷ ss) (n ∷ ms) mean zero s m within here meant =
    subst (λ (u : Sentence). IsMeant g words u m) (sym here) (subst (λ (x : Sense). IsMeant g words t x) (sym meant) mean.0)
meant-at g words (t ∷ ss) (n ∷ ms) mean (suc k) s m within here meant = meant-at g words ss ms mean.1 k s m (omega (arith, within)) here meant

-- whether it asks for a class
abbrev pub is_asking : Sense → Bool
is_asking (senses.Asking class) = true
is_asking _ = false

-- the status of a sentence tells whether it asks for a class
pub asks-same : (status : Status) (sense : Sense) → FitsMeaning status (meaning_shown sense) → is_question status ≡ is_asking sense
asks-same statuses.Asserted (senses.Stating axioms) fits = refl
asks-same statuses.Retracted (senses.Stating axioms) fits = refl
asks-same statuses.RedContradiction (senses.Stating axioms) fits = refl
asks-same statuses.RedBudget (senses.Stating axioms) fits = refl
asks-same (statuses.Outside cause) (senses.Outside other) fits = refl
asks-same statuses.Question (senses.Asking class) fits = refl
asks-same (statuses.QuestionOutside cause) (senses.AskingOutside other) fits = refl
asks-same status sense fits = absurd fits

-- one sentence more is told
pub told-more : {V : Type 0} (R : Sentence → V → Type 0) (ss : List Sentence) (views : List V) (k : ℕ) (s : Sentence) (view : V) → AllZip R (take k ss) views
    → k < length ss
    → s ≡ get_or ss k s → R s view → AllZip R (take (k + 1) ss) (views ++ view ∷ [])
told-more R ss views k s view so_far within here holds =
    subst (λ (xs : List Sentence). AllZip R xs (views ++ view ∷ [])) (sym (take_more ss k s within ∙ ap (λ (t : Sentence). take k ss ++ t ∷ []) (sym here)))
    (all_zipped_more R (take k ss) views s view so_far holds)

-- what answers a class by the kept model answers it in the wiki
pub are-answers : {E : Type 0} (inside wiki : Holding) → inside ≡ wiki → (claims : List Claim) → Knows inside.state claims → (names : List WordId)
    → names ≡ live_names wiki.state.words
    → (concept : Concept) (found : Result Answers E) → IfOk found (λ a. Answer claims names (IsCutOff inside.budget) concept a.yes a.unknown)
    → IfOk found (λ a. All (λ n. IsIn inside.interpretation concept (element_of inside.interpretation n)) a.unknown)
    → IfOk found (λ a. AreAnswers wiki concept a.yes a.unknown)
are-answers inside wiki same claims known names live concept (Err none) answer there = tt
are-answers inside wiki same claims known names live concept (Ok a) answer there =
    record {
      claims = claims;
      known = subst (λ (h : Holding). Knows h.state claims) same known;
      answer =
          subst (λ (ns : List WordId). Answer claims ns (IsCutOff wiki.budget) concept a.yes a.unknown) live
          (subst (λ (h : Holding). Answer claims names (IsCutOff h.budget) concept a.yes a.unknown) same answer);
      there = subst (λ (h : Holding). All (λ n. IsIn h.interpretation concept (element_of h.interpretation n)) a.unknown) same there;
    }
