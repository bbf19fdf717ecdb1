-- What is known, sentence by sentence.
use Rattle.std.proofs.Common.{◌≡◌, ℕ, ◌+◌, ◌<◌, ◌≤◌, min, ◌⊎◌, inl, inr, Bool, true, false, cond, MatchBool, List, [], ◌∷◌, ◌++◌, length, take, drop, get_or, Some, refl, sym, ap, subst, ◌∙◌, append_assoc, arith}
use Rattle.std.specs.List.{slice_get}
use Rattle.std.proofs.lemmas.Bool.{cases_lt}
use Rattle.std.proofs.lemmas.List.{drop_more, drop_all, take_more}
use Rattle.std.proofs.lemmas.Option.{slice_get_within, get_or_from_slice_get}
use Rattle.codeco_terms.specs.GrammarParts.{GrammarParts}
use Rattle.lexicon.specs.Words.{Listed}
use Rattle.logic_terms.specs.Concept.{Claim}
use Rattle.wiki_talk.specs.declared.statuses.Status.{Status}
use Rattle.wiki_talk.specs.declared.statuses.Status.TheVariants.{Asserted, Retracted, RedContradiction, RedBudget, Outside, Question, QuestionOutside}
use Rattle.articles.specs.declared.sentences.Sentence.{Sentence}
use Rattle.articles.specs.declared.article.Article.{Article}
use Rattle.wiki_parts.specs.declared.meanings.Sense.{Sense}
use Rattle.plain_wiki.specs.Meanings.{Meaning, stating, outside, asking, asking_outside, Means}
use Rattle.plain_wiki.specs.Knowledge.{is_asserted, StatesFirst, AreStated, sentences_in}
use Rattle.wiki_parts.specs.Holding.{FitsMeaning}
use Rattle.wiki_parts.specs.Found.{meaning_shown}
use Rattle.wiki_parts.specs.Kept.{stated_by, known_of, meanings_in, MeanEach, MeanInEach, known_in}

-- sentences of which each has its meaning state what is known of them
pub stated_from_known : (g : GrammarParts) (words : Listed) (sentences : List Sentence) (meanings : List Meaning)
    → MeanEach g words sentences meanings → AreStated g words sentences (known_of sentences meanings)
stated_from_known g words [] [] mean = refl
stated_from_known g words [] (m ∷ ms) mean = absurd mean
stated_from_known g words (s ∷ ss) [] mean = absurd mean
stated_from_known g words (s ∷ ss) (m ∷ ms) mean = by_status s.status m mean.0.0 mean.0.1 (stated_from_known g words ss ms mean.1)
  where
    by_status : (status : Status) (m : Meaning) → Means g words s.tokens m → FitsMeaning status m → AreStated g words ss (known_of ss ms)
        → MatchBool (is_asserted status) (StatesFirst g words s.tokens (AreStated g words ss) (cond (is_asserted status) (stated_by m) [] ++ known_of ss ms))
        (AreStated g words ss (cond (is_asserted status) (stated_by m) [] ++ known_of ss ms))
    by_status Asserted (stating claims) means fits rest = record { own = claims; rest = known_of ss ms; means = means; follow = rest; joined = refl }
    by_status Asserted (outside cause) means fits rest = absurd fits
    by_status Asserted (asking concept) means fits rest = absurd fits
    by_status Asserted (asking_outside cause) means fits rest = absurd fits
    by_status Retracted m means fits rest = rest
    by_status RedContradiction m means fits rest = rest
    by_status RedBudget m means fits rest = rest
    by_status (Outside cause) m means fits rest = rest
    by_status Question m means fits rest = rest
    by_status (QuestionOutside cause) m means fits rest = rest

-- what sentences state one after another
pub stated_append : (g : GrammarParts) (words : Listed) (xs ys : List Sentence) (cs ds : List Claim)
    → AreStated g words xs cs → AreStated g words ys ds → AreStated g words (xs ++ ys) (cs ++ ds)
stated_append g words [] ys cs ds first second = subst (λ es. AreStated g words ys (es ++ ds)) (sym first) second
stated_append g words (x ∷ xs) ys cs ds first second = by_test (is_asserted x.status) (λ es more. stated_append g words xs ys es ds more second) first
  where
    by_test : (b : Bool)
        → ((es : List Claim) → AreStated g words xs es → AreStated g words (xs ++ ys) (es ++ ds))
        → MatchBool b (StatesFirst g words x.tokens (AreStated g words xs) cs) (AreStated g words xs cs)
        → MatchBool b (StatesFirst g words x.tokens (AreStated g words (xs ++ ys)) (cs ++ ds)) (AreStated g words (xs ++ ys) (cs ++ ds))
    by_test true behind states = record {
      own = states.own;
      rest = states.rest ++ ds;
      means = states.means;
      follow = behind states.rest states.follow;
      joined = ap (λ es. es ++ ds) states.joined ∙ append_assoc states.own states.rest ds;
    }
    by_test false behind stated = behind cs stated

-- what a wiki knows is what is known in its articles
pub knows_from_known : (g : GrammarParts) (words : Listed) (articles : List Article) (senses : List (List Sense))
    → MeanInEach g words articles senses → AreStated g words (sentences_in articles) (known_in articles senses)
knows_from_known g words [] [] mean = refl
knows_from_known g words [] (own ∷ senses) mean = absurd mean
knows_from_known g words (a ∷ articles) [] mean = absurd mean
knows_from_known g words (a ∷ articles) (own ∷ senses) mean =
    stated_append g words a.sentences (sentences_in articles) (known_of a.sentences (meanings_in own)) (known_in articles senses)
    (stated_from_known g words a.sentences (meanings_in own) mean.0) (knows_from_known g words articles senses mean.1)

-- no meanings, nothing known
known_of-none : (sentences : List Sentence) → known_of sentences [] ≡ []
known_of-none [] = refl
known_of-none (s ∷ ss) = refl

known_in-none : (articles : List Article) → known_in articles [] ≡ []
known_in-none [] = refl
known_in-none (a ∷ articles) = refl

-- nothing is known behind the end of either list
pub known_of-past : (sentences : List Sentence) (senses : List Sense) (n : ℕ) → min (length sentences) (length senses) ≤ n
    → known_of (drop n sentences) (meanings_in (drop n senses)) ≡ []
known_of-past sentences senses n past = by_length (cases_lt n (length sentences))
  where
    by_length : (n < length sentences) ⊎ (length sentences ≤ n) → known_of (drop n sentences) (meanings_in (drop n senses)) ≡ []
    by_length (inl before) =
        let all : length senses ≤ n = omega (arith, past, before) in
        ap (λ (ms : List Sense). known_of (drop n sentences) (meanings_in ms)) (drop_all n senses all) ∙ known_of-none (drop n sentences)
    by_length (inr all) = ap (λ (ss : List Sentence). known_of ss (meanings_in (drop n senses))) (drop_all n sentences all)

pub known_in-past : (articles : List Article) (senses : List (List Sense)) (n : ℕ) → min (length articles) (length senses) ≤ n
    → known_in (drop n articles) (drop n senses) ≡ []
known_in-past articles senses n past = by_length (cases_lt n (length articles))
  where
    by_length : (n < length articles) ⊎ (length articles ≤ n) → known_in (drop n articles) (drop n senses) ≡ []
    by_length (inl before) =
        let all : length senses ≤ n = omega (arith, past, before) in
        ap (λ (ms : List (List Sense)). known_in (drop n articles) ms) (drop_all n senses all) ∙ known_in-none (drop n articles)
    by_length (inr all) = ap (λ (as_left : List Article). known_in as_left (drop n senses)) (drop_all n articles all)

-- the axioms from a place on are those of the sentence there and those behind it
pub known_of-step : (sentences : List Sentence) (senses : List Sense) (i : ℕ) (s : Sentence) (sense : Sense)
    → i < length sentences → i < length senses → s ≡ get_or sentences i s → sense ≡ get_or senses i sense
    → known_of (drop i sentences) (meanings_in (drop i senses))
    ≡ cond (is_asserted s.status) (stated_by (meaning_shown sense)) [] ++ known_of (drop (i + 1) sentences) (meanings_in (drop (i + 1) senses))
known_of-step sentences senses i s sense in_sentences in_senses at at_sense =
    ap (λ (ss : List Sentence). known_of ss (meanings_in (drop i senses)))
    (drop_more sentences i s in_sentences ∙ ap (λ (t : Sentence). t ∷ drop (i + 1) sentences) (sym at))
    ∙ ap (λ (ms : List Sense). known_of (s ∷ drop (i + 1) sentences) (meanings_in ms))
    (drop_more senses i sense in_senses ∙ ap (λ (t : Sense). t ∷ drop (i + 1) senses) (sym at_sense))

pub known_in-step : (articles : List Article) (senses : List (List Sense)) (i : ℕ) (a : Article) (own : List Sense)
    → i < length articles → i < length senses → a ≡ get_or articles i a → own ≡ get_or senses i own
    → known_in (drop i articles) (drop i senses)
    ≡ known_of a.sentences (meanings_in own) ++ known_in (drop (i + 1) articles) (drop (i + 1) senses)
known_in-step articles senses i a own in_articles in_senses at at_senses =
    ap (λ (left : List Article). known_in left (drop i senses)) (drop_more articles i a in_articles ∙ ap (λ (t : Article). t ∷ drop (i + 1) articles) (sym at))
    ∙ ap (λ (left : List (List Sense)). known_in (a ∷ drop (i + 1) articles) left)
    (drop_more senses i own in_senses ∙ ap (λ (t : List Sense). t ∷ drop (i + 1) senses) (sym at_senses))

-- one more part is added, and the others are left
pub joined_step : {X : Type 0} (old new own left all first : List X) → new ≡ old ++ own → old ++ (own ++ left) ≡ first ++ all → new ++ left ≡ first ++ all
joined_step old new own left all first added before = ap (λ xs. xs ++ left) added ∙ append_assoc old own left ∙ before

-- one more item is taken
pub taken_more : {X : Type 0} (first old new xs : List X) (i : ℕ) (x : X) → old ≡ first ++ take i xs → slice_get xs i ≡ Some x → new ≡ old ++ x ∷ []
    → new ≡ first ++ take (i + 1) xs
taken_more first old new xs i x before at added =
    added ∙ ap (λ ys. ys ++ x ∷ []) before ∙ append_assoc first (take i xs) (x ∷ [])
    ∙ ap (λ ys. first ++ ys) (sym (take_more xs i x (slice_get_within xs i x at) ∙ ap (λ y. take i xs ++ y ∷ []) (get_or_from_slice_get xs i x x at)))
