-- What is kept beside a state in which it was put back what an article had.
use Rattle.std.proofs.Common.{◌≡◌, ℕ, ◌+◌, ◌≤◌, List, [], ◌∷◌, ◌++◌, length, take, drop, get_or, set, flat_map, All, Option, Some, None, option_map, refl, sym, ap, subst, ◌∙◌, arith}
use Rattle.std.specs.Option.{IsSomeAnd}
use Rattle.std.proofs.lemmas.List.{length-append}
use Rattle.std.proofs.lemmas.Option.{same_Some}
use Rattle.std.proofs.lemmas.List.Elements.{All-nil, All-cons}
use Rattle.wiki_base.specs.declared.numbers.WordId.{WordId}
use Rattle.wiki_base.specs.declared.tokens.TheConstants.{MOST_TOKENS}
use Rattle.logic_terms.specs.Concept.{Claim}
use Rattle.logic_terms.specs.Interpretation.{Interpretation}
use Rattle.logic_terms.specs.Reading.{IsModel}
use Rattle.owl_eval.specs.declared.checked.CheckedModel.{CheckedModel}
use Rattle.owl_eval.specs.Checked.{kept_interp, kept_claims}
use Rattle.wiki_talk.specs.declared.limits.TheConstants.{MOST_SENTENCES}
use Rattle.articles.specs.declared.sentences.Sentence.{Sentence}
use Rattle.articles.specs.declared.article.Article.{Article}
use Rattle.articles.specs.Articles.{AreInOrder, article_of, changed, with_change}
use Rattle.articles.specs.Places.{IsPlaceOf}
use Rattle.articles.proofs.PlaceLemmas.{with_change-set}
use Rattle.articles.proofs.BareLaws.{Bare, bare, bare-restored}
use Rattle.history.specs.declared.kept.Kept.{Kept}
use Rattle.wiki_parts.specs.declared.meanings.Sense.{Sense}
use Rattle.wiki_parts.specs.Kept.{meanings_in, known_of, known_in, MeanEach, MeanInEach, IsKeeping}
use Rattle.plain_wiki.specs.Knowledge.{sentences_in, AreStated, Knows}
use Rattle.plain_wiki.specs.State.{Stored}
use Rattle.wiki_parts.proofs.KnownLemmas.{knows_from_known}
use Rattle.wiki_parts.proofs.MeaningLemmas.{knows_one}
use Rattle.wiki_store.specs.PuttingBack.{with_sentences, CanBePut, IsOfArticle}
use Rattle.wiki_store.proofs.ChangeLemmas.{words-with_change, all-with_change, mean_in-set}
use Rattle.wiki_store.proofs.AroundLemmas.{known_in-set}
use Rattle.wiki_store.proofs.KeepingLemmas.{as_many_lists, each_there}

-- no article has more sentences than there are
pub each_within : (articles : List Article) (n : ℕ) → length (sentences_in articles) ≤ n → All (λ (a : Article). length a.sentences ≤ n) articles
each_within [] n few = All-nil (λ (a : Article). length a.sentences ≤ n)
each_within (a ∷ articles) n few =
    let both = length-append a.sentences (sentences_in articles) in
    All-cons (λ (b : Article). length b.sentences ≤ n) a articles (omega (arith, few, both)) (each_within articles n (omega (arith, few, both)))

-- all sentences, whatever the revisions are
pub sentences-bare : (articles : List Article) → sentences_in articles ≡ flat_map (λ (b : Bare). b.1) (bare articles)
sentences-bare [] = refl
sentences-bare (a ∷ articles) = ap (λ (ss : List Sentence). a.sentences ++ ss) (sentences-bare articles)

pub sentences-same : (one other : List Article) → bare other ≡ bare one → sentences_in other ≡ sentences_in one
sentences-same one other same =
    sentences-bare other ∙ ap (λ (bs : List Bare). flat_map (λ (b : Bare). b.1) bs) same ∙ sym (sentences-bare one)

module _ (state : Stored) (senses : List (List Sense)) (model : CheckedModel) (keeping : IsKeeping state senses model) (ordered : AreInOrder state.articles)
  where
    -- the articles where it was put back, each with what its sentences mean
    module _ (kept : Kept) (can : CanBePut state kept) (place : ℕ) (is : IsPlaceOf state.articles kept.article place) where
      abbrev put_articles : List Article
      put_articles = with_change state.articles kept.article (λ _. kept.sentences)

      abbrev other : Article
      other = record { word = kept.article; revision = record { 0 = 0 }; sentences = [] }

      abbrev there : Article
      there = changed (λ _. kept.sentences) (get_or state.articles place other)

      as_set : put_articles ≡ set state.articles place there
      as_set = with_change-set state.articles ordered kept.article place is (λ _. kept.sentences) other

      pub put_mean : MeanInEach state.grammar state.words put_articles (set senses place kept.senses)
      put_mean = subst (λ (xs : List Article). MeanInEach state.grammar state.words xs (set senses place kept.senses)) (sym as_set)
          (mean_in-set state.grammar state.words state.articles senses place there kept.senses keeping.mean can.mean)

      -- what is known then
      pub put_known : Knows (with_sentences state kept.article kept.sentences) (known_in put_articles (set senses place kept.senses))
      put_known = knows_from_known state.grammar state.words put_articles (set senses place kept.senses) put_mean

      -- by the articles before it, its own sentences, and the articles behind it
      pub put_parts : known_in put_articles (set senses place kept.senses)
          ≡ known_in (take place state.articles) (take place senses)
          ++ (known_of kept.sentences (meanings_in kept.senses) ++ known_in (drop (place + 1) state.articles) (drop (place + 1) senses))
      put_parts =
          ap (λ (xs : List Article). known_in xs (set senses place kept.senses)) as_set
          ∙ known_in-set state.articles senses place there kept.senses is.in_range (as_many_lists state.grammar state.words state.articles senses keeping.mean)

      -- the interpretation that was kept is a model of it
      pub put_model : IsModel kept.interp (known_in (take place state.articles) (take place senses)
          ++ (known_of kept.sentences (meanings_in kept.senses) ++ known_in (drop (place + 1) state.articles) (drop (place + 1) senses)))
      put_model =
          subst (IsModel kept.interp)
          (knows_one (with_sentences state kept.article kept.sentences) can.claims (known_in put_articles (set senses place kept.senses)) can.known put_known
          ∙ put_parts)
          can.model

    -- what is kept where it was put back
    pub keeps_put : (kept : Kept) → CanBePut state kept → (place : ℕ) → IsPlaceOf state.articles kept.article place → (made : CheckedModel)
        → Knows (with_sentences state kept.article kept.sentences) (kept_claims made)
        → IsKeeping (with_sentences state kept.article kept.sentences) (set senses place kept.senses) made
    keeps_put kept can place is made knows = record {
      sound = record {
        labelled = keeping.sound.labelled;
        terminals = keeping.sound.terminals;
        articles = words-with_change kept.article change state.articles ∙ keeping.sound.articles;
        few = each_within articles MOST_SENTENCES can.few;
      };
      mean = put_mean kept can place is;
      known = knows_one after (kept_claims made) (known_in articles (set senses place kept.senses)) knows (put_known kept can place is);
      short = all-with_change kept.article change (λ (s : Sentence). length s.tokens ≤ MOST_TOKENS) (λ ss all. can.short) state.articles keeping.short;
      few = can.few;
    }
      where
        change : List Sentence → List Sentence
        change _ = kept.sentences

        after : Stored
        after = with_sentences state kept.article kept.sentences

        articles : List Article
        articles = with_change state.articles kept.article change

    -- what an article has can be put back
    pub can_be_put : (word : WordId) (article : Article) → article_of state.articles word ≡ Some article → (own : List Sense)
        → MeanEach state.grammar state.words article.sentences (meanings_in own) → (interp : Interpretation) → IsModel interp (kept_claims model)
        → CanBePut state (record { article = word; sentences = article.sentences; senses = own; interp = interp })
    can_be_put word article found own mean interp holds = record {
      there = subst (λ (o : Option Article). IsSomeAnd o (λ _. Unit {0})) (sym found) tt;
      mean = mean;
      short = each_there (λ (s : Sentence). length s.tokens ≤ MOST_TOKENS) state.articles word article found keeping.short;
      few = subst (λ (ss : List Sentence). length ss ≤ MOST_SENTENCES) (sym all) keeping.few;
      claims = kept_claims model;
      known =
          subst (λ (claims : List Claim). AreStated state.grammar state.words (sentences_in articles) claims) (sym keeping.known)
          (subst (λ (ss : List Sentence). AreStated state.grammar state.words ss (known_in state.articles senses)) (sym all)
          (knows_from_known state.grammar state.words state.articles senses keeping.mean));
      model = holds;
    }
      where
        articles : List Article
        articles = with_change state.articles word (λ _. article.sentences)

        all : sentences_in articles ≡ sentences_in state.articles
        all = sentences-same state.articles articles (bare-restored state.articles ordered word article found)

-- what an article has is what is kept of it, copied
pub of_article : (state : Stored) (budget : ℕ) (senses : List (List Sense)) (model : CheckedModel) → IsKeeping state senses model → AreInOrder state.articles
    → (word : WordId) (sentences : List Sentence) (own : List Sense) (interp : Interpretation)
    → option_map (λ (a : Article). a.sentences) (article_of state.articles word) ≡ Some sentences
    → ((a : Article) → article_of state.articles word ≡ Some a → MeanEach state.grammar state.words a.sentences (meanings_in own))
    → interp ≡ kept_interp model → IsModel interp (kept_claims model)
    → IsOfArticle (record { state = state; budget = budget; interpretation = kept_interp model }) word
    (record { article = word; sentences = sentences; senses = own; interp = interp })
of_article state budget senses model keeping ordered word sentences own interp there mean interpretation holds = record {
  article = refl;
  sentences = there;
  interpretation = interpretation;
  can = by (article_of state.articles word) refl there;
}
  where
    by : (o : Option Article) → article_of state.articles word ≡ o → option_map (λ (a : Article). a.sentences) o ≡ Some sentences
        → CanBePut state (record { article = word; sentences = sentences; senses = own; interp = interp })
    by None found none = absurd (cc none)
    by (Some a) found some =
        subst (λ (ss : List Sentence). CanBePut state (record { article = word; sentences = ss; senses = own; interp = interp }))
        (same_Some a.sentences sentences some)
        (can_be_put state senses model keeping ordered word a found own (mean a found) interp holds)
