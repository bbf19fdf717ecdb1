-- What can be put back in one wiki and in another that has the same words and sentences.
use Rattle.std.proofs.Common.{◌≡◌, ℕ, zero, suc, eqb, ◌≤◌, Bool, true, false, cond, List, [], ◌∷◌, length, take, find, Option, Some, None, option_map, refl, sym, ap, subst, ◌∙◌}
use Rattle.std.specs.Option.{IsSomeAnd}
use Rattle.wiki_base.specs.declared.numbers.WordId.{WordId}
use Rattle.codeco_terms.specs.GrammarParts.{GrammarParts}
use Rattle.lexicon.specs.Words.{Listed}
use Rattle.wiki_talk.specs.declared.limits.TheConstants.{MOST_SENTENCES}
use Rattle.articles.specs.declared.sentences.Sentence.{Sentence}
use Rattle.articles.specs.declared.article.Article.{Article}
use Rattle.articles.specs.Articles.{AreInOrder, HasArticle, is_of, article_of, changed, with_change}
use Rattle.articles.proofs.BareLaws.{Bare, bare, bare_with, bare-changed, bare-over, bare-restored, bare-found}
use Rattle.history.specs.declared.kept.Kept.{Kept}
use Rattle.wiki_parts.specs.Kept.{meanings_in, MeanEach}
use Rattle.plain_wiki.specs.Knowledge.{sentences_in, AreStated}
use Rattle.plain_wiki.specs.State.{Stored}
use Rattle.wiki_parts.specs.Holding as holding
use Rattle.wiki_store.specs.PuttingBack.{with_sentences, CanBePut, IsOfArticle}
use Rattle.wiki_store.proofs.PutBackLemmas.{sentences-same}
use Rattle.turning.specs.Recalling.{CanAllBePut}

-- an article that was there is there
same_option : (a b : Option Article) → option_map (λ (x : Article). x.sentences) b ≡ option_map (λ (x : Article). x.sentences) a → IsSomeAnd a (λ _. Unit {0})
    → IsSomeAnd b (λ _. Unit {0})
same_option None b same there = absurd there
same_option (Some a) None same there = cc
same_option (Some a) (Some b) same there = tt

pub has_alike : (one other : List Article) (word : WordId) → bare other ≡ bare one → HasArticle one word → HasArticle other word
has_alike one other word same there =
    same_option (article_of one word) (article_of other word)
    (bare-found other word ∙ ap (λ (bs : List Bare). option_map (λ (b : Bare). b.1) (find (λ (b : Bare). eqb b.0.0 word.0) bs)) same
    ∙ sym (bare-found one word))
    there

pub has_changed : (articles : List Article) (word other : WordId) (change : List Sentence → List Sentence) → HasArticle articles word
    → HasArticle (with_change articles other change) word
has_changed [] word other change there = absurd there
has_changed (a ∷ articles) word other change there =
    by (cond (is_of other a) (changed change a) a) (stays (is_of other a)) (has_changed articles word other change)
  where
    stays : (t : Bool) → (cond t (changed change a) a).word ≡ a.word
    stays true = refl
    stays false = refl

    by : (x : Article) → x.word ≡ a.word → (HasArticle articles word → HasArticle (with_change articles other change) word)
        → HasArticle (x ∷ with_change articles other change) word
    by x same rest = at (is_of word x) refl
      where
        at : (s : Bool) → is_of word x ≡ s → IsSomeAnd (cond s (Some x) (article_of (with_change articles other change) word)) (λ _. Unit {0})
        at true is = tt
        at false is =
            rest (subst (λ (b : Bool). IsSomeAnd (cond b (Some a) (article_of articles word)) (λ _. Unit {0}))
            (ap (λ (w : WordId). eqb w.0 word.0) (sym same) ∙ is) there)

-- two states with the same grammar, words and sentences
pub record Alike (one other : Stored) : Type 0 where
  pub grammar : other.grammar ≡ one.grammar
  pub words : other.words ≡ one.words
  pub articles : bare other.articles ≡ bare one.articles

pub can_by : (one other : Stored) (kept : Kept) → HasArticle other.articles kept.article → other.grammar ≡ one.grammar → other.words ≡ one.words
    → bare (with_sentences other kept.article kept.sentences).articles ≡ bare (with_sentences one kept.article kept.sentences).articles
    → CanBePut one kept → CanBePut other kept
can_by one other kept there grammar words same can =
    let sentences = sentences-same (with_sentences one kept.article kept.sentences).articles (with_sentences other kept.article kept.sentences).articles same in
    record {
      there = there;
      mean =
          subst (λ (g : GrammarParts). MeanEach g other.words kept.sentences (meanings_in kept.senses)) (sym grammar)
          (subst (λ (w : Listed). MeanEach one.grammar w kept.sentences (meanings_in kept.senses)) (sym words) can.mean);
      short = can.short;
      few = subst (λ (ss : List Sentence). length ss ≤ MOST_SENTENCES) (sym sentences) can.few;
      claims = can.claims;
      known =
          subst (λ (ss : List Sentence). AreStated other.grammar other.words ss can.claims) (sym sentences)
          (subst (λ (h : GrammarParts). AreStated h other.words (sentences_in (with_sentences one kept.article kept.sentences).articles) can.claims)
          (sym grammar)
          (subst (λ (w : Listed). AreStated one.grammar w (sentences_in (with_sentences one kept.article kept.sentences).articles) can.claims)
          (sym words) can.known));
      model = can.model;
    }

-- the same sentences are there where it was put back
pub bare_alike : (one other : List Article) (word : WordId) (sentences : List Sentence) → bare other ≡ bare one
    → bare (with_change other word (λ _. sentences)) ≡ bare (with_change one word (λ _. sentences))
bare_alike one other word sentences same =
    bare-changed word (λ _. sentences) other ∙ ap (bare_with word (λ _. sentences)) same ∙ sym (bare-changed word (λ _. sentences) one)

pub all_alike : (list : List Kept) (one other : Stored) → Alike one other → CanAllBePut one list → CanAllBePut other list
all_alike [] one other alike can = tt
all_alike (kept ∷ list) one other alike can =
    let same = bare_alike one.articles other.articles kept.article kept.sentences alike.articles in (
      can_by one other kept (has_alike one.articles other.articles kept.article alike.articles can.0.there) alike.grammar alike.words same can.0,
      all_alike list (with_sentences one kept.article kept.sentences) (with_sentences other kept.article kept.sentences)
          (record { grammar = alike.grammar; words = alike.words; articles = same }) can.1,
    )

-- some of the newest can be put back where all can
pub some_can : (n : ℕ) (list : List Kept) (state : Stored) → CanAllBePut state list → CanAllBePut state (take n list)
some_can zero list state can = tt
some_can (suc n) [] state can = tt
some_can (suc n) (kept ∷ list) state can = (can.0, some_can n list (with_sentences state kept.article kept.sentences) can.1)

-- What stood before a change of an article can be put back after it, and then what could be put back before.
module _ (old : holding.Holding) (new : Stored) (ordered : AreInOrder old.state.articles) (word : WordId) (change : List Sentence → List Sentence)
    (after : new ≡ record old.state { articles = with_change old.state.articles word change }) (kept : Kept) (is : IsOfArticle old word kept) where
  abbrev changed_there : List Article
  changed_there = with_change old.state.articles word change

  over : bare (with_change changed_there word (λ _. kept.sentences)) ≡ bare (with_change old.state.articles word (λ _. kept.sentences))
  over =
      bare-changed word (λ _. kept.sentences) changed_there ∙ ap (bare_with word (λ _. kept.sentences)) (bare-changed word change old.state.articles)
      ∙ bare-over word change kept.sentences (bare old.state.articles) ∙ sym (bare-changed word (λ _. kept.sentences) old.state.articles)

  restored : (o : Option Article) → article_of old.state.articles word ≡ o → option_map (λ (a : Article). a.sentences) o ≡ Some kept.sentences
      → bare (with_change old.state.articles word (λ _. kept.sentences)) ≡ bare old.state.articles
  restored None found some = cc
  restored (Some a) found some =
      let same : a.sentences ≡ kept.sentences = ap (λ (o : Option (List Sentence)). option_or_none o a.sentences) some in
      subst (λ (ss : List Sentence). bare (with_change old.state.articles word (λ _. ss)) ≡ bare old.state.articles) same
      (bare-restored old.state.articles ordered word a found)
    where
      option_or_none : Option (List Sentence) → List Sentence → List Sentence
      option_or_none None ss = ss
      option_or_none (Some ss) ts = ss

  restores : bare (with_change old.state.articles word (λ _. kept.sentences)) ≡ bare old.state.articles
  restores = restored (article_of old.state.articles word) refl is.sentences

  at_word : CanBePut old.state (record kept { article = word })
  at_word = subst (λ (w : WordId). CanBePut old.state (record kept { article = w })) is.article is.can

  changed_can : CanBePut (record old.state { articles = changed_there }) (record kept { article = word })
  changed_can =
      can_by old.state (record old.state { articles = changed_there }) (record kept { article = word })
      (has_changed old.state.articles word word change at_word.there) refl refl over at_word

  pub noted_can : CanBePut new kept
  noted_can =
      subst (λ (s : Stored). CanBePut s kept) (sym after)
      (subst (λ (w : WordId). CanBePut (record old.state { articles = changed_there }) (record kept { article = w })) (sym is.article) changed_can)

  pub noted_all : (past : List Kept) → CanAllBePut old.state past → CanAllBePut new (kept ∷ past)
  noted_all past can = (
    noted_can,
    subst (λ (s : Stored). CanAllBePut (with_sentences s kept.article kept.sentences) past) (sym after)
        (subst (λ (w : WordId). CanAllBePut (with_sentences (record old.state { articles = changed_there }) w kept.sentences) past) (sym is.article)
        (all_alike past old.state (with_sentences (record old.state { articles = changed_there }) word kept.sentences)
        (record { grammar = refl; words = refl; articles = over ∙ restores }) can)),
  )
