-- What is kept and told where a change of a sentence is made, and what that is of the wiki that is seen.
use Rattle.std.proofs.Common.{◌≡◌, ◌⊎◌, ℕ, zero, ◌+◌, ◌<◌, ◌≤◌, Bool, true, false, cond, List, [], ◌∷◌, length, set, AllPairs, Option, Some, None, inl, inr, refl, sym, ap, subst, ◌∙◌, arith}
use Rattle.std.specs.Prelude.{IsTrue}
use Rattle.std.specs.List.{slice_get}
use Rattle.std.specs.Option.{option_and_then, IsSomeAnd}
use Rattle.std.proofs.lemmas.Bool.{cases_lt}
use Rattle.std.proofs.lemmas.Bool.Decides.{nat_tests}
use Rattle.std.proofs.lemmas.Option.{none-some}
use Rattle.wiki_base.specs.declared.numbers.WordId.{WordId}
use Rattle.wiki_base.proofs.ListLaws.{AllPairs-tail}
use Rattle.codeco_checked.specs.Sound.{IsSound as IsSoundGrammar}
use Rattle.lexicon.specs.Words.{SharesNoForm}
use Rattle.absorb.specs.Mentioned.{are_over}
use Rattle.logic_terms.specs.Concept.{Claim}
use Rattle.logic_terms.specs.Interpretation.{Interpretation}
use Rattle.logic_terms.specs.Plain.{are_plain}
use Rattle.logic_terms.specs.Reading.{IsModel}
use Rattle.owl_eval.specs.declared.checked.CheckedModel.{CheckedModel}
use Rattle.owl_eval.specs.Checked.{kept_interp, kept_claims}
use Rattle.reasoner.specs.Verdicts.{IsFiniteModel}
use Rattle.wiki_talk.specs.declared.limits.TheConstants.{MOST_SENTENCES}
use Rattle.wiki_talk.specs.declared.statuses.Status.{Status}
use Rattle.wiki_talk.specs.declared.statuses.Status.TheVariants.{Asserted, RedBudget}
use Rattle.articles.specs.declared.sentences.Sentence.{Sentence}
use Rattle.articles.specs.declared.article.Article.{Article}
use Rattle.articles.specs.Articles.{AreInOrder, HasPlace, is_of, article_of, changed, with_change, with_status, sentence_at}
use Rattle.articles.specs.Places.{IsPlaceOf}
use Rattle.articles.proofs.PlaceLemmas.{with_change-set}
use Rattle.wiki_parts.specs.declared.meanings.Sense.{Sense}
use Rattle.plain_wiki.specs.State.{Stored}
use Rattle.plain_wiki.specs.Knowledge.{is_asserted, sentences_in, live_names}
use Rattle.wiki_parts.specs.Holding.{Holding}
use Rattle.wiki_parts.specs.Found.{meaning_shown}
use Rattle.wiki_parts.specs.Kept.{stated_by, known_in, known_around, IsAround, Stands, IsKeeping}
use Rattle.wiki_store.specs.declared.putting.Change.{Change}
use Rattle.wiki_store.specs.Putting.{spliced, with_put, with_made, CanBeMade, IsMade}
use Rattle.wiki_store.specs.Settled.{IsTrueIn}
use Rattle.plain_wiki.specs.Doing.{with_inserted, with_replaced, with_marked}
use Rattle.wiki_store.proofs.AroundLemmas.{set_parts, around_place}
use Rattle.wiki_store.proofs.InsideLemmas.{moved}
use Rattle.wiki_store.proofs.JoiningLemmas.{settled-stands, keeps-claims}
use Rattle.wiki_store.proofs.JudgeLemmas.{marked-spliced, fits-standing, keeps-changed, judged_over, judged_plain, status_taken, spends_taken}

-- ---- the wiki with a change

-- a word has one article, so two changes that do the same to its sentences are one
with_change-same : (articles : List Article) → AreInOrder articles → (word : WordId) (f g : List Sentence → List Sentence)
    → IsSomeAnd (article_of articles word) (λ a. f a.sentences ≡ g a.sentences) → with_change articles word f ≡ with_change articles word g
with_change-same [] ordered word f g same = refl
with_change-same (first ∷ articles) ordered word f g same =
    by_test (is_of word first) refl same
    (λ here. with_change-same articles (AllPairs-tail (λ (a b : Article). a.word.0 < b.word.0) first articles ordered) word f g here)
  where
    as_set : (change : List Sentence → List Sentence) → is_of word first ≡ true
        → with_change (first ∷ articles) word change ≡ changed change first ∷ articles
    as_set change is =
        with_change-set (first ∷ articles) ordered word zero
        (record { in_range = omega arith; numbered = λ d. grind (arith, nat_tests, is) }) change first

    by_test : (b : Bool) → is_of word first ≡ b → IsSomeAnd (cond b (Some first) (article_of articles word)) (λ a. f a.sentences ≡ g a.sentences)
        → (IsSomeAnd (article_of articles word) (λ a. f a.sentences ≡ g a.sentences) → with_change articles word f ≡ with_change articles word g)
        → with_change (first ∷ articles) word f ≡ with_change (first ∷ articles) word g
    by_test true is here rest =
        as_set f is
        ∙ ap (λ (ss : List Sentence). (record { word = first.word; revision = record { 0 = first.revision.0 + 1 }; sentences = ss }) ∷ articles) here
        ∙ sym (as_set g is)
    by_test false is here rest =
        ap (λ (b : Bool). cond b (changed f first) first ∷ with_change articles word f) is
        ∙ ap (λ (others : List Article). first ∷ others) (rest here)
        ∙ sym (ap (λ (b : Bool). cond b (changed g first) first ∷ with_change articles word g) is)

-- an item of a list is exchanged for another
pub set-spliced : {X : Type 0} (xs : List X) (from to : ℕ) (x : X) → to ≡ from + 1 → to ≤ length xs → set xs from x ≡ spliced xs from to x
set-spliced xs from to x one within = set_parts xs from x (omega (arith, one, within)) ∙ ap (λ (n : ℕ). spliced xs from n x) (sym one)

-- the same of a sentence of a word's article
pub replaced-spliced : (articles : List Article) → AreInOrder articles → (word : WordId) (from to : ℕ) (s : Sentence) → to ≡ from + 1
    → HasPlace articles word to
    → with_change articles word (λ ss. set ss from s) ≡ with_change articles word (λ ss. spliced ss from to s)
replaced-spliced articles ordered word from to s one there =
    with_change-same articles ordered word (λ ss. set ss from s) (λ ss. spliced ss from to s) (by_article (article_of articles word) there)
  where
    by_article : (o : Option Article) → IsSomeAnd o (λ a. to ≤ length a.sentences)
        → IsSomeAnd o (λ a. set a.sentences from s ≡ spliced a.sentences from to s)
    by_article None within = absurd within
    by_article (Some a) within = set-spliced a.sentences from to s one within

-- a sentence that replaces none is inserted
pub made-inserted : (old : Stored) (change : Change) (status : Status) → change.to ≡ change.from
    → with_made old change status ≡ with_inserted old change.word change.from (record { tokens = change.tokens; status = status })
made-inserted old change status none =
    ap (λ (n : ℕ). with_put old change.word change.from n (record { tokens = change.tokens; status = status })) none

-- in place of one it is put at its place
pub made-replaced : (old : Stored) → AreInOrder old.articles → (change : Change) (status : Status) → change.to ≡ change.from + 1
    → HasPlace old.articles change.word change.to
    → with_made old change status ≡ with_replaced old change.word change.from (record { tokens = change.tokens; status = status })
made-replaced old ordered change status one there =
    ap (λ (xs : List Article). record old { articles = xs })
    (sym (replaced-spliced old.articles ordered change.word change.from change.to (record { tokens = change.tokens; status = status }) one there))

-- in place of itself it gets another status
pub made-marked : (old : Stored) → AreInOrder old.articles → (change : Change) (status : Status) (at : ℕ) (sentence : Sentence) → change.from ≡ at
    → change.to ≡ at + 1 → sentence_at old.articles change.word at ≡ Some sentence → change.tokens ≡ sentence.tokens
    → with_made old change status ≡ with_marked old change.word at status
made-marked old ordered change status at sentence from_is to_is here same =
    ap (λ (n : ℕ). with_put old change.word n change.to s) from_is
    ∙ ap (λ (n : ℕ). with_put old change.word at n s) to_is
    ∙ ap (λ (xs : List Article). record old { articles = xs })
    (with_change-same old.articles ordered change.word (λ ss. spliced ss at (at + 1) s) (λ ss. with_status ss at status)
    (by_article (article_of old.articles change.word) here))
  where
    s : Sentence
    s = record { tokens = change.tokens; status = status }

    by_article : (o : Option Article) → option_and_then (λ (a : Article). slice_get a.sentences at) o ≡ Some sentence
        → IsSomeAnd o (λ a. spliced a.sentences at (at + 1) s ≡ with_status a.sentences at status)
    by_article None is = absurd (none-some sentence is)
    by_article (Some a) is =
        ap (λ (ts : List (List ℕ)). spliced a.sentences at (at + 1) (record { tokens = ts; status = status })) same
        ∙ sym (marked-spliced a.sentences at sentence status is)

-- ---- what the program holds

-- What the program holds where a change is made: a state, with what is kept beside it and slices of it, and where the article stands.
pub record Making (state : Stored) (budget : ℕ) (senses : List (List Sense)) (model : CheckedModel) (change : Change) (articles : List Article)
    (slice : List (List Sense)) (place : ℕ) : Type 0 where
  pub keeping : IsKeeping state senses model
  pub can : CanBeMade state change
  pub ordered : AreInOrder state.articles
  pub same_articles : articles ≡ state.articles
  pub same_senses : slice ≡ senses
  pub is : IsPlaceOf state.articles change.word place

-- it holds that of the wiki that is seen
pub making : {state : Stored} {budget : ℕ} {senses : List (List Sense)} {model : CheckedModel} {now : Holding} {change : Change} {articles : List Article}
    {slice : List (List Sense)} {place : ℕ}
    → record { state = state; budget = budget; interpretation = kept_interp model } ≡ now → IsKeeping state senses model → CanBeMade now.state change
    → AreInOrder state.articles → articles ≡ state.articles → slice ≡ senses → IsPlaceOf now.state.articles change.word place
    → Making state budget senses model change articles slice place
making {change = change} {place = place} view keeping can ordered same_articles same_senses is = record {
  keeping = keeping;
  can = subst (λ (h : Holding). CanBeMade h.state change) (sym view) can;
  ordered = ordered;
  same_articles = same_articles;
  same_senses = same_senses;
  is = subst (λ (h : Holding). IsPlaceOf h.state.articles change.word place) (sym view) is;
}

module _ {state : Stored} {budget : ℕ} {senses : List (List Sense)} {model : CheckedModel} {change : Change} {articles : List Article}
    {slice : List (List Sense)} {place : ℕ} (m : Making state budget senses model change articles slice place) where
  -- a fact of what is kept is one of the slices
  sliced : (P : List Article → List (List Sense) → Type 0) → P state.articles senses → P articles slice
  sliced P here =
      subst (λ (xs : List Article). P xs slice) (sym m.same_articles) (subst (λ (ms : List (List Sense)). P state.articles ms) (sym m.same_senses) here)

  -- and the other way round
  whole : (P : List Article → List (List Sense) → Type 0) → P articles slice → P state.articles senses
  whole P here = subst (λ (xs : List Article). P xs senses) m.same_articles (subst (λ (ms : List (List Sense)). P articles ms) m.same_senses here)

  around : IsAround state.articles senses place change.from change.to
  around =
      around_place state.grammar state.words state.articles senses m.keeping.mean m.ordered change.word place m.is change.from change.to m.can.rises
      m.can.place

  pub around_there : IsAround articles slice place change.from change.to
  around_there = sliced (λ xs ms. IsAround xs ms place change.from change.to) around

  pub known_there : kept_claims model ≡ known_in articles slice
  known_there = sliced (λ xs ms. kept_claims model ≡ known_in xs ms) m.keeping.known

  -- what is kept of the article has the places
  pub own_there : IsSomeAnd (slice_get senses place) (λ kept. change.to ≤ length kept)
  own_there =
      let fits : change.to ≤ length around.own = omega (arith, around.many, around.within) in
      subst (λ (o : Option (List Sense)). IsSomeAnd o (λ kept. change.to ≤ length kept)) (sym around.meant) fits

  -- the conditions of a verdict, by what is so of the wiki that is seen
  pub over_there : {now : Holding} → record { state = state; budget = budget; interpretation = kept_interp model } ≡ now → IsSoundGrammar now.state.grammar
      → AllPairs SharesNoForm now.state.words.live
      → IsTrue (are_over (live_names state.words) (known_around articles slice place change.from (stated_by (meaning_shown change.sense)) change.to))
  over_there view sound apart =
      sliced (λ xs ms. IsTrue (are_over (live_names state.words) (known_around xs ms place change.from (stated_by (meaning_shown change.sense)) change.to)))
      (judged_over state senses place change.from change.to around change.tokens change.sense m.keeping.mean m.can.means
      (subst (λ (h : Holding). IsSoundGrammar h.state.grammar) (sym view) sound)
      (subst (λ (h : Holding). AllPairs SharesNoForm h.state.words.live) (sym view) apart))

  pub plain_there : {now : Holding} → record { state = state; budget = budget; interpretation = kept_interp model } ≡ now → IsSoundGrammar now.state.grammar
      → AllPairs SharesNoForm now.state.words.live
      → IsTrue (are_plain (known_around articles slice place change.from (stated_by (meaning_shown change.sense)) change.to))
  plain_there view sound apart =
      sliced (λ xs ms. IsTrue (are_plain (known_around xs ms place change.from (stated_by (meaning_shown change.sense)) change.to)))
      (judged_plain state senses place change.from change.to around change.tokens change.sense m.keeping.mean m.can.means
      (subst (λ (h : Holding). IsSoundGrammar h.state.grammar) (sym view) sound)
      (subst (λ (h : Holding). AllPairs SharesNoForm h.state.words.live) (sym view) apart))

  -- a statement that is true in an interpretation is asserted, where the model that is kept then is one of all axioms
  pub settled-there : (i : Interpretation) (after : CheckedModel) → IsTrueIn i (meaning_shown change.sense)
      → kept_claims after ≡ known_around articles slice place change.from (stated_by (meaning_shown change.sense)) change.to
      → IsFiniteModel (kept_interp after) (kept_claims after)
      → Stands (known_around articles slice place change.from (stated_by (meaning_shown change.sense)) change.to) (live_names state.words) budget
      (meaning_shown change.sense) Asserted
  settled-there i after true_there claims finite =
      settled-stands i (kept_interp after) (known_around articles slice place change.from (stated_by (meaning_shown change.sense)) change.to)
      (live_names state.words) budget (meaning_shown change.sense) true_there
      (subst (λ (cs : List Claim). IsFiniteModel (kept_interp after) cs) claims finite)

  -- what is kept stays where all is as it was but for the model, which has the same axioms
  pub keeps-undone : (after_articles : List Article) (after_senses : List (List Sense)) (after : CheckedModel) → after_articles ≡ state.articles
      → after_senses ≡ senses → kept_claims after ≡ kept_claims model → IsKeeping (record state { articles = after_articles }) after_senses after
  keeps-undone after_articles after_senses after articles_stay senses_stay same =
      moved (λ xs ms. IsKeeping (record state { articles = xs }) ms after) state.articles after_articles senses after_senses (sym articles_stay)
      (sym senses_stay) (keeps-claims state senses model after m.keeping same)

  module _ (status : Status) (stands : Stands (known_around articles slice place change.from (stated_by (meaning_shown change.sense)) change.to)
      (live_names state.words) budget (meaning_shown change.sense) status) where
    put : Status → List Sentence → List Sentence
    put st ss = spliced ss change.from change.to (record { tokens = change.tokens; status = st })

    stood : Stands (known_around state.articles senses place change.from (stated_by (meaning_shown change.sense)) change.to) (live_names state.words)
        budget (meaning_shown change.sense) status
    stood =
        whole (λ xs ms. Stands (known_around xs ms place change.from (stated_by (meaning_shown change.sense)) change.to) (live_names state.words) budget
        (meaning_shown change.sense) status) stands

    -- there are so many sentences at most
    room : length (sentences_in state.articles) + change.from + 1 ≤ MOST_SENTENCES + change.to
    room = by_places (cases_lt change.from change.to)
      where
        by_places : (change.from < change.to) ⊎ (change.to ≤ change.from) → length (sentences_in state.articles) + change.from + 1 ≤ MOST_SENTENCES + change.to
        by_places (inl before) = omega (arith, before, m.keeping.few)
        by_places (inr none) =
            let rises = m.can.rises in
            let same : change.to ≡ change.from = omega (arith, none, rises) in
            omega (arith, same, m.can.room same)

    -- what is kept beside the state with the change
    pub keeps-made : (after_articles : List Article) (after_senses : List (List Sense)) (after : CheckedModel)
        → after_articles ≡ with_change state.articles change.word
        (λ ss. spliced ss change.from change.to (record { tokens = change.tokens; status = status }))
        → ((kept : List Sense) → slice_get senses place ≡ Some kept → after_senses ≡ set senses place (spliced kept change.from change.to change.sense))
        → kept_claims after ≡ known_around articles slice place change.from (cond (is_asserted status) (stated_by (meaning_shown change.sense)) []) change.to
        → IsKeeping (record state { articles = after_articles }) after_senses after
    unfolding put
    keeps-made after_articles after_senses after articles_are senses_are claims =
        subst (λ (xs : List Article). IsKeeping (record state { articles = xs }) after_senses after) (sym articles_are)
        (subst (λ (ms : List (List Sense)). IsKeeping (record state { articles = with_change state.articles change.word (put status) }) ms after)
        (sym (senses_are around.own around.meant))
        (keeps-changed state senses model change.word place change.from change.to m.ordered m.is around (put status)
        (record { tokens = change.tokens; status = status }) change.sense after m.keeping refl m.can.means
        (fits-standing (known_around state.articles senses place change.from (stated_by (meaning_shown change.sense)) change.to) (live_names state.words)
        budget (meaning_shown change.sense) status stood) m.can.few room
        (whole (λ xs ms. kept_claims after ≡ known_around xs ms place change.from (cond (is_asserted status) (stated_by (meaning_shown change.sense)) [])
        change.to) claims)))

    -- it is made
    pub is-made : (after_articles : List Article) (before after : Interpretation)
        → after_articles ≡ with_change state.articles change.word
        (λ ss. spliced ss change.from change.to (record { tokens = change.tokens; status = status }))
        → (status ≡ RedBudget → IsModel before (known_around articles slice place change.from (stated_by (meaning_shown change.sense)) change.to) → ⊥)
        → IsMade (record { state = state; budget = budget; interpretation = before }) change status
        (record { state = record state { articles = after_articles }; budget = budget; interpretation = after })
    unfolding put
    is-made after_articles before after articles_are beyond = record {
      gets = record {
        meaning = meaning_shown change.sense;
        means = m.can.means;
        fits =
            status_taken state senses place change.from change.to around change.tokens change.sense m.keeping.mean m.can.means change.word m.ordered m.is
            (put Asserted) refl budget status stood;
      };
      after = ap (λ (xs : List Article). record state { articles = xs }) articles_are;
      budget = refl;
      spent = λ red.
          spends_taken state senses place change.from change.to around change.tokens change.sense m.keeping.mean m.can.means change.word m.ordered m.is
          (put Asserted) refl budget before status stood red
          (whole (λ xs ms. IsModel before (known_around xs ms place change.from (stated_by (meaning_shown change.sense)) change.to) → ⊥) (beyond red));
    }

-- it is made of the wiki that is seen
pub seen : {before now new : Holding} {change : Change} {status : Status} → before ≡ now → IsMade before change status new → IsMade now change status new
seen {new = new} {change = change} {status = status} view made = subst (λ (h : Holding). IsMade h change status new) view made
