-- Steps on a sentence that is judged, from what their parts ensure.
use Rattle.std.proofs.Common.{◌≡◌, ℕ, ◌+◌, ◌<◌, ◌≤◌, List, length, Option, Some, None, unwrap_or, refl, sym, ap, subst, ◌∙◌}
use Rattle.std.specs.Prelude.{IfSome}
use Rattle.std.specs.List.{slice_get}
use Rattle.std.specs.Option.{option_and_then, IsSomeAnd}
use Rattle.wiki_base.specs.declared.numbers.WordId.{WordId}
use Rattle.derivation_trees.specs.Cutting.{shown}
use Rattle.lexicon.specs.declared.words.TheConstants.{LAST_NUMBER}
use Rattle.wiki_talk.specs.declared.statuses.Status.{Status}
use Rattle.wiki_talk.specs.declared.statuses.Status.TheVariants.{Asserted, RedBudget}
use Rattle.wiki_talk.specs.declared.replies.Reply.TheVariants as replies
use Rattle.wiki_talk.specs.declared.requests.ArticleRequest.TheVariants as of_article
use Rattle.articles.specs.declared.sentences.Sentence.{Sentence}
use Rattle.articles.specs.declared.article.Article.{Article}
use Rattle.articles.specs.Articles.{AreInOrder, article_of, sentence_at, CanChange, HasPlace, HasSentence}
use Rattle.plain_wiki.specs.State.{Stored}
use Rattle.plain_wiki.specs.Places.{article_named}
use Rattle.plain_wiki.specs.Parsing.{tokens_of}
use Rattle.plain_wiki.specs.Knowledge.{GetStatus}
use Rattle.plain_wiki.specs.Doing.{AddsSentence, EditsSentence, ReassertsSentence, with_inserted, with_replaced, with_marked, sentence_with, place_for, end_of, with_appended}
use Rattle.wiki_parts.specs.Holding.{Holding}
use Rattle.wiki_parts.specs.Spending.{IsCutOff}
use Rattle.wiki_store.specs.declared.putting.Change.{Change}
use Rattle.wiki_store.specs.Putting.{with_made, IsMade}
use Rattle.wiki_store.specs.Asking.{taken_on, taken_by}
use Rattle.wiki_store.specs.Spending.{IsNoModelWith, SpendsBeyond, SpendsAtEnd}
use Rattle.wiki_store.proofs.JoiningLemmas.{some-there}
use Rattle.wiki_store.proofs.PutLemmas.{made-inserted, made-replaced, made-marked}

-- ---- places

-- what is so of what is named gives another thing that is so of it
pub of-named : {T : Type 0} (o : Option T) (P Q : T → Type 0) → ((x : T) → P x → Q x) → IsSomeAnd o P → IsSomeAnd o Q
of-named None P Q gives here = absurd here
of-named (Some x) P Q gives here = gives x here

pub can-change : (articles : List Article) (word : WordId) (article : Article) → article_of articles word ≡ Some article → article.revision.0 < LAST_NUMBER
    → CanChange articles word
can-change articles word article found before = subst (λ (o : Option Article). IsSomeAnd o (λ a. a.revision.0 < LAST_NUMBER)) (sym found) before

pub has-place : (articles : List Article) (word : WordId) (article : Article) (at : ℕ) → article_of articles word ≡ Some article → at ≤ length article.sentences
    → HasPlace articles word at
has-place articles word article at found within = subst (λ (o : Option Article). IsSomeAnd o (λ a. at ≤ length a.sentences)) (sym found) within

pub has-sentence : (articles : List Article) (word : WordId) (article : Article) (at : ℕ) → article_of articles word ≡ Some article
    → at < length article.sentences → HasSentence articles word at
has-sentence articles word article at found within = subst (λ (o : Option Article). IsSomeAnd o (λ a. at < length a.sentences)) (sym found) within

-- ---- a change is made

module _ (old : Holding) (form : List ℕ) (change : Change) (status : Status) (new : Holding) (made : IsMade old change status new) where
  -- where the wiki with the change is another one by another word of the article
  module _ (with_word : WordId → Status → Stored) (is : (st : Status) → with_made old.state change st ≡ with_word change.word st) where
    gets_on : (word : WordId) (tokens : List (List ℕ)) → word ≡ change.word → change.tokens ≡ tokens
        → GetStatus (IsCutOff old.budget) (with_word word Asserted) tokens status
    gets_on word tokens same cut =
        subst (λ (w : WordId). GetStatus (IsCutOff old.budget) (with_word w Asserted) tokens status) (sym same)
        (subst (λ (s : Stored). GetStatus (IsCutOff old.budget) s tokens status) (is Asserted)
        (subst (λ (ts : List (List ℕ)). GetStatus (IsCutOff old.budget) (with_made old.state change Asserted) ts status) cut made.gets))

    after_on : (word : WordId) → word ≡ change.word → new.state ≡ with_word word status
    after_on word same = made.after ∙ is status ∙ ap (λ (w : WordId). with_word w status) (sym same)

    spent_on : (word : WordId) → word ≡ change.word → status ≡ RedBudget → IsNoModelWith old (with_word word Asserted)
    spent_on word same red =
        subst (λ (w : WordId). IsNoModelWith old (with_word w Asserted)) (sym same)
        (subst (λ (s : Stored). IsNoModelWith old s) (is Asserted) (made.spent red))

  -- where its tokens are those of the text
  module _ (text : List ℕ) (cut : change.tokens ≡ tokens_of old.state text) where
    shown_cut : (text_shown : List ℕ) → text_shown ≡ shown old.state.grammar.terminals change.tokens
        → text_shown ≡ shown old.state.grammar.terminals (tokens_of old.state text)
    shown_cut text_shown shows = shows ∙ ap (λ (ts : List (List ℕ)). shown old.state.grammar.terminals ts) cut

    -- it is inserted
    module _ (given : Option ℕ) (named : IsSomeAnd (article_named old.state form) (λ article. (article.word ≡ change.word)
        × (place_for article given ≡ change.from))) (none : change.to ≡ change.from) where
      as_inserted : (article : Article) → place_for article given ≡ change.from → (st : Status)
          → with_made old.state change st ≡ with_inserted old.state change.word (place_for article given) (sentence_with old.state text st)
      as_inserted article at_place st =
          made-inserted old.state change st none
          ∙ ap (λ (ts : List (List ℕ)). with_inserted old.state change.word change.from (record { tokens = ts; status = st })) cut
          ∙ ap (λ (n : ℕ). with_inserted old.state change.word n (sentence_with old.state text st)) (sym at_place)

      pub adds-step : (text_shown : List ℕ) → text_shown ≡ shown old.state.grammar.terminals change.tokens
          → IsSomeAnd (article_named old.state form)
          (λ article. AddsSentence (IsCutOff old.budget) given text article old.state (replies.Add status text_shown) new.state)
      adds-step text_shown shows =
          of-named (article_named old.state form) (λ article. (article.word ≡ change.word) × (place_for article given ≡ change.from))
          (λ article. AddsSentence (IsCutOff old.budget) given text article old.state (replies.Add status text_shown) new.state)
          (λ article found.
          let with_word : WordId → Status → Stored = λ w st. with_inserted old.state w (place_for article given) (sentence_with old.state text st) in
          let is : (st : Status) → with_made old.state change st ≡ with_word change.word st = as_inserted article found.1 in
          record {
            status = status;
            gets = gets_on with_word is article.word (tokens_of old.state text) found.0 cut;
            answer = ap (λ (it : List ℕ). replies.Add status it) (shown_cut text_shown shows);
            after = after_on with_word is article.word found.0;
          })
          named

      pub adds-spent : (text_shown : List ℕ) → SpendsBeyond old (taken_by old.state form (of_article.Add given text)) (replies.Add status text_shown)
      adds-spent text_shown told = by (article_named old.state form) named
        where
          by : (o : Option Article) → IsSomeAnd o (λ article. (article.word ≡ change.word) × (place_for article given ≡ change.from))
              → IfSome (option_and_then (taken_on old.state (of_article.Add given text)) o) (IsNoModelWith old)
          by None here = absurd here
          by (Some article) here =
              spent_on (λ w st. with_inserted old.state w (place_for article given) (sentence_with old.state text st)) (as_inserted article here.1)
              article.word here.0 (ap (λ (o : Option Status). unwrap_or o RedBudget) told)

    -- it is put in place of another
    module _ (named : IsSomeAnd (article_named old.state form) (λ article. article.word ≡ change.word)) (ordered : AreInOrder old.state.articles)
        (there : HasPlace old.state.articles change.word change.to) (place : ℕ) (from : change.from ≡ place) (to : change.to ≡ place + 1) where
      replacing : WordId → Status → Stored
      replacing word st = with_replaced old.state word place (sentence_with old.state text st)

      as_replaced : (st : Status) → with_made old.state change st ≡ replacing change.word st
      unfolding replacing
      as_replaced st =
          made-replaced old.state ordered change st (to ∙ ap (λ (n : ℕ). n + 1) (sym from)) there
          ∙ ap (λ (n : ℕ). with_replaced old.state change.word n (record { tokens = change.tokens; status = st })) from
          ∙ ap (λ (ts : List (List ℕ)). with_replaced old.state change.word place (record { tokens = ts; status = st })) cut

      pub edits-step : (text_shown : List ℕ) → text_shown ≡ shown old.state.grammar.terminals change.tokens
          → IsSomeAnd (article_named old.state form)
          (λ article. EditsSentence (IsCutOff old.budget) place text article old.state (replies.Edit status text_shown) new.state)
      unfolding replacing
      edits-step text_shown shows =
          of-named (article_named old.state form) (λ article. article.word ≡ change.word)
          (λ article. EditsSentence (IsCutOff old.budget) place text article old.state (replies.Edit status text_shown) new.state)
          (λ article found. record {
            status = status;
            gets = gets_on replacing as_replaced article.word (tokens_of old.state text) found cut;
            answer = ap (λ (it : List ℕ). replies.Edit status it) (shown_cut text_shown shows);
            after = after_on replacing as_replaced article.word found;
          })
          named

      pub edits-spent : (text_shown : List ℕ) → SpendsBeyond old (taken_by old.state form (of_article.Edit place text)) (replies.Edit status text_shown)
      unfolding replacing
      edits-spent text_shown told = by (article_named old.state form) named
        where
          by : (o : Option Article) → IsSomeAnd o (λ article. article.word ≡ change.word)
              → IfSome (option_and_then (taken_on old.state (of_article.Edit place text)) o) (IsNoModelWith old)
          by None here = absurd here
          by (Some article) here = spent_on replacing as_replaced article.word here (ap (λ (o : Option Status). unwrap_or o RedBudget) told)

  -- where it is the sentence that is there
  module _ (ordered : AreInOrder old.state.articles) (place : ℕ) (from : change.from ≡ place) (to : change.to ≡ place + 1)
      (there : IsSomeAnd (article_named old.state form) (λ article. (article.word ≡ change.word)
      × (article_of old.state.articles article.word ≡ Some article)
      × IsSomeAnd (slice_get article.sentences place) (λ sentence. change.tokens ≡ sentence.tokens))) where
    marking : WordId → Status → Stored
    marking word st = with_marked old.state word place st

    as_marked : (article : Article) → article.word ≡ change.word → article_of old.state.articles article.word ≡ Some article → (s : Sentence)
        → slice_get article.sentences place ≡ Some s → change.tokens ≡ s.tokens → (st : Status)
        → with_made old.state change st ≡ marking change.word st
    unfolding marking
    as_marked article word found s here same st =
        made-marked old.state ordered change st place s from to
        (ap (λ (w : WordId). sentence_at old.state.articles w place) (sym word)
        ∙ ap (option_and_then (λ (a : Article). slice_get a.sentences place)) found ∙ here) same

    pub reasserts-step : IsSomeAnd (article_named old.state form)
        (λ article. ReassertsSentence (IsCutOff old.budget) place article old.state (replies.Reassert status) new.state)
    unfolding marking
    reasserts-step =
        of-named (article_named old.state form) (λ article. (article.word ≡ change.word)
        × (article_of old.state.articles article.word ≡ Some article)
        × IsSomeAnd (slice_get article.sentences place) (λ sentence. change.tokens ≡ sentence.tokens))
        (λ article. ReassertsSentence (IsCutOff old.budget) place article old.state (replies.Reassert status) new.state)
        (λ article found.
        let s = some-there (λ (s : Sentence). change.tokens ≡ s.tokens) (slice_get article.sentences place) found.2 in
        let is : (st : Status) → with_made old.state change st ≡ marking change.word st = as_marked article found.0 found.1 s.0 s.1 s.2 in
        record {
          sentence = s.0;
          here = s.1;
          status = status;
          gets = gets_on marking is article.word s.0.tokens found.0 s.2;
          answer = refl;
          after = after_on marking is article.word found.0;
        })
        there

    pub reasserts-spent : SpendsBeyond old (taken_by old.state form (of_article.Reassert place)) (replies.Reassert status)
    unfolding marking
    reasserts-spent told = by (article_named old.state form) there
      where
        by : (o : Option Article) → IsSomeAnd o (λ article. (article.word ≡ change.word)
            × (article_of old.state.articles article.word ≡ Some article)
            × IsSomeAnd (slice_get article.sentences place) (λ sentence. change.tokens ≡ sentence.tokens))
            → IfSome (option_and_then (taken_on old.state (of_article.Reassert place)) o) (IsNoModelWith old)
        by None here = absurd here
        by (Some article) here =
            let s = some-there (λ (s : Sentence). change.tokens ≡ s.tokens) (slice_get article.sentences place) here.2 in
            spent_on marking (as_marked article here.0 here.1 s.0 s.1 s.2) article.word here.0 (ap (λ (o : Option Status). unwrap_or o RedBudget) told)

-- ---- tokens are added at the end of an article

module _ (old new : Holding) (change : Change) (tokens : List (List ℕ)) (end : change.from ≡ end_of old.state.articles change.word)
    (none : change.to ≡ change.from) (same : change.tokens ≡ tokens) (status : Status) (made : IsMade old change status new) where
  as_appended : (st : Status) → with_made old.state change st ≡ with_appended old.state change.word tokens st
  as_appended st =
      made-inserted old.state change st none
      ∙ ap (λ (n : ℕ). with_inserted old.state change.word n (record { tokens = change.tokens; status = st })) end
      ∙ ap (λ (ts : List (List ℕ)). with_appended old.state change.word ts st) same

  pub appends-status : GetStatus (IsCutOff old.budget) (with_appended old.state change.word tokens Asserted) tokens status
  appends-status =
      subst (λ (s : Stored). GetStatus (IsCutOff old.budget) s tokens status) (as_appended Asserted)
      (subst (λ (ts : List (List ℕ)). GetStatus (IsCutOff old.budget) (with_made old.state change Asserted) ts status) same made.gets)

  pub appends-after : new.state ≡ with_appended old.state change.word tokens status
  appends-after = made.after ∙ as_appended status

  pub appends-spent : SpendsAtEnd old change.word tokens status
  appends-spent red = subst (λ (s : Stored). IsNoModelWith old s) (as_appended Asserted) (made.spent red)
