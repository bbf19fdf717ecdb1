-- One turn of the wiki with its history: what is noted, what is put back, and what can be put back then.
use Rattle.std.proofs.Common.{◌≡◌, ℕ, zero, suc, ◌<◌, Bool, true, false, List, [], ◌∷◌, map, take, drop, Option, Some, None, option_map, unwrap_or, Result, Ok, Err, IfOk, OnErr, refl, sym, ap, subst, ◌∙◌}
use Rattle.std.specs.Prelude.{MatchBool, MatchOption, IsSome, IfSome, is_some, cond, find, All, ℕ}
use Rattle.std.specs.List.{slice_get}
use Rattle.std.specs.Option.{IsSomeAnd}
use Rattle.std.proofs.lemmas.Bool.{false≢true}
use Rattle.wiki_base.specs.declared.numbers.WordId.{WordId}
use Rattle.lexicon.specs.declared.words.TheConstants.{LAST_NUMBER}
use Rattle.lexicon.specs.Words.{canonical_form_of, forms_of}
use Rattle.logic_terms.specs.Interpretation.{Interpretation}
use Rattle.wiki_talk.specs.declared.replies.Reply.{Reply}
use Rattle.wiki_talk.specs.declared.replies.Reply.TheVariants as replies
use Rattle.wiki_talk.specs.declared.requests.Request.{Request}
use Rattle.articles.specs.declared.sentences.Sentence.{Sentence}
use Rattle.articles.specs.declared.article.Article.{Article}
use Rattle.articles.specs.Articles.{AreInOrder, article_of, CanChange}
use Rattle.history.specs.declared.kept.Kept.{Kept}
use Rattle.history.specs.declared.history.TheConstants.{MOST_ENTRIES}
use Rattle.history.specs.Entries.{Entries, with_change}
use Rattle.plain_wiki.specs.State.{Stored}
use Rattle.wiki_store.specs.PuttingBack.{CanBePut, IsOfArticle, with_sentences}
use Rattle.wiki_core.specs.Holding.{Holding, store_held, IsKept, IsKeptSession}
use Rattle.wiki_core.specs.Keeping.{changes_words}
use Rattle.wiki_core.specs.PuttingBack.{put_back}
use Rattle.wiki_core.proofs.NamedLemmas.{some_is}
use Rattle.plain_wiki.specs.Step.{Step}
use Rattle.turning.specs.Turning.{Former, Recalling, standing, standing_of, article_changed, NotesChange, Forgets, Remembers, CarriesHistory, PutsBack, HasNothing, IsAtLastRevision}
use Rattle.turning.specs.Recalling.{former, recalling, CanAllBePut, FitsHistory}
use Rattle.turning.specs.Laws.{is_refused}
use Rattle.turning.proofs.AlikeLemmas.{some_can, noted_all}
use Rattle.std.proofs.lemmas.Option.{same_Some}
use Rattle.std.proofs.lemmas.List.Elements.{All-head, All-tail}
use Rattle.plain_wiki.specs.Sessions.{PlainSession, has_number}
use Rattle.plain_wiki.specs.Words.{full_at}
use Rattle.wiki_parts.specs.Sound.{IsSound}
use Rattle.wiki_parts.specs.Spending.{IsCutOff}
use Rattle.wiki_parts.proofs.UseLemmas.{lives-article}
use Rattle.plain_wiki.specs.Places.{session_numbered}
use Rattle.wiki_talk.specs.declared.refusals.Refusal.TheVariants.{Nothing}
use Rattle.wiki_talk.specs.declared.limits.Limit.TheVariants as limits
use Rattle.turning.proofs.ChangeLemmas.{refused_stays, article_done, others_keep}

-- ---- what becomes of the history

pub carries_refused : (old new : Recalling) (request : Request) (reply : Reply) → is_refused reply ≡ true → Remembers old new
    → CarriesHistory old request reply new
carries_refused old new request (replies.Refused refusal) told same = same
carries_refused old new request reply told same = absurd (false≢true told)

pub carries_done : (old new : Recalling) (request : Request) (reply : Reply) → is_refused reply ≡ false
    → MatchBool (changes_words request) (Forgets new) (MatchOption (article_changed old.wiki.state request) (Remembers old new) (NotesChange old new))
    → CarriesHistory old request reply new
carries_done old new request (replies.Refused refusal) done leaves = absurd (false≢true (sym done))
carries_done old new request reply done leaves = leaves

-- what changes no words and no article leaves the history
pub carries_other : (old new : Recalling) (request : Request) (reply : Reply) → changes_words request ≡ false → article_changed old.wiki.state request ≡ None
    → Remembers old new
    → CarriesHistory old request reply new
carries_other old new request reply no_words none same = by (is_refused reply) refl
  where
    by : (b : Bool) → is_refused reply ≡ b → CarriesHistory old request reply new
    by true told = carries_refused old new request reply told same
    by false done =
        carries_done old new request reply done
        (subst (λ (b : Bool). MatchBool b (Forgets new) (MatchOption (article_changed old.wiki.state request) (Remembers old new) (NotesChange old new)))
        (sym no_words)
        (subst (λ (o : Option WordId). MatchOption o (Remembers old new) (NotesChange old new)) (sym none) same))

-- a done change of words lets all be forgotten
pub carries_words : (old new : Recalling) (request : Request) (reply : Reply) → changes_words request ≡ true → is_refused reply ≡ false → Forgets new
    → CarriesHistory old request reply new
carries_words old new request reply words done gone =
    carries_done old new request reply done
    (subst (λ (b : Bool). MatchBool b (Forgets new) (MatchOption (article_changed old.wiki.state request) (Remembers old new) (NotesChange old new)))
    (sym words) gone)

-- ---- what stands of an article

sentences_are : (o : Option Article) (a : Article) (sentences : List Sentence) → o ≡ Some a
    → option_map (λ (x : Article). x.sentences) o ≡ Some sentences → a.sentences ≡ sentences
sentences_are o a sentences is its =
    ap (λ (p : Option (List Sentence)). unwrap_or p sentences) (sym (ap (option_map (λ (x : Article). x.sentences)) is) ∙ its)

module _ (old : Holding) (word : WordId) (kept : Kept) (is : IsOfArticle (store_held old) word kept) where
  -- what was kept is what stands
  pub former_is : (a : Article) → article_of old.state.stored.articles word ≡ Some a → standing old word a.sentences ≡ former kept
  former_is a found =
      ap (λ (w : WordId). standing old w a.sentences) (sym is.article)
      ∙ ap (λ (ss : List Sentence). standing old kept.article ss)
      (sentences_are (article_of old.state.stored.articles word) a kept.sentences found is.sentences)
      ∙ ap (λ (i : Interpretation). record { article = kept.article; sentences = kept.sentences; interpretation = i }) (sym is.interpretation)

  pub stands : standing_of old word ≡ Some (former kept)
  stands = by (article_of old.state.stored.articles word) refl
    where
      by : (o : Option Article) → article_of old.state.stored.articles word ≡ o
          → option_map (λ (a : Article). standing old word a.sentences) o ≡ Some (former kept)
      by None found = absurd (cc (found, is.sentences))
      by (Some a) found = ap Some (former_is a found)

-- ---- a change that is noted

map_take : (n : ℕ) (list : List Kept) → map former (take n list) ≡ take n (map former list)
map_take zero list = refl
map_take (suc n) [] = refl
map_take (suc n) (kept ∷ list) = ap (λ (fs : List Former). former kept ∷ fs) (map_take n list)

-- What changes no words and no article leaves both lists as they can be put back.
pub other_fits : {E : Type 0} (old new : Holding) (entries : Entries) → FitsHistory old.state.stored entries → (request : Request)
    → changes_words request ≡ false → article_changed old.state request ≡ None → (result : Result Reply E)
    → IfOk result (λ reply. Step (IsCutOff old.budget) old.state request reply new.state) → OnErr result (new ≡ old)
    → FitsHistory new.state.stored entries
other_fits old new entries fits request no_words none (Err fault) step still = subst (λ (w : Holding). FitsHistory w.state.stored entries) (sym still) fits
other_fits old new entries fits request no_words none (Ok reply) step still =
    subst (λ (s : Stored). FitsHistory s entries) (sym (by (is_refused reply) refl)) fits
  where
    by : (b : Bool) → is_refused reply ≡ b → new.state.stored ≡ old.state.stored
    by true told = refused_stays (IsCutOff old.budget) old.state new.state request reply told step
    by false done = others_keep (IsCutOff old.budget) old.state new.state reply done request no_words none step

module _ (old new : Holding) (entries : Entries) (fits : FitsHistory old.state.stored entries) (ordered : AreInOrder old.state.stored.articles)
    (request : Request) (reply : Reply) (step : Step (IsCutOff old.budget) old.state request reply new.state) where
  -- what is refused leaves both lists as they can be put back
  pub refused_fits : is_refused reply ≡ true → FitsHistory new.state.stored entries
  refused_fits told = subst (λ (s : Stored). FitsHistory s entries) (sym (refused_stays (IsCutOff old.budget) old.state new.state request reply told step)) fits

  module _ (word : WordId) (changed : article_changed old.state request ≡ Some word) (before : Kept) (is : IsOfArticle (store_held old) word before)
      (done : is_refused reply ≡ false) where
    pub noted_fits : FitsHistory new.state.stored (with_change before entries)
    noted_fits =
        let changes = article_done (IsCutOff old.budget) old.state new.state reply done request word changed step in (
          some_can MOST_ENTRIES (before ∷ entries.past) new.state.stored
              (noted_all (store_held old) new.state.stored ordered word changes.change changes.after before is entries.past fits.0),
          tt,
        )

    pub notes : NotesChange (recalling old entries) (recalling new (with_change before entries)) word
    notes = record {
      before = former before;
      stood = stands old word before is;
      past = map_take MOST_ENTRIES (before ∷ entries.past);
      future = refl;
    }

    pub carries_noted : changes_words request ≡ false → CarriesHistory (recalling old entries) request reply (recalling new (with_change before entries))
    carries_noted no_words =
        let after = recalling new (with_change before entries) in
        carries_done (recalling old entries) after request reply done
        (subst (λ (b : Bool). MatchBool b (Forgets after)
        (MatchOption (article_changed old.state request) (Remembers (recalling old entries) after) (NotesChange (recalling old entries) after))) (sym no_words)
        (subst (λ (o : Option WordId). MatchOption o (Remembers (recalling old entries) after) (NotesChange (recalling old entries) after)) (sym changed)
        notes))

-- ---- a change that is put back

first_is : (list : List Kept) (kept : Kept) → slice_get list 0 ≡ Some kept → list ≡ kept ∷ drop 1 list
first_is [] kept is = absurd (cc is)
first_is (k ∷ list) kept is = ap (λ (o : Option Kept). unwrap_or o k ∷ list) is

module _ (old new : Holding) (from onto : List Kept) (from_fits : CanAllBePut old.state.stored from) (onto_fits : CanAllBePut old.state.stored onto)
    (ordered : AreInOrder old.state.stored.articles) (before : Kept) (newest : slice_get from 0 ≡ Some before) where
  pub is_first : from ≡ before ∷ drop 1 from
  is_first = first_is from before newest

  can_both : CanAllBePut old.state.stored (before ∷ drop 1 from)
  can_both = subst (CanAllBePut old.state.stored) is_first from_fits

  pub can_first : CanBePut old.state.stored before
  can_first = can_both.0

  module _ (now : Kept) (is : IsOfArticle (store_held old) before.article now) (after : new ≡ put_back old before) where
    stored_after : new.state.stored ≡ with_sentences old.state.stored before.article before.sentences
    stored_after = ap (λ (h : Holding). h.state.stored) after

    pub from_can : CanAllBePut new.state.stored (drop 1 from)
    from_can = subst (λ (s : Stored). CanAllBePut s (drop 1 from)) (sym stored_after) can_both.1

    pub onto_can : CanAllBePut new.state.stored (now ∷ onto)
    onto_can = noted_all (store_held old) new.state.stored ordered before.article (λ _. before.sentences) stored_after now is onto onto_fits

    pub puts_back : (answer : List ℕ → Reply) (form : List ℕ) → CanChange old.state.stored.articles before.article
        → canonical_form_of old.state.stored.words.live before.article ≡ Some form → IsKept new
        → PutsBack old (map former from) (map former onto) answer (answer form) new (map former (drop 1 from)) (map former (now ∷ onto))
    puts_back answer form rises spelled kept =
        let found = some_is (article_of old.state.stored.articles before.article) (λ (a : Article). a.revision.0 < LAST_NUMBER) rises in
        record {
          before = former before;
          newest = ap (map former) is_first;
          article = found.it;
          there = found.named;
          rises = found.is;
          form = form;
          spelled = spelled;
          told = refl;
          after = after;
          other = ap (λ (f : Former). f ∷ map former onto) (sym (former_is old before.article now is found.it found.named));
          kept = kept;
        }

-- ---- what is there

first_none : (list : List Kept) → slice_get list 0 ≡ None → list ≡ []
first_none [] none = refl
first_none (kept ∷ list) none = absurd (cc none)

-- where there is no first entry, there is nothing to be put back
pub has_nothing : (list : List Kept) → slice_get list 0 ≡ None → HasNothing (map former list) Nothing
has_nothing list none = record { none = ap (map former) (first_none list none); told = refl }

is_there : (o : Option Article) → IsSomeAnd o (λ _. Unit {0}) → IsSome o
is_there None there = absurd there
is_there (Some article) there = refl

-- the article of the newest entry is there
pub newest_there : (state : Stored) (list : List Kept) → CanAllBePut state list → (kept : Kept) → slice_get list 0 ≡ Some kept
    → IsSome (article_of state.articles kept.article)
newest_there state list can kept newest =
    let both = subst (CanAllBePut state) (first_is list kept newest) can in
    is_there (article_of state.articles kept.article) both.0.there

-- the article of the newest entry was changed as often as may be
pub at_last : (old : Holding) (list : List Kept) (kept : Kept) → slice_get list 0 ≡ Some kept
    → IsSomeAnd (article_of old.state.stored.articles kept.article) (λ a. a.revision.0 ≡ LAST_NUMBER)
    → IsAtLastRevision old (map former list) (full_at limits.Numbers)
at_last old list kept newest last =
    let found = some_is (article_of old.state.stored.articles kept.article) (λ (a : Article). a.revision.0 ≡ LAST_NUMBER) last in
    record {
      before = former kept;
      others = map former (drop 1 list);
      newest = ap (map former) (first_is list kept newest);
      article = found.it;
      there = found.named;
      last = found.is;
      told = refl;
    }

-- the article of a live word is there
pub named_there : (state : Stored) → IsSound state → (o : Option WordId) → IfSome o (λ id. IsSome (forms_of state.words.live id))
    → IfSome o (λ word. IsSome (article_of state.articles word))
named_there state sound None lives = tt
named_there state sound (Some word) lives = lives-article state.articles state.words.live word sound.articles lives

found_all : (P : PlainSession → Type 0) (test : PlainSession → Bool) (sessions : List PlainSession) → All P sessions → (s : PlainSession)
    → find test sessions ≡ Some s → P s
found_all P test [] all s found = absurd (cc found)
found_all P test (t ∷ sessions) all s found = by (test t) found (found_all P test sessions (All-tail P t sessions all) s)
  where
    by : (b : Bool) → cond b (Some t) (find test sessions) ≡ Some s → (find test sessions ≡ Some s → P s) → P s
    by true is rest = subst P (same_Some t s is) (All-head P t sessions all)
    by false is rest = rest is

-- so is the article of a session
pub session_there : (wiki : Holding) → IsKept wiki → (number : ℕ) (o : Option PlainSession) → session_numbered wiki.state number ≡ o
    → IfSome (option_map (λ (s : PlainSession). s.article) o) (λ word. IsSome (article_of wiki.state.stored.articles word))
session_there wiki kept number None found = tt
session_there wiki kept number (Some s) found =
    let fits = found_all (IsKeptSession wiki.state) (has_number (record { 0 = number })) wiki.state.sessions kept.sessions s found in
    ap is_some fits.on.there
