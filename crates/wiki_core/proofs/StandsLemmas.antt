-- What stands after a run stands after its changes.
use Rattle.std.proofs.Common.{◌≡◌, ℕ, ◌+◌, ◌-◌, ◌<◌, ◌≤◌, ◌++◌, ◌||◌, Bool, true, false, not, cond, List, [], ◌∷◌, length, take, min, filter, ◌⊎◌, inl, inr, Option, Some, None, option_map, IsSome, All, refl, sym, ap, subst, ◌∙◌, arith, length-append}
use Rattle.std.specs.List.{list_any}
use Rattle.std.specs.Str.{IsUtf8}
use Rattle.std.proofs.lemmas.Bool.{false≢true, eqb-true, cases_lt}
use Rattle.std.proofs.lemmas.List.{length-take}
use Rattle.std.proofs.lemmas.List.Elements.{All-head, All-tail}
use Rattle.std.proofs.lemmas.Option.{same_Some}
use Rattle.wiki_base.specs.declared.numbers.SessionId.{SessionId}
use Rattle.codeco_terms.specs.GrammarParts.{GrammarParts}
use Rattle.codeco_checked.specs.Sound.{IsSound}
use Rattle.codeco_reader.proofs.OneGrammar.{text_sound}
use Rattle.lexicon.specs.declared.kinds.Kind.{Kind}
use Rattle.lexicon.specs.declared.words.Word.{Word}
use Rattle.lexicon.specs.Words.{Listed, forms_of, with_word, with_forms, without_word, with_terminals, reground_refusal}
use Rattle.lexicon.proofs.Owners.{owner_lives}
use Rattle.editor.specs.Editing.{typed}
use Rattle.derivations.proofs.GrowLemmas.{Each}
use Rattle.wiki_talk.specs.declared.refusals.Refusal.TheVariants.{NoWord, NoSession}
use Rattle.wiki_talk.specs.declared.replies.Reply.{Reply}
use Rattle.wiki_talk.specs.declared.requests.Request.{Request}
use Rattle.wiki_talk.specs.declared.requests.Request.TheVariants as requests
use Rattle.wiki_talk.specs.declared.requests.WikiRequest.{WikiRequest}
use Rattle.wiki_talk.specs.declared.requests.WikiRequest.TheVariants as of_wiki
use Rattle.wiki_talk.specs.declared.requests.WordRequest.{WordRequest}
use Rattle.wiki_talk.specs.declared.requests.WordRequest.TheVariants as of_word
use Rattle.wiki_talk.specs.declared.requests.ArticleRequest.{ArticleRequest}
use Rattle.wiki_talk.specs.declared.requests.ArticleRequest.TheVariants as of_article
use Rattle.wiki_talk.specs.declared.requests.SessionRequest.{SessionRequest}
use Rattle.wiki_talk.specs.declared.requests.SessionRequest.TheVariants as of_session
use Rattle.wiki_talk.specs.declared.limits.Limit.TheVariants as limits
use Rattle.wiki_talk.specs.Turns.{Exchange, answered, no_request, Turns}
use Rattle.articles.specs.declared.article.Article.{Article}
use Rattle.plain_wiki.specs.Sessions.{PlainSession, new_session, has_number, session_of, is_on, with_change, with_tokens, with_revision, AreRebased}
use Rattle.plain_wiki.specs.State.{Stored, State, first_state}
use Rattle.plain_wiki.specs.Words.{forms_given, full_at, word_refusal, lexicon_refusal}
use Rattle.plain_wiki.specs.Places.{word_with, article_named, session_numbered, numbered}
use Rattle.plain_wiki.specs.Knowledge.{Spending}
use Rattle.plain_wiki.specs.Causes.{NoneOf, is_no_grammar, is_bare, has_a_form, breaks_by_grammar, reword_cause}
use Rattle.plain_wiki.specs.Against.{against_wiki, against_word, against_session, IsFree}
use Rattle.plain_wiki.specs.Doing.{AddsWord, RewordsWord, RemovesWord, TakesGrammar, begun_again}
use Rattle.plain_wiki.specs.Step.{ChangesStored, ChangesWords, DoesOnWiki, DoesOnWord, DoesOnArticle, DoesOnSession, Does, Step}
use Rattle.wiki_parts.specs.Spending.{IsCutOff}
use Rattle.wiki_core.specs.Journaled.{own_change, changes_of, asked_of, tells_spent, is_spent_in, SpendsNone, GivesUtf8, GivesUnraised, NoneIsRaised, StandsAgain}
use Rattle.wiki_core.proofs.SeenLemmas.{RiseTo}
use Rattle.wiki_core.proofs.NamedLemmas.{some_is, number_is}
use Rattle.wiki_core.proofs.StepLemmas.{IsRefused, IsDone, outcome}
use Rattle.wiki_core.proofs.RunLemmas.{IsApt}
use Rattle.wiki_core.proofs.ApartLemmas.{open_step}
use Rattle.wiki_core.proofs.OneStepLemmas.{step_one}
use Rattle.wiki_core.proofs.GrammarLemmas.{KeepsReading, article_keeps, session_keeps}
use Rattle.wiki_core.proofs.ReadableLemmas.{AreReadable, no_words, readable_word, readable_reword, readable_without, readable_beside}
use Rattle.wiki_core.proofs.ReadyLemmas.{AreReady}
use Rattle.wiki_core.proofs.AgainLemmas.{alone, step_alone, reply_again, spent_again, IsMade, AreShortSessions, free_third, free_of_it, step_made}

-- ---- words stay readable

-- where no cause is told, there is none
pub none_told : {X : Type 0} (o : Option X) → ((x : X) → o ≡ Some x → ⊥) → o ≡ None
none_told None never = refl
none_told (Some x) never = absurd (never x refl)

-- words that stay as they are
same_words : (old new : Stored) → AreReady old.grammar old.words → KeepsReading old new → AreReady new.grammar new.words
same_words old new ready keeps =
    subst (λ (g : GrammarParts). AreReady g new.words) (sym keeps.grammar) (subst (λ (w : Listed). AreReady old.grammar w) (sym keeps.words) ready)

-- words that are made of those
other_words : (old : Stored) (words : Listed) → AreReady old.grammar old.words → words.terminals ≡ old.words.terminals
    → AreReadable old.words.terminals words.live → AreReady old.grammar words
other_words old words ready terminals readable = record {
  sound = ready.sound;
  apart = ready.apart;
  terminals = terminals ∙ ready.terminals;
  readable = subst (λ (ts : List (List ℕ)). AreReadable ts words.live) (sym terminals) readable;
}

-- a live word that has a form is one by its number
named_lives : (stored : Stored) (form : List ℕ) (word : Word) → word_with stored form ≡ Some word → IsSome (forms_of stored.words.live word.id)
named_lives stored form word named = owner_lives stored.words.live form word.id (ap (option_map (λ (w : Word). w.id)) named)

-- nothing stands against other forms of a word
pub rewordable : (stored : Stored) (word : Word) (texts : List (List ℕ)) → NoneOf (against_word stored (of_word.Reword texts) word)
    → reword_cause stored.words word.id word.forms.kind texts ≡ None
rewordable stored word texts free = none_told (reword_cause stored.words word.id word.forms.kind texts) (λ refusal told. free refusal (inl told))

module _ (old : Stored) (reply : Reply) (new : Stored) (ready : AreReady old.grammar old.words) where
  word_ready : (kind : Kind) (texts : List (List ℕ)) → All IsUtf8 texts → NoneOf (against_wiki old (of_wiki.Word kind texts))
      → AddsWord kind texts old reply new → AreReady new.grammar new.words
  word_ready kind texts utf8 free x =
      subst (λ (p : Stored). AreReady p.grammar p.words) (sym x.after)
      (other_words old (with_word old.words (forms_given kind texts)) ready refl
      (readable_word old.words kind texts utf8 (none_told (word_refusal old.words kind texts) (λ refusal told. free refusal (inl told))) ready.readable))

  reword_ready : (form : List ℕ) (texts : List (List ℕ)) (word : Word) → word_with old form ≡ Some word → All IsUtf8 texts
      → NoneOf (against_word old (of_word.Reword texts) word) → RewordsWord word texts old reply new → AreReady new.grammar new.words
  reword_ready form texts word named utf8 free x =
      subst (λ (p : Stored). AreReady p.grammar p.words) (sym x.after)
      (other_words old (with_forms old.words word.id (forms_given word.forms.kind texts)) ready refl
      (readable_reword old.words word.id word.forms.kind texts (named_lives old form word named) utf8 (rewordable old word texts free) ready.readable))

  unword_ready : (word : Word) → RemovesWord word old reply new → AreReady new.grammar new.words
  unword_ready word x =
      subst (λ (p : Stored). AreReady p.grammar p.words) (sym x.after)
      (other_words old (without_word old.words word.id) ready refl (readable_without old.words.terminals old.words.live word.id ready.readable))

  grammar_ready : (text : List ℕ) → GivesUnraised (requests.OnWiki (of_wiki.Grammar text)) → NoneOf (against_wiki old (of_wiki.Grammar text))
      → TakesGrammar text old reply new → AreReady new.grammar new.words
  grammar_ready text unraised free x =
      let none : lexicon_refusal old.words (reground_refusal old.words.live x.g.terminals) ≡ None =
      none_told (lexicon_refusal old.words (reground_refusal old.words.live x.g.terminals)) (λ refusal told.
      free_third (is_no_grammar text) (is_bare text) (has_a_form old text) (breaks_by_grammar old text ∷ []) free refusal (x.g, x.is, told)) in
      let ready_after : AreReady x.g (with_terminals old.words x.g.terminals) = record {
        sound = text_sound text x.g x.is;
        apart = unraised x.g x.is;
        terminals = refl;
        readable = readable_beside old.words x.g.terminals none ready.readable;
      } in
      subst (λ (p : Stored). AreReady p.grammar p.words) (sym x.after) ready_after

-- ---- sessions stay short

short_filter : (p : PlainSession → Bool) (sessions : List PlainSession) → AreShortSessions sessions → AreShortSessions (filter p sessions)
short_filter p [] short = tt
short_filter p (s ∷ sessions) short = by (p s) (short_filter p sessions short.1)
  where
    by : (b : Bool) → AreShortSessions (filter p sessions) → AreShortSessions (cond b (s ∷ filter p sessions) (filter p sessions))
    by true rest = (short.0, rest)
    by false rest = rest

short_append : (sessions : List PlainSession) (session : PlainSession) → AreShortSessions sessions → length session.tokens ≤ 40
    → AreShortSessions (sessions ++ session ∷ [])
short_append [] session short one = (one, tt)
short_append (s ∷ sessions) session short one = (short.0, short_append sessions session short.1 one)

-- what holds of all sessions, and of those with the number, makes the changed ones short
short_changed : (sessions : List PlainSession) (number : SessionId) (change : PlainSession → PlainSession) → AreShortSessions sessions
    → Each (λ s. has_number number s ≡ true → length (change s).tokens ≤ 40) sessions → AreShortSessions (with_change sessions number change)
short_changed [] number change short fits = tt
short_changed (s ∷ sessions) number change short fits =
    (by (has_number number s) refl, short_changed sessions number change short.1 fits.1)
  where
    by : (b : Bool) → has_number number s ≡ b → length (cond b (change s) s).tokens ≤ 40
    by true is = fits.0 is
    by false is = short.0

-- a change that adds no token
no_longer : (sessions : List PlainSession) (number : SessionId) (change : PlainSession → PlainSession)
    → ((s : PlainSession) → length (change s).tokens ≤ length s.tokens) → AreShortSessions sessions
    → Each (λ s. has_number number s ≡ true → length (change s).tokens ≤ 40) sessions
no_longer [] number change less short = tt
no_longer (s ∷ sessions) number change less short =
    (λ is. let own = short.0 in let one = less s in omega (arith, own, one), no_longer sessions number change less short.1)

-- the sessions' numbers rise, so that one alone has a number
above : (low last : ℕ) (sessions : List PlainSession) → RiseTo low last sessions → (n : ℕ) → n ≤ low
    → Each (λ s. has_number (record { 0 = n }) s ≡ true → ⊥) sessions
above low last [] rise n below = tt
above low last (s ∷ sessions) rise n below =
    let first = rise.0 in
    (λ is. let same = eqb-true s.number.0 n is in omega (arith, first, same, below), above s.number.0 last sessions rise.1 n (omega (arith, first, below)))

only : (low last n : ℕ) (sessions : List PlainSession) → RiseTo low last sessions → (found : PlainSession)
    → session_of sessions (record { 0 = n }) ≡ Some found → Each (λ s. has_number (record { 0 = n }) s ≡ true → s ≡ found) sessions
only low last n [] rise found is = tt
only low last n (s ∷ sessions) rise found is = by (has_number (record { 0 = n }) s) refl is (only s.number.0 last n sessions rise.1 found)
  where
    never : (X : PlainSession → Type 0) (ss : List PlainSession) → Each (λ t. has_number (record { 0 = n }) t ≡ true → ⊥) ss
        → Each (λ t. has_number (record { 0 = n }) t ≡ true → X t) ss
    never X [] none = tt
    never X (t ∷ ss) none = (λ has. absurd (none.0 has), never X ss none.1)

    by : (b : Bool) → has_number (record { 0 = n }) s ≡ b → cond b (Some s) (session_of sessions (record { 0 = n })) ≡ Some found
        → (session_of sessions (record { 0 = n }) ≡ Some found → Each (λ t. has_number (record { 0 = n }) t ≡ true → t ≡ found) sessions)
        → Each (λ t. has_number (record { 0 = n }) t ≡ true → t ≡ found) (s ∷ sessions)
    by true here is rest =
        let same = eqb-true s.number.0 n here in
        (λ has. same_Some s found is, never (λ t. t ≡ found) sessions (above s.number.0 last sessions rise.1 n (omega (arith, same))))
    by false other is rest = (λ has. absurd (false≢true (sym other ∙ has)), rest is)

short_rebased : (g : GrammarParts) (words : Listed) (old new : List PlainSession) → AreRebased g words old new → AreShortSessions old → AreShortSessions new
short_rebased g words [] [] rebased short = tt
short_rebased g words [] (n ∷ new) rebased short = absurd rebased
short_rebased g words (o ∷ old) [] rebased short = absurd rebased
short_rebased g words (o ∷ old) (n ∷ new) rebased short =
    let same : min (length n.tokens) (length o.tokens) ≡ length n.tokens =
    sym (length-take (length n.tokens) o.tokens) ∙ ap (λ (ts : List (List ℕ)). length ts) rebased.0.tokens.prefix in
    let own = short.0 in
    (omega (arith, same, own), short_rebased g words old new rebased.1 short.1)

typed_short : (sessions : List PlainSession) (number : SessionId) (token : PlainSession → List ℕ) (found : PlainSession) → length found.tokens < 40
    → Each (λ s. has_number number s ≡ true → s ≡ found) sessions
    → Each (λ s. has_number number s ≡ true → length (s.tokens ++ token s ∷ []) ≤ 40) sessions
typed_short [] number token found less one = tt
typed_short (s ∷ sessions) number token found less one = (
  λ has. let few : length s.tokens < 40 = subst (λ (t : PlainSession). length t.tokens < 40) (sym (one.0 has)) less in
      omega (arith, few, length-append s.tokens (token s ∷ [])),
  typed_short sessions number token found less one.1,
)

take_less : {X : Type 0} (xs : List X) (n : ℕ) → length (take n xs) ≤ length xs
take_less xs n = let same = length-take n xs in omega (arith, same)

-- ---- a wiki that is ready

-- What a wiki shows is read as it was; its sessions' numbers rise, and each session has at most 40 tokens.
pub record IsReady (state : State) : Type 0 where
  pub stored : AreReady state.stored.grammar state.stored.words
  pub apt : IsApt state
  pub short : AreShortSessions state.sessions

-- the same without the numbers
abbrev IsFit : State → Type 0
IsFit state = AreReady state.stored.grammar state.stored.words × AreShortSessions state.sessions

module _ (IsSpent : Spending) (old : State) (reply : Reply) (new : State) (ready : IsReady old) where
  same_fit : new ≡ old → IsFit new
  same_fit same = subst IsFit (sym same) (ready.stored, ready.short)

  -- sentences change
  stored_fit : (changes : Stored → Reply → Stored → Type 0) → ChangesStored changes old reply new → KeepsReading old.stored new.stored → IsFit new
  stored_fit changes x keeps = (same_words old.stored new.stored ready.stored keeps, subst AreShortSessions (sym x.sessions) ready.short)

  -- words or the grammar change
  words_fit : (changes : Stored → Reply → Stored → Type 0) → ChangesWords changes old reply new → AreReady new.stored.grammar new.stored.words → IsFit new
  words_fit changes x fit = (fit, short_rebased new.stored.grammar new.stored.words old.sessions new.sessions x.sessions ready.short)

  -- a session changes
  changed_fit : (sessions : List PlainSession) → new.sessions ≡ sessions → AreShortSessions sessions → KeepsReading old.stored new.stored → IsFit new
  changed_fit sessions is short keeps = (same_words old.stored new.stored ready.stored keeps, subst AreShortSessions (sym is) short)

  wiki_fit : (asked : WikiRequest) → GivesUtf8 (requests.OnWiki asked) → GivesUnraised (requests.OnWiki asked) → NoneOf (against_wiki old.stored asked)
      → DoesOnWiki asked old reply new → IsFit new
  wiki_fit (of_wiki.Word kind texts) utf8 unraised free x =
      words_fit (AddsWord kind texts) x (word_ready old.stored reply new.stored ready.stored kind texts utf8 free x.stored)
  wiki_fit of_wiki.Words utf8 unraised free x = same_fit x.1
  wiki_fit (of_wiki.Parse text) utf8 unraised free x = same_fit x.1
  wiki_fit (of_wiki.Grammar text) utf8 unraised free x =
      words_fit (TakesGrammar text) x (grammar_ready old.stored reply new.stored ready.stored text unraised free x.stored)

  word_fit : (form : List ℕ) (asked : WordRequest) (word : Word) → word_with old.stored form ≡ Some word → GivesUtf8 (requests.OnWord form asked)
      → NoneOf (against_word old.stored asked word) → DoesOnWord asked word old reply new → IsFit new
  word_fit form of_word.Find word named utf8 free x = same_fit x.1
  word_fit form (of_word.Reword texts) word named utf8 free x =
      words_fit (RewordsWord word texts) x (reword_ready old.stored reply new.stored ready.stored form texts word named utf8 free x.stored)
  word_fit form of_word.Unword word named utf8 free x = (
    unword_ready old.stored reply new.stored ready.stored word x.stored,
    subst AreShortSessions (sym x.sessions)
        (short_filter (λ s. not (is_on word.id s)) x.rebased
        (short_rebased new.stored.grammar new.stored.words old.sessions x.rebased x.rebases ready.short)),
  )

  article_fit : (asked : ArticleRequest) (article : Article) → DoesOnArticle IsSpent asked article old reply new
      → KeepsReading old.stored new.stored → IsFit new
  article_fit of_article.Read article x keeps = same_fit x.1
  article_fit (of_article.Add given text) article x keeps = stored_fit _ x keeps
  article_fit (of_article.Edit place text) article x keeps = stored_fit _ x keeps
  article_fit (of_article.Remove place) article x keeps = stored_fit _ x keeps
  article_fit (of_article.Retract place) article x keeps = stored_fit _ x keeps
  article_fit (of_article.Reassert place) article x keeps = stored_fit _ x keeps
  article_fit (of_article.Axioms place) article x keeps = same_fit x.1
  article_fit of_article.Open article x keeps =
      changed_fit _ (ap (λ (s : State). s.sessions) x.after)
      (short_append old.sessions (new_session (numbered (old.last + 1)) article.word article.revision) ready.short (omega arith)) keeps

  -- one token more, where there may be one more
  type_short : (number : ℕ) (text : List ℕ) (session : PlainSession) → session_numbered old number ≡ Some session
      → NoneOf (against_session old (of_session.Type text) session)
      → AreShortSessions (with_change old.sessions session.number (with_tokens (λ tokens. tokens ++ typed old.stored.grammar.terminals tokens text ∷ [])))
  type_short number text session named free =
      let change = with_tokens (λ tokens. tokens ++ typed old.stored.grammar.terminals tokens text ∷ []) in
      subst (λ (id : SessionId). AreShortSessions (with_change old.sessions id change)) (sym (number_is old.sessions (numbered number) session named))
      (short_changed old.sessions (numbered number) change ready.short
      (typed_short old.sessions (numbered number) (λ s. typed old.stored.grammar.terminals s.tokens text) session (by (cases_lt (length session.tokens) 40))
      (only 0 old.last number old.sessions ready.apt session named)))
    where
      by : (length session.tokens < 40) ⊎ (40 ≤ length session.tokens) → length session.tokens < 40
      by (inl less) = less
      by (inr full) = absurd (free (full_at limits.Tokens) (inl (full, refl)))

  session_fit : (number : ℕ) (asked : SessionRequest) (session : PlainSession) → session_numbered old number ≡ Some session
      → NoneOf (against_session old asked session) → DoesOnSession IsSpent asked session old reply new → KeepsReading old.stored new.stored → IsFit new
  session_fit number (of_session.Type text) session named free x keeps =
      changed_fit _ (ap (λ (s : State). s.sessions) x.after) (type_short number text session named free) keeps
  session_fit number of_session.Back session named free x keeps =
      let change = with_tokens (λ tokens. take (length tokens - 1) tokens) in
      changed_fit _ (ap (λ (s : State). s.sessions) x.after)
      (short_changed old.sessions session.number change ready.short
      (no_longer old.sessions session.number change (λ s. take_less s.tokens (length s.tokens - 1)) ready.short)) keeps
  session_fit number of_session.Menu session named free x keeps = same_fit x.1
  session_fit number of_session.Commit session named free x keeps =
      changed_fit _ (ap (λ (s : State). s.sessions) x.after)
      (short_changed old.sessions session.number (begun_again x.article) ready.short
      (no_longer old.sessions session.number (begun_again x.article) (λ s. omega arith) ready.short)) keeps
  session_fit number of_session.Refresh session named free x keeps =
      changed_fit _ (ap (λ (s : State). s.sessions) x.after)
      (short_changed old.sessions session.number (with_revision x.article.revision) ready.short
      (no_longer old.sessions session.number (with_revision x.article.revision) (λ s. omega arith) ready.short)) keeps
  session_fit number of_session.Drop session named free x keeps =
      changed_fit _ (ap (λ (s : State). s.sessions) x.after)
      (short_filter (λ s. not (has_number session.number s)) old.sessions ready.short) keeps

  does_fit : (request : Request) → GivesUtf8 request → GivesUnraised request → IsFree old request → Does IsSpent old request reply new → IsFit new
  does_fit (requests.OnWiki asked) utf8 unraised free x = wiki_fit asked utf8 unraised free x
  does_fit (requests.OnWord form asked) utf8 unraised free x =
      let found = some_is (word_with old.stored form) (λ word. DoesOnWord asked word old reply new) x in
      word_fit form asked found.it found.named utf8
      (free_of_it (word_with old.stored form) (NoWord form) (against_word old.stored asked) found.it found.named free) found.is
  does_fit (requests.OnArticle form asked) utf8 unraised free x =
      let found = some_is (article_named old.stored form) (λ article. DoesOnArticle IsSpent asked article old reply new) x in
      article_fit asked found.it found.is (article_keeps IsSpent old reply new asked found.it found.is)
  does_fit (requests.OnSession number asked) utf8 unraised free x =
      let found = some_is (session_numbered old number) (λ session. DoesOnSession IsSpent asked session old reply new) x in
      session_fit number asked found.it found.named
      (free_of_it (session_numbered old number) (NoSession number) (against_session old asked) found.it found.named free) found.is
      (session_keeps IsSpent old reply new asked found.it found.is)

  step_fit : (request : Request) → GivesUtf8 request → GivesUnraised request → Step IsSpent old request reply new → IsFit new
  step_fit request utf8 unraised step = by (outcome IsSpent old request reply new step)
    where
      by : IsRefused old request reply new ⊎ IsDone IsSpent old request reply new → IsFit new
      by (inl refused) = same_fit refused.3
      by (inr done) = does_fit request utf8 unraised done.0 done.1

  -- a wiki stays ready
  pub stays_ready : (request : Request) → GivesUtf8 request → GivesUnraised request → Step IsSpent old request reply new → IsReady new
  stays_ready request utf8 unraised step =
      let fit = step_fit request utf8 unraised step in
      record { stored = fit.0; apt = (open_step IsSpent old new 0 ready.apt (omega arith) request reply step).apt; short = fit.1 }

-- ---- runs

-- requests one after another, none of which is told that a budget was spent
abbrev Asks : Spending → State → List Request → State → Type 0
Asks IsSpent first [] last = last ≡ first
Asks IsSpent first (request ∷ requests) last =
    (reply : Reply) × (next : State) × Step IsSpent first request reply next × (tells_spent reply ≡ false) × Asks IsSpent next requests last

pub neither : (a b : Bool) → (a || b) ≡ false → (a ≡ false) × (b ≡ false)
neither true b h = absurd (false≢true (sym h))
neither false b h = (refl, h)

-- a run asks its requests
asks_turns : (IsSpent : Spending) (exchanges : List (Exchange Request Reply)) (first last : State) → Turns (Step IsSpent) first exchanges last
    → SpendsNone exchanges → Asks IsSpent first (asked_of exchanges) last
asks_turns IsSpent [] first last turns kept = turns
asks_turns IsSpent (answered request reply ∷ exchanges) first last (next, step, turns) kept =
    let both = neither (tells_spent reply) (list_any is_spent_in exchanges) kept in
    (reply, next, step, both.0, asks_turns IsSpent exchanges next last turns both.1)
asks_turns IsSpent (no_request ∷ exchanges) first last (next, same, turns) kept =
    subst (λ (s : State). Asks IsSpent s (asked_of exchanges) last) same (asks_turns IsSpent exchanges next last turns kept)

-- the change of a step, asked anywhere over what is stored
pub made_again : (IsSpent ItsSpent : Spending) (old new : Stored) (change : Request) (said : Reply) → Step IsSpent (alone old) change said (alone new)
    → tells_spent said ≡ false → own_change change ≡ change ∷ [] → (other its_new : State) (its_reply : Reply) → other.stored ≡ old
    → Step ItsSpent other change its_reply its_new → tells_spent its_reply ≡ false → its_new.stored ≡ new
made_again IsSpent ItsSpent old new change said step kept own other its_new its_reply same its_step its_kept =
    let its_alone : Step ItsSpent (alone old) change its_reply (alone its_new.stored) =
    subst (λ (p : Stored). Step ItsSpent (alone p) change its_reply (alone its_new.stored)) same
    (step_alone ItsSpent other its_reply its_new change own its_step) in
    ap (λ (s : State). s.stored)
    (step_one IsSpent ItsSpent (alone old) said its_reply (alone new) (alone its_new.stored) kept its_kept change step its_alone)

module _ (IsSpent ItsSpent : Spending) where
  -- requests that are asked again lead to the same, and then the others are asked
  asks_again : (asked more : List Request) (first last its_last : State) → Asks IsSpent first asked last → Asks ItsSpent first (asked ++ more) its_last
      → Asks ItsSpent last more its_last
  asks_again [] more first last its_last same again = subst (λ (s : State). Asks ItsSpent s more its_last) (sym same) again
  asks_again (request ∷ asked) more first last its_last (reply, next, step, kept, rest) (its_reply, its_next, its_step, its_kept, its_rest) =
      asks_again asked more next last its_last rest
      (subst (λ (s : State). Asks ItsSpent s (asked ++ more) its_last)
      (step_one IsSpent ItsSpent first reply its_reply next its_next kept its_kept request step its_step) its_rest)

  -- the changes of a run, asked over what is stored
  made_run : (exchanges : List (Exchange Request Reply)) (first last other its_last : State) → IsReady first → Turns (Step IsSpent) first exchanges last
      → All GivesUtf8 (asked_of exchanges) → All GivesUnraised (asked_of exchanges) → SpendsNone exchanges → other.stored ≡ first.stored
      → Asks ItsSpent other (changes_of exchanges) its_last → its_last.stored ≡ last.stored
  made_run [] first last other its_last ready turns utf8 unraised kept same asks =
      ap (λ (s : State). s.stored) asks ∙ same ∙ sym (ap (λ (s : State). s.stored) turns)
  made_run (no_request ∷ exchanges) first last other its_last ready (next, is, turns) utf8 unraised kept same asks =
      made_run exchanges next last other its_last (subst IsReady (sym is) ready) turns utf8 unraised kept
      (same ∙ sym (ap (λ (s : State). s.stored) is)) asks
  made_run (answered request reply ∷ exchanges) first last other its_last ready (next, step, turns) utf8 unraised kept same asks =
      by (step_made IsSpent first reply next ready.stored request ready.short step)
      (λ it alike asked. made_run exchanges next last it its_last later turns later_utf8 later_unraised both.1 alike asked)
    where
      both : (tells_spent reply ≡ false) × (list_any is_spent_in exchanges ≡ false)
      both = neither (tells_spent reply) (list_any is_spent_in exchanges) kept

      later : IsReady next
      later = stays_ready IsSpent first reply next ready request (All-head GivesUtf8 request (asked_of exchanges) utf8)
          (All-head GivesUnraised request (asked_of exchanges) unraised) step

      later_utf8 : All GivesUtf8 (asked_of exchanges)
      later_utf8 = All-tail GivesUtf8 request (asked_of exchanges) utf8

      later_unraised : All GivesUnraised (asked_of exchanges)
      later_unraised = All-tail GivesUnraised request (asked_of exchanges) unraised

      by : IsMade IsSpent first.stored request reply next.stored
          → ((it : State) → it.stored ≡ next.stored → Asks ItsSpent it (changes_of exchanges) its_last → its_last.stored ≡ last.stored)
          → its_last.stored ≡ last.stored
      by (inl (none, is)) going_on =
          going_on other (same ∙ sym is)
          (subst (λ (changes : List Request). Asks ItsSpent other (changes ++ changes_of exchanges) its_last) none asks)
      by (inr (change, only_one, own, made)) going_on =
          let first_asks : Asks ItsSpent other (change ∷ changes_of exchanges) its_last =
          subst (λ (changes : List Request). Asks ItsSpent other (changes ++ changes_of exchanges) its_last) only_one asks in
          going_on first_asks.1
          (made_again IsSpent ItsSpent first.stored next.stored change (reply_again reply) made (spent_again reply ∙ both.0) own other first_asks.1
          first_asks.0 same first_asks.2 first_asks.3)
          first_asks.4

-- a run leaves a wiki ready
ready_run : (IsSpent : Spending) (exchanges : List (Exchange Request Reply)) (first last : State) → IsReady first → Turns (Step IsSpent) first exchanges last
    → All GivesUtf8 (asked_of exchanges) → All GivesUnraised (asked_of exchanges) → IsReady last
ready_run IsSpent [] first last ready turns utf8 unraised = subst IsReady (sym turns) ready
ready_run IsSpent (answered request reply ∷ exchanges) first last ready (next, step, turns) utf8 unraised =
    ready_run IsSpent exchanges next last
    (stays_ready IsSpent first reply next ready request (All-head GivesUtf8 request (asked_of exchanges) utf8)
    (All-head GivesUnraised request (asked_of exchanges) unraised) step) turns
    (All-tail GivesUtf8 request (asked_of exchanges) utf8) (All-tail GivesUnraised request (asked_of exchanges) unraised)
ready_run IsSpent (no_request ∷ exchanges) first last ready (next, is, turns) utf8 unraised =
    ready_run IsSpent exchanges next last (subst IsReady (sym is) ready) turns utf8 unraised

-- the wiki without words is ready
pub first_ready : (g : GrammarParts) → IsSound g → NoneIsRaised g.terminals → IsReady (first_state g)
first_ready g sound apart = record {
  stored = record { sound = sound; apart = apart; terminals = refl; readable = no_words g.terminals };
  apt = omega arith;
  short = tt;
}

-- What stands is what is read.
pub stands_again : (g : GrammarParts) → IsSound g → NoneIsRaised g.terminals → StandsAgain g
stands_again g sound apart budget its_budget former exchanges again mid last its_last before turns its_turns same utf8_before utf8 unraised_before unraised
    kept_before kept its_kept =
    let ready = ready_run (IsCutOff budget) former (first_state g) mid (first_ready g sound apart) before utf8_before unraised_before in
    let asks : Asks (IsCutOff its_budget) (first_state g) (asked_of former ++ changes_of exchanges) its_last =
    subst (λ (asked : List Request). Asks (IsCutOff its_budget) (first_state g) asked its_last) same
    (asks_turns (IsCutOff its_budget) again (first_state g) its_last its_turns its_kept) in
    let rest : Asks (IsCutOff its_budget) mid (changes_of exchanges) its_last =
    asks_again (IsCutOff budget) (IsCutOff its_budget) (asked_of former) (changes_of exchanges) (first_state g) mid its_last
    (asks_turns (IsCutOff budget) former (first_state g) mid before kept_before) asks in
    made_run (IsCutOff budget) (IsCutOff its_budget) exchanges mid last mid its_last ready turns utf8 unraised kept refl rest
