-- What each step of a wiki shows to one session.
use Rattle.std.proofs.Common.{◌≡◌, ℕ, ◌+◌, ◌-◌, ◌≤◌, ◌==◌, ◌⊎◌, Bool, true, false, not, cond, List, [], ◌∷◌, ◌++◌, length, take, Option, Some, None, option_map, refl, sym, ap, subst, ◌∙◌, arith, inl, inr}
use Rattle.std.proofs.lemmas.Bool.{false≢true, eq-eqb, not-true}
use Rattle.codeco_terms.specs.GrammarParts.{GrammarParts}
use Rattle.lexicon.specs.Words.{Listed}
use Rattle.lexicon.specs.declared.kinds.Kind.{Kind}
use Rattle.editor.specs.Editing.{typed}
use Rattle.plain_wiki.specs.Sessions.{PlainSession, has_number, session_of, with_change, with_tokens, with_revision, new_session, without_session, is_on}
use Rattle.wiki_talk.specs.declared.statuses.Status.{Status}
use Rattle.wiki_talk.specs.declared.refusals.Refusal.{Refusal}
use Rattle.wiki_talk.specs.declared.refusals.Refusal.TheVariants.{NoSession, NotOffered}
use Rattle.wiki_talk.specs.declared.limits.Limit.TheVariants as limits
use Rattle.wiki_talk.specs.declared.replies.Reply.{Reply}
use Rattle.wiki_talk.specs.declared.replies.Reply.TheVariants as replies
use Rattle.wiki_talk.specs.declared.requests.Request.{Request}
use Rattle.wiki_talk.specs.declared.requests.Request.TheVariants as requests
use Rattle.wiki_talk.specs.declared.requests.WikiRequest.TheVariants as of_wiki
use Rattle.wiki_talk.specs.declared.requests.WordRequest.TheVariants as of_word
use Rattle.wiki_talk.specs.declared.requests.ArticleRequest.{ArticleRequest}
use Rattle.wiki_talk.specs.declared.requests.ArticleRequest.TheVariants as of_article
use Rattle.wiki_talk.specs.declared.requests.SessionRequest.{SessionRequest}
use Rattle.wiki_talk.specs.declared.requests.SessionRequest.TheVariants as of_session
use Rattle.wiki_talk.specs.Turns.{answered}
use Rattle.plain_wiki.specs.State.{Stored}
use Rattle.articles.specs.declared.article.Article.{Article}
use Rattle.wiki_base.specs.declared.numbers.WordId.{WordId}
use Rattle.wiki_base.specs.declared.numbers.SessionId.{SessionId}
use Rattle.plain_wiki.specs.Words.{full_at}
use Rattle.plain_wiki.specs.State.{State}
use Rattle.plain_wiki.specs.Places.{word_with, article_named, numbered, session_numbered}
use Rattle.plain_wiki.specs.Step.{AreRebasedTo, OnlyTells, ChangesStored, ChangesWords, EndsOnArticle, Does, DoesOnArticle, DoesOnSession, Step}
use Rattle.plain_wiki.specs.Knowledge.{Spending}
use Rattle.plain_wiki.specs.Causes.{FirstOf, of_named}
use Rattle.plain_wiki.specs.Against.{against_session, Refuses, IsFree}
use Rattle.plain_wiki.specs.Doing.{RewordsWord, RemovesWord, AddsSentence, EditsSentence, RemovesSentence, RetractsSentence, ReassertsSentence, TellsWord, OpensSession, CommitsSession, with_session, with_appended, begun_again}
use Rattle.wiki_core.specs.Apart as apart
use Rattle.wiki_core.proofs.KeyLaws.{changed_at, find_changed}
use Rattle.wiki_core.proofs.NamedLemmas.{SomeIs, some_is, number_is, named_word}
use Rattle.wiki_core.proofs.PagesLemmas.{KeepsWords, keeps_changed}
use Rattle.wiki_core.proofs.StepLemmas.{IsRefused, IsDone, outcome}
use Rattle.wiki_core.proofs.SeenLemmas.{Own, RebasesOwn, own, own_of, RiseTo, rise_filter, rise_append, rise_changed, rise_rebased, changed_own, changed_other, without_own, without_other, opened_own, opened_other, rebased_own, ended_own}
use Rattle.wiki_core.proofs.HearLemmas.{Shared, Seen, SharedChange, OwnChanges, IsNotTyped, OwnTypes, own_back, own_emptied, Goes, seen_is, Follows}

-- what sessions share of a wiki
abbrev pub shared : Stored → Shared
shared stored = record { grammar = stored.grammar; words = stored.words }

-- what the session with the number sees of a wiki
abbrev pub seen : State → ℕ → Seen
seen state number = record { shared = shared state.stored; own = own_of state.sessions number }

-- the sessions' numbers rise up to the last one that was given
abbrev pub IsApt : State → Type 0
IsApt state = RiseTo 0 state.last state.sessions

-- a step after which the numbers are apt still, and by which the session with the number hears this
pub record Shows (old new : State) (number : ℕ) (heard : List apart.Heard) : Type 0 where
  pub apt : IsApt new
  pub later : old.last ≤ new.last
  pub follows : Follows (seen old number) heard (seen new number)

-- what is shared where words and the grammar are kept
pub shared_is : (old new : Stored) → new.grammar ≡ old.grammar → new.words ≡ old.words → shared new ≡ shared old
shared_is old new grammar words = ap (λ (g : GrammarParts). record { grammar = g; words = new.words }) grammar
    ∙ ap (λ (listed : Listed). record { grammar = old.grammar; words = listed }) words

-- nothing changes
pub shows_same : (old new : State) (number : ℕ) → IsApt old → new ≡ old → Shows old new number []
shows_same old new number apt same =
    subst (λ (s : State). Shows old s number []) (sym same) (record { apt = apt; later = omega arith; follows = refl })

-- no words and no sessions change
shows_pages : (old new : State) (number : ℕ) → IsApt old → KeepsWords old.stored new.stored → new.sessions ≡ old.sessions → new.last ≡ old.last
    → Shows old new number []
shows_pages old new number apt keeps same last = record {
  apt = subst (λ (n : ℕ). RiseTo 0 n new.sessions) (sym last) (subst (RiseTo 0 old.last) (sym same) apt);
  later = omega (arith, last);
  follows = seen_is (seen new number) (seen old number) (shared_is old.stored new.stored keeps.grammar keeps.words)
      (ap (λ (sessions : List PlainSession). own_of sessions number) same);
}

-- words or the grammar change, and each session is rebased
shows_words : (old new : State) (number : ℕ) (request : Request) → IsApt old → new.last ≡ old.last → RiseTo 0 old.last new.sessions
    → SharedChange (shared old.stored) request (shared new.stored)
    → OwnChanges (shared old.stored) request (shared new.stored) (own_of old.sessions number) (own_of new.sessions number)
    → Shows old new number (apart.changed request ∷ [])
shows_words old new number request apt last rise change changes = record {
  apt = subst (λ (n : ℕ). RiseTo 0 n new.sessions) (sym last) rise;
  later = omega (arith, last);
  follows = (seen new number, (change, changes), refl);
}

-- which replies tell that words or the grammar have changed, that a session was opened, and that a commit was accepted
abbrev pub tells_word : Reply → Bool
tells_word replies.Word = true
tells_word reply = false

abbrev pub tells_reword : Reply → Bool
tells_reword replies.Reword = true
tells_reword reply = false

abbrev pub tells_unword : Reply → Bool
tells_unword replies.Unword = true
tells_unword reply = false

abbrev pub tells_grammar : Reply → Bool
tells_grammar replies.Grammar = true
tells_grammar reply = false

abbrev pub tells_begin : Reply → Bool
tells_begin (replies.Open session) = true
tells_begin reply = false

abbrev pub tells_commit : Reply → Bool
tells_commit (replies.Commit article status text) = true
tells_commit reply = false

-- the number that a reply tells of an opened session
abbrev pub session_told : Reply → ℕ
session_told (replies.Open session) = session
session_told reply = 0

-- the wiki with other sessions
abbrev with_sessions : State → List PlainSession → State
with_sessions old sessions = record old { sessions = sessions }

abbrev pub is_open : ArticleRequest → Bool
is_open of_article.Open = true
is_open asked = false

-- the request tells something, or changes sentences
abbrev pub only_stored : Request → Bool
only_stored (requests.OnWiki of_wiki.Words) = true
only_stored (requests.OnWiki (of_wiki.Parse text)) = true
only_stored (requests.OnWord form of_word.Find) = true
only_stored (requests.OnArticle form asked) = not (is_open asked)
only_stored request = false

module _ (IsSpent : Spending) (old new : State) (number : ℕ) (apt : IsApt old) where
  -- words or the grammar change, and each session is rebased to what is shared then
  rebased_shows : (request : Request) → new.last ≡ old.last → AreRebasedTo new.stored old.sessions new.sessions
      → SharedChange (shared old.stored) request (shared new.stored)
      → (RebasesOwn new.stored.grammar new.stored.words (own_of old.sessions number) (own_of new.sessions number)
      → OwnChanges (shared old.stored) request (shared new.stored) (own_of old.sessions number) (own_of new.sessions number))
      → Shows old new number (apart.changed request ∷ [])
  rebased_shows request last rebased change own_changes =
      shows_words old new number request apt last
      (rise_rebased new.stored.grammar new.stored.words 0 old.last old.sessions new.sessions rebased apt) change
      (own_changes (rebased_own new.stored.grammar new.stored.words old.sessions new.sessions number rebased))

  pub word_shows : (kind : Kind) (forms : List (List ℕ)) (reply : Reply) → Step IsSpent old (requests.OnWiki (of_wiki.Word kind forms)) reply new
      → Shows old new number (apart.heard_of_words (answered (requests.OnWiki (of_wiki.Word kind forms)) reply))
  word_shows kind forms (replies.Refused refusal) step = shows_same old new number apt step.1
  word_shows kind forms replies.Word step =
      let does = step.1 in
      rebased_shows (requests.OnWiki (of_wiki.Word kind forms)) does.last does.sessions (ap shared does.stored.after) (λ rebases. rebases)
  word_shows kind forms reply step = absurd (false≢true (ap tells_word step.1.stored.answer))

  reworded : (form : List ℕ) (forms : List (List ℕ)) (reply : Reply) → Does IsSpent old (requests.OnWord form (of_word.Reword forms)) reply new
      → SomeIs (word_with old.stored form) (λ word. ChangesWords (RewordsWord word forms) old reply new)
  reworded form forms reply = some_is (word_with old.stored form) (λ word. ChangesWords (RewordsWord word forms) old reply new)

  pub reword_shows : (form : List ℕ) (forms : List (List ℕ)) (reply : Reply) → Step IsSpent old (requests.OnWord form (of_word.Reword forms)) reply new
      → Shows old new number (apart.heard_of_words (answered (requests.OnWord form (of_word.Reword forms)) reply))
  reword_shows form forms (replies.Refused refusal) step = shows_same old new number apt step.1
  reword_shows form forms replies.Reword step =
      let does = reworded form forms replies.Reword step.1 in
      rebased_shows (requests.OnWord form (of_word.Reword forms)) does.is.last does.is.sessions (does.it, does.named, ap shared does.is.stored.after)
      (λ rebases. rebases)
  reword_shows form forms reply step = absurd (false≢true (ap tells_reword (reworded form forms reply step.1).is.stored.answer))

  unworded : (form : List ℕ) (reply : Reply) → Does IsSpent old (requests.OnWord form of_word.Unword) reply new
      → SomeIs (word_with old.stored form) (λ word. EndsOnArticle word.id (RemovesWord word) old reply new)
  unworded form reply = some_is (word_with old.stored form) (λ word. EndsOnArticle word.id (RemovesWord word) old reply new)

  pub unword_shows : (form : List ℕ) (reply : Reply) → Step IsSpent old (requests.OnWord form of_word.Unword) reply new
      → Shows old new number (apart.heard_of_words (answered (requests.OnWord form of_word.Unword) reply))
  unword_shows form (replies.Refused refusal) step = shows_same old new number apt step.1
  unword_shows form replies.Unword step =
      let does = unworded form replies.Unword step.1 in
      let end = does.is in
      let word = does.it.id in
      let rise = rise_rebased new.stored.grammar new.stored.words 0 old.last old.sessions end.rebased end.rebases apt in
      shows_words old new number (requests.OnWord form of_word.Unword) apt end.last
      (subst (RiseTo 0 old.last) (sym end.sessions) (rise_filter (λ s. not (is_on word s)) 0 old.last end.rebased rise))
      (does.it, does.named, ap shared end.stored.after) (
        does.it,
        own_of end.rebased number,
        does.named,
        rebased_own new.stored.grammar new.stored.words old.sessions end.rebased number end.rebases,
        ap (λ (sessions : List PlainSession). own_of sessions number) end.sessions ∙ ended_own word number 0 old.last end.rebased rise,
      )
  unword_shows form reply step = absurd (false≢true (ap tells_unword (unworded form reply step.1).is.stored.answer))

  pub grammar_shows : (text : List ℕ) (reply : Reply) → Step IsSpent old (requests.OnWiki (of_wiki.Grammar text)) reply new
      → Shows old new number (apart.heard_of_words (answered (requests.OnWiki (of_wiki.Grammar text)) reply))
  grammar_shows text (replies.Refused refusal) step = shows_same old new number apt step.1
  grammar_shows text replies.Grammar step =
      let does = step.1 in
      rebased_shows (requests.OnWiki (of_wiki.Grammar text)) does.last does.sessions
      (does.stored.g, does.stored.is, ap shared does.stored.after) (λ rebases. rebases)
  grammar_shows text reply step = absurd (false≢true (ap tells_grammar step.1.stored.answer))

  -- ---- requests that change no words and no sessions

  stored_shows : (changes : Stored → Reply → Stored → Type 0) (reply : Reply) → ChangesStored changes old reply new → KeepsWords old.stored new.stored
      → Shows old new number []
  stored_shows changes reply does keeps = shows_pages old new number apt keeps does.sessions does.last

  article_shows : (asked : ArticleRequest) → is_open asked ≡ false → (reply : Reply) (article : Article) → DoesOnArticle IsSpent asked article old reply new
      → Shows old new number []
  article_shows of_article.Read others reply article does = shows_same old new number apt does.1
  article_shows (of_article.Add given text) others reply article does =
      stored_shows (AddsSentence IsSpent given text article) reply does (keeps_changed old.stored new.stored article.word _ does.stored.after)
  article_shows (of_article.Edit place text) others reply article does =
      stored_shows (EditsSentence IsSpent place text article) reply does (keeps_changed old.stored new.stored article.word _ does.stored.after)
  article_shows (of_article.Remove place) others reply article does =
      stored_shows (RemovesSentence place article) reply does (keeps_changed old.stored new.stored article.word _ does.stored.after)
  article_shows (of_article.Retract place) others reply article does =
      stored_shows (RetractsSentence place article) reply does (keeps_changed old.stored new.stored article.word _ does.stored.after)
  article_shows (of_article.Reassert place) others reply article does =
      stored_shows (ReassertsSentence IsSpent place article) reply does (keeps_changed old.stored new.stored article.word _ does.stored.after)
  article_shows (of_article.Axioms place) others reply article does = shows_same old new number apt does.1
  article_shows of_article.Open others reply article does = absurd (false≢true (sym others))

  done_shows : (request : Request) → only_stored request ≡ true → (reply : Reply) → Does IsSpent old request reply new → Shows old new number []
  done_shows (requests.OnWiki of_wiki.Words) only reply does = shows_same old new number apt does.1
  done_shows (requests.OnWiki (of_wiki.Parse text)) only reply does = shows_same old new number apt does.1
  done_shows (requests.OnWord form of_word.Find) only reply does =
      let word = some_is (word_with old.stored form) (λ word. OnlyTells (TellsWord word) old reply new) does in
      shows_same old new number apt word.is.1
  done_shows (requests.OnArticle form asked) only reply does =
      let article = some_is (article_named old.stored form) (λ article. DoesOnArticle IsSpent asked article old reply new) does in
      article_shows asked (not-true (is_open asked) only) reply article.it article.is
  done_shows request only reply does = absurd (false≢true only)

  pub other_shows : (request : Request) (reply : Reply) → only_stored request ≡ true → Step IsSpent old request reply new → Shows old new number []
  other_shows request reply only step = by (outcome IsSpent old request reply new step)
    where
      by : IsRefused old request reply new ⊎ IsDone IsSpent old request reply new → Shows old new number []
      by (inl refused) = shows_same old new number apt refused.3
      by (inr done) = done_shows request only reply done.1

  -- ---- requests on sessions, each refused or done

  -- the words stay where what is stored stays
  stays : (sessions : List PlainSession) → RiseTo 0 old.last sessions → new ≡ record old { sessions = sessions } → (heard : List apart.Heard)
      → Follows (seen old number) heard (record { shared = shared old.stored; own = own_of sessions number }) → Shows old new number heard
  stays sessions rise same heard follows =
      subst (λ (s : State). Shows old s number heard) (sym same) (record { apt = rise; later = omega arith; follows = follows })

  one : (heard : apart.Heard) (after : Seen) → Goes (seen old number) heard after → Follows (seen old number) (heard ∷ []) after
  one heard after goes = (after, goes, refl)

  -- what is done in the session with a number
  in_session : (n : ℕ) (asked : SessionRequest) (reply : Reply) → Does IsSpent old (requests.OnSession n asked) reply new
      → SomeIs (session_numbered old n) (λ session. DoesOnSession IsSpent asked session old reply new)
  in_session n asked reply = some_is (session_numbered old n) (λ session. DoesOnSession IsSpent asked session old reply new)

  at_number : (n : ℕ) (session : PlainSession) (change : PlainSession → PlainSession) → session_numbered old n ≡ Some session
      → new ≡ with_session old session change → new ≡ record old { sessions = with_change old.sessions (numbered n) change }
  at_number n session change named after =
      after ∙ ap (λ (id : SessionId). with_sessions old (with_change old.sessions id change)) (number_is old.sessions (numbered n) session named)

  -- a text is typed
  not_typed : (text : List ℕ) (refusal : Refusal) → Refuses old (requests.OnSession number (of_session.Type text)) refusal
      → OwnTypes old.stored.grammar old.stored.words text (own_of old.sessions number) (own_of old.sessions number)
  not_typed text refusal refused = by_case (session_of old.sessions (numbered number)) refused
    where
      why : (s : PlainSession) → FirstOf (against_session old (of_session.Type text) s) refusal → IsNotTyped old.stored.grammar old.stored.words text s.tokens
      why s (inl full) = inl full.0
      why s (inr (not_full, inl not_offered)) = inr (λ many. not_full (full_at limits.Tokens) (many, refl), not_offered.0)
      why s (inr (not_full, inr (offered, never))) = absurd never

      by_case : (o : Option PlainSession) → FirstOf (of_named o (NoSession number) (against_session old (of_session.Type text))) refusal
          → OwnTypes old.stored.grammar old.stored.words text (option_map own o) (option_map own o)
      by_case None refused = refl
      by_case (Some s) refused = inl (why s refused, refl)

  typed_on : (text : List ℕ) (session : PlainSession) → session_numbered old number ≡ Some session
      → IsFree old (requests.OnSession number (of_session.Type text))
      → OwnTypes old.stored.grammar old.stored.words text (own_of old.sessions number)
      (option_map own (option_map (with_tokens (λ tokens. tokens ++ typed old.stored.grammar.terminals tokens text ∷ []))
      (session_of old.sessions (numbered number))))
  typed_on text session is free =
      subst (λ (o : Option PlainSession). OwnTypes old.stored.grammar old.stored.words text (option_map own o)
      (option_map own (option_map (with_tokens (λ tokens. tokens ++ typed old.stored.grammar.terminals tokens text ∷ [])) o)))
      (sym is) (inr (
        may,
        refl,
      ))
    where
      own_free : (refusal : Refusal) → FirstOf (against_session old (of_session.Type text) session) refusal → ⊥
      own_free refusal first = free refusal
          (subst (λ (o : Option PlainSession). FirstOf (of_named o (NoSession number) (against_session old (of_session.Type text))) refusal) (sym is) first)

      may : IsNotTyped old.stored.grammar old.stored.words text session.tokens → ⊥
      may (inl full) = own_free (full_at limits.Tokens) (inl (full, refl))
      may (inr (not_full, not_there)) =
          own_free (NotOffered text) (inr (λ other full. not_full full.0, inl (not_there, refl)))

  pub put_shows : (text : List ℕ) (reply : Reply) → Step IsSpent old (requests.OnSession number (of_session.Type text)) reply new
      → Shows old new number (apart.typed text ∷ [])
  put_shows text (replies.Refused refusal) step =
      subst (λ (s : State). Shows old s number (apart.typed text ∷ [])) (sym step.1)
      (record { apt = apt; later = omega arith; follows = one (apart.typed text) (seen old number) (refl, not_typed text refusal step.0) })
  put_shows text reply step =
      let done = in_session number (of_session.Type text) reply step.1 in
      let change = with_tokens (λ tokens. tokens ++ typed old.stored.grammar.terminals tokens text ∷ []) in
      let sessions = with_change old.sessions (record { 0 = number }) change in
      stays sessions (rise_changed number change (λ s. refl) 0 old.last old.sessions apt)
      (at_number number done.it change done.named done.is.after) (apart.typed text ∷ [])
      (one (apart.typed text) (record { shared = shared old.stored; own = own_of sessions number }) (
        refl,
        subst (λ (o : Option PlainSession). OwnTypes old.stored.grammar old.stored.words text (own_of old.sessions number) (option_map own o))
            (sym (changed_own old.sessions number change (λ s. refl)))
            (typed_on text done.it done.named step.0),
      ))

  -- a token is dropped
  not_back : (refusal : Refusal) → Refuses old (requests.OnSession number of_session.Back) refusal
      → own_of old.sessions number ≡ option_map own_back (own_of old.sessions number)
  not_back refusal refused = by_case (session_of old.sessions (numbered number)) refused
    where
      by_case : (o : Option PlainSession) → FirstOf (of_named o (NoSession number) (against_session old of_session.Back)) refusal
          → option_map own o ≡ option_map own_back (option_map own o)
      by_case None refused = refl
      by_case (Some s) (inl nothing) =
          ap (λ (tokens : List (List ℕ)). Some (record { article = s.article; tokens = tokens }))
          (nothing.0 ∙ ap (λ (tokens : List (List ℕ)). take (length tokens - 1) tokens) (sym nothing.0))
      by_case (Some s) (inr (some, never)) = absurd never

  mapped_twice : (f : PlainSession → PlainSession) (h : Own → Own) → ((s : PlainSession) → own (f s) ≡ h (own s)) → (o : Option PlainSession)
      → option_map own (option_map f o) ≡ option_map h (option_map own o)
  mapped_twice f h same None = refl
  mapped_twice f h same (Some s) = ap Some (same s)

  pub back_shows : (reply : Reply) → Step IsSpent old (requests.OnSession number of_session.Back) reply new → Shows old new number (apart.stepped_back ∷ [])
  back_shows (replies.Refused refusal) step =
      subst (λ (s : State). Shows old s number (apart.stepped_back ∷ [])) (sym step.1)
      (record { apt = apt; later = omega arith; follows = one apart.stepped_back (seen old number) (refl, not_back refusal step.0) })
  back_shows reply step =
      let done = in_session number of_session.Back reply step.1 in
      let change = with_tokens (λ tokens. take (length tokens - 1) tokens) in
      let sessions = with_change old.sessions (record { 0 = number }) change in
      stays sessions (rise_changed number change (λ s. refl) 0 old.last old.sessions apt)
      (at_number number done.it change done.named done.is.after) (apart.stepped_back ∷ [])
      (one apart.stepped_back (record { shared = shared old.stored; own = own_of sessions number }) (
        refl,
        ap (option_map own) (changed_own old.sessions number change (λ s. refl))
            ∙ mapped_twice change own_back (λ s. refl) (session_of old.sessions (record { 0 = number })),
      ))

  not_there : (refusal : Refusal) → Refuses old (requests.OnSession number of_session.Drop) refusal → own_of old.sessions number ≡ None
  not_there refusal refused = by_case (session_of old.sessions (numbered number)) refused
    where
      by_case : (o : Option PlainSession) → FirstOf (of_named o (NoSession number) (against_session old of_session.Drop)) refusal → option_map own o ≡ None
      by_case None refused = refl
      by_case (Some s) never = absurd never

  ended_at : (n : ℕ) (session : PlainSession) → session_numbered old n ≡ Some session → new ≡ with_sessions old (without_session old.sessions session.number)
      → new ≡ with_sessions old (without_session old.sessions (numbered n))
  ended_at n session named after =
      after ∙ ap (λ (id : SessionId). with_sessions old (without_session old.sessions id)) (number_is old.sessions (numbered n) session named)

  pub drop_shows : (reply : Reply) → Step IsSpent old (requests.OnSession number of_session.Drop) reply new → Shows old new number (apart.dropped ∷ [])
  drop_shows (replies.Refused refusal) step =
      subst (λ (s : State). Shows old s number (apart.dropped ∷ [])) (sym step.1)
      (record { apt = apt; later = omega arith; follows = one apart.dropped (seen old number) (refl, not_there refusal step.0) })
  drop_shows reply step =
      let done = in_session number of_session.Drop reply step.1 in
      let sessions = without_session old.sessions (record { 0 = number }) in
      stays sessions (rise_filter (λ s. not (has_number (record { 0 = number }) s)) 0 old.last old.sessions apt)
      (ended_at number done.it done.named done.is.after) (apart.dropped ∷ [])
      (one apart.dropped (record { shared = shared old.stored; own = own_of sessions number }) (refl, ap (option_map own) (without_own old.sessions number)))

  commits_at : (n : ℕ) (session : PlainSession) → session_numbered old n ≡ Some session → (form : List ℕ) (status : Status) (text : List ℕ)
      → (does : CommitsSession IsSpent session old (replies.Commit form status text) new)
      → new ≡ record old {
        stored = with_appended old.stored session.article session.tokens does.status;
        sessions = with_change old.sessions (numbered n) (begun_again does.article);
      }
  commits_at n session named form status text does =
      does.after ∙ ap (λ (id : SessionId). record old {
        stored = with_appended old.stored session.article session.tokens does.status;
        sessions = with_change old.sessions id (begun_again does.article);
      }) (number_is old.sessions (numbered n) session named)

  pub commit_shows : (form : List ℕ) (status : Status) (text : List ℕ)
      → Step IsSpent old (requests.OnSession number of_session.Commit) (replies.Commit form status text) new
      → Shows old new number (apart.committed ∷ [])
  commit_shows form status text step =
      let done = in_session number of_session.Commit (replies.Commit form status text) step.1 in
      let change = begun_again done.is.article in
      let sessions = with_change old.sessions (record { 0 = number }) change in
      subst (λ (s : State). Shows old s number (apart.committed ∷ [])) (sym (commits_at number done.it done.named form status text done.is))
      (record {
        apt = rise_changed number change (λ s. refl) 0 old.last old.sessions apt;
        later = omega arith;
        follows = one apart.committed (record { shared = shared old.stored; own = own_of sessions number }) (
          refl,
          ap (option_map own) (changed_own old.sessions number change (λ s. refl))
              ∙ mapped_twice change own_emptied (λ s. refl) (session_of old.sessions (record { 0 = number })),
        );
      })

  -- ---- requests on other sessions, and those that leave tokens

  other_own : (n : ℕ) (change : PlainSession → PlainSession) → ((s : PlainSession) → (change s).number.0 ≡ s.number.0) → (n == number) ≡ false
      → own_of (with_change old.sessions (record { 0 = n }) change) number ≡ own_of old.sessions number
  other_own n change keeps apart_is = ap (option_map own) (changed_other old.sessions n number change keeps apart_is)

  other_changes : (n : ℕ) (change : PlainSession → PlainSession) → ((s : PlainSession) → (change s).number.0 ≡ s.number.0) → (n == number) ≡ false
      → new ≡ record old { sessions = with_change old.sessions (record { 0 = n }) change } → Shows old new number []
  other_changes n change keeps apart_is same =
      stays (with_change old.sessions (record { 0 = n }) change) (rise_changed n change keeps 0 old.last old.sessions apt) same []
      (seen_is (record { shared = shared old.stored; own = own_of (with_change old.sessions (record { 0 = n }) change) number }) (seen old number) refl
      (other_own n change keeps apart_is))

  pub put_other : (n : ℕ) (text : List ℕ) (reply : Reply) → (n == number) ≡ false → Step IsSpent old (requests.OnSession n (of_session.Type text)) reply new
      → Shows old new number []
  put_other n text (replies.Refused refusal) apart_is step = shows_same old new number apt step.1
  put_other n text reply apart_is step =
      let done = in_session n (of_session.Type text) reply step.1 in
      let change = with_tokens (λ tokens. tokens ++ typed old.stored.grammar.terminals tokens text ∷ []) in
      other_changes n change (λ s. refl) apart_is (at_number n done.it change done.named done.is.after)

  pub back_other : (n : ℕ) (reply : Reply) → (n == number) ≡ false → Step IsSpent old (requests.OnSession n of_session.Back) reply new → Shows old new number []
  back_other n (replies.Refused refusal) apart_is step = shows_same old new number apt step.1
  back_other n reply apart_is step =
      let done = in_session n of_session.Back reply step.1 in
      let change = with_tokens (λ tokens. take (length tokens - 1) tokens) in
      other_changes n change (λ s. refl) apart_is (at_number n done.it change done.named done.is.after)

  pub drop_other : (n : ℕ) (reply : Reply) → (n == number) ≡ false → Step IsSpent old (requests.OnSession n of_session.Drop) reply new → Shows old new number []
  drop_other n (replies.Refused refusal) apart_is step = shows_same old new number apt step.1
  drop_other n reply apart_is step =
      let done = in_session n of_session.Drop reply step.1 in
      let sessions = without_session old.sessions (record { 0 = n }) in
      stays sessions (rise_filter (λ s. not (has_number (record { 0 = n }) s)) 0 old.last old.sessions apt)
      (ended_at n done.it done.named done.is.after) []
      (seen_is (record { shared = shared old.stored; own = own_of sessions number }) (seen old number) refl
      (ap (option_map own) (without_other old.sessions n number apart_is)))

  pub commit_other : (n : ℕ) (form : List ℕ) (status : Status) (text : List ℕ) → (n == number) ≡ false
      → Step IsSpent old (requests.OnSession n of_session.Commit) (replies.Commit form status text) new → Shows old new number []
  commit_other n form status text apart_is step =
      let done = in_session n of_session.Commit (replies.Commit form status text) step.1 in
      let change = begun_again done.is.article in
      let sessions = with_change old.sessions (record { 0 = n }) change in
      subst (λ (s : State). Shows old s number []) (sym (commits_at n done.it done.named form status text done.is))
      (record {
        apt = rise_changed n change (λ s. refl) 0 old.last old.sessions apt;
        later = omega arith;
        follows = seen_is (record { shared = shared old.stored; own = own_of sessions number }) (seen old number) refl
            (other_own n change (λ s. refl) apart_is);
      })

  pub commit_refused : (n : ℕ) (reply : Reply) → tells_commit reply ≡ false → Step IsSpent old (requests.OnSession n of_session.Commit) reply new
      → Shows old new number []
  commit_refused n (replies.Refused refusal) not_told step = shows_same old new number apt step.1
  commit_refused n reply not_told step = absurd (false≢true (sym not_told ∙ ap tells_commit (in_session n of_session.Commit reply step.1).is.answer))

  pub menu_shows : (n : ℕ) (reply : Reply) → Step IsSpent old (requests.OnSession n of_session.Menu) reply new → Shows old new number []
  menu_shows n (replies.Refused refusal) step = shows_same old new number apt step.1
  menu_shows n reply step = shows_same old new number apt (in_session n of_session.Menu reply step.1).is.1

  -- another revision changes no tokens, of whichever session
  pub refresh_shows : (n : ℕ) (reply : Reply) → Step IsSpent old (requests.OnSession n of_session.Refresh) reply new → Shows old new number []
  refresh_shows n (replies.Refused refusal) step = shows_same old new number apt step.1
  refresh_shows n reply step =
      let change = with_revision done.is.article.revision in
      stays (with_change old.sessions (record { 0 = n }) change) (rise_changed n change (λ s. refl) 0 old.last old.sessions apt)
      (at_number n done.it change done.named done.is.after) []
      (seen_is (record { shared = shared old.stored; own = own_of (with_change old.sessions (record { 0 = n }) change) number }) (seen old number) refl
      (ap (option_map own) (find_changed (λ (s : PlainSession). s.number.0) n number change (λ s. refl) old.sessions)
      ∙ alike (session_of old.sessions (record { 0 = number }))))
    where
      done : SomeIs (session_numbered old n) (λ session. DoesOnSession IsSpent of_session.Refresh session old reply new)
      done = in_session n of_session.Refresh reply step.1

      same_own : (b : Bool) (s : PlainSession) → own (cond b (with_revision done.is.article.revision s) s) ≡ own s
      same_own true s = refl
      same_own false s = refl

      alike : (o : Option PlainSession) → option_map own
          (option_map (changed_at (λ (s : PlainSession). s.number.0) n (with_revision done.is.article.revision)) o) ≡ option_map own o
      alike None = refl
      alike (Some s) = ap Some (same_own (s.number.0 == n) s)

  opened_on : (form : List ℕ) (reply : Reply) → Does IsSpent old (requests.OnArticle form of_article.Open) reply new
      → SomeIs (article_named old.stored form) (λ article. OpensSession article old reply new)
  opened_on form reply = some_is (article_named old.stored form) (λ article. OpensSession article old reply new)

  -- another session is opened
  pub begin_other : (form : List ℕ) (reply : Reply) → (old.last + 1 == number) ≡ false → Step IsSpent old (requests.OnArticle form of_article.Open) reply new
      → Shows old new number []
  begin_other form (replies.Refused refusal) apart_is step = shows_same old new number apt step.1
  begin_other form reply apart_is step =
      let done = opened_on form reply step.1 in
      let session = new_session (record { 0 = old.last + 1 }) done.it.word done.it.revision in
      subst (λ (s : State). Shows old s number []) (sym done.is.after)
      (record {
        apt = rise_append 0 old.last old.sessions session refl apt;
        later = omega arith;
        follows = seen_is (record { shared = shared old.stored; own = own_of (old.sessions ++ session ∷ []) number }) (seen old number) refl
            (ap (option_map own) (opened_other old.sessions session number apart_is));
      })

  -- the session itself is opened
  pub begin_shows : (form : List ℕ) → session_numbered old number ≡ None → Step IsSpent old (requests.OnArticle form of_article.Open) (replies.Open number) new
      → Shows old new number (apart.opened form ∷ []) × (number ≤ new.last)
  begin_shows form none step =
      let done = opened_on form (replies.Open number) step.1 in
      let word = named_word old.stored form done.it done.named in
      let session = new_session (record { 0 = old.last + 1 }) done.it.word done.it.revision in
      let is_next : number ≡ old.last + 1 = ap session_told done.is.answer in
      let same : (old.last + 1 == number) ≡ true = eq-eqb (old.last + 1) number (sym is_next) in
      subst (λ (s : State). Shows old s number (apart.opened form ∷ []) × (number ≤ s.last)) (sym done.is.after) (
        record {
          apt = rise_append 0 old.last old.sessions session refl apt;
          later = omega arith;
          follows = one (apart.opened form) (record { shared = shared old.stored; own = own_of (old.sessions ++ session ∷ []) number }) (
            refl,
            (
              word.it,
              word.named,
              ap (option_map own) (opened_own old.sessions session number none same)
                  ∙ ap (λ (w : WordId). Some (record { article = w; tokens = [] })) word.is,
            ),
          );
        },
        omega (arith, is_next),
      )
