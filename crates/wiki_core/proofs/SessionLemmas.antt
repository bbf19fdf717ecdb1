-- Steps in sessions, from their parts.
use Rattle.std.proofs.Common.{◌≡◌, ℕ, ◌+◌, ◌-◌, ◌<◌, List, [], ◌∷◌, ◌++◌, length, take, Option, Some, option_map, refl, sym, ap, subst, ◌∙◌, arith}
use Rattle.std.specs.Option.{IsSomeAnd}
use Rattle.std.proofs.lemmas.Option.{same_Some}
use Rattle.wiki_base.specs.declared.numbers.WordId.{WordId}
use Rattle.wiki_base.specs.declared.numbers.Rev.{Rev}
use Rattle.wiki_base.specs.declared.numbers.SessionId.{SessionId}
use Rattle.wiki_talk.specs.declared.limits.Limit.TheVariants as limits
use Rattle.wiki_talk.specs.declared.refusals.Refusal.{Refusal}
use Rattle.wiki_talk.specs.declared.refusals.Refusal.TheVariants.{NoWord, NoSession, NotOffered}
use Rattle.wiki_talk.specs.declared.replies.Reply.TheVariants as replies
use Rattle.wiki_talk.specs.declared.requests.Request.TheVariants as requests
use Rattle.wiki_talk.specs.declared.requests.ArticleRequest.TheVariants as of_article
use Rattle.wiki_talk.specs.declared.requests.SessionRequest.TheVariants as of_session
use Rattle.articles.specs.declared.article.Article.{Article}
use Rattle.articles.specs.Articles.{article_of}
use Rattle.wiki_parts.specs.declared.faults.Fault.{Fault}
use Rattle.wiki_parts.specs.declared.faults.Fault.TheVariants.{Refused, Memory}
use Rattle.wiki_parts.specs.Faults.{IsFault, IsAbsent}
use Rattle.wiki_parts.proofs.FirstLemmas.{none_stands, nothing_stands}
use Rattle.plain_wiki.specs.Sessions.{PlainSession, new_session, with_change, with_revision, with_tokens, without_session, without_article}
use Rattle.plain_wiki.specs.State.{Stored, State}
use Rattle.codeco_terms.specs.GrammarParts.{GrammarParts}
use Rattle.lexicon.specs.declared.words.Word.{Word}
use Rattle.lexicon.specs.Words.{Listed}
use Rattle.plain_wiki.specs.Places.{word_with, word_named, article_named, numbered, session_numbered}
use Rattle.plain_wiki.specs.Knowledge.{Spending}
use Rattle.plain_wiki.specs.Causes.{is_full, has_no_room, is_at_last_revision, is_stale, is_unfinished, is_not_offered, has_no_token, on_its_article}
use Rattle.plain_wiki.specs.Against.{against_article, against_session, IsFree}
use Rattle.plain_wiki.specs.Doing.{RemovesWord, OpensSession, TypesToken, DropsToken, RefreshesSession, EndsSession}
use Rattle.plain_wiki.specs.Step.{AreRebasedTo, EndsOnArticle, Step}
use Rattle.editor.specs.Editing.{typed, IsInMenu}
use Rattle.wiki_core.specs.Holding.{Holding}
use Rattle.wiki_core.specs.Drafts.{with_typed}
use Rattle.wiki_core.proofs.NamedLemmas.{SomeIs, free_named, some_and, and_so, some_is, number_is}

-- the wiki with these sessions
abbrev pub with_sessions : State → List PlainSession → State
with_sessions old sessions = record old { sessions = sessions }

-- the wiki with one session more, and the number that it has
abbrev pub with_opened : State → ℕ → WordId → Rev → State
with_opened old number word revision =
    record old { sessions = old.sessions ++ new_session (numbered number) word revision ∷ []; last = number }

-- a session is opened
pub opens_step : (IsSpent : Spending) (old new : State) (form : List ℕ) (number : ℕ) (word : WordId) (revision : Rev)
    → IsSomeAnd (article_named old.stored form) (λ article. (article.word ≡ word) × (article.revision ≡ revision)) → number ≡ old.last + 1
    → new ≡ with_opened old number word revision
    → IsAbsent (is_full limits.Sessions (length old.sessions)) → IsAbsent (is_full limits.Numbers old.last)
    → Step IsSpent old (requests.OnArticle form of_article.Open) (replies.Open number) new
opens_step IsSpent old new form number word revision there next after room more = (
  free_named (article_named old.stored form) (NoWord form) (against_article old of_article.Open) found.it found.named
      (none_stands (is_full limits.Sessions (length old.sessions)) (is_full limits.Numbers old.last ∷ []) room
      (none_stands (is_full limits.Numbers old.last) [] more nothing_stands)),
  some_and (article_named old.stored form) (λ article. OpensSession article old (replies.Open number) new) found.it found.named (record {
    answer = ap replies.Open next;
    after = after ∙ ap (λ (n : ℕ). with_opened old n word revision) next ∙ ap (λ (w : WordId). with_opened old (old.last + 1) w revision) (sym found.is.0)
        ∙ ap (λ (r : Rev). with_opened old (old.last + 1) found.it.word r) (sym found.is.1);
  }),
)
  where
    found : SomeIs (article_named old.stored form) (λ article. (article.word ≡ word) × (article.revision ≡ revision))
    found = some_is (article_named old.stored form) (λ article. (article.word ≡ word) × (article.revision ≡ revision)) there

-- a cause that doesn't stand against the article of a session doesn't stand against the session
pub absent_on : (stored : Stored) (session : PlainSession) (article : Article) (cause : Article → Refusal → Type 0)
    → article_of stored.articles session.article ≡ Some article → IsAbsent (cause article) → IsAbsent (on_its_article stored session cause)
absent_on stored session article cause on absent refusal (other, there, stands) =
    absent refusal (subst (λ (a : Article). cause a refusal) (same_Some other article (sym there ∙ on)) stands)

pub fault_on : (stored : Stored) (session : PlainSession) (article : Article) (cause : Article → Refusal → Type 0)
    → article_of stored.articles session.article ≡ Some article → (fault : Fault) → IsFault (cause article) fault
    → IsFault (on_its_article stored session cause) fault
fault_on stored session article cause on (Refused refusal) is = (article, on, is)
fault_on stored session article cause on Memory is = tt

-- nothing stands against a commit
pub commit_free : (state : State) (number : ℕ) (session : PlainSession) (article : Article) → session_numbered state number ≡ Some session
    → article_of state.stored.articles session.article ≡ Some article → IsAbsent (has_no_room state.stored) → IsAbsent (is_at_last_revision article)
    → IsAbsent (is_stale session article) → IsAbsent (is_unfinished state.stored session)
    → IsFree state (requests.OnSession number of_session.Commit)
commit_free state number session article named on room below current finished =
    let last = on_its_article state.stored session is_at_last_revision in
    let stale = on_its_article state.stored session (is_stale session) in
    let unfinished = is_unfinished state.stored session in
    free_named (session_numbered state number) (NoSession number) (against_session state of_session.Commit) session named
    (none_stands (has_no_room state.stored) (last ∷ stale ∷ unfinished ∷ []) room
    (none_stands last (stale ∷ unfinished ∷ []) (absent_on state.stored session article is_at_last_revision on below)
    (none_stands stale (unfinished ∷ []) (absent_on state.stored session article (is_stale session) on current)
    (none_stands unfinished [] finished nothing_stands))))

-- a session takes note of its article's revision
pub refresh_step : (IsSpent : Spending) (old new : State) (number : ℕ) (session : PlainSession) (article : Article)
    → session_numbered old number ≡ Some session → article_of old.stored.articles session.article ≡ Some article
    → new ≡ with_sessions old (with_change old.sessions (numbered number) (with_revision article.revision))
    → Step IsSpent old (requests.OnSession number of_session.Refresh) replies.Refresh new
refresh_step IsSpent old new number session article named on after = (
  free_named (session_numbered old number) (NoSession number) (against_session old of_session.Refresh) session named nothing_stands,
  some_and (session_numbered old number) (λ s. RefreshesSession s old replies.Refresh new) session named (record {
    article = article;
    on = on;
    answer = refl;
    after = after ∙ ap (λ (id : SessionId). with_sessions old (with_change old.sessions id (with_revision article.revision)))
        (sym (number_is old.sessions (numbered number) session named));
  }),
)

-- a session ends
pub drop_step : (IsSpent : Spending) (old new : State) (number : ℕ) (session : PlainSession) → session_numbered old number ≡ Some session
    → new ≡ with_sessions old (without_session old.sessions (numbered number))
    → Step IsSpent old (requests.OnSession number of_session.Drop) replies.Drop new
drop_step IsSpent old new number session named after = (
  free_named (session_numbered old number) (NoSession number) (against_session old of_session.Drop) session named nothing_stands,
  some_and (session_numbered old number) (λ s. EndsSession s old replies.Drop new) session named (record {
    answer = refl;
    after = after ∙ ap (λ (id : SessionId). with_sessions old (without_session old.sessions id))
        (sym (number_is old.sessions (numbered number) session named));
  }),
)

abbrev pub state_of : Stored → List PlainSession → ℕ → State
state_of stored sessions last = record { stored = stored; sessions = sessions; last = last }

-- a word goes, and the sessions on its article end
pub unword_does : (old new : Stored) (sessions rebased ended : List PlainSession) (last : ℕ) (form : List ℕ) (gone : WordId)
    → word_named old form ≡ Some gone → IsSomeAnd (word_with old form) (λ word. RemovesWord word old replies.Unword new)
    → AreRebasedTo new sessions rebased → ended ≡ without_article rebased gone
    → IsSomeAnd (word_with old form)
    (λ word. EndsOnArticle word.id (RemovesWord word) (state_of old sessions last) replies.Unword (state_of new ended last))
unword_does old new sessions rebased ended last form gone named removes rebases ends =
    some_and (word_with old form)
    (λ word. EndsOnArticle word.id (RemovesWord word) (state_of old sessions last) replies.Unword (state_of new ended last)) found.it found.named (record {
      stored = found.is;
      rebased = rebased;
      rebases = rebases;
      sessions = ends ∙ ap (λ (w : WordId). without_article rebased w) (sym same);
      last = refl;
    })
  where
    found : SomeIs (word_with old form) (λ word. RemovesWord word old replies.Unword new)
    found = some_is (word_with old form) (λ word. RemovesWord word old replies.Unword new) removes

    same : found.it.id ≡ gone
    same = same_Some found.it.id gone (sym (ap (option_map (λ (w : Word). w.id)) found.named) ∙ named)

-- a token is typed
pub type_step : (IsSpent : Spending) (old new : Holding) (number : ℕ) (text : List ℕ) (session : PlainSession) (count : ℕ)
    → session_numbered old.state number ≡ Some session → count ≡ length session.tokens → new ≡ with_typed old number text
    → IsAbsent (is_full limits.Tokens (length session.tokens)) → IsAbsent (is_not_offered old.state.stored session text)
    → Step IsSpent old.state (requests.OnSession number (of_session.Type text)) (replies.Type (count + 1)) new.state
type_step IsSpent old new number text session count named counts after room offered = (
  free_named (session_numbered old.state number) (NoSession number) (against_session old.state (of_session.Type text)) session named
      (none_stands (is_full limits.Tokens (length session.tokens)) (is_not_offered old.state.stored session text ∷ []) room
      (none_stands (is_not_offered old.state.stored session text) [] offered nothing_stands)),
  some_and (session_numbered old.state number) (λ s. TypesToken text s old.state (replies.Type (count + 1)) new.state) session named (record {
    answer = ap (λ (n : ℕ). replies.Type (n + 1)) counts;
    after = ap (λ (h : Holding). h.state) after ∙ ap (λ (id : SessionId). with_sessions old.state (with_change old.state.sessions id
        (with_tokens (λ tokens. tokens ++ typed old.state.stored.grammar.terminals tokens text ∷ []))))
        (sym (number_is old.state.sessions (numbered number) session named));
  }),
)

-- a text that the menu doesn't have is told
pub refuses_text : (stored : Stored) (o : Option PlainSession) (grammar : GrammarParts) (words : Listed) (text given told : List ℕ)
    → grammar ≡ stored.grammar → words ≡ stored.words → given ≡ text → told ≡ text
    → IsSomeAnd o (λ session. ¬ IsInMenu grammar words session.tokens (typed grammar.terminals session.tokens given))
    → IsSomeAnd o (λ session. IsFault (is_not_offered stored session text) (Refused (NotOffered told)))
refuses_text stored o grammar words text given told by_grammar by_words same says no_menu =
    and_so o (λ session. ¬ IsInMenu grammar words session.tokens (typed grammar.terminals session.tokens given))
    (λ session. IsFault (is_not_offered stored session text) (Refused (NotOffered told)))
    (λ session not_in. (not_there session not_in, ap NotOffered says)) no_menu
  where
    not_there : (session : PlainSession) → ¬ IsInMenu grammar words session.tokens (typed grammar.terminals session.tokens given)
        → ¬ IsInMenu stored.grammar stored.words session.tokens (typed stored.grammar.terminals session.tokens text)
    not_there session not_in =
        subst (λ (g : GrammarParts). ¬ IsInMenu g stored.words session.tokens (typed g.terminals session.tokens text)) by_grammar
        (subst (λ (w : Listed). ¬ IsInMenu grammar w session.tokens (typed grammar.terminals session.tokens text)) by_words
        (subst (λ (t : List ℕ). ¬ IsInMenu grammar words session.tokens (typed grammar.terminals session.tokens t)) same not_in))

-- a session that has a token
pub has_token : (session : PlainSession) → 0 < length session.tokens → IsAbsent (has_no_token session)
has_token session has refusal (none, told) = let empty = ap (λ (tokens : List (List ℕ)). length tokens) none in omega (arith, has, empty)

-- the last token is dropped
pub back_step : (IsSpent : Spending) (old new : State) (number : ℕ) (session : PlainSession) → session_numbered old number ≡ Some session
    → IsAbsent (has_no_token session) → (count : ℕ) → count ≡ length session.tokens - 1
    → new ≡ with_sessions old (with_change old.sessions (numbered number) (with_tokens (λ tokens. take (length tokens - 1) tokens)))
    → Step IsSpent old (requests.OnSession number of_session.Back) (replies.Back count) new
back_step IsSpent old new number session named some count counts after = (
  free_named (session_numbered old number) (NoSession number) (against_session old of_session.Back) session named
      (none_stands (has_no_token session) [] some nothing_stands),
  some_and (session_numbered old number) (λ s. DropsToken s old (replies.Back count) new) session named (record {
    answer = ap replies.Back counts;
    after = after ∙ ap (λ (id : SessionId). with_sessions old (with_change old.sessions id (with_tokens (λ tokens. take (length tokens - 1) tokens))))
        (sym (number_is old.sessions (numbered number) session named));
  }),
)
