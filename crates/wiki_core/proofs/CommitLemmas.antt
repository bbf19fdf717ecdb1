-- A session's tokens that become a sentence.
use Rattle.std.proofs.Common.{◌≡◌, ℕ, ◌+◌, ◌≤◌, ◌==◌, Bool, cond, List, [], ◌∷◌, Option, Some, option_map, IfSome, refl, sym, ap, subst, ◌∙◌, arith}
use Rattle.std.proofs.lemmas.Option.{same_Some}
use Rattle.wiki_base.specs.declared.numbers.WordId.{WordId}
use Rattle.wiki_base.specs.declared.numbers.Rev.{Rev}
use Rattle.logic_terms.specs.Concept.{Claim}
use Rattle.logic_terms.specs.Reading.{IsModel}
use Rattle.wiki_talk.specs.declared.statuses.Status.{Status}
use Rattle.wiki_talk.specs.declared.statuses.Status.TheVariants.{Asserted, RedBudget}
use Rattle.wiki_talk.specs.declared.replies.Reply.TheVariants as replies
use Rattle.articles.specs.declared.sentences.Sentence.{Sentence}
use Rattle.articles.specs.declared.article.Article.{Article}
use Rattle.articles.specs.Articles.{article_of, is_of, changed, with_change as with_article}
use Rattle.sessions.specs.declared.session.Session.{Session}
use Rattle.plain_wiki.specs.Sessions.{PlainSession, with_change, with_tokens, with_revision}
use Rattle.sessions.specs.Sessions.{all_plain, AreSessions, AreKeptOn}
use Rattle.plain_wiki.specs.State.{Stored}
use Rattle.plain_wiki.specs.Knowledge.{Spending, GetStatus, Knows}
use Rattle.plain_wiki.specs.Places.{numbered, session_numbered}
use Rattle.wiki_talk.specs.declared.requests.Request.TheVariants as requests
use Rattle.wiki_talk.specs.declared.requests.SessionRequest.TheVariants as of_session
use Rattle.wiki_base.specs.declared.numbers.SessionId.{SessionId}
use Rattle.std.specs.Option.{IsSomeAnd}
use Rattle.plain_wiki.specs.Doing.{with_appended, CommitsSession}
use Rattle.wiki_store.specs.Spending.{SpendsAtEnd}
use Rattle.wiki_core.specs.declared.committing.Draft.{Draft}
use Rattle.plain_wiki.specs.State.{State}
use Rattle.wiki_core.specs.Holding.{Holding, store_held}
use Rattle.wiki_core.specs.Spending.{SpendsBeyondKept}
use Rattle.wiki_core.specs.Drafts.{IsDraftOf}
use Rattle.wiki_core.specs.Keeping.{AreHeld}
use Rattle.wiki_core.proofs.KeyLaws.{changed_at, find_changed, found_passes}
use Rattle.wiki_core.proofs.NamedLemmas.{some_and, number_is}
use Rattle.wiki_core.proofs.PagesLemmas.{go_on_changed}
use Rattle.wiki_core.proofs.HeldLemmas.{Fits, on_there, plain_in_order, held_changed}

-- the session that begins its next sentence
abbrev pub begun : Rev → PlainSession → PlainSession
begun revision session = with_revision revision (with_tokens (λ _. []) session)

-- a state of these parts
abbrev pub state_of : Stored → List PlainSession → ℕ → State
state_of pages sessions last = record { stored = pages; sessions = sessions; last = last }

-- the commit of a draft that was stored
pub commits : (IsSpent : Spending) (pages : Stored) (sessions : List PlainSession) (last number : ℕ) (draft : Draft) (status : Status) (new_pages : Stored)
    (new_sessions : List PlainSession)
    → IsDraftOf (state_of pages sessions last) number draft
    → GetStatus IsSpent (with_appended pages draft.word draft.tokens Asserted) draft.tokens status
    → new_pages ≡ with_appended pages draft.word draft.tokens status
    → new_sessions ≡ with_change sessions (numbered number) (begun (record { 0 = draft.revision.0 + 1 }))
    → IsSomeAnd (session_numbered (state_of pages sessions last) number)
    (λ session. CommitsSession IsSpent session (state_of pages sessions last) (replies.Commit draft.form status draft.shown)
    (state_of new_pages new_sessions last))
commits IsSpent pages sessions last number draft status new_pages new_sessions is gets pages_after sessions_after =
    some_and (session_numbered (state_of pages sessions last) number)
    (λ session. CommitsSession IsSpent session (state_of pages sessions last) (replies.Commit draft.form status draft.shown)
    (state_of new_pages new_sessions last))
    is.session is.named done
  where
    same_state : (p q : Stored) (ss ts : List PlainSession) → p ≡ q → ss ≡ ts → state_of p ss last ≡ state_of q ts last
    same_state p q ss ts same also = ap (λ (r : Stored). state_of r ss last) same ∙ ap (λ (us : List PlainSession). state_of q us last) also

    done : CommitsSession IsSpent is.session (state_of pages sessions last) (replies.Commit draft.form status draft.shown)
        (state_of new_pages new_sessions last)
    done = record {
      article = is.article;
      on = is.on;
      form = draft.form;
      spelled = is.spelled;
      status = status;
      gets = subst (λ (tokens : List (List ℕ)). GetStatus IsSpent (with_appended pages is.session.article tokens Asserted) tokens status) is.tokens
          (subst (λ (word : WordId). GetStatus IsSpent (with_appended pages word draft.tokens Asserted) draft.tokens status) is.word gets);
      answer = ap (λ (text : List ℕ). replies.Commit draft.form status text) is.shows;
      after =
          same_state new_pages (with_appended pages is.session.article is.session.tokens status) new_sessions
          (with_change sessions is.session.number (begun (record { 0 = is.article.revision.0 + 1 })))
          (pages_after ∙ ap (λ (word : WordId). with_appended pages word draft.tokens status) is.word
          ∙ ap (λ (tokens : List (List ℕ)). with_appended pages is.session.article tokens status) is.tokens)
          (sessions_after ∙ ap (λ (revision : Rev). with_change sessions (numbered number) (begun (record { 0 = revision.0 + 1 }))) is.revision
          ∙ ap (λ (id : SessionId). with_change sessions id (begun (record { 0 = is.article.revision.0 + 1 })))
          (sym (number_is sessions (numbered number) is.session is.named)));
    }

-- a draft that is red for the budget
pub commit_spends : (old : Holding) (number : ℕ) (draft : Draft) (status : Status) → IsDraftOf old.state number draft
    → SpendsAtEnd (store_held old) draft.word draft.tokens status
    → SpendsBeyondKept old (requests.OnSession number of_session.Commit) (replies.Commit draft.form status draft.shown)
commit_spends old number draft status is spends told =
    subst (λ (o : Option PlainSession). IfSome (option_map (λ session. with_appended old.state.stored session.article session.tokens Asserted) o)
    (λ taken. (claims : List Claim) → Knows taken claims → IsModel old.interpretation claims → ⊥))
    (sym is.named)
    (λ claims known. spends (same_Some status RedBudget told) claims
    (subst (λ (word : WordId). Knows (with_appended old.state.stored word draft.tokens Asserted) claims) (sym is.word)
    (subst (λ (tokens : List (List ℕ)). Knows (with_appended old.state.stored is.session.article tokens Asserted) claims) (sym is.tokens) known)))

-- a session that begins its next sentence fits its article
begun_fits : (articles : List Article) (session : PlainSession) (article : Article) (change : List Sentence → List Sentence) (revision : Rev) (last : ℕ)
    → article_of articles session.article ≡ Some article
    → revision.0 ≡ article.revision.0 + 1 → session.number.0 ≤ last → Fits (with_article articles session.article change) last (begun revision session)
begun_fits articles session article change revision last there next numbered = record {
  on = record {
    article = changed change article;
    there =
        find_changed (λ (a : Article). a.word.0) session.article.0 session.article.0 (changed change) (λ _. refl) articles
        ∙ ap (option_map (changed_at (λ (a : Article). a.word.0) session.article.0 (changed change))) there
        ∙ ap (λ (b : Bool). Some (cond b (changed change article) article)) (found_passes (is_of session.article) articles article there);
    seen = omega (arith, next);
  };
  numbered = numbered;
}

-- what is kept of sessions after a commit
pub commit_held : (pages after : Stored) (old new : List Session) (last number : ℕ) (draft : Draft) (status : Status) → AreHeld pages old last
    → AreSessions old
    → IsDraftOf (record { stored = pages; sessions = all_plain old; last = last }) number draft → after ≡ with_appended pages draft.word draft.tokens status
    → all_plain new ≡ with_change (all_plain old) (record { 0 = number }) (begun (record { 0 = draft.revision.0 + 1 })) → AreKeptOn old new
    → AreHeld after new last
commit_held pages after old new last number draft status held are is after_is changed_is kept_on =
    subst (λ (p : Stored). AreHeld p new last) (sym after_here)
    (held_changed pages (with_appended pages is.session.article draft.tokens status) old new last (record { 0 = number })
    (begun (record { 0 = draft.revision.0 + 1 })) is.session held
    (plain_in_order old are.in_order) is.named (go_on_changed pages.articles is.session.article _) (kept_on pages.grammar pages.words held.kept) changed_is
    (begun_fits pages.articles is.session is.article _ (record { 0 = draft.revision.0 + 1 }) last is.on (ap (λ (revision : Rev). revision.0 + 1) is.revision)
    (on_there pages old last (record { 0 = number }) is.session held is.named).numbered))
  where
    after_here : after ≡ with_appended pages is.session.article draft.tokens status
    after_here = after_is ∙ ap (λ (word : WordId). with_appended pages word draft.tokens status) is.word
