-- The sessions of a plain wiki.
use Rattle.std.specs.Prelude.{◌≡◌, ◌==◌, ℕ, Bool, not, if◌then◌else◌, List, [], ◌∷◌, map, filter, find, All, Option, IsSomeAnd}
use Rattle.wiki_base.specs.declared.numbers.SessionId.{SessionId}
use Rattle.wiki_base.specs.declared.numbers.WordId.{WordId}
use Rattle.wiki_base.specs.declared.numbers.Rev.{Rev}
use Rattle.codeco_terms.specs.GrammarParts.{GrammarParts}
use Rattle.lexicon.specs.Words.{Listed}
use Rattle.derivation_trees.specs.Partial.{IsTypeable}
use Rattle.editor.specs.Rebasing.{IsRebased}

-- a session: its number, the word of its article, the revision of the article that it is at, and its tokens
pub record PlainSession : Type 0 where
  pub number : SessionId
  pub article : WordId
  pub revision : Rev
  pub tokens : List (List ℕ)

-- the session has the number
abbrev pub has_number : SessionId → PlainSession → Bool
has_number number session = session.number.0 == number.0

-- the session is on the article of the word
abbrev pub is_on : WordId → PlainSession → Bool
is_on article session = session.article.0 == article.0

-- the session with the number
abbrev pub session_of : List PlainSession → SessionId → Option PlainSession
session_of sessions number = find (has_number number) sessions

-- there is a session with the number
abbrev pub HasSession : List PlainSession → SessionId → Type 0
HasSession sessions number = IsSomeAnd (session_of sessions number) (λ _. Unit {0})

-- a session on an article at a revision, without tokens
abbrev pub new_session : SessionId → WordId → Rev → PlainSession
new_session number article revision = record { number = number; article = article; revision = revision; tokens = [] }

-- the session with other tokens
abbrev pub with_tokens : (List (List ℕ) → List (List ℕ)) → PlainSession → PlainSession
with_tokens change session =
    record { number = session.number; article = session.article; revision = session.revision; tokens = change session.tokens }

-- the session at another revision of its article
abbrev pub with_revision : Rev → PlainSession → PlainSession
with_revision revision session =
    record { number = session.number; article = session.article; revision = revision; tokens = session.tokens }

-- the sessions, of which the one with the number is changed
abbrev pub with_change : List PlainSession → SessionId → (PlainSession → PlainSession) → List PlainSession
with_change sessions number change = map (λ session. if has_number number session then change session else session) sessions

-- the sessions but for the one with the number
abbrev pub without_session : List PlainSession → SessionId → List PlainSession
without_session sessions number = filter (λ session. not (has_number number session)) sessions

-- the sessions but for those on the article of the word
abbrev pub without_article : List PlainSession → WordId → List PlainSession
without_article sessions article = filter (λ session. not (is_on article session)) sessions

-- each session's tokens are typeable by the grammar with the lexicon
abbrev pub AreTypeable : GrammarParts → Listed → List PlainSession → Type 0
AreTypeable g lexicon sessions = All (λ session. IsTypeable g lexicon session.tokens) sessions

-- the session's tokens are rebased to the grammar and the lexicon, and all else is as it was
pub record IsRebasedSession (g : GrammarParts) (lexicon : Listed) (session rebased : PlainSession) : Type 0 where
  pub number : rebased.number ≡ session.number
  pub article : rebased.article ≡ session.article
  pub revision : rebased.revision ≡ session.revision
  pub tokens : IsRebased g lexicon session.tokens rebased.tokens

-- each session is rebased to the grammar and the lexicon
abbrev pub AreRebased : GrammarParts → Listed → List PlainSession → List PlainSession → Type 0
AreRebased g lexicon [] [] = Unit {0}
AreRebased g lexicon [] (rebased ∷ more) = ⊥
AreRebased g lexicon (session ∷ sessions) [] = ⊥
AreRebased g lexicon (session ∷ sessions) (rebased ∷ more) = IsRebasedSession g lexicon session rebased × AreRebased g lexicon sessions more
