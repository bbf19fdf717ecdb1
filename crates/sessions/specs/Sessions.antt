-- The sessions of a wiki as the plain wiki sees them, and what the program keeps of them.
use Rattle.std.specs.Prelude.{◌≡◌, ◌<◌, ◌≤◌, List, length, map, All, AllPairs}
use Rattle.codeco_terms.specs.GrammarParts.{GrammarParts}
use Rattle.lexicon.specs.Words.{Listed}
use Rattle.derivation_trees.specs.Sentences.{setting_of}
use Rattle.editor.specs.Editing.{IsEdited}
use Rattle.wiki_talk.specs.declared.limits.TheConstants.{MOST_SESSIONS}
use Rattle.plain_wiki.specs.Sessions.{PlainSession}
use Rattle.sessions.specs.declared.session.Session.{Session}

-- the session, of whose editor the tokens alone are told
abbrev pub plain : Session → PlainSession
plain session = record { number = session.number; article = session.article; revision = session.revision; tokens = session.editor.tokens }

-- the sessions, of whose editors the tokens alone are told
abbrev pub all_plain : List Session → List PlainSession
all_plain sessions = map plain sessions

-- the sessions stand in order of their numbers, one for each number
abbrev pub AreInOrder : List Session → Type 0
AreInOrder sessions = AllPairs (λ session later. session.number.0 < later.number.0) sessions

-- the session's editor keeps the grammar, and of its tokens the readings by the lexicon
abbrev pub IsKept : GrammarParts → Listed → Session → Type 0
IsKept g lexicon session = session.editor ≡ setting_of g lexicon session.editor.tokens

-- the sessions' editors keep the grammar and the readings by the lexicon
abbrev pub AreKept : GrammarParts → Listed → List Session → Type 0
AreKept g lexicon sessions = All (IsKept g lexicon) sessions

-- whatever grammar and lexicon the sessions' editors keep, they keep them still
abbrev pub AreKeptOn : List Session → List Session → Type 0
AreKeptOn old new = (g : GrammarParts) (lexicon : Listed) → AreKept g lexicon old → AreKept g lexicon new

-- At most `MOST_SESSIONS` sessions, in order of their numbers. By the grammar and the readings that its editor keeps, the
-- tokens of each are typeable.
pub record AreSessions (sessions : List Session) : Type 0 where
  pub in_order : AreInOrder sessions
  pub few : length sessions ≤ MOST_SESSIONS
  pub edited : All (λ session. IsEdited session.editor) sessions

-- the sessions' editors keep the grammar
abbrev pub AreOfGrammar : GrammarParts → List Session → Type 0
AreOfGrammar g sessions = All (λ (session : Session). session.editor.grammar ≡ g) sessions
