-- Sessions whose editors keep a grammar and the readings by a lexicon: they are typeable by these, and a word that is added
-- changes nothing.
use Rattle.std.proofs.Common.{◌≡◌, List, get_or, None, ap}
use Rattle.std.proofs.lemmas.List.Elements.{All-map}
use Rattle.codeco_terms.specs.GrammarParts.{GrammarParts}
use Rattle.lexicon.specs.declared.kinds.Forms.{Forms}
use Rattle.lexicon.specs.Words.{Listed, with_word, add_refusal}
use Rattle.derivation_trees.specs.Settings.{Setting}
use Rattle.derivation_trees.specs.Partial.{IsTypeable}
use Rattle.editor.proofs.EditingLemmas.{typeable_by}
use Rattle.editor.proofs.WordLemmas.{kept_with_word}
use Rattle.sessions.specs.declared.session.Session.{Session}
use Rattle.plain_wiki.specs.Sessions.{PlainSession, AreTypeable}
use Rattle.sessions.specs.Sessions.{plain, all_plain, AreKept, AreOfGrammar, AreSessions}

-- each session's tokens are typeable by the grammar and the lexicon that are kept
pub kept_typeable : (g : GrammarParts) (l : Listed) (sessions : List Session) → AreSessions sessions → AreKept g l sessions
    → AreTypeable g l (all_plain sessions)
kept_typeable g l sessions are kept =
    All-map (λ (session : PlainSession). IsTypeable g l session.tokens) plain sessions
    (λ k d bound. typeable_by g l (get_or sessions k d).editor (kept k d bound) (are.edited k d bound).typeable)

-- where a word is added, the readings that are kept are those of the new lexicon
pub kept_by_word : (g : GrammarParts) (l : Listed) (forms : Forms) (sessions : List Session) → l.terminals ≡ g.terminals → add_refusal l forms ≡ None
    → AreSessions sessions → AreKept g l sessions → AreKept g (with_word l forms) sessions
kept_by_word g l forms sessions same free are kept =
    λ k d bound. kept_with_word g l forms (get_or sessions k d).editor same free (kept k d bound) (are.edited k d bound).typeable

-- what is kept by a grammar and a lexicon keeps this grammar
pub kept_grammar : (g : GrammarParts) (l : Listed) (sessions : List Session) → AreKept g l sessions → AreOfGrammar g sessions
kept_grammar g l sessions kept = λ k d bound. ap (λ (s : Setting). s.grammar) (kept k d bound)
