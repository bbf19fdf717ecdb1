-- What a session commits, and what it types. Only private calls speak of it.
use Rattle.std.specs.Prelude.{◌≡◌, ◌<◌, ◌≤◌, ℕ, List, [], ◌∷◌, ◌++◌, length, Some}
use Rattle.wiki_base.specs.declared.tokens.TheConstants.{MOST_TOKENS}
use Rattle.lexicon.specs.declared.words.TheConstants.{LAST_NUMBER}
use Rattle.lexicon.specs.Words.{canonical_form_of}
use Rattle.derivation_trees.specs.Cutting.{shown}
use Rattle.derivation_trees.specs.Sentences.{IsSentence}
use Rattle.wiki_talk.specs.declared.limits.TheConstants.{MOST_SENTENCES}
use Rattle.articles.specs.declared.article.Article.{Article}
use Rattle.articles.specs.Articles.{article_of}
use Rattle.plain_wiki.specs.Sessions.{PlainSession, with_change, with_tokens}
use Rattle.plain_wiki.specs.Knowledge.{sentences_in}
use Rattle.wiki_core.specs.declared.committing.Draft.{Draft}
use Rattle.editor.specs.Editing.{typed}
use Rattle.plain_wiki.specs.State.{State}
use Rattle.wiki_core.specs.Holding.{Holding}
use Rattle.plain_wiki.specs.Places.{session_numbered}

-- the draft is that of the session with the number, whose article can get one sentence more
pub record IsDraftOf (state : State) (number : ℕ) (draft : Draft) : Type 0 where
  pub session : PlainSession
  pub named : session_numbered state number ≡ Some session
  pub word : draft.word ≡ session.article
  pub tokens : draft.tokens ≡ session.tokens
  pub article : Article
  pub on : article_of state.stored.articles session.article ≡ Some article
  pub revision : draft.revision ≡ article.revision
  pub may_change : article.revision.0 < LAST_NUMBER
  pub spelled : canonical_form_of state.stored.words.live session.article ≡ Some draft.form
  pub shows : draft.shown ≡ shown state.stored.grammar.terminals session.tokens
  pub room : length (sentences_in state.stored.articles) < MOST_SENTENCES
  pub short : length session.tokens ≤ MOST_TOKENS
  pub sentence : IsSentence state.stored.grammar state.stored.words session.tokens

-- the wiki with the text as one token more of the session with the number
abbrev pub with_typed : Holding → ℕ → List ℕ → Holding
with_typed old number text = record old {
  state = record old.state {
    sessions = with_change old.state.sessions (record { 0 = number })
        (with_tokens (λ tokens. tokens ++ typed old.state.stored.grammar.terminals tokens text ∷ []));
  };
}
