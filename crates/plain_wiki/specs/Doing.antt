-- What each request does where nothing stands against it: to what is stored, and in sessions.
use Rattle.std.specs.Prelude.{◌≡◌, ℕ, ◌+◌, ◌-◌, ◌↔◌, Bool, IsTrue, IsUtf8, All, List, [], ◌∷◌, ◌++◌, length, take, insert, remove, slice_get, slice_set, unwrap_or, Option, Some}
use Rattle.std.specs.Option.{option_map_or}
use Rattle.wiki_base.specs.declared.numbers.WordId.{WordId}
use Rattle.codeco_terms.specs.GrammarParts.{GrammarParts}
use Rattle.codeco_reader.specs.Texts.{IsTextOf}
use Rattle.lexicon.specs.declared.kinds.Kind.{Kind}
use Rattle.lexicon.specs.declared.words.Word.{Word}
use Rattle.lexicon.specs.Words.{Listed, with_word, with_forms, without_word, with_terminals, next_word, canonical_form_of}
use Rattle.derivation_trees.specs.declared.menus.Group.{Group}
use Rattle.derivation_trees.specs.declared.skeletons.Skeleton.{Skeleton}
use Rattle.derivation_trees.specs.Codes.{skeleton_code}
use Rattle.derivation_trees.specs.Cutting.{shown}
use Rattle.derivation_trees.specs.Sentences.{IsSentence}
use Rattle.derivation_trees.specs.Skeletons.{IsLeastSkeleton}
use Rattle.derivations.specs.Typing.{IsTextMenu}
use Rattle.wiki_talk.specs.declared.statuses.Status.{Status}
use Rattle.wiki_talk.specs.declared.statuses.Status.TheVariants.{Asserted, Retracted}
use Rattle.wiki_talk.specs.declared.replies.SentenceView.{SentenceView}
use Rattle.wiki_talk.specs.declared.replies.Reply.{Reply}
use Rattle.wiki_talk.specs.declared.replies.Reply.TheVariants as replies
use Rattle.articles.specs.declared.sentences.Sentence.{Sentence}
use Rattle.articles.specs.declared.article.Article.{Article}
use Rattle.articles.specs.Articles.{article_of, new_article, without_article, with_change, with_status}
use Rattle.editor.specs.Editing.{typed}
use Rattle.plain_wiki.specs.Sessions.{PlainSession, new_session, with_change as with_changed, with_tokens, with_revision, without_session}
use Rattle.plain_wiki.specs.State.{Stored, State}
use Rattle.plain_wiki.specs.Words.{told_word, told_words, forms_given}
use Rattle.plain_wiki.specs.Places.{numbered}
use Rattle.plain_wiki.specs.Parsing.{tokens_of, told_menu}
use Rattle.plain_wiki.specs.Meanings.{Meaning, Means}
use Rattle.plain_wiki.specs.Knowledge.{Spending, GetStatus}
use Rattle.plain_wiki.specs.Telling.{told_meaning, TellsSentences}

-- ---- what is done to words and to the grammar

-- a word is added under the next number, with an empty article
pub record AddsWord (kind : Kind) (texts : List (List ℕ)) (old : Stored) (reply : Reply) (new : Stored) : Type 0 where
  pub answer : reply ≡ replies.Word
  pub after : new ≡ record old {
    words = with_word old.words (forms_given kind texts);
    articles = old.articles ++ new_article (next_word old.words (forms_given kind texts)).id ∷ [];
  }

-- the word gets other forms, and all sentences stay
pub record RewordsWord (word : Word) (texts : List (List ℕ)) (old : Stored) (reply : Reply) (new : Stored) : Type 0 where
  pub answer : reply ≡ replies.Reword
  pub after : new ≡ record old { words = with_forms old.words word.id (forms_given word.forms.kind texts) }

-- the word goes, and its empty article
pub record RemovesWord (word : Word) (old : Stored) (reply : Reply) (new : Stored) : Type 0 where
  pub answer : reply ≡ replies.Unword
  pub after : new ≡ record old { words = without_word old.words word.id; articles = without_article old.articles word.id }

-- the text's grammar becomes that of the wiki, and the words stand beside its terminals; all sentences stay, with their statuses
pub record TakesGrammar (text : List ℕ) (old : Stored) (reply : Reply) (new : Stored) : Type 0 where
  pub g : GrammarParts
  pub is : IsTextOf text g
  pub answer : reply ≡ replies.Grammar
  pub after : new ≡ record old { grammar = g; words = with_terminals old.words g.terminals }

-- ---- what is done to sentences

-- the wiki with a sentence at a place of an article, before the one that is there
abbrev pub with_inserted : Stored → WordId → ℕ → Sentence → Stored
with_inserted old word place sentence = record old { articles = with_change old.articles word (λ sentences. insert sentences place sentence) }

-- the wiki with a sentence in place of the one at a place of an article
abbrev pub with_replaced : Stored → WordId → ℕ → Sentence → Stored
with_replaced old word place sentence = record old { articles = with_change old.articles word (λ sentences. slice_set sentences place sentence) }

-- the wiki without the sentence at a place of an article
abbrev pub with_taken : Stored → WordId → ℕ → Stored
with_taken old word place = record old { articles = with_change old.articles word (λ sentences. remove sentences place) }

-- the wiki with another status for the sentence at a place of an article
abbrev pub with_marked : Stored → WordId → ℕ → Status → Stored
with_marked old word place status = record old { articles = with_change old.articles word (λ sentences. with_status sentences place status) }

-- the place behind the last sentence of a word's article, and the wiki with tokens as a sentence there
abbrev pub end_of : List Article → WordId → ℕ
end_of articles word = option_map_or (λ article. length article.sentences) (article_of articles word) 0

abbrev pub with_appended : Stored → WordId → List (List ℕ) → Status → Stored
with_appended old word tokens status = with_inserted old word (end_of old.articles word) (record { tokens = tokens; status = status })

-- the tokens of a text as a sentence with a status
abbrev pub sentence_with : Stored → List ℕ → Status → Sentence
sentence_with stored text status = record { tokens = tokens_of stored text; status = status }

-- the place that is given, or the end of the article
abbrev pub place_for : Article → Option ℕ → ℕ
place_for article given = unwrap_or given (length article.sentences)

-- a sentence is inserted at the place that is given, or at the end, with the status that it gets there; the reply has what shows it
pub record AddsSentence (IsSpent : Spending) (given : Option ℕ) (text : List ℕ) (article : Article) (old : Stored) (reply : Reply) (new : Stored) :
    Type 0 where
  pub status : Status
  pub gets : GetStatus IsSpent (with_inserted old article.word (place_for article given) (sentence_with old text Asserted)) (tokens_of old text) status
  pub answer : reply ≡ replies.Add status (shown old.grammar.terminals (tokens_of old text))
  pub after : new ≡ with_inserted old article.word (place_for article given) (sentence_with old text status)

-- A sentence is put in place of another, with the status that it gets there, where the other one has left the knowledge. The reply has
-- what shows it.
pub record EditsSentence (IsSpent : Spending) (place : ℕ) (text : List ℕ) (article : Article) (old : Stored) (reply : Reply) (new : Stored) :
    Type 0 where
  pub status : Status
  pub gets : GetStatus IsSpent (with_replaced old article.word place (sentence_with old text Asserted)) (tokens_of old text) status
  pub answer : reply ≡ replies.Edit status (shown old.grammar.terminals (tokens_of old text))
  pub after : new ≡ with_replaced old article.word place (sentence_with old text status)

-- the sentence at the place is taken out
pub record RemovesSentence (place : ℕ) (article : Article) (old : Stored) (reply : Reply) (new : Stored) : Type 0 where
  pub answer : reply ≡ replies.Remove
  pub after : new ≡ with_taken old article.word place

-- the sentence at the place becomes a retracted one
pub record RetractsSentence (place : ℕ) (article : Article) (old : Stored) (reply : Reply) (new : Stored) : Type 0 where
  pub answer : reply ≡ replies.Retract Retracted
  pub after : new ≡ with_marked old article.word place Retracted

-- the sentence at the place gets the status that it gets as a new one
pub record ReassertsSentence (IsSpent : Spending) (place : ℕ) (article : Article) (old : Stored) (reply : Reply) (new : Stored) : Type 0 where
  pub sentence : Sentence
  pub here : slice_get article.sentences place ≡ Some sentence
  pub status : Status
  pub gets : GetStatus IsSpent (with_marked old article.word place Asserted) sentence.tokens status
  pub answer : reply ≡ replies.Reassert status
  pub after : new ≡ with_marked old article.word place status

-- ---- what is told of what is stored

-- the word is told
abbrev pub TellsWord : Word → Reply → Type 0
TellsWord word reply = reply ≡ replies.Find (told_word word.forms)

-- all live words are told, in order of number
abbrev pub TellsWords : Stored → Reply → Type 0
TellsWords stored reply = reply ≡ replies.Words (told_words stored.words)

-- the code of the least skeleton of a text is told
pub record TellsCode (text : List ℕ) (stored : Stored) (reply : Reply) : Type 0 where
  pub least : Skeleton
  pub is_least : IsLeastSkeleton stored.grammar stored.words (tokens_of stored text) least
  pub answer : reply ≡ replies.Parse (skeleton_code least)

-- an article is told: the canonical form of its word, its revision and its sentences
pub record TellsArticle (IsSpent : Spending) (stored : Stored) (article : Article) (reply : Reply) : Type 0 where
  pub form : List ℕ
  pub spelled : canonical_form_of stored.words.live article.word ≡ Some form
  pub views : List SentenceView
  pub tells : TellsSentences IsSpent stored article.sentences views
  pub answer : reply ≡ replies.Read form article.revision.0 views

-- the meaning of the sentence at the place is told
pub record TellsMeaning (place : ℕ) (stored : Stored) (article : Article) (reply : Reply) : Type 0 where
  pub sentence : Sentence
  pub here : slice_get article.sentences place ≡ Some sentence
  pub meaning : Meaning
  pub means : Means stored.grammar stored.words sentence.tokens meaning
  pub answer : reply ≡ replies.Axioms (told_meaning stored.words meaning)

-- ---- what is done in sessions

-- a session is changed
abbrev pub with_session : State → PlainSession → (PlainSession → PlainSession) → State
with_session old session change = record old { sessions = with_changed old.sessions session.number change }

-- a session without tokens is opened on the article, at its present revision, under the next number
pub record OpensSession (article : Article) (old : State) (reply : Reply) (new : State) : Type 0 where
  pub answer : reply ≡ replies.Open (old.last + 1)
  pub after : new ≡ record old {
    sessions = old.sessions ++ new_session (numbered (old.last + 1)) article.word article.revision ∷ [];
    last = old.last + 1;
  }

-- the session gets the text as one token more
pub record TypesToken (text : List ℕ) (session : PlainSession) (old : State) (reply : Reply) (new : State) : Type 0 where
  pub answer : reply ≡ replies.Type (length session.tokens + 1)
  pub after : new ≡ with_session old session (with_tokens (λ tokens. tokens ++ typed old.stored.grammar.terminals tokens text ∷ []))

-- the session loses its last token
pub record DropsToken (session : PlainSession) (old : State) (reply : Reply) (new : State) : Type 0 where
  pub answer : reply ≡ replies.Back (length session.tokens - 1)
  pub after : new ≡ with_session old session (with_tokens (λ tokens. take (length tokens - 1) tokens))

-- What is told of tokens by the grammar and the words: their menu, whose texts are in UTF-8, whether they have a derivation, and what
-- shows them.
pub record TellsMenu (g : GrammarParts) (words : Listed) (tokens : List (List ℕ)) (reply : Reply) : Type 0 where
  pub menu : List (Group × List ℕ)
  pub follows : IsTextMenu g words tokens menu
  pub texts : All (λ entry. IsUtf8 entry.1) menu
  pub whole : Bool
  pub is_whole : IsTrue whole ↔ IsSentence g words tokens
  pub answer : reply ≡ replies.Menu (told_menu menu) whole (shown g.terminals tokens)

-- the session begins its next sentence, at the next revision of its article
abbrev pub begun_again : Article → PlainSession → PlainSession
begun_again article session = with_revision (record { 0 = article.revision.0 + 1 }) (with_tokens (λ tokens. []) session)

-- The session's tokens become the last sentence of its article, with the status that they get there. The session is without tokens
-- then, at the new revision.
pub record CommitsSession (IsSpent : Spending) (session : PlainSession) (old : State) (reply : Reply) (new : State) : Type 0 where
  pub article : Article
  pub on : article_of old.stored.articles session.article ≡ Some article
  pub form : List ℕ
  pub spelled : canonical_form_of old.stored.words.live session.article ≡ Some form
  pub status : Status
  pub gets : GetStatus IsSpent (with_appended old.stored session.article session.tokens Asserted) session.tokens status
  pub answer : reply ≡ replies.Commit form status (shown old.stored.grammar.terminals session.tokens)
  pub after : new ≡ record (with_session old session (begun_again article)) { stored = with_appended old.stored session.article session.tokens status }

-- the session takes note of the present revision of its article
pub record RefreshesSession (session : PlainSession) (old : State) (reply : Reply) (new : State) : Type 0 where
  pub article : Article
  pub on : article_of old.stored.articles session.article ≡ Some article
  pub answer : reply ≡ replies.Refresh
  pub after : new ≡ with_session old session (with_revision article.revision)

-- the session ends
pub record EndsSession (session : PlainSession) (old : State) (reply : Reply) (new : State) : Type 0 where
  pub answer : reply ≡ replies.Drop
  pub after : new ≡ record old { sessions = without_session old.sessions session.number }
