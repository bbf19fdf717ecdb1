-- The grammar of a wiki over a step, and its terminals.
use Rattle.std.proofs.Common.{◌≡◌, ℕ, ◌≤◌, true, false, List, [], ◌∷◌, length, ◌⊎◌, inl, inr, All, refl, sym, ap, subst}
use Rattle.std.specs.Str.{bytes_eq, IsUtf8}
use Rattle.std.proofs.lemmas.Bool.{false≢true, or_cases}
use Rattle.std.proofs.lemmas.List.Elements.{All-head, All-tail}
use Rattle.std.proofs.lemmas.Slice.Eq.{bytes_eq-Decides}
use Rattle.codeco_terms.specs.GrammarParts.{GrammarParts}
use Rattle.codeco_checked.specs.Sound.{IsSound}
use Rattle.codeco_reader.specs.Texts.{IsTextOf}
use Rattle.codeco_reader.proofs.OneGrammar.{sound_short, text_utf8}
use Rattle.derivation_trees.specs.Cutting.{is_terminal}
use Rattle.wiki_talk.specs.declared.replies.Reply.{Reply}
use Rattle.wiki_talk.specs.declared.requests.Request.{Request}
use Rattle.wiki_talk.specs.declared.requests.Request.TheVariants as requests
use Rattle.wiki_talk.specs.declared.requests.WikiRequest.TheVariants as of_wiki
use Rattle.wiki_talk.specs.declared.requests.WordRequest.{WordRequest}
use Rattle.wiki_talk.specs.declared.requests.WordRequest.TheVariants as of_word
use Rattle.wiki_talk.specs.declared.requests.ArticleRequest.{ArticleRequest}
use Rattle.wiki_talk.specs.declared.requests.ArticleRequest.TheVariants as of_article
use Rattle.wiki_talk.specs.declared.requests.SessionRequest.{SessionRequest}
use Rattle.wiki_talk.specs.declared.requests.SessionRequest.TheVariants as of_session
use Rattle.articles.specs.declared.article.Article.{Article}
use Rattle.lexicon.specs.declared.words.Word.{Word}
use Rattle.plain_wiki.specs.Sessions.{PlainSession}
use Rattle.plain_wiki.specs.State.{Stored, State}
use Rattle.plain_wiki.specs.Places.{word_with, article_named, session_numbered}
use Rattle.plain_wiki.specs.Knowledge.{Spending}
use Rattle.plain_wiki.specs.Step.{Does, DoesOnWord, DoesOnArticle, DoesOnSession, Step}
use Rattle.wiki_core.specs.Journaled.{GivesUtf8, AreUtf8}
use Rattle.wiki_core.proofs.NamedLemmas.{some_is}
use Rattle.wiki_core.proofs.StepLemmas.{IsRefused, IsDone, outcome}

-- ---- terminals

-- what holds of all texts holds of each that is a terminal
each_terminal : (P : List ℕ → Type 0) (terminals : List (List ℕ)) → All P terminals → (token : List ℕ) → is_terminal terminals token ≡ true → P token
each_terminal P [] all token is = absurd (false≢true is)
each_terminal P (terminal ∷ terminals) all token is = by (or_cases (bytes_eq token terminal) (is_terminal terminals token) is)
    (each_terminal P terminals (All-tail P terminal terminals all) token)
  where
    by : (bytes_eq token terminal ≡ true) ⊎ (is_terminal terminals token ≡ true) → (is_terminal terminals token ≡ true → P token) → P token
    by (inl same) rest = subst P (sym ((bytes_eq-Decides token terminal).0 same)) (All-head P terminal terminals all)
    by (inr later) rest = rest later

-- a terminal of a sound grammar has at most as many bytes as a form may have
pub terminal_short : (g : GrammarParts) → IsSound g → (token : List ℕ) → is_terminal g.terminals token ≡ true → length token ≤ 64
terminal_short g sound token is = each_terminal (λ t. length t ≤ 64) g.terminals (sound_short g sound) token is

-- ---- one step

-- the grammar and the words stay
pub record KeepsReading (old new : Stored) : Type 0 where
  pub grammar : new.grammar ≡ old.grammar
  pub words : new.words ≡ old.words

pub reads_same : (old new : Stored) → new ≡ old → KeepsReading old new
reads_same old new same = record { grammar = ap (λ (p : Stored). p.grammar) same; words = ap (λ (p : Stored). p.words) same }

reads_state : (old new : State) → new ≡ old → KeepsReading old.stored new.stored
reads_state old new same = reads_same old.stored new.stored (ap (λ (s : State). s.stored) same)

-- the articles change
reads_articles : (old new : Stored) (articles : List Article) → new ≡ record old { articles = articles } → KeepsReading old new
reads_articles old new articles after = record { grammar = ap (λ (p : Stored). p.grammar) after; words = ap (λ (p : Stored). p.words) after }

-- the grammar stays, or it is that of the text that is asked for
abbrev GoesOver : GrammarParts → Request → GrammarParts → Type 0
GoesOver old request new = (new ≡ old) ⊎ ((text : List ℕ) × (request ≡ requests.OnWiki (of_wiki.Grammar text)) × IsTextOf text new)

module _ (IsSpent : Spending) (old : State) (reply : Reply) (new : State) where
  -- requests on articles and on sessions keep what sentences are read by
  pub article_keeps : (asked : ArticleRequest) (article : Article) → DoesOnArticle IsSpent asked article old reply new → KeepsReading old.stored new.stored
  article_keeps of_article.Read article x = reads_state old new x.1
  article_keeps (of_article.Add given text) article x = reads_articles old.stored new.stored _ x.stored.after
  article_keeps (of_article.Edit place text) article x = reads_articles old.stored new.stored _ x.stored.after
  article_keeps (of_article.Remove place) article x = reads_articles old.stored new.stored _ x.stored.after
  article_keeps (of_article.Retract place) article x = reads_articles old.stored new.stored _ x.stored.after
  article_keeps (of_article.Reassert place) article x = reads_articles old.stored new.stored _ x.stored.after
  article_keeps (of_article.Axioms place) article x = reads_state old new x.1
  article_keeps of_article.Open article x = reads_same old.stored new.stored (ap (λ (s : State). s.stored) x.after)

  pub session_keeps : (asked : SessionRequest) (session : PlainSession) → DoesOnSession IsSpent asked session old reply new
      → KeepsReading old.stored new.stored
  session_keeps (of_session.Type text) session x = reads_same old.stored new.stored (ap (λ (s : State). s.stored) x.after)
  session_keeps of_session.Back session x = reads_same old.stored new.stored (ap (λ (s : State). s.stored) x.after)
  session_keeps of_session.Menu session x = reads_state old new x.1
  session_keeps of_session.Commit session x = reads_articles old.stored new.stored _ (ap (λ (s : State). s.stored) x.after)
  session_keeps of_session.Refresh session x = reads_same old.stored new.stored (ap (λ (s : State). s.stored) x.after)
  session_keeps of_session.Drop session x = reads_same old.stored new.stored (ap (λ (s : State). s.stored) x.after)

  word_keeps : (asked : WordRequest) (word : Word) → DoesOnWord asked word old reply new → new.stored.grammar ≡ old.stored.grammar
  word_keeps of_word.Find word x = ap (λ (s : State). s.stored.grammar) x.1
  word_keeps (of_word.Reword texts) word x = ap (λ (p : Stored). p.grammar) x.stored.after
  word_keeps of_word.Unword word x = ap (λ (p : Stored). p.grammar) x.stored.after

  does_go : (request : Request) → Does IsSpent old request reply new → GoesOver old.stored.grammar request new.stored.grammar
  does_go (requests.OnWiki (of_wiki.Word kind texts)) x = inl (ap (λ (p : Stored). p.grammar) x.stored.after)
  does_go (requests.OnWiki of_wiki.Words) x = inl (ap (λ (s : State). s.stored.grammar) x.1)
  does_go (requests.OnWiki (of_wiki.Parse text)) x = inl (ap (λ (s : State). s.stored.grammar) x.1)
  does_go (requests.OnWiki (of_wiki.Grammar text)) x =
      inr (text, refl, subst (λ (p : Stored). IsTextOf text p.grammar) (sym x.stored.after) x.stored.is)
  does_go (requests.OnWord form asked) x =
      let found = some_is (word_with old.stored form) (λ word. DoesOnWord asked word old reply new) x in inl (word_keeps asked found.it found.is)
  does_go (requests.OnArticle form asked) x =
      let found = some_is (article_named old.stored form) (λ article. DoesOnArticle IsSpent asked article old reply new) x in
      inl (article_keeps asked found.it found.is).grammar
  does_go (requests.OnSession number asked) x =
      let found = some_is (session_numbered old number) (λ session. DoesOnSession IsSpent asked session old reply new) x in
      inl (session_keeps asked found.it found.is).grammar

  step_goes : (request : Request) → Step IsSpent old request reply new → GoesOver old.stored.grammar request new.stored.grammar
  step_goes request step = by (outcome IsSpent old request reply new step)
    where
      by : IsRefused old request reply new ⊎ IsDone IsSpent old request reply new → GoesOver old.stored.grammar request new.stored.grammar
      by (inl refused) = inl (ap (λ (s : State). s.stored.grammar) refused.3)
      by (inr done) = does_go request done.1

  -- terminals stay in UTF-8
  pub stays_utf8 : (request : Request) → GivesUtf8 request → AreUtf8 old.stored.grammar.terminals → Step IsSpent old request reply new
      → AreUtf8 new.stored.grammar.terminals
  stays_utf8 request given utf8 step = by (step_goes request step)
    where
      by : GoesOver old.stored.grammar request new.stored.grammar → AreUtf8 new.stored.grammar.terminals
      by (inl same) = subst (λ (g : GrammarParts). AreUtf8 g.terminals) (sym same) utf8
      by (inr (text, is, of)) = each_terminal IsUtf8 new.stored.grammar.terminals (text_utf8 text new.stored.grammar (subst GivesUtf8 is given) of)
