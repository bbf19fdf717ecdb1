-- What was there before a change is there again when it was taken back, and what was there before that when it was done again.
use Rattle.std.proofs.Common.{◌≡◌, Bool, false, List, [], ◌∷◌, take, Option, Some, None, option_map, refl, sym, ap, subst, ◌∙◌}
use Rattle.std.specs.Prelude.{MatchBool, MatchOption}
use Rattle.std.proofs.lemmas.Option.{none-some, same_Some}
use Rattle.wiki_base.specs.declared.numbers.WordId.{WordId}
use Rattle.codeco_terms.specs.GrammarParts.{GrammarParts}
use Rattle.lexicon.specs.Words.{Listed}
use Rattle.logic_terms.specs.Concept.{Claim}
use Rattle.wiki_talk.specs.declared.replies.Reply.{Reply}
use Rattle.wiki_talk.specs.declared.replies.Reply.TheVariants as replies
use Rattle.wiki_talk.specs.declared.requests.Request.{Request}
use Rattle.wiki_talk.specs.declared.requests.Request.TheVariants as requests
use Rattle.wiki_talk.specs.declared.requests.WikiRequest.TheVariants as of_wiki
use Rattle.wiki_talk.specs.declared.requests.WordRequest.TheVariants as of_word
use Rattle.articles.specs.declared.sentences.Sentence.{Sentence}
use Rattle.articles.specs.declared.article.Article.{Article}
use Rattle.articles.specs.Articles.{article_of, with_change}
use Rattle.articles.proofs.BareLaws.{bare, bare_with, bare-changed, bare-over, bare-restored}
use Rattle.plain_wiki.specs.State.{Stored}
use Rattle.plain_wiki.specs.Knowledge.{sentences_in, AreStated, Knows}
use Rattle.wiki_parts.specs.Spending.{IsCutOff}
use Rattle.wiki_store.proofs.PutBackLemmas.{sentences-same}
use Rattle.plain_wiki.specs.State.{State}
use Rattle.wiki_core.specs.Holding.{Holding, IsKept}
use Rattle.wiki_core.specs.Keeping.{changes_words}
use Rattle.turning.specs.Turning.{Former, Recalling, standing, standing_of, article_changed, Forgets, Remembers, NotesChange, CarriesHistory, put_back}
use Rattle.turning.specs.Laws.{HaveTheSame, UndoGivesBack, RedoGivesBack, is_refused}
use Rattle.turning.proofs.ChangeLemmas.{Changes, article_done}
use Rattle.turning.proofs.MoveLemmas.{move_done}
use Rattle.turning.proofs.TwinLemmas.{LeavesHistory, done_leaves}

-- ---- the same sentences

-- the same sentences by the same grammar and words are the same knowledge
knows_same : (one other : Stored) → other.grammar ≡ one.grammar → other.words ≡ one.words → bare other.articles ≡ bare one.articles
    → (claims : List Claim) → Knows one claims → Knows other claims
knows_same one other grammar words same claims knows =
    subst (λ (g : GrammarParts). AreStated g other.words (sentences_in other.articles) claims) (sym grammar)
    (subst (λ (w : Listed). AreStated one.grammar w (sentences_in other.articles) claims) (sym words)
    (subst (λ (ss : List Sentence). AreStated one.grammar one.words ss claims) (sym (sentences-same one.articles other.articles same)) knows))

have_same : (one other : Holding) → other.state.stored.grammar ≡ one.state.stored.grammar → other.state.stored.words ≡ one.state.stored.words
    → bare other.state.stored.articles ≡ bare one.state.stored.articles → other.interpretation ≡ one.interpretation → HaveTheSame one other
have_same one other grammar words same interpretation = record {
  grammar = grammar;
  words = words;
  sentences = same;
  knowledge = λ claims. (
    knows_same other.state.stored one.state.stored (sym grammar) (sym words) (sym same) claims,
    knows_same one.state.stored other.state.stored grammar words same claims,
  );
  interpretation = interpretation;
}

-- An article's sentences are put back after a change of them.
given_back : (old changed new : Holding) → IsKept old → (word : WordId) → Changes old.state.stored changed.state.stored word → (article : Article)
    → article_of old.state.stored.articles word ≡ Some article → new ≡ put_back changed (standing old word article.sentences) → HaveTheSame old new
given_back old changed new kept word changes article found after =
    have_same old new (ap (λ (p : Stored). p.grammar) stored) (ap (λ (p : Stored). p.words) stored)
    (ap (λ (p : Stored). bare p.articles) stored ∙ bare-changed word again there ∙ ap (bare_with word again) (bare-changed word changes.change articles)
    ∙ bare-over word changes.change article.sentences (bare articles) ∙ sym (bare-changed word again articles)
    ∙ bare-restored articles kept.stored.in_order word article found)
    (ap (λ (w : Holding). w.interpretation) after)
  where
    articles : List Article
    articles = old.state.stored.articles

    there : List Article
    there = with_change articles word changes.change

    again : List Sentence → List Sentence
    again _ = article.sentences

    stored : new.state.stored ≡ record old.state.stored { articles = with_change there word again }
    stored = ap (λ (w : Holding). w.state.stored) after
        ∙ ap (λ (p : Stored). record p { articles = with_change p.articles word again }) changes.after

-- ---- what is noted

-- a request that changes an article changes no words
no_words : (state : State) (request : Request) (word : WordId) → article_changed state request ≡ Some word → changes_words request ≡ false
no_words state (requests.OnWiki (of_wiki.Word kind forms)) word is = absurd (none-some word is)
no_words state (requests.OnWord form (of_word.Reword forms)) word is = absurd (none-some word is)
no_words state (requests.OnWord form of_word.Unword) word is = absurd (none-some word is)
no_words state (requests.OnWiki (of_wiki.Grammar text)) word is = absurd (none-some word is)
no_words state request word is = refl

-- a done change of an article is noted
noted : (old new : Recalling) (request : Request) (reply : Reply) (word : WordId) → article_changed old.wiki.state request ≡ Some word
    → is_refused reply ≡ false → CarriesHistory old request reply new → NotesChange old new word
noted old new request reply word is done carries =
    let leaves : LeavesHistory old request new = done_leaves old request reply new done carries in
    subst (λ (o : Option WordId). MatchOption o (Remembers old new) (NotesChange old new)) is
    (subst (λ (b : Bool). MatchBool b (Forgets new) (MatchOption (article_changed old.wiki.state request) (Remembers old new) (NotesChange old new)))
    (no_words old.wiki.state request word is) leaves)

-- what stands of an article
record StandsThere (wiki : Holding) (word : WordId) (before : Former) : Type 0 where
  pub article : Article
  pub found : article_of wiki.state.stored.articles word ≡ Some article
  pub stands : before ≡ standing wiki word article.sentences

stands_there : (wiki : Holding) (word : WordId) (before : Former) → standing_of wiki word ≡ Some before → StandsThere wiki word before
stands_there wiki word before stood = by (article_of wiki.state.stored.articles word) refl stood
  where
    by : (o : Option Article) → article_of wiki.state.stored.articles word ≡ o
        → option_map (λ (a : Article). standing wiki word a.sentences) o ≡ Some before → StandsThere wiki word before
    by None found stood = absurd (none-some before stood)
    by (Some a) found stood =
        record { article = a; found = found; stands = sym (same_Some (standing wiki word a.sentences) before stood) }

abbrev newest_of : List Former → Option Former
newest_of [] = None
newest_of (former ∷ rest) = Some former

same_newest : (list : List Former) (one other : Former) (rest more : List Former) → list ≡ one ∷ rest → list ≡ other ∷ more → one ≡ other
same_newest list one other rest more is its = same_Some one other (sym (ap newest_of is) ∙ ap newest_of its)

-- ---- the laws

-- A change of an article, and then `undo`, give what there was.
pub undo_gives_back : UndoGivesBack
undo_gives_back old changed new request word reply undone kept is done turn not_refused undo =
    let notes = noted old changed request reply word is done turn.1 in
    let changes = article_done (IsCutOff old.wiki.budget) old.wiki.state changed.wiki.state reply done request word is turn.0.step in
    let puts = move_done changed.wiki changed.past changed.future replies.Undo undone new.wiki new.past new.future not_refused undo in
    let there = stands_there old.wiki word notes.before notes.stood in
    let same = same_newest changed.past puts.before notes.before new.past (take 99 old.past) puts.newest notes.past in
    given_back old.wiki changed.wiki new.wiki kept word changes there.article there.found
    (puts.after ∙ ap (put_back changed.wiki) (same ∙ there.stands))

-- `undo`, and then `redo`, give what there was.
pub redo_gives_back : RedoGivesBack
redo_gives_back old undone new reply redone kept done undo not_refused redo =
    let puts = move_done old.wiki old.past old.future replies.Undo reply undone.wiki undone.past undone.future done undo in
    let again = move_done undone.wiki undone.future undone.past replies.Redo redone new.wiki new.future new.past not_refused redo in
    let before = puts.before in
    let same = same_newest undone.future again.before (standing old.wiki before.article puts.article.sentences) new.future old.future again.newest puts.other in
    given_back old.wiki undone.wiki new.wiki kept before.article
    (record { change = λ _. before.sentences; after = ap (λ (w : Holding). w.state.stored) puts.after }) puts.article puts.there
    (again.after ∙ ap (put_back undone.wiki) same)
