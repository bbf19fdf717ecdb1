-- The plain wiki is a function of what it is asked, whatever counts as a spent budget, where no budget is spent.
use Rattle.std.proofs.Common.{◌≡◌, ℕ, false, List, [], ◌∷◌, ◌⊎◌, inl, inr, Option, Some, None, refl, sym, ap, subst, ◌∙◌}
use Rattle.std.proofs.lemmas.Bool.{false≢true}
use Rattle.std.proofs.lemmas.Option.{same_Some}
use Rattle.std.specs.Option.{IsSomeAnd}
use Rattle.wiki_base.specs.declared.numbers.WordId.{WordId}
use Rattle.wiki_base.specs.declared.numbers.SessionId.{SessionId}
use Rattle.wiki_base.specs.declared.numbers.Rev.{Rev}
use Rattle.codeco_terms.specs.GrammarParts.{GrammarParts}
use Rattle.codeco_reader.proofs.OneGrammar.{same_grammar}
use Rattle.lexicon.specs.declared.words.Word.{Word}
use Rattle.lexicon.specs.Words.{Listed, with_terminals}
use Rattle.logic_terms.specs.Concept.{Claim}
use Rattle.wiki_talk.specs.declared.statuses.Status.{Status}
use Rattle.wiki_talk.specs.declared.statuses.Status.TheVariants.{Asserted, RedContradiction, RedBudget}
use Rattle.wiki_talk.specs.declared.replies.Reply.{Reply}
use Rattle.wiki_talk.specs.declared.requests.Request.{Request}
use Rattle.wiki_talk.specs.declared.requests.Request.TheVariants as requests
use Rattle.wiki_talk.specs.declared.requests.WikiRequest.TheVariants as of_wiki
use Rattle.wiki_talk.specs.declared.requests.WordRequest.{WordRequest}
use Rattle.wiki_talk.specs.declared.requests.WordRequest.TheVariants as of_word
use Rattle.wiki_talk.specs.declared.requests.ArticleRequest.{ArticleRequest}
use Rattle.wiki_talk.specs.declared.requests.ArticleRequest.TheVariants as of_article
use Rattle.wiki_talk.specs.declared.requests.SessionRequest.{SessionRequest}
use Rattle.wiki_talk.specs.declared.requests.SessionRequest.TheVariants as of_session
use Rattle.articles.specs.declared.sentences.Sentence.{Sentence}
use Rattle.articles.specs.declared.article.Article.{Article}
use Rattle.plain_wiki.specs.Sessions.{PlainSession, AreRebased, IsRebasedSession, with_revision, without_article}
use Rattle.plain_wiki.specs.State.{Stored, State}
use Rattle.plain_wiki.specs.Places.{word_with, article_named, session_numbered}
use Rattle.plain_wiki.specs.Parsing.{tokens_of}
use Rattle.plain_wiki.specs.Meanings.{Meaning, stating, outside, asking, asking_outside}
use Rattle.plain_wiki.specs.Knowledge.{Spending, HaveModel, HaveNoModel, IsAllowed, IsVerdict, IsStatusOf, GetStatus}
use Rattle.wiki_parts.proofs.MeaningLemmas.{means_one, knows_one}
use Rattle.plain_wiki.specs.Doing.{with_inserted, with_replaced, with_marked, with_appended, place_for, sentence_with, with_session, begun_again}
use Rattle.plain_wiki.specs.Step.{ChangesWords, AreRebasedTo, DoesOnWord, DoesOnArticle, DoesOnSession, Does, Step}
use Rattle.wiki_core.specs.Journaled.{is_spent, tells_spent}
use Rattle.wiki_core.proofs.HearLemmas.{rebased_tokens}
use Rattle.wiki_core.proofs.StepLemmas.{IsRefused, IsDone, outcome}

-- ---- statuses

verdicts_differ : (claims : List Claim) → HaveModel claims → HaveNoModel claims → ⊥
verdicts_differ claims has none = none has.0 has.1

module _ (IsSpent ItsSpent : Spending) where
  allowed_one : (claims : List Claim) (names : List WordId) (one other : Status) → IsAllowed claims names IsSpent one
      → IsAllowed claims names ItsSpent other → is_spent one ≡ false → is_spent other ≡ false → other ≡ one
  allowed_one claims names Asserted other is its kept also = by other its also
    where
      by : (status : Status) → IsAllowed claims names ItsSpent status → is_spent status ≡ false → status ≡ Asserted
      by Asserted its also = refl
      by RedContradiction its also = absurd (verdicts_differ claims is its)
      by RedBudget its also = absurd (false≢true (sym also))
      by status its also = absurd its
  allowed_one claims names RedContradiction other is its kept also = by other its also
    where
      by : (status : Status) → IsAllowed claims names ItsSpent status → is_spent status ≡ false → status ≡ RedContradiction
      by Asserted its also = absurd (verdicts_differ claims its is)
      by RedContradiction its also = refl
      by RedBudget its also = absurd (false≢true (sym also))
      by status its also = absurd its
  allowed_one claims names RedBudget other is its kept also = absurd (false≢true (sym kept))
  allowed_one claims names one other is its kept also = absurd is

  verdict_one : (state : Stored) (one other : Status) → IsVerdict IsSpent state one → IsVerdict ItsSpent state other → is_spent one ≡ false
      → is_spent other ≡ false → other ≡ one
  verdict_one state one other is its kept also =
      let same : its.claims ≡ is.claims = knows_one state its.claims is.claims its.known is.known in
      allowed_one is.claims _ one other is.allowed (subst (λ (claims : List Claim). IsAllowed claims _ ItsSpent other) same its.allowed) kept also

  status_of_one : (state : Stored) (meaning : Meaning) (one other : Status) → IsStatusOf IsSpent state meaning one
      → IsStatusOf ItsSpent state meaning other → is_spent one ≡ false → is_spent other ≡ false → other ≡ one
  status_of_one state (stating []) one other is its kept also = its ∙ sym is
  status_of_one state (stating (claim ∷ claims)) one other is its kept also = verdict_one state one other is its kept also
  status_of_one state (outside cause) one other is its kept also = its ∙ sym is
  status_of_one state (asking concept) one other is its kept also = its ∙ sym is
  status_of_one state (asking_outside cause) one other is its kept also = its ∙ sym is

  -- tokens get one status, where no budget is spent
  pub status_one : (state : Stored) (tokens : List (List ℕ)) (one other : Status) → GetStatus IsSpent state tokens one
      → GetStatus ItsSpent state tokens other → is_spent one ≡ false → is_spent other ≡ false → other ≡ one
  status_one state tokens one other is its kept also =
      let same : its.meaning ≡ is.meaning = means_one state.grammar state.words tokens its.meaning is.meaning its.means is.means in
      status_of_one state is.meaning one other is.fits
      (subst (λ (meaning : Meaning). IsStatusOf ItsSpent state meaning other) same its.fits) kept also

-- ---- sessions over other words

session_is : (a b : PlainSession) → a.number ≡ b.number → a.article ≡ b.article → a.revision ≡ b.revision → a.tokens ≡ b.tokens → a ≡ b
session_is a b number article revision tokens =
    ap (λ (n : SessionId). record { number = n; article = a.article; revision = a.revision; tokens = a.tokens }) number
    ∙ ap (λ (w : WordId). record { number = b.number; article = w; revision = a.revision; tokens = a.tokens }) article
    ∙ ap (λ (r : Rev). record { number = b.number; article = b.article; revision = r; tokens = a.tokens }) revision
    ∙ ap (λ (ts : List (List ℕ)). record { number = b.number; article = b.article; revision = b.revision; tokens = ts }) tokens

rebased_session : (g : GrammarParts) (words : Listed) (session one other : PlainSession) → IsRebasedSession g words session one
    → IsRebasedSession g words session other → other ≡ one
rebased_session g words session one other is its =
    session_is other one (its.number ∙ sym is.number) (its.article ∙ sym is.article) (its.revision ∙ sym is.revision)
    (rebased_tokens g words session.tokens one.tokens other.tokens is.tokens its.tokens)

pub rebased_one : (g : GrammarParts) (words : Listed) (sessions one other : List PlainSession) → AreRebased g words sessions one
    → AreRebased g words sessions other → other ≡ one
rebased_one g words [] [] [] is its = refl
rebased_one g words [] [] (o ∷ other) is its = absurd its
rebased_one g words [] (n ∷ one) other is its = absurd is
rebased_one g words (s ∷ sessions) [] other is its = absurd is
rebased_one g words (s ∷ sessions) (n ∷ one) [] is its = absurd its
rebased_one g words (s ∷ sessions) (n ∷ one) (o ∷ other) is its =
    ap (λ (t : PlainSession). t ∷ other) (rebased_session g words s n o is.0 its.0)
    ∙ ap (λ (ts : List PlainSession). n ∷ ts) (rebased_one g words sessions one other is.1 its.1)

-- ---- what is done

abbrev state_of : Stored → List PlainSession → ℕ → State
state_of stored sessions last = record { stored = stored; sessions = sessions; last = last }

state_is : (a b : State) → a.stored ≡ b.stored → a.sessions ≡ b.sessions → a.last ≡ b.last → a ≡ b
state_is a b stored sessions last =
    ap (λ (p : Stored). state_of p a.sessions a.last) stored
    ∙ ap (λ (ss : List PlainSession). state_of b.stored ss a.last) sessions
    ∙ ap (λ (n : ℕ). state_of b.stored b.sessions n) last

both : {T : Type 0} (o : Option T) (P Q : T → Type 0) (R : Type 0) → ((t : T) → P t → Q t → R) → IsSomeAnd o P → IsSomeAnd o Q → R
both None P Q R gives p q = absurd p
both (Some t) P Q R gives p q = gives t p q

module _ (IsSpent ItsSpent : Spending) (old : State) (said its : Reply) (new its_new : State) (kept : tells_spent said ≡ false)
    (also : tells_spent its ≡ false) where
  -- words or the grammar change to the same
  words_one : (changes its_changes : Stored → Reply → Stored → Type 0) → ChangesWords changes old said new → ChangesWords its_changes old its its_new
      → its_new.stored ≡ new.stored → its_new ≡ new
  words_one changes its_changes x y same =
      state_is its_new new same
      (rebased_one new.stored.grammar new.stored.words old.sessions new.sessions its_new.sessions x.sessions
      (subst (λ (p : Stored). AreRebasedTo p old.sessions its_new.sessions) same y.sessions))
      (y.last ∙ sym x.last)

  word_one : (asked : WordRequest) (word : Word) → DoesOnWord asked word old said new → DoesOnWord asked word old its its_new → its_new ≡ new
  word_one of_word.Find word x y = y.1 ∙ sym x.1
  word_one (of_word.Reword texts) word x y = words_one _ _ x y (y.stored.after ∙ sym x.stored.after)
  word_one of_word.Unword word x y =
      let same : its_new.stored ≡ new.stored = y.stored.after ∙ sym x.stored.after in
      let rebased : y.rebased ≡ x.rebased = rebased_one new.stored.grammar new.stored.words old.sessions x.rebased y.rebased x.rebases
      (subst (λ (p : Stored). AreRebasedTo p old.sessions y.rebased) same y.rebases) in
      state_is its_new new same
      (y.sessions ∙ ap (λ (ss : List PlainSession). without_article ss word.id) rebased ∙ sym x.sessions) (y.last ∙ sym x.last)

  grammar_one : (text : List ℕ) → Does IsSpent old (requests.OnWiki (of_wiki.Grammar text)) said new
      → Does ItsSpent old (requests.OnWiki (of_wiki.Grammar text)) its its_new → its_new ≡ new
  grammar_one text x y =
      let same : y.stored.g ≡ x.stored.g = same_grammar text y.stored.g x.stored.g y.stored.is x.stored.is in
      words_one _ _ x y (y.stored.after
      ∙ ap (λ (g : GrammarParts). record old.stored { grammar = g; words = with_terminals old.stored.words g.terminals }) same ∙ sym x.stored.after)

  article_one : (asked : ArticleRequest) (article : Article) → DoesOnArticle IsSpent asked article old said new
      → DoesOnArticle ItsSpent asked article old its its_new → its_new ≡ new
  article_one of_article.Read article x y = y.1 ∙ sym x.1
  article_one (of_article.Add given text) article x y =
      let put = λ (s : Status). with_inserted old.stored article.word (place_for article given) (sentence_with old.stored text s) in
      let status : y.stored.status ≡ x.stored.status =
      status_one IsSpent ItsSpent (put Asserted) (tokens_of old.stored text) x.stored.status y.stored.status x.stored.gets y.stored.gets
      (ap tells_spent (sym x.stored.answer) ∙ kept) (ap tells_spent (sym y.stored.answer) ∙ also) in
      state_is its_new new (y.stored.after ∙ ap put status ∙ sym x.stored.after) (y.sessions ∙ sym x.sessions) (y.last ∙ sym x.last)
  article_one (of_article.Edit place text) article x y =
      let put = λ (s : Status). with_replaced old.stored article.word place (sentence_with old.stored text s) in
      let status : y.stored.status ≡ x.stored.status =
      status_one IsSpent ItsSpent (put Asserted) (tokens_of old.stored text) x.stored.status y.stored.status x.stored.gets y.stored.gets
      (ap tells_spent (sym x.stored.answer) ∙ kept) (ap tells_spent (sym y.stored.answer) ∙ also) in
      state_is its_new new (y.stored.after ∙ ap put status ∙ sym x.stored.after) (y.sessions ∙ sym x.sessions) (y.last ∙ sym x.last)
  article_one (of_article.Remove place) article x y =
      state_is its_new new (y.stored.after ∙ sym x.stored.after) (y.sessions ∙ sym x.sessions) (y.last ∙ sym x.last)
  article_one (of_article.Retract place) article x y =
      state_is its_new new (y.stored.after ∙ sym x.stored.after) (y.sessions ∙ sym x.sessions) (y.last ∙ sym x.last)
  article_one (of_article.Reassert place) article x y =
      let put = λ (s : Status). with_marked old.stored article.word place s in
      let sentence : y.stored.sentence ≡ x.stored.sentence = same_Some y.stored.sentence x.stored.sentence (sym y.stored.here ∙ x.stored.here) in
      let gets = subst (λ (s : Sentence). GetStatus ItsSpent (put Asserted) s.tokens y.stored.status) sentence y.stored.gets in
      let status : y.stored.status ≡ x.stored.status =
      status_one IsSpent ItsSpent (put Asserted) x.stored.sentence.tokens x.stored.status y.stored.status x.stored.gets gets
      (ap tells_spent (sym x.stored.answer) ∙ kept) (ap tells_spent (sym y.stored.answer) ∙ also) in
      state_is its_new new (y.stored.after ∙ ap put status ∙ sym x.stored.after) (y.sessions ∙ sym x.sessions) (y.last ∙ sym x.last)
  article_one (of_article.Axioms place) article x y = y.1 ∙ sym x.1
  article_one of_article.Open article x y = y.after ∙ sym x.after

  session_one : (asked : SessionRequest) (session : PlainSession) → DoesOnSession IsSpent asked session old said new
      → DoesOnSession ItsSpent asked session old its its_new → its_new ≡ new
  session_one (of_session.Type text) session x y = y.after ∙ sym x.after
  session_one of_session.Back session x y = y.after ∙ sym x.after
  session_one of_session.Menu session x y = y.1 ∙ sym x.1
  session_one of_session.Commit session x y =
      let put = λ (s : Status). with_appended old.stored session.article session.tokens s in
      let came = λ (s : Status) (a : Article). record (with_session old session (begun_again a)) { stored = put s } in
      let article : y.article ≡ x.article = same_Some y.article x.article (sym y.on ∙ x.on) in
      let status : y.status ≡ x.status =
      status_one IsSpent ItsSpent (put Asserted) session.tokens x.status y.status x.gets y.gets (ap tells_spent (sym x.answer) ∙ kept)
      (ap tells_spent (sym y.answer) ∙ also) in
      y.after ∙ ap (λ (s : Status). came s y.article) status ∙ ap (λ (a : Article). came x.status a) article ∙ sym x.after
  session_one of_session.Refresh session x y =
      let article : y.article ≡ x.article = same_Some y.article x.article (sym y.on ∙ x.on) in
      y.after ∙ ap (λ (a : Article). with_session old session (with_revision a.revision)) article ∙ sym x.after
  session_one of_session.Drop session x y = y.after ∙ sym x.after

  does_one : (request : Request) → Does IsSpent old request said new → Does ItsSpent old request its its_new → its_new ≡ new
  does_one (requests.OnWiki (of_wiki.Word kind texts)) x y = words_one _ _ x y (y.stored.after ∙ sym x.stored.after)
  does_one (requests.OnWiki of_wiki.Words) x y = y.1 ∙ sym x.1
  does_one (requests.OnWiki (of_wiki.Parse text)) x y = y.1 ∙ sym x.1
  does_one (requests.OnWiki (of_wiki.Grammar text)) x y = grammar_one text x y
  does_one (requests.OnWord form asked) x y =
      both (word_with old.stored form) (λ word. DoesOnWord asked word old said new) (λ word. DoesOnWord asked word old its its_new) (its_new ≡ new)
      (word_one asked) x y
  does_one (requests.OnArticle form asked) x y =
      both (article_named old.stored form) (λ article. DoesOnArticle IsSpent asked article old said new)
      (λ article. DoesOnArticle ItsSpent asked article old its its_new) (its_new ≡ new) (article_one asked) x y
  does_one (requests.OnSession number asked) x y =
      both (session_numbered old number) (λ session. DoesOnSession IsSpent asked session old said new)
      (λ session. DoesOnSession ItsSpent asked session old its its_new) (its_new ≡ new) (session_one asked) x y

  -- ---- one step

  pub step_one : (request : Request) → Step IsSpent old request said new → Step ItsSpent old request its its_new → its_new ≡ new
  step_one request step its_step = by (outcome IsSpent old request said new step) (outcome ItsSpent old request its its_new its_step)
    where
      by : IsRefused old request said new ⊎ IsDone IsSpent old request said new
          → IsRefused old request its its_new ⊎ IsDone ItsSpent old request its its_new → its_new ≡ new
      by (inl refused) (inl its_refused) = its_refused.3 ∙ sym refused.3
      by (inl refused) (inr its_done) = absurd (its_done.0 refused.0 refused.2)
      by (inr done) (inl its_refused) = absurd (done.0 its_refused.0 its_refused.2)
      by (inr done) (inr its_done) = does_one request done.1 its_done.1
