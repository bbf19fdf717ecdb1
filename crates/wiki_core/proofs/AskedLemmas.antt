-- What the store answers, as what is done of a whole wiki.
use Rattle.std.proofs.Common.{◌≡◌, ℕ, Bool, true, false, List, insert, remove, slice_set, Option, Some, None, option_and_then, IfSome, Result, Ok, Err, IfOk, OnOk, OnErr, refl, sym, ap, subst}
use Rattle.std.specs.Option.{IsSomeAnd}
use Rattle.std.proofs.lemmas.Bool.{false≢true}
use Rattle.wiki_talk.specs.declared.refusals.Refusal.TheVariants.{NoWord}
use Rattle.wiki_talk.specs.declared.statuses.Status.TheVariants.{Retracted}
use Rattle.wiki_talk.specs.declared.replies.Reply.{Reply}
use Rattle.wiki_talk.specs.declared.replies.Reply.TheVariants as replies
use Rattle.wiki_talk.specs.declared.requests.Request.{Request}
use Rattle.wiki_talk.specs.declared.requests.Request.TheVariants as requests
use Rattle.wiki_talk.specs.declared.requests.WordRequest.TheVariants as of_word
use Rattle.wiki_talk.specs.declared.requests.ArticleRequest.{ArticleRequest}
use Rattle.wiki_talk.specs.declared.requests.ArticleRequest.TheVariants as of_article
use Rattle.articles.specs.declared.article.Article.{Article}
use Rattle.articles.specs.Articles.{with_status}
use Rattle.sessions.specs.declared.session.Session.{Session}
use Rattle.plain_wiki.specs.Sessions.{PlainSession}
use Rattle.wiki_parts.specs.declared.faults.Fault.{Fault}
use Rattle.wiki_parts.specs.Holding as holding
use Rattle.wiki_parts.proofs.FirstLemmas.{nothing_stands}
use Rattle.plain_wiki.specs.State.{Stored, State}
use Rattle.plain_wiki.specs.Places.{word_with, article_named}
use Rattle.plain_wiki.specs.Knowledge.{Spending}
use Rattle.plain_wiki.specs.Causes.{NoneOf}
use Rattle.plain_wiki.specs.Against.{against_word, against_form}
use Rattle.plain_wiki.specs.Doing.{AddsSentence, EditsSentence, RemovesSentence, RetractsSentence, ReassertsSentence, TellsWord, place_for, sentence_with}
use Rattle.plain_wiki.specs.Step.{OnlyTells, ChangesStored}
use Rattle.wiki_store.specs.Asking.{taken_on, taken_by as taken_of}
use Rattle.wiki_store.specs.Spending.{IsNoModelWith}
use Rattle.wiki_core.specs.Holding.{Holding, store_held}
use Rattle.wiki_core.specs.Keeping.{AreHeld}
use Rattle.wiki_core.specs.Spending.{taken_by, SpendsBeyondKept}
use Rattle.wiki_core.specs.Unchanged.{KeepsInterpretation}
use Rattle.wiki_core.proofs.HeldLemmas.{held_over}
use Rattle.wiki_core.proofs.NamedLemmas.{and_so, some_is, free_named}
use Rattle.wiki_core.proofs.PagesLemmas.{KeepsWords, keeps_changed}
use Rattle.wiki_core.proofs.ToldLemmas.{same-stays}

-- a wiki of a store and sessions
abbrev pub wiki_of : holding.Holding → List PlainSession → ℕ → Holding
wiki_of store sessions last = record {
  state = record { stored = store.state; sessions = sessions; last = last };
  budget = store.budget;
  interpretation = store.interpretation;
}

-- ---- what is kept of sessions where sentences change

pub held_article : (old new : holding.Holding) (sessions : List Session) (last : ℕ) → AreHeld old.state sessions last → (o : Option Article)
    (P : Article → Reply → Type 0) → ((article : Article) (reply : Reply) → P article reply → KeepsWords old.state new.state) → (result : Result Reply Fault)
    → IfOk result (λ reply. IsSomeAnd o (λ article. P article reply)) → OnErr result (new ≡ old) → AreHeld new.state sessions last
held_article old new sessions last held o P keeps (Ok reply) does kept =
    let found = some_is o (λ article. P article reply) does in
    held_over old.state new.state sessions last held (keeps found.it reply found.is)
held_article old new sessions last held o P keeps (Err fault) does kept =
    subst (λ (h : holding.Holding). AreHeld h.state sessions last) (sym kept) held

-- no change of an article's sentences changes words, and no session loses its article
module _ (article : Article) (old : Stored) (reply : Reply) (new : Stored) where
  pub adds_keep : (IsSpent : Spending) (given : Option ℕ) (text : List ℕ) → AddsSentence IsSpent given text article old reply new → KeepsWords old new
  adds_keep IsSpent given text is =
      keeps_changed old new article.word (λ sentences. insert sentences (place_for article given) (sentence_with old text is.status)) is.after

  pub edits_keep : (IsSpent : Spending) (place : ℕ) (text : List ℕ) → EditsSentence IsSpent place text article old reply new → KeepsWords old new
  edits_keep IsSpent place text is =
      keeps_changed old new article.word (λ sentences. slice_set sentences place (sentence_with old text is.status)) is.after

  pub removes_keep : (place : ℕ) → RemovesSentence place article old reply new → KeepsWords old new
  removes_keep place is = keeps_changed old new article.word (λ sentences. remove sentences place) is.after

  pub retracts_keep : (place : ℕ) → RetractsSentence place article old reply new → KeepsWords old new
  retracts_keep place is = keeps_changed old new article.word (λ sentences. with_status sentences place Retracted) is.after

  pub reasserts_keep : (IsSpent : Spending) (place : ℕ) → ReassertsSentence IsSpent place article old reply new → KeepsWords old new
  reasserts_keep IsSpent place is = keeps_changed old new article.word (λ sentences. with_status sentences place is.status) is.after

-- the budget stays
pub budget_stays : (old new : holding.Holding) (result : Result Reply Fault) → OnOk result (new.budget ≡ old.budget) → OnErr result (new ≡ old)
    → new.budget ≡ old.budget
budget_stays old new (Ok reply) budget kept = budget
budget_stays old new (Err fault) budget kept = ap (λ (h : holding.Holding). h.budget) kept

-- ---- what is done

-- where a word is told, nothing stood against that
pub found_free : (stored : Stored) (form : List ℕ) (result : Result Reply Fault)
    → IfOk result (λ reply. IsSomeAnd (word_with stored form) (λ word. TellsWord word reply))
    → OnOk result (NoneOf (against_form stored form (against_word stored of_word.Find)))
found_free stored form (Ok reply) tells =
    let found = some_is (word_with stored form) (λ word. TellsWord word reply) tells in
    free_named (word_with stored form) (NoWord form) (against_word stored of_word.Find) found.it found.named nothing_stands
found_free stored form (Err fault) tells = tells

-- sentences change, and sessions stay
pub changes_stored : (o : Option Article) (P : Article → Stored → Reply → Stored → Type 0) (old new : State) (result : Result Reply Fault)
    → IfOk result (λ reply. IsSomeAnd o (λ article. P article old.stored reply new.stored)) → new.sessions ≡ old.sessions → new.last ≡ old.last
    → IfOk result (λ reply. IsSomeAnd o (λ article. ChangesStored (P article) old reply new))
changes_stored o P old new (Ok reply) does sessions last =
    and_so o (λ article. P article old.stored reply new.stored) (λ article. ChangesStored (P article) old reply new)
    (λ article is. record { stored = is; sessions = sessions; last = last }) does
changes_stored o P old new (Err fault) does sessions last = does

-- something is told of what is named
pub tells_named : {T : Type 0} (o : Option T) (P : T → Reply → Type 0) (old new : State) (result : Result Reply Fault)
    → IfOk result (λ reply. IsSomeAnd o (λ t. P t reply)) → new ≡ old → IfOk result (λ reply. IsSomeAnd o (λ t. OnlyTells (P t) old reply new))
tells_named o P old new (Ok reply) tells same = and_so o (λ t. P t reply) (λ t. OnlyTells (P t) old reply new) (λ t is. (is, same)) tells
tells_named o P old new (Err fault) tells same = tells

pub tells_all : (P : Reply → Type 0) (old new : State) (result : Result Reply Fault) → IfOk result P → new ≡ old
    → IfOk result (λ reply. OnlyTells P old reply new)
tells_all P old new (Ok reply) tells same = (tells, same)
tells_all P old new (Err fault) tells same = tells

-- ---- what is kept of the interpretation

-- the reply tells the status of a sentence that was judged
abbrev pub tells_status : Reply → Bool
tells_status (replies.Add status text) = true
tells_status (replies.Edit status text) = true
tells_status (replies.Reassert status) = true
tells_status (replies.Commit article status text) = true
tells_status reply = false

judged_stays : (old new : Holding) (reply : Reply) → tells_status reply ≡ true → KeepsInterpretation old reply new
judged_stays old new (replies.Add status text) is = tt
judged_stays old new (replies.Edit status text) is = tt
judged_stays old new (replies.Reassert status) is = tt
judged_stays old new (replies.Commit article status text) is = tt
judged_stays old new reply is = absurd (false≢true is)

pub judged_keeps : (old new : Holding) (o : Option Article) (P : Article → Reply → Type 0)
    → ((article : Article) (reply : Reply) → P article reply → tells_status reply ≡ true) → (result : Result Reply Fault)
    → IfOk result (λ reply. IsSomeAnd o (λ article. P article reply)) → IfOk result (λ reply. KeepsInterpretation old reply new)
judged_keeps old new o P is (Ok reply) does =
    let found = some_is o (λ article. P article reply) does in judged_stays old new reply (is found.it reply found.is)
judged_keeps old new o P is (Err fault) does = does

pub same_keeps : (old new : Holding) (result : Result Reply Fault) → OnOk result (new.interpretation ≡ old.interpretation)
    → IfOk result (λ reply. KeepsInterpretation old reply new)
same_keeps old new (Ok reply) same = same-stays old new reply same
same_keeps old new (Err fault) same = tt

-- ---- spent budgets

-- where no sentence is judged, none is red for the budget
pub spends_none : (old : Holding) (request : Request) → taken_by old.state request ≡ None → (result : Result Reply Fault)
    → IfOk result (SpendsBeyondKept old request)
spends_none old request none (Ok reply) = λ told. subst (λ (o : Option Stored). IfSome o (IsNoModelWith (store_held old))) (sym none) tt
spends_none old request none (Err fault) = tt

-- the request judges a sentence
abbrev pub judges : ArticleRequest → Bool
judges (of_article.Add given text) = true
judges (of_article.Edit place text) = true
judges (of_article.Reassert place) = true
judges asked = false

takes_none : (stored : Stored) (asked : ArticleRequest) (article : Article) → judges asked ≡ false → taken_on stored asked article ≡ None
takes_none stored (of_article.Add given text) article not_so = absurd (false≢true (sym not_so))
takes_none stored (of_article.Edit place text) article not_so = absurd (false≢true (sym not_so))
takes_none stored (of_article.Reassert place) article not_so = absurd (false≢true (sym not_so))
takes_none stored asked article not_so = refl

pub taken_none : (stored : Stored) (form : List ℕ) (asked : ArticleRequest) → judges asked ≡ false → taken_of stored form asked ≡ None
taken_none stored form asked not_so = by (article_named stored form)
  where
    by : (o : Option Article) → option_and_then (taken_on stored asked) o ≡ None
    by None = refl
    by (Some article) = takes_none stored asked article not_so

-- nothing is to be said of a request
pub ok_unit : {E : Type 0} (result : Result Reply E) → IfOk result (λ reply. Unit {0})
ok_unit (Ok reply) = tt
ok_unit (Err fault) = tt
