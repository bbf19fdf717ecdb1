-- A step from its parts: nothing stands against the request, and it is done.
use Rattle.std.proofs.Common.{◌≡◌, ◌⊎◌, Bool, true, false, List, Option, Some, None, IfSome, Result, Ok, Err, IfOk, OnOk, OnErr, sym, ap, subst, ◌∙◌, refl, inl, inr}
use Rattle.std.specs.Option.{IsSomeAnd}
use Rattle.std.proofs.lemmas.Bool.{false≢true}
use Rattle.wiki_talk.specs.declared.refusals.Refusal.{Refusal}
use Rattle.wiki_talk.specs.declared.replies.Reply.{Reply}
use Rattle.wiki_talk.specs.declared.replies.Reply.TheVariants as replies
use Rattle.wiki_talk.specs.declared.requests.Request.{Request}
use Rattle.wiki_talk.specs.declared.requests.Request.TheVariants as requests
use Rattle.wiki_talk.specs.declared.requests.WikiRequest.TheVariants as of_wiki
use Rattle.wiki_talk.specs.declared.requests.WordRequest.{WordRequest}
use Rattle.wiki_talk.specs.declared.requests.WordRequest.TheVariants as of_word
use Rattle.wiki_talk.specs.declared.requests.ArticleRequest.{ArticleRequest}
use Rattle.wiki_talk.specs.declared.requests.ArticleRequest.TheVariants as of_article
use Rattle.wiki_talk.specs.declared.requests.SessionRequest.{SessionRequest}
use Rattle.wiki_talk.specs.declared.requests.SessionRequest.TheVariants as of_session
use Rattle.wiki_parts.specs.declared.faults.Fault.{Fault}
use Rattle.plain_wiki.specs.Knowledge.{Spending}
use Rattle.plain_wiki.specs.State.{State}
use Rattle.plain_wiki.specs.Places.{word_with, article_named, session_numbered}
use Rattle.plain_wiki.specs.Against.{Refuses, IsFree}
use Rattle.plain_wiki.specs.Step.{Does, DoesOnWord, DoesOnArticle, DoesOnSession, Step}
use Rattle.lexicon.specs.declared.words.Word.{Word}
use Rattle.articles.specs.declared.article.Article.{Article}
use Rattle.plain_wiki.specs.Sessions.{PlainSession}

-- the reply tells a refusal
abbrev pub is_refused : Reply → Bool
is_refused (replies.Refused refusal) = true
is_refused reply = false

module _ (IsSpent : Spending) (old : State) (reply : Reply) (new : State) where
  word_answers : (asked : WordRequest) (word : Word) → DoesOnWord asked word old reply new → is_refused reply ≡ false
  word_answers of_word.Find word does = ap is_refused does.0
  word_answers (of_word.Reword texts) word does = ap is_refused does.stored.answer
  word_answers of_word.Unword word does = ap is_refused does.stored.answer

  article_answers : (asked : ArticleRequest) (article : Article) → DoesOnArticle IsSpent asked article old reply new → is_refused reply ≡ false
  article_answers of_article.Read article does = ap is_refused does.0.answer
  article_answers (of_article.Add given text) article does = ap is_refused does.stored.answer
  article_answers (of_article.Edit place text) article does = ap is_refused does.stored.answer
  article_answers (of_article.Remove place) article does = ap is_refused does.stored.answer
  article_answers (of_article.Retract place) article does = ap is_refused does.stored.answer
  article_answers (of_article.Reassert place) article does = ap is_refused does.stored.answer
  article_answers (of_article.Axioms place) article does = ap is_refused does.0.answer
  article_answers of_article.Open article does = ap is_refused does.answer

  session_answers : (asked : SessionRequest) (session : PlainSession) → DoesOnSession IsSpent asked session old reply new
      → is_refused reply ≡ false
  session_answers (of_session.Type text) session does = ap is_refused does.answer
  session_answers of_session.Back session does = ap is_refused does.answer
  session_answers of_session.Menu session does = ap is_refused does.0.answer
  session_answers of_session.Commit session does = ap is_refused does.answer
  session_answers of_session.Refresh session does = ap is_refused does.answer
  session_answers of_session.Drop session does = ap is_refused does.answer

  of_some : {T : Type 0} (o : Option T) (P : T → Type 0) → ((t : T) → P t → is_refused reply ≡ false) → IsSomeAnd o P → is_refused reply ≡ false
  of_some None P gives here = absurd here
  of_some (Some t) P gives here = gives t here

  -- what is done is told as no refusal
  pub does_answers : (request : Request) → Does IsSpent old request reply new → is_refused reply ≡ false
  does_answers (requests.OnWiki (of_wiki.Word kind texts)) does = ap is_refused does.stored.answer
  does_answers (requests.OnWiki of_wiki.Words) does = ap is_refused does.0
  does_answers (requests.OnWiki (of_wiki.Parse text)) does = ap is_refused does.0.answer
  does_answers (requests.OnWiki (of_wiki.Grammar text)) does = ap is_refused does.stored.answer
  does_answers (requests.OnWord form asked) does =
      of_some (word_with old.stored form) (λ word. DoesOnWord asked word old reply new) (word_answers asked) does
  does_answers (requests.OnArticle form asked) does =
      of_some (article_named old.stored form) (λ article. DoesOnArticle IsSpent asked article old reply new) (article_answers asked) does
  does_answers (requests.OnSession number asked) does =
      of_some (session_numbered old number) (λ session. DoesOnSession IsSpent asked session old reply new) (session_answers asked) does

not_refused : (IsSpent : Spending) (old : State) (request : Request) (reply : Reply) (new : State) → is_refused reply ≡ false → IsFree old request
    → Does IsSpent old request reply new → Step IsSpent old request reply new
not_refused IsSpent old request (replies.Refused refusal) new not_so free does = absurd (false≢true (sym not_so))
not_refused IsSpent old request reply new not_so free does = (free, does)

-- a request against which nothing stands, and which is done, is a step
pub does_step : (IsSpent : Spending) (old : State) (request : Request) (reply : Reply) (new : State) → IsFree old request
    → Does IsSpent old request reply new → Step IsSpent old request reply new
does_step IsSpent old request reply new free does =
    not_refused IsSpent old request reply new (does_answers IsSpent old reply new request does) free does

pub step_of : (IsSpent : Spending) (old : State) (request : Request) (result : Result Reply Fault) (new : State) → OnOk result (IsFree old request)
    → IfOk result (λ reply. Does IsSpent old request reply new) → IfOk result (λ reply. Step IsSpent old request reply new)
step_of IsSpent old request (Ok reply) new free does = does_step IsSpent old request reply new free does
step_of IsSpent old request (Err fault) new free does = does

-- a step is a refusal, or does what is asked
abbrev pub IsRefused : State → Request → Reply → State → Type 0
IsRefused old request reply new = (refusal : Refusal) × (reply ≡ replies.Refused refusal) × Refuses old request refusal × (new ≡ old)

abbrev pub IsDone : Spending → State → Request → Reply → State → Type 0
IsDone IsSpent old request reply new = IsFree old request × Does IsSpent old request reply new

pub outcome : (IsSpent : Spending) (old : State) (request : Request) (reply : Reply) (new : State) → Step IsSpent old request reply new
    → IsRefused old request reply new ⊎ IsDone IsSpent old request reply new
outcome IsSpent old request (replies.Refused refusal) new step = inl (refusal, refl, step.0, step.1)
outcome IsSpent old request reply new step = inr step
