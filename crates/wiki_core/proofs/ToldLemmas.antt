-- A request that is done or refused, as it is told.
use Rattle.std.proofs.Common.{◌≡◌, Result, Ok, Err, IfOk, IfErr, OnErr, sym, ap, subst}
use Rattle.std.proofs.lemmas.Option.{none-some}
use Rattle.wiki_talk.specs.declared.statuses.Status.TheVariants.{RedBudget}
use Rattle.wiki_talk.specs.declared.refusals.Refusal.{Refusal}
use Rattle.wiki_talk.specs.declared.replies.Reply.{Reply}
use Rattle.wiki_talk.specs.declared.replies.Reply.TheVariants as replies
use Rattle.wiki_talk.specs.declared.requests.Request.{Request}
use Rattle.wiki_talk.specs.declared.requests.Request.TheVariants as requests
use Rattle.wiki_talk.specs.declared.requests.ArticleRequest.TheVariants as of_article
use Rattle.wiki_parts.specs.declared.faults.Fault.{Fault}
use Rattle.wiki_parts.specs.declared.faults.Fault.TheVariants as faults
use Rattle.wiki_parts.specs.Faults.{IsFault, Tells}
use Rattle.wiki_parts.specs.Spending.{IsCutOff}
use Rattle.plain_wiki.specs.Against.{Refuses}
use Rattle.plain_wiki.specs.Step.{Step}
use Rattle.wiki_core.specs.Holding.{Holding}
use Rattle.wiki_core.specs.Spending.{SpendsBeyondKept, KeptHasEachUnknown}
use Rattle.wiki_core.specs.Unchanged.{KeepsInterpretation}

-- what is told is a step
pub told-step : {E : Type 0} (old new : Holding) (request : Request) (done : Result Reply Fault) (told : Result Reply E) → IfOk told (Tells done)
    → IfOk done (λ reply. Step (IsCutOff old.budget) old.state request reply new.state) → IfErr done (IsFault (Refuses old.state request))
    → OnErr done (new ≡ old)
    → IfOk told (λ reply. Step (IsCutOff old.budget) old.state request reply new.state)
told-step old new request done (Err none) told step refused kept = tt
told-step old new request (Ok made) (Ok reply) told step refused kept =
    subst (λ (r : Reply). Step (IsCutOff old.budget) old.state request r new.state) (sym told) step
told-step old new request (Err fault) (Ok reply) told step refused kept =
    subst (λ (r : Reply). Step (IsCutOff old.budget) old.state request r new.state) (sym told.2)
    (subst (IsFault (Refuses old.state request)) told.1 refused, ap (λ (h : Holding). h.state) kept)

-- what stays where a request isn't done stays where nothing is told
pub told-keeps : {E : Type 0} (P : Type 0) (done : Result Reply Fault) (told : Result Reply E) → OnErr told (done ≡ Err faults.Memory) → OnErr done P
    → OnErr told P
told-keeps P done (Ok reply) is kept = tt
told-keeps P done (Err none) is kept = subst (λ (d : Result Reply Fault). OnErr d P) is kept

-- where the kept interpretation is the same, it stays whatever is replied
pub same-stays : (old new : Holding) (reply : Reply) → new.interpretation ≡ old.interpretation → KeepsInterpretation old reply new
same-stays old new (replies.Add status text) same = tt
same-stays old new (replies.Edit status text) same = tt
same-stays old new (replies.Reassert status) same = tt
same-stays old new (replies.Commit article status text) same = tt
same-stays old new _ same = same

-- the kept interpretation stays by what is told as by what was done
pub told-interpretation : {E : Type 0} (old new : Holding) (done : Result Reply Fault) (told : Result Reply E) → IfOk told (Tells done)
    → IfOk done (λ reply. KeepsInterpretation old reply new) → OnErr done (new ≡ old) → IfOk told (λ reply. KeepsInterpretation old reply new)
told-interpretation old new done (Err none) told stays kept = tt
told-interpretation old new (Ok made) (Ok reply) told stays kept = subst (λ (r : Reply). KeepsInterpretation old r new) (sym told) stays
told-interpretation old new (Err fault) (Ok reply) told stays kept = same-stays old new reply (ap (λ (h : Holding). h.interpretation) kept)

-- what is so of what was done, and of each refusal, is so of what is told
pub told-so : {E : Type 0} (P : Reply → Type 0) (done : Result Reply Fault) (told : Result Reply E) → IfOk told (Tells done) → IfOk done P
    → ((refusal : Refusal) → P (replies.Refused refusal)) → IfOk told P
told-so P done (Err none) told so refused = tt
told-so P (Ok made) (Ok reply) told so refused = subst P (sym told) so
told-so P (Err fault) (Ok reply) told so refused = subst P (sym told.2) (refused told.0)

-- a refusal tells no budget as spent, and no name as unknown
pub refused-spends : (old : Holding) (request : Request) (refusal : Refusal) → SpendsBeyondKept old request (replies.Refused refusal)
refused-spends old request refusal = λ none. absurd (none-some RedBudget none)

pub refused-unknown : (old : Holding) (request : Request) (refusal : Refusal) → KeptHasEachUnknown old request (replies.Refused refusal)
refused-unknown old (requests.OnArticle form of_article.Read) refusal = tt
refused-unknown old request refusal = tt
