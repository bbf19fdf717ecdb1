use Rattle.std.proofs.Common.{◌≡◌, IfOk, sym, ap, subst}
use Rattle.logic_terms.specs.Concept.{Claim}
use Rattle.logic_terms.specs.Shown.{claim_of}
use Rattle.verbalise.specs.Said.{said}
use Rattle.verbalise.proofs.axioms.said.Goals as goal

pub returns-in-Related : goal.returns-in-Related
returns-in-Related c =
    let P : Claim → Type 0 = λ claim. IfOk c.relates.result (λ sentence. sentence ≡ said c.args.words.now.live claim) in
    subst P (ap claim_of (sym c.in-Related.is)) c.relates.ensures

pub returns-in-NotRelated : goal.returns-in-NotRelated
returns-in-NotRelated c =
    let P : Claim → Type 0 = λ claim. IfOk c.relates_not.result (λ sentence. sentence ≡ said c.args.words.now.live claim) in
    subst P (ap claim_of (sym c.in-NotRelated.is)) c.relates_not.ensures
