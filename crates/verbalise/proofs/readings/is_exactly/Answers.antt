use Rattle.std.proofs.Common.{◌≡◌, List, [], ◌∷◌, sym, ap, ◌∙◌}
use Rattle.logic_terms.specs.Concept.{Claim}
use Rattle.logic_terms.specs.Shown.{claim_of, claims_of}
use Rattle.verbalise.specs.Readings.{stating}
use Rattle.verbalise.specs.Same.{are_just}
use Rattle.verbalise.specs.Spoken.{reading_shown}
use Rattle.verbalise.proofs.ExactLemmas.{just-is, just-self, stating-same}
use Rattle.verbalise.proofs.readings.is_exactly.Goals as goal

pub returns-in-Axioms : goal.returns-in-Axioms
returns-in-Axioms c =
    let claims : List Claim = claims_of c.in-Axioms.axioms in
    let claim : Claim = claim_of c.args.axiom.now in
    let test : c.are_just.result ≡ are_just claims claim = c.are_just.ensures ∙ ap (λ cs. are_just cs claim) c.as_slice.ensures in
    let read : reading_shown c.args.reading.now ≡ stating claims = ap reading_shown c.in-Axioms.is in (
      λ yes. read ∙ ap stating (just-is claims claim (sym test ∙ yes)),
      λ same. test ∙ just-self claims claim (stating-same claims (claim ∷ []) (sym read ∙ same)),
    )
