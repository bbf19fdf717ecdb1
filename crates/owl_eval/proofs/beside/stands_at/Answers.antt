use Rattle.std.proofs.Common.{Contains, subst, sym, ◌∙◌}
use Rattle.std.proofs.lemmas.Option.{slice_get_within, get_or_from_slice_get}
use Rattle.logic_terms.specs.Shown.{claim_of, claims_of}
use Rattle.owl_eval.proofs.SameClaims.{same_claim-equal}
use Rattle.owl_eval.proofs.beside.stands_at.Goals as goal

pub returns-then-place-len : goal.returns-then-place-len
returns-then-place-len c same =
    let claims = claims_of c.args.known.now in
    let found = claim_of c.get.result.now in
    subst (λ claim. Contains claims claim) (same_claim-equal found (claim_of c.args.stated.now) (sym c.same_axiom.ensures ∙ same))
    (c.args.place, slice_get_within claims c.args.place found c.get.ensures, get_or_from_slice_get claims c.args.place found found c.get.ensures)
