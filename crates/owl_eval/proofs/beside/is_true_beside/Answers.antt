use Rattle.std.proofs.Common.{◌≡◌, true, sym}
use Rattle.std.proofs.lemmas.List.Elements.{All-contains}
use Rattle.logic_terms.specs.Shown.{claim_of, claims_of}
use Rattle.logic_terms.specs.Meaning.{holds}
use Rattle.owl_eval.specs.Avoiding.{claim_avoids}
use Rattle.owl_eval.proofs.beside.is_true_beside.Goals as goal

pub returns-then-stays : goal.returns-then-stays
returns-then-stays c =
    sym (All-contains (λ claim. claim_avoids c.args.changed.now claim ≡ true → holds c.args.interp.now claim ≡ true) (claims_of c.args.known.now)
    (claim_of c.args.stated.now) c.requires.known (c.stays.ensures.stands c.if-stays.true) (c.stays.ensures.without c.if-stays.true))
