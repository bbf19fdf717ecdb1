use Rattle.std.proofs.Common.{◌≡◌, ◌+◌, ◌≤◌, List, [], ◌∷◌, ◌++◌, Ok, take, drop, length, sym, ap, ◌∙◌, arith}
use Rattle.std.proofs.Math.ListN.{drop_of_length-le}
use Rattle.std.proofs.lemmas.List.{take_more, append-nil, length-map}
use Rattle.wiki_base.proofs.ListLaws.{drop_slice_get}
use Rattle.logic_terms.specs.Concept.{Claim}
use Rattle.logic_terms.specs.Shown.{claim_of, claims_of, condition_of, conditions_of}
use Rattle.logic_terms.specs.Structure.{Condition}
use Rattle.ace_to_owl.specs.Answers.{option_shown}
use Rattle.ace_to_owl.specs.Outcomes.{next}
use Rattle.ace_to_owl.specs.Mapping.{own_terms, claims_after}
use Rattle.ace_to_owl.proofs.ClaimLemmas.{claims_stop, claims_go, group_at}
use Rattle.ace_to_owl.proofs.statement.axioms_by.Goals as goal

pub returns-in-Err : goal.returns-in-Err
returns-in-Err c =
    let w = c.args.whole.now in
    let cs : List Condition = conditions_of w.conditions.now in
    let gs = w.groups.now in
    let k = c.loop-place.place in
    let here : Condition = condition_of c.get.result.now in
    claims_stop w.referents.now gs cs (claims_after w.referents.now gs cs [] cs) (take k gs) (drop k cs) (drop (k + 1) cs) here c.as_slice-own.result.now
    (claims_of c.loop-place.axioms)
    (c.as_slice-own.ensures ∙ sym c.index-whole-place.is
    ∙ group_at (own_terms w.referents.now) gs cs k here c.index-whole-place.result c.requires.groups c.get.ensures.item c.index-whole-place.is)
    (drop_slice_get cs k here c.get.ensures.item) c.loop-place.invariant (option_shown claim_of) claims_of c.in-Err.fault c.in-Err.ensures

pub loop-place-preserved : goal.loop-place-preserved
loop-place-preserved c =
    let w = c.args.whole.now in
    let cs : List Condition = conditions_of w.conditions.now in
    let gs = w.groups.now in
    let k = c.loop-place.place in
    let here : Condition = condition_of c.get.result.now in
    claims_go w.referents.now gs cs (claims_after w.referents.now gs cs [] cs) (take k gs) (drop k cs) (drop (k + 1) cs) here c.as_slice-own.result.now
    (claims_of c.loop-place.axioms)
    (c.as_slice-own.ensures ∙ sym c.index-whole-place.is
    ∙ group_at (own_terms w.referents.now) gs cs k here c.index-whole-place.result c.requires.groups c.get.ensures.item c.index-whole-place.is)
    (drop_slice_get cs k here c.get.ensures.item) c.loop-place.invariant (option_shown claim_of c.in-Ok.claim) (claims_of c.push_claim.new.axioms)
    (take (k + 1) gs) c.in-Ok.ensures c.in_ok-push_claim-in-Ok.ensures
    (take_more gs k c.index-whole-place.result c.loop-place-test.true ∙ ap (λ g. take k gs ++ g ∷ []) (sym c.as_slice-own.ensures))

pub returns : goal.returns
returns c =
    let w = c.args.whole.now in
    let cs : List Condition = conditions_of w.conditions.now in
    let gs = w.groups.now in
    let k = c.loop-place.place in
    let made : List Claim = claims_of c.loop-place.axioms in
    let same : length gs ≡ length cs = ap length c.requires.groups ∙ length-map cs (own_terms w.referents.now) in
    let past : length cs ≤ k = omega (arith, same, c.loop-place-test.false) in
    sym c.loop-place.invariant
    ∙ ap (λ ds. next (claims_after w.referents.now gs cs (take k gs) ds) (λ claims. Ok (made ++ claims))) (drop_of_length-le cs {i = k} past)
    ∙ ap Ok (append-nil made)
