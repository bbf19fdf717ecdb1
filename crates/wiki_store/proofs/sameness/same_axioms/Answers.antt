use Rattle.std.proofs.Common.{sym, ◌∙◌}
use Rattle.logic_terms.specs.Shown.{claim_of, claims_of}
use Rattle.wiki_store.proofs.SameMeanings.{same_claims-length, rest_same-step, rest_same-differ}
use Rattle.wiki_store.proofs.sameness.same_axioms.Goals as goal

pub returns-then-len : goal.returns-then-len
returns-then-len c = sym (same_claims-length (claims_of c.args.axioms.now) (claims_of c.args.others.now)
    (λ e. c.if-len.true (c.len.ensures ∙ (e ∙ sym c.len-2.ensures))))

pub returns-then-not-same_axiom : goal.returns-then-not-same_axiom
returns-then-not-same_axiom c =
    sym (rest_same-differ (claims_of c.args.axioms.now) (claims_of c.args.others.now) c.loop-place.place (claim_of c.get.result.now)
    (claim_of c.get-in-loop-place.result.now) _ c.get.ensures
    c.get-in-loop-place.ensures c.loop-place.invariant.left_decides (sym c.same_axiom.ensures ∙ c.if-not-same_axiom.true))

pub loop-place-preserved : goal.loop-place-preserved
loop-place-preserved c = record {
  long = c.loop-place.invariant.long;
  left_decides = rest_same-step (claims_of c.args.axioms.now) (claims_of c.args.others.now) c.loop-place.place (claim_of c.get.result.now)
      (claim_of c.get-in-loop-place.result.now) _ c.get.ensures
      c.get-in-loop-place.ensures c.loop-place.invariant.left_decides (sym c.same_axiom.ensures ∙ c.if-not-same_axiom.false);
}
