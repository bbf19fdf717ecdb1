use Rattle.std.proofs.Common.{sym, ◌∙◌}
use Rattle.logic_terms.specs.Shown.{concept_of, concepts_of}
use Rattle.logic_terms.proofs.SameLemmas.{same_concepts-length, rest_same-step, rest_same-differ}
use Rattle.logic_terms.proofs.expressions.+comparing.Goals as goal

pub Classes::are_same-returns-then-len : goal.Classes::are_same-returns-then-len
Classes::are_same-returns-then-len t c =
    sym (same_concepts-length (concepts_of c.args.self.now) (concepts_of c.args.other.now)
    (λ e. c.if-len.true (c.len.ensures ∙ (e ∙ sym c.len-2.ensures))))

pub Classes::are_same-returns-then-not-is_same : goal.Classes::are_same-returns-then-not-is_same
Classes::are_same-returns-then-not-is_same t c =
    sym (rest_same-differ (concepts_of c.args.self.now) (concepts_of c.args.other.now) c.loop-place.place (concept_of c.get.result.now)
    (concept_of c.get-in-loop-place.result.now) _ c.get.ensures.item c.get-in-loop-place.ensures.item c.loop-place.invariant.left_decides
    (sym c.is_same.ensures ∙ c.if-not-is_same.true))

pub Classes::are_same-loop-place-preserved : goal.Classes::are_same-loop-place-preserved
Classes::are_same-loop-place-preserved t c = record {
  long = c.loop-place.invariant.long;
  left_decides = rest_same-step (concepts_of c.args.self.now) (concepts_of c.args.other.now) c.loop-place.place (concept_of c.get.result.now)
      (concept_of c.get-in-loop-place.result.now) _ c.get.ensures.item c.get-in-loop-place.ensures.item c.loop-place.invariant.left_decides
      (sym c.is_same.ensures ∙ c.if-not-is_same.false);
}
