use Rattle.std.proofs.Common.{sym, ◌∙◌, arith}
use Rattle.logic_terms.specs.Shown.{concept_of, concepts_of}
use Rattle.logic_terms.proofs.Places.{each_more, each_fails}
use Rattle.reasoner_examples.specs.Fit.{is_fit}
use Rattle.reasoner_examples.proofs.FitLemmas.{in_and, in_or, too_few, enough, all_members}
use Rattle.reasoner_examples.proofs.fitting.+fitting.Goals as goal

pub is_fit-returns-in-And : goal.is_fit-returns-in-And
is_fit-returns-in-And t c = in_and c.args.names.now c.args.class.now c.in-And.members _ c.members_fit.ensures c.in-And.is

pub is_fit-returns-in-Or : goal.is_fit-returns-in-Or
is_fit-returns-in-Or t c = in_or c.args.names.now c.args.class.now c.in-Or.members _ c.members_fit-in-Or.ensures c.in-Or.is

pub members_fit-returns-then-len-lt2 : goal.members_fit-returns-then-len-lt2
members_fit-returns-then-len-lt2 t c = sym (too_few c.args.names.now (concepts_of c.args.members.now) (omega arith))

pub members_fit-returns-then-not-is_fit : goal.members_fit-returns-then-not-is_fit
members_fit-returns-then-not-is_fit t c =
    sym (enough c.args.names.now (concepts_of c.args.members.now) c.loop-place.invariant.many
    ∙ each_fails (is_fit c.args.names.now) (concepts_of c.args.members.now) c.loop-place.place (concept_of c.get.result.now) c.get.ensures.item
    (sym c.is_fit.ensures ∙ c.if-not-is_fit.true))

pub members_fit-loop-place-preserved : goal.members_fit-loop-place-preserved
members_fit-loop-place-preserved t c = record {
  many = c.loop-place.invariant.many;
  so_far = each_more (is_fit c.args.names.now) (concepts_of c.args.members.now) c.loop-place.place (concept_of c.get.result.now) c.get.ensures.item
      c.loop-place.invariant.so_far (sym c.is_fit.ensures ∙ c.if-not-is_fit.false);
}

pub members_fit-returns : goal.members_fit-returns
members_fit-returns t c =
    sym (all_members c.args.names.now (concepts_of c.args.members.now) c.loop-place.place (omega arith) c.loop-place.invariant.many
    c.loop-place.invariant.so_far)
