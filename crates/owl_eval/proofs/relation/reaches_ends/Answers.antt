use Rattle.std.proofs.Common.{take, sym, ◌∙◌}
use Rattle.std.specs.List.{list_all}
use Rattle.std.proofs.lemmas.Bool.{and_from}
use Rattle.std.proofs.lemmas.List.Folds.{list_all_more, list_all_at}
use Rattle.owl_eval.specs.Pairs.{is_paired}
use Rattle.owl_eval.proofs.Walking.{met, passed_more, missed_at}
use Rattle.owl_eval.proofs.relation.reaches_ends.Goals as goal

pub loop-other-preserved : goal.loop-other-preserved
loop-other-preserved c =
    let own = c.args.own.now in
    let others = c.args.others.now in
    let i = c.loop-other.other-index in
    let next = c.place_from-place.result in
    let at = c.place_from-place.ensures in
    record {
      within = at.within;
      passed = passed_more own others c.loop-other.place next i _ c.loop-other-test.true c.loop-other.invariant.passed at.below c.requires.others;
      told = list_all_more (λ q. is_paired own c.args.first q.1) others i _ c.loop-other-test.true
          ∙ and_from (list_all (λ q. is_paired own c.args.first q.1) (take i others)) _ c.loop-other.invariant.told
          (met own c.args.first _ next (0, 0) c.requires.own (c.ends_at.ensures.within c.if-not-ends_at.false)
          (c.ends_at.ensures.met c.if-not-ends_at.false (0, 0)));
    }

pub returns-then-not-ends_at : goal.returns-then-not-ends_at
returns-then-not-ends_at c =
    let own = c.args.own.now in
    let others = c.args.others.now in
    let i = c.loop-other.other-index in
    let next = c.place_from-place.result in
    let at = c.place_from-place.ensures in
    sym (list_all_at (λ q. is_paired own c.args.first q.1) others i _ c.loop-other-test.true
    (missed_at own others c.loop-other.place next i _ c.loop-other-test.true c.loop-other.invariant.passed at.below c.args.first c.requires.rising
    at.there (c.ends_at.ensures.missed c.if-not-ends_at.true)))
