use Rattle.std.proofs.Common.{◌≡◌, ℕ, ◌<◌, Bool, IfOk, sym, ap, ◌∙◌, subst, arith}
use Rattle.logic_terms.specs.Shown.{structure_of, condition_of, conditions_of}
use Rattle.logic_terms.specs.Truth.{giving, some_extension, each_extension, condition_true}
use Rattle.logic_terms.proofs.ShownLemmas.{condition_of-Implies}
use Rattle.owl_eval.specs.Assigned.{assigned, each_condition, carries_over}
use Rattle.owl_eval.proofs.Assignments.{after_push, of_structure, of_implication, popped}
use Rattle.logic_terms.proofs.Places.{each_more, each_fails, each_below_more, each_below_fails, some_below_more, some_below_passes}
use Rattle.owl_eval.proofs.truth.+truth.Goals as goal
use Rattle.owl_eval.proofs.truth.+truth.Goals.{some_extension_true-After-pop, each_extension_true-After-pop}

pub structure_true-returns-clause-truth : goal.structure_true-returns-clause-truth
structure_true-returns-clause-truth t c =
    subst (λ b. IfOk c.some_extension_true.result (λ answer. answer ≡ b))
    (of_structure c.args.interp.now (structure_of c.args.drs.now) c.as_slice-referents.result.now (conditions_of c.conditions.result.now)
    (assigned c.args.given.now.items) (c.as_slice-referents.ensures ∙ c.referents.ensures) c.conditions.ensures.list)
    c.some_extension_true.ensures.truth

pub holds-returns-in-Implies-clause-truth : goal.holds-returns-in-Implies-clause-truth
holds-returns-in-Implies-clause-truth t c =
    let i = c.args.interp.now in
    let f = assigned c.args.given.now.items in
    let left = structure_of c.in-Implies.left in
    let right = structure_of c.in-Implies.right in
    subst (λ b. IfOk c.each_extension_true.result (λ answer. answer ≡ b))
    (of_implication i left c.as_slice-referents.result.now (conditions_of c.conditions.result.now) f (c.as_slice-referents.ensures ∙ c.referents.ensures)
    c.conditions.ensures.list right
    ∙ sym (ap (λ k. condition_true i (condition_of k) f) c.in-Implies.is
    ∙ ap (λ k. condition_true i k f) (condition_of-Implies c.in-Implies.left c.in-Implies.right)))
    c.each_extension_true.ensures.truth

pub conditions_true-returns-then-not-branch-clause-truth : goal.conditions_true-returns-then-not-branch-clause-truth
conditions_true-returns-then-not-branch-clause-truth t c =
    let i = c.args.interp.now in
    let start = c.args.given.now.items in
    let truth : c.in_ok-holds.field-0 ≡ condition_true i (condition_of c.get.result.now) (assigned c.loop-place.given.items) = c.in_ok-holds.ensures.truth in
    sym (each_fails (λ k. condition_true i k (assigned start)) (conditions_of c.args.conditions.now) c.loop-place.place (condition_of c.get.result.now)
    c.get.ensures.item
    (ap (λ es. condition_true i (condition_of c.get.result.now) (assigned es)) (sym c.loop-place.invariant.kept) ∙ (sym truth ∙ c.if-not-branch.true)))

pub conditions_true-loop-place-preserved : goal.conditions_true-loop-place-preserved
conditions_true-loop-place-preserved t c =
    let i = c.args.interp.now in
    let start = c.args.given.now.items in
    let truth : c.in_ok-holds.field-0 ≡ condition_true i (condition_of c.get.result.now) (assigned c.loop-place.given.items) = c.in_ok-holds.ensures.truth in
    record {
      kept = c.in_ok-holds.ensures.kept ∙ c.loop-place.invariant.kept;
      so_far = each_more (λ k. condition_true i k (assigned start)) (conditions_of c.args.conditions.now) c.loop-place.place (condition_of c.get.result.now)
          c.get.ensures.item c.loop-place.invariant.so_far
          (ap (λ es. condition_true i (condition_of c.get.result.now) (assigned es)) (sym c.loop-place.invariant.kept) ∙ (sym truth ∙ c.if-not-branch.false));
    }

-- what the call tells of the referent's element
at_found : (t : ℕ) (c : some_extension_true-After-pop t)
    → c.in_ok-found.found ≡ some_extension c.args.interp.now.size c.in-Some.rest.now (each_condition c.args.interp.now (conditions_of c.args.conditions.now))
    (giving (assigned c.args.given.now.items) c.in-Some.first.now c.loop-element.element)
at_found t c =
    c.in_ok-found.ensures.truth
    ∙ after_push (λ f. some_extension c.args.interp.now.size c.in-Some.rest.now (each_condition c.args.interp.now (conditions_of c.args.conditions.now)) f)
    c.args.given.now.items c.loop-element.given.items c.push.new.self.items c.in-Some.first.now c.loop-element.element c.in_ok-push.ensures.items
    c.loop-element.invariant.kept

pub some_extension_true-returns-then-found-clause-truth : goal.some_extension_true-returns-then-found-clause-truth
some_extension_true-returns-then-found-clause-truth t c =
    let n = c.args.interp.now.size in
    let start = assigned c.args.given.now.items in
    let at : ℕ → Bool = λ x. some_extension n c.in-Some.rest.now (each_condition c.args.interp.now (conditions_of c.args.conditions.now))
    (giving start c.in-Some.first.now x) in
    let lt : c.loop-element.element < n = omega (arith, c.loop-element-test.true, c.size-element-end.ensures.size) in
    sym (ap (λ rs. some_extension n rs (each_condition c.args.interp.now (conditions_of c.args.conditions.now)) start) c.in-Some.ensures.cases.0
    ∙ some_below_passes at c.loop-element.element n lt
    (sym (at_found t (goal.at.some_extension_true-returns-then-found-clause-truth t c).After-pop) ∙ c.if-found.true))

pub some_extension_true-loop-element-preserved : goal.some_extension_true-loop-element-preserved
some_extension_true-loop-element-preserved t c =
    let n = c.args.interp.now.size in
    let start = assigned c.args.given.now.items in
    let at : ℕ → Bool = λ x. some_extension n c.in-Some.rest.now (each_condition c.args.interp.now (conditions_of c.args.conditions.now))
    (giving start c.in-Some.first.now x) in record {
      kept = popped c.loop-element.given.items c.some_extension_true.new.given.items c.pop.new.self.items (c.in-Some.first.now, c.loop-element.element) _
          (c.in_ok-found.ensures.kept ∙ c.in_ok-push.ensures.items) c.some_extension_true.new.given.ok.0 c.pop.ensures.rest ∙ c.loop-element.invariant.kept;
      so_far = some_below_more at c.loop-element.element c.loop-element.invariant.so_far
          (sym (at_found t (goal.at.some_extension_true-loop-element-preserved t c).After-pop) ∙ c.if-found.false);
    }

-- what the call tells of the referent's element
at_kept : (t : ℕ) (c : each_extension_true-After-pop t)
    → c.in_ok-kept.kept ≡ each_extension c.args.interp.now.size c.in-Some.rest.now
    (carries_over c.args.interp.now (conditions_of c.args.conditions.now) (structure_of c.args.right.now))
    (giving (assigned c.args.given.now.items) c.in-Some.first.now c.loop-element.element)
at_kept t c =
    c.in_ok-kept.ensures.truth
    ∙ after_push (λ f. each_extension c.args.interp.now.size c.in-Some.rest.now
    (carries_over c.args.interp.now (conditions_of c.args.conditions.now) (structure_of c.args.right.now)) f) c.args.given.now.items
    c.loop-element.given.items c.push.new.self.items c.in-Some.first.now c.loop-element.element c.in_ok-push.ensures.items c.loop-element.invariant.kept

pub each_extension_true-returns-then-not-kept-clause-truth : goal.each_extension_true-returns-then-not-kept-clause-truth
each_extension_true-returns-then-not-kept-clause-truth t c =
    let n = c.args.interp.now.size in
    let start = assigned c.args.given.now.items in
    let at : ℕ → Bool = λ x. each_extension n c.in-Some.rest.now
    (carries_over c.args.interp.now (conditions_of c.args.conditions.now) (structure_of c.args.right.now)) (giving start c.in-Some.first.now x) in
    let lt : c.loop-element.element < n = omega (arith, c.loop-element-test.true, c.size-element-end.ensures.size) in
    sym (ap (λ rs. each_extension n rs (carries_over c.args.interp.now (conditions_of c.args.conditions.now) (structure_of c.args.right.now)) start)
    c.in-Some.ensures.cases.0
    ∙ each_below_fails at c.loop-element.element n lt
    (sym (at_kept t (goal.at.each_extension_true-returns-then-not-kept-clause-truth t c).After-pop) ∙ c.if-not-kept.true))

pub each_extension_true-loop-element-preserved : goal.each_extension_true-loop-element-preserved
each_extension_true-loop-element-preserved t c =
    let n = c.args.interp.now.size in
    let start = assigned c.args.given.now.items in
    let at : ℕ → Bool = λ x. each_extension n c.in-Some.rest.now
    (carries_over c.args.interp.now (conditions_of c.args.conditions.now) (structure_of c.args.right.now)) (giving start c.in-Some.first.now x) in record {
      kept = popped c.loop-element.given.items c.each_extension_true.new.given.items c.pop.new.self.items (c.in-Some.first.now, c.loop-element.element) _
          (c.in_ok-kept.ensures.kept ∙ c.in_ok-push.ensures.items) c.each_extension_true.new.given.ok.0 c.pop.ensures.rest ∙ c.loop-element.invariant.kept;
      so_far = each_below_more at c.loop-element.element c.loop-element.invariant.so_far
          (sym (at_kept t (goal.at.each_extension_true-loop-element-preserved t c).After-pop) ∙ c.if-not-kept.false);
    }
