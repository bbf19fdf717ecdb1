use Rattle.std.proofs.Common.{◌≡◌, ◌<◌, ◌≤◌, ◌+◌, [], ◌∷◌, ◌++◌, length, get_or, take, Contains, sym, ap, ◌∙◌, subst, arith}
use Rattle.std.specs.Prelude.{◌↔◌, ◌⊎◌}
use Rattle.std.proofs.lemmas.List.{take_more, take_all}
use Rattle.std.proofs.lemmas.Bool.{iff_false}
use Rattle.logic_terms.specs.declared.expressions.Role.{Role}
use Rattle.absorb.specs.Hierarchy.{IsAtOrBelow, AreDistinct}
use Rattle.absorb.proofs.HierarchyLemmas.{no_role, put_more, put_skip, put_none, distinct_push}
use Rattle.absorb.proofs.hierarchy.put_each.Goals as goal
use Rattle.absorb.proofs.hierarchy.put_each.Goals.{then-not-is_within+in_ok-push, else-not-is_within}

pub loop-role-init : goal.loop-role-init
loop-role-init c = record { closed = λ r s. put_none c.args.hierarchy.now.items c.args.below r s; distinct = c.requires }

pub loop-role-preserved : goal.loop-role-preserved
loop-role-preserved c =
    let us = c.args.above.now in
    let k = c.loop-role.role-index in
    let u = get_or us k no_role in
    let before = c.args.hierarchy.now.items in
    let hs = c.loop-role.hierarchy.items in
    let lt : k < length us = c.loop-role-test.true in
    elim c.if-not-is_within.branch [
      | then-not-is_within+in_ok-push w ↦
          (let grown : c.if-not-is_within.hierarchy.items ≡ hs ++ (c.args.below, u) ∷ [] = ap (λ v. v.items) w.hierarchy-is ∙ w.in_ok-push.ensures.items in
          let out : ¬ IsAtOrBelow hs c.args.below u =
          subst (λ qs. ¬ IsAtOrBelow qs c.args.below u) c.as_slice.ensures.value (iff_false c.is_within.ensures w.if-not-is_within.true) in
          record {
            closed = subst (λ ps. (r s : Role)
                → IsAtOrBelow c.if-not-is_within.hierarchy.items r s ↔ (IsAtOrBelow before r s ⊎ ((c.args.below ≡ r) × Contains ps s)))
                (sym (take_more us k no_role lt))
                (subst (λ qs. (r s : Role) → IsAtOrBelow qs r s ↔ (IsAtOrBelow before r s ⊎ ((c.args.below ≡ r) × Contains (take k us ++ u ∷ []) s)))
                (sym grown)
                (put_more before hs c.args.below u (take k us) c.loop-role.invariant.closed));
            distinct = subst AreDistinct (sym grown) (distinct_push hs c.args.below u c.loop-role.invariant.distinct out);
          })
      | else-not-is_within w ↦
          (let kept : c.if-not-is_within.hierarchy.items ≡ hs = ap (λ v. v.items) w.hierarchy-is in
          let there : IsAtOrBelow hs c.args.below u =
          subst (λ qs. IsAtOrBelow qs c.args.below u) c.as_slice.ensures.value (c.is_within.ensures.0 w.if-not-is_within.false) in
          record {
            closed = subst (λ ps. (r s : Role)
                → IsAtOrBelow c.if-not-is_within.hierarchy.items r s ↔ (IsAtOrBelow before r s ⊎ ((c.args.below ≡ r) × Contains ps s)))
                (sym (take_more us k no_role lt))
                (subst (λ qs. (r s : Role) → IsAtOrBelow qs r s ↔ (IsAtOrBelow before r s ⊎ ((c.args.below ≡ r) × Contains (take k us ++ u ∷ []) s))) (sym kept)
                (put_skip before hs c.args.below u (take k us) there c.loop-role.invariant.closed));
            distinct = subst AreDistinct (sym kept) c.loop-role.invariant.distinct;
          })
    ]

pub returns-clause-closed : goal.returns-clause-closed
returns-clause-closed c =
    let us = c.args.above.now in
    let past : length us ≤ c.loop-role.role-index = omega (arith, c.loop-role-test.false) in
    subst (λ ps. (r s : Role) → IsAtOrBelow c.loop-role.hierarchy.items r s ↔
    (IsAtOrBelow c.args.hierarchy.now.items r s ⊎ ((c.args.below ≡ r) × Contains ps s))) (take_all c.loop-role.role-index us past)
    c.loop-role.invariant.closed
