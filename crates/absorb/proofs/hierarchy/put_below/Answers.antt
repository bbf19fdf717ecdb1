use Rattle.std.proofs.Common.{◌≡◌, ◌<◌, ◌≤◌, ◌+◌, [], ◌∷◌, ◌++◌, length, get_or, take, Contains, sym, ◌∙◌, subst, arith}
use Rattle.std.specs.Prelude.{◌↔◌, ◌⊎◌}
use Rattle.std.proofs.lemmas.List.{take_more, take_all}
use Rattle.logic_terms.specs.declared.expressions.Role.{Role}
use Rattle.absorb.specs.Hierarchy.{IsAtOrBelow}
use Rattle.absorb.proofs.HierarchyLemmas.{no_role, product_none, product_more, product_all}
use Rattle.absorb.proofs.hierarchy.put_below.Goals as goal

pub loop-first-init : goal.loop-first-init
loop-first-init c = record { closed = λ r s. product_none c.args.hierarchy.now.items c.in_ok-upper.upper.items r s; distinct = c.requires }

pub loop-first-preserved : goal.loop-first-preserved
loop-first-preserved c =
    let ls = c.deref-first-items.result.now in
    let k = c.loop-first.first-index in
    let us = c.in_ok-upper.upper.items in
    let before = c.args.hierarchy.now.items in
    let lt : k < length ls = c.loop-first-test.true in
    record {
      closed = subst (λ qs. (r s : Role) → IsAtOrBelow c.put_each.new.hierarchy.items r s ↔ (IsAtOrBelow before r s ⊎ (Contains qs r × Contains us s)))
          (sym (take_more ls k no_role lt))
          (product_more before c.loop-first.hierarchy.items c.put_each.new.hierarchy.items (get_or ls k no_role) (take k ls) us c.loop-first.invariant.closed
          (subst (λ qs. (r s : Role) → IsAtOrBelow c.put_each.new.hierarchy.items r s ↔
          (IsAtOrBelow c.loop-first.hierarchy.items r s ⊎ ((get_or ls k no_role ≡ r) × Contains qs s))) c.as_slice-in-loop-first.ensures.value
          c.in_ok-put_each.ensures.closed));
      distinct = c.in_ok-put_each.ensures.distinct;
    }

pub returns-clause-closed : goal.returns-clause-closed
returns-clause-closed c =
    let ls = c.in_ok-lower.lower.items in
    let us = c.in_ok-upper.upper.items in
    let before = c.args.hierarchy.now.items in
    let after = c.loop-first.hierarchy.items in
    let past : length c.deref-first-items.result.now ≤ c.loop-first.first-index = omega (arith, c.loop-first-test.false) in
    product_all before after ls us c.args.below c.args.above
    (subst (λ qs. (r : Role) → Contains ls r ↔ IsAtOrBelow qs r c.args.below) c.as_slice.ensures.value c.in_ok-lower.ensures)
    (subst (λ qs. (r : Role) → Contains us r ↔ IsAtOrBelow qs c.args.above r) c.as_slice-2.ensures.value c.in_ok-upper.ensures)
    (subst (λ qs. (r s : Role) → IsAtOrBelow after r s ↔ (IsAtOrBelow before r s ⊎ (Contains qs r × Contains us s)))
    (take_all c.loop-first.first-index c.deref-first-items.result.now past ∙ c.deref-first-items.ensures.value) c.loop-first.invariant.closed)
