use Rattle.std.proofs.Common.{◌≡◌, ◌<◌, ◌≤◌, ◌+◌, [], ◌∷◌, ◌++◌, length, get_or, take, sym, ◌∙◌, subst, arith}
use Rattle.std.specs.Prelude.{◌↔◌, ◌⊎◌}
use Rattle.std.proofs.lemmas.List.{take_more, take_all}
use Rattle.logic_terms.specs.declared.expressions.Role.{Role}
use Rattle.absorb.specs.Hierarchy.{IsAtOrBelow}
use Rattle.absorb.specs.Absorbed.{IsPutBelow}
use Rattle.absorb.specs.Closure.{Reaches}
use Rattle.absorb.proofs.HierarchyLemmas.{no_pair, closed_more}
use Rattle.absorb.proofs.hierarchy.hierarchy.Goals as goal

pub loop-inclusion-preserved : goal.loop-inclusion-preserved
loop-inclusion-preserved c =
    let ps = c.args.inclusions.now in
    let k = c.loop-inclusion.inclusion-index in
    let p = get_or ps k no_pair in
    let lt : k < length ps = c.loop-inclusion-test.true in
    let hs = c.loop-inclusion.made.items in
    let mid = c.put_below.new.hierarchy.items in
    let end = c.put_below-in-loop-inclusion.new.hierarchy.items in
    record {
      closed = subst (λ qs. (r s : Role) → IsAtOrBelow end r s ↔ Reaches (IsPutBelow qs) r s) (sym (take_more ps k no_pair lt))
          (closed_more (take k ps) hs mid end p c.inverse.result c.inverse-in-loop-inclusion.result c.inverse.ensures c.inverse-in-loop-inclusion.ensures
          c.loop-inclusion.invariant.closed c.in_ok-put_below.ensures.closed c.in_ok-put_below-2.ensures.closed);
      distinct = c.in_ok-put_below-2.ensures.distinct;
    }

pub returns-clause-closed : goal.returns-clause-closed
returns-clause-closed c =
    let ps = c.args.inclusions.now in
    let past : length ps ≤ c.loop-inclusion.inclusion-index = omega (arith, c.loop-inclusion-test.false) in
    subst (λ qs. (r s : Role) → IsAtOrBelow c.loop-inclusion.made.items r s ↔ Reaches (IsPutBelow qs) r s) (take_all c.loop-inclusion.inclusion-index ps past)
    c.loop-inclusion.invariant.closed
