use Rattle.std.proofs.Common.{◌≡◌, ◌<◌, ◌≤◌, ◌+◌, [], ◌∷◌, ◌++◌, length, get_or, take, Contains, sym, ap, ◌∙◌, subst, arith}
use Rattle.std.specs.Prelude.{◌↔◌}
use Rattle.std.proofs.lemmas.List.{take_more, take_all}
use Rattle.std.proofs.lemmas.Bool.{iff_false}
use Rattle.logic_terms.specs.declared.expressions.Role.{Role}
use Rattle.absorb.specs.Hierarchy.{IsAtOrBelow}
use Rattle.absorb.proofs.HierarchyLemmas.{no_pair, itself_upper, upper_more, upper_skip}
use Rattle.absorb.proofs.hierarchy.upper.Goals as goal
use Rattle.absorb.proofs.hierarchy.upper.Goals.{then-is_same+in_ok-push-2, else-is_same}

pub loop-pair-init : goal.loop-pair-init
loop-pair-init c r =
    subst (λ ms. Contains ms r ↔ IsAtOrBelow [] c.args.role r) (sym (c.in_ok-push.ensures.items ∙ ap (λ ms. ms ++ c.args.role ∷ []) c.new-made.ensures.items))
    (itself_upper c.args.role r)

pub loop-pair-preserved : goal.loop-pair-preserved
loop-pair-preserved c =
    let hs = c.args.hierarchy.now in
    let k = c.loop-pair.pair-index in
    let lt : k < length hs = c.loop-pair-test.true in
    subst (λ qs. (r : Role) → Contains c.if-is_same.made.items r ↔ IsAtOrBelow qs c.args.role r) (sym (take_more hs k no_pair lt))
    (elim c.if-is_same.branch [
      | then-is_same+in_ok-push-2 w ↦
          (let grown : c.if-is_same.made.items ≡ c.loop-pair.made.items ++ (get_or hs k no_pair).1 ∷ [] =
          ap (λ v. v.items) w.made-is ∙ w.in_ok-push-2.ensures.items in
          subst (λ ms. (r : Role) → Contains ms r ↔ IsAtOrBelow (take k hs ++ get_or hs k no_pair ∷ []) c.args.role r) (sym grown)
          (upper_more (take k hs) c.loop-pair.made.items (get_or hs k no_pair) c.args.role (c.is_same.ensures.0 w.if-is_same.true) c.loop-pair.invariant))
      | else-is_same w ↦
          (let kept : c.if-is_same.made.items ≡ c.loop-pair.made.items = ap (λ v. v.items) w.made-is in
          subst (λ ms. (r : Role) → Contains ms r ↔ IsAtOrBelow (take k hs ++ get_or hs k no_pair ∷ []) c.args.role r) (sym kept)
          (upper_skip (take k hs) c.loop-pair.made.items (get_or hs k no_pair) c.args.role (iff_false c.is_same.ensures w.if-is_same.false)
          c.loop-pair.invariant))
    ])

pub returns : goal.returns
returns c =
    let hs = c.args.hierarchy.now in
    let past : length hs ≤ c.loop-pair.pair-index = omega (arith, c.loop-pair-test.false) in
    subst (λ qs. (r : Role) → Contains c.loop-pair.made.items r ↔ IsAtOrBelow qs c.args.role r) (take_all c.loop-pair.pair-index hs past) c.loop-pair.invariant
