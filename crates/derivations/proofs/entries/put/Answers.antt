use Rattle.std.proofs.Common.{◌≡◌, ◌<◌, ◌≤◌, length, map, rules, ap, subst, sym, ◌∙◌, arith}
use Rattle.std.specs.declared.cmp.Ordering.TheVariants.{Equal}
use Rattle.derivation_trees.specs.Menus.{entry_cmp}
use Rattle.derivations.specs.Entries.{shown, IsPlaceFor}
use Rattle.derivations.proofs.EntryLemmas.{put_there, put_new, index_equal, index_differs}
use Rattle.derivations.proofs.entries.put.Goals as goal
use Rattle.derivations.proofs.entries.put.Goals.{else-place-len-via-then-place-len+else-eq, else-place-len-via-else-place-len}

pub returns-then-eq : goal.returns-then-eq
returns-then-eq c =
    let e = shown c.args.entry in
    let place : IsPlaceFor (map shown c.args.entries.now.items) e c.place_for-place.result =
    subst (λ xs. IsPlaceFor (map shown xs) e c.place_for-place.result) c.as_slice.ensures.value c.place_for-place.ensures in
    let lt : c.place_for-place.result < length c.args.entries.now.items = search rules in
    let same : c.order.result ≡ Equal = index_equal c.order.result (sym c.eq.ensures ∙ c.if-eq.true) in
    put_there c.args.entries.now.items e c.place_for-place.result c.index.result.now place lt
    (ap (λ y. entry_cmp (shown y) e) (sym c.index.ensures) ∙ sym c.order.ensures ∙ same)

pub returns : goal.returns
returns c =
    let e = shown c.args.entry in
    let place : IsPlaceFor (map shown c.args.entries.now.items) e c.place_for-place.result =
    subst (λ xs. IsPlaceFor (map shown xs) e c.place_for-place.result) c.as_slice.ensures.value c.place_for-place.ensures in
    elim c.else-place-len.branch [
      | else-place-len-via-then-place-len+else-eq w ↦
          ap (map shown) c.in_ok-insert.ensures.items
          ∙ put_new c.args.entries.now.items c.args.entry w.index.result.now c.place_for-place.result place
          (λ lt h. index_differs w.order.result (sym w.eq.ensures ∙ w.if-eq.false) (w.order.ensures ∙ ap (λ y. entry_cmp (shown y) e) w.index.ensures ∙ h))
      | else-place-len-via-else-place-len w ↦
          ap (map shown) c.in_ok-insert.ensures.items
          ∙ put_new c.args.entries.now.items c.args.entry c.args.entry c.place_for-place.result place
          (λ lt h. absurd (omega (arith, lt, w.if-place-len.false, c.len.ensures)))
    ]
