use Rattle.std.proofs.Common.{◌≡◌, ℕ, ◌<◌, ◌≤◌, ◌++◌, List, take, drop, length, refl, sym, ap, ◌∙◌, subst, not, arith}
use Rattle.std.specs.Prelude.{slice_index, slice_set}
use Rattle.std.proofs.lemmas.List.{take-append-le, take_all}
use Rattle.codeco_checked.specs.Labels.{same_kind}
use Rattle.codeco_labels.specs.Tables.{KindRows, IsWhole, Narrows, moved}
use Rattle.codeco_labels.proofs.TableLemmas.{joined_written}
use Rattle.codeco_labels.proofs.kind_table.KindTable.join.Goals as goal

-- as many items as there were, in place of those
refilled : (n : ℕ) (ws rest : List ℕ) → length ws ≡ n → ws ≡ take n (ws ++ rest)
refilled n ws rest e =
    let le : n ≤ length ws = omega arith in
    sym (take-append-le n ws rest le ∙ take_all n ws (omega arith))

pub returns : goal.returns
returns c =
    let groups = c.self.inside.groups.items in
    let t : KindRows = record { groups = groups; allowed = c.self.inside.allowed.items } in
    let rows : List ℕ → KindRows = λ gs.
    record { groups = gs; allowed = slice_set c.self.inside.allowed.items c.index-kept.result.now c.meet-allowed.result } in
    let is = c.self.view_is in
    let lent = c.deref_mut.ensures.value in
    let size : length c.move_group.new.groups ≡ length groups = c.move_group.auto.groups ∙ ap length lent in
    let moves : (x : ℕ) → x < length groups
    → slice_index c.move_group.new.groups x ≡ moved c.index-gone.result.now c.index-kept.result.now (slice_index groups x) =
    λ x lt. c.move_group.ensures x (subst (λ gs. x < length gs) (sym lent) lt)
    ∙ ap (λ gs. moved c.index-gone.result.now c.index-kept.result.now (slice_index gs x)) lent in
    let written = joined_written t (rows c.move_group.new.groups) c.args.one c.args.other c.index-kept.result.now c.index-gone.result.now c.index.result.now
    c.index-2.result.now c.meet-allowed.result c.is_nothing.result
    (subst IsWhole (sym is) c.requires.whole) (subst (λ (r : KindRows). c.args.one < length r.groups) (sym is) c.requires.one_inside)
    (subst (λ (r : KindRows). c.args.other < length r.groups) (sym is) c.requires.other_inside)
    c.index-kept.ensures c.index-gone.ensures c.index.ensures c.index-2.ensures c.meet-allowed.ensures c.is_nothing.ensures size moves refl in
    let kept = refilled c.self.inside.groups.len c.move_group.new.groups (drop (length c.move_group.new.groups) groups)
    (size ∙ sym c.self.inside.groups.ok.0) in
    subst (λ r. Narrows r (rows (take c.self.inside.groups.len (c.move_group.new.groups ++ drop (length c.move_group.new.groups) groups)))
    (not c.is_nothing.result) (λ kinds. same_kind (kinds c.args.other) (kinds c.args.one))) is
    (subst (λ gs. Narrows t (rows gs) (not c.is_nothing.result) (λ kinds. same_kind (kinds c.args.other) (kinds c.args.one))) kept written)
