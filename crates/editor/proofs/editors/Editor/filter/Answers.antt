use Rattle.std.proofs.Common.{◌≡◌, ◌∙◌, ℕ, Bool, List, [], ◌∷◌, ◌++◌, nat_eq, sym, ap}
use Rattle.std.specs.List.{starts_with}
use Rattle.derivation_trees.specs.declared.menus.Group.{Group}
use Rattle.editor.proofs.FilterLemmas.{filter-kept, filter-left}
use Rattle.editor.proofs.editors.Editor.filter.Goals as goal
use Rattle.editor.proofs.editors.Editor.filter.Goals.{then-starts_with+in_ok-push, else-starts_with}

pub loop-place-preserved : goal.loop-place-preserved
loop-place-preserved c =
    let begins : Group × List ℕ → Bool = λ entry. starts_with nat_eq entry.1 c.args.prefix.now in
    let entry : Group × List ℕ = (c.get-group.result.0, c.get-group.result.1.now) in
    let test : c.starts_with.result ≡ starts_with nat_eq c.get-group.result.1.now c.args.prefix.now =
    c.starts_with.ensures.value ∙ ap (λ bs. starts_with nat_eq bs c.as_bytes-in-loop-place.result.now) c.as_bytes.ensures.value
    ∙ ap (starts_with nat_eq c.get-group.result.1.now) c.as_bytes-in-loop-place.ensures.value
    in
    elim c.if-starts_with.branch [
      | then-starts_with+in_ok-push w ↦
          w.kept-is ∙ w.in_ok-push.ensures.ok ∙ ap (λ (kept : List (Group × List ℕ)). kept ++ entry ∷ []) c.loop-place.invariant
          ∙ sym (filter-kept begins c.args.menu.now c.loop-place.place entry c.get-group.ensures (sym test ∙ w.if-starts_with.true))
      | else-starts_with w ↦
          w.kept-is ∙ c.loop-place.invariant
          ∙ sym (filter-left begins c.args.menu.now c.loop-place.place entry c.get-group.ensures (sym test ∙ w.if-starts_with.false))
    ]
