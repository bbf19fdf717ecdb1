use Rattle.std.proofs.Common.{◌≡◌, ◌++◌, [], ◌∷◌, take, rules, sym, ap, ◌∙◌}
use Rattle.wiki_base.proofs.ListLaws.{take_slice_get}
use Rattle.scopes.proofs.access.Access.is_same.Goals as goal

pub loop-place-preserved : goal.loop-place-preserved
loop-place-preserved c =
    let place = c.loop-place.place in
    let same : c.get.result.now ≡ c.get-in-loop-place.result.now = c.if-not-same_entry.ensures.0 (search rules) in
    take_slice_get c.args.self.now place c.get.result.now c.get.ensures
    ∙ ap (λ xs. xs ++ c.get.result.now ∷ []) c.loop-place.invariant ∙ ap (λ x. take place c.args.other.now ++ x ∷ []) same
    ∙ sym (take_slice_get c.args.other.now place c.get-in-loop-place.result.now c.get-in-loop-place.ensures)
