use Rattle.std.proofs.Common.{Some, Ok, Err, rules, ap, sym, ◌∙◌}
use Rattle.std.proofs.lemmas.List.Sorted.{answers_always}
use Rattle.owl_eval.proofs.Lookups.{searched}
use Rattle.owl_eval.proofs.interp.extent_in.Goals as goal

-- the closure gives an entry's word, and the words rise
pub returns-in-Ok : goal.returns-in-Ok
returns-in-Ok c =
    let by_key = c.in-Ok.ensures.position (λ e. e.0.0) (answers_always _ _ _ (λ f a r g called. search rules)) in
    ap (λ e. Some e.1) c.index-extents-place.is
    ∙ sym (searched c.args.extents.now c.requires c.args.word (Ok c.in-Ok.place) c.in-Ok.ensures.bound by_key c.index-extents-place.result)

pub returns-in-Err : goal.returns-in-Err
returns-in-Err c =
    let by_key = c.in-Err.ensures.position (λ e. e.0.0) (answers_always _ _ _ (λ f a r g called. search rules)) in
    sym (searched c.args.extents.now c.requires c.args.word (Err c.in-Err.field-0) c.in-Err.ensures.bound by_key)
