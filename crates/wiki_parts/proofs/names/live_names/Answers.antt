use Rattle.std.proofs.Common.{◌≡◌, ◌+◌, ◌<◌, Bool, true, false, cond, List, [], ◌∷◌, ◌++◌, All, take, append-nil, sym, ap, subst, ◌∙◌}
use Rattle.wiki_base.specs.declared.numbers.WordId.{WordId}
use Rattle.plain_wiki.specs.Knowledge.{is_name}
use Rattle.wiki_parts.proofs.NameLemmas.{names_among, names_more, names_below}
use Rattle.wiki_parts.proofs.names.live_names.Goals as goal
use Rattle.wiki_parts.proofs.names.live_names.Goals.{then-is_name+in_ok-push, else-is_name}

pub push-requires : goal.push-requires
push-requires c =
    subst (λ (ns : List WordId). All (λ n. n.0 < c.get-word.result.now.id.0) ns) (sym c.loop-place.invariant)
    (names_below c.args.lexicon.now.live c.loop-place.place c.get-word.result.now c.len-place-end.ensures.lexicon.in_order c.get-word.ensures)

pub loop-place-preserved : goal.loop-place-preserved
loop-place-preserved c =
    let live = c.args.lexicon.now.live in
    let i = c.loop-place.place in
    let word = c.get-word.result.now in
    let more : (b : Bool) → is_name word.forms.kind ≡ b → names_among (take i live) ++ cond b (word.id ∷ []) [] ≡ names_among (take (i + 1) live) =
    λ b e. sym (names_more live i word c.get-word.ensures ∙ ap (λ x. names_among (take i live) ++ cond x (word.id ∷ []) []) e) in
    elim c.if-is_name.branch [
      | then-is_name+in_ok-push w ↦
          w.names-is ∙ w.in_ok-push.ensures.ok ∙ ap (λ (ns : List WordId). ns ++ word.id ∷ []) c.loop-place.invariant
          ∙ more true (sym c.is_name.ensures ∙ w.if-is_name.true)
      | else-is_name w ↦
          w.names-is ∙ c.loop-place.invariant ∙ sym (append-nil (names_among (take i live))) ∙ more false (sym c.is_name.ensures ∙ w.if-is_name.false)
    ]
