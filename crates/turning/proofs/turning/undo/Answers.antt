use Rattle.std.proofs.Common.{◌≡◌, refl, inl, inr, sym, ap, subst, ◌∙◌}
use Rattle.std.proofs.lemmas.Option.{same_Some}
use Rattle.articles.specs.Articles.{CanChange}
use Rattle.history.specs.declared.kept.Kept.{Kept}
use Rattle.owl_eval.specs.Checked.{kept_claims}
use Rattle.plain_wiki.specs.Knowledge.{Knows}
use Rattle.wiki_store.specs.PuttingBack.{with_sentences, IsOfArticle}
use Rattle.wiki_core.specs.Holding.{store_held}
use Rattle.wiki_core.specs.PuttingBack.{put_back}
use Rattle.turning.proofs.TurnLemmas.{has_nothing, newest_there, at_last, can_first, from_can, onto_can}
use Rattle.turning.proofs.turning.undo.Goals as goal

pub returns-in_default-clause-turn : goal.returns-in_default-clause-turn
returns-in_default-clause-turn c = (inl (has_nothing c.args.history.now.past (sym c.in_default.ensures.entry)), refl, refl, refl)

pub is_at_last_revision-requires : goal.is_at_last_revision-requires
is_at_last_revision-requires c =
    newest_there c.args.wiki.now.state.stored c.args.history.now.past c.requires.0 c.in-Some.last.now (sym c.in-Some.ensures.entry)

pub returns-then-is_at_last_revision-clause-turn : goal.returns-then-is_at_last_revision-clause-turn
returns-then-is_at_last_revision-clause-turn c =
    rw c.out_of_numbers.ensures (
      inr (at_last c.args.wiki.now c.args.history.now.past c.in-Some.last.now (sym c.in-Some.ensures.entry)
          (c.is_at_last_revision.ensures.yes c.if-is_at_last_revision.true)),
      refl,
      refl,
      refl,
    )

pub model_of-requires : goal.model_of-requires
model_of-requires c =
    can_first c.args.wiki.now c.args.wiki.now c.args.history.now.past c.args.history.now.future c.requires.0 c.requires.1 c.is_kept.ensures.stored.in_order
    c.in-Some.last.now (sym c.in-Some.ensures.entry)

pub returns-clause-fits : goal.returns-clause-fits
returns-clause-fits c =
    let old = c.args.wiki.now in
    let before = c.in-Some-undone.before in
    let same : c.in-Some.last.now ≡ before =
    same_Some c.in-Some.last.now before (c.in-Some.ensures.entry ∙ sym c.in-Some-undone.ensures.entry) in
    let can : CanChange old.state.stored.articles before.article =
    subst (λ (kept : Kept). CanChange old.state.stored.articles kept.article) same (c.is_at_last_revision.ensures.no c.if-is_at_last_revision.false) in
    let put : c.put_back-done.new.self ≡ put_back old before = c.put_back-done.ensures.done (c.put_back-done.ensures.exactly.1 can) in
    let is : IsOfArticle (store_held old) before.article c.in_ok-now.now =
    subst (λ (kept : Kept). IsOfArticle (store_held old) kept.article c.in_ok-now.now) same c.in_ok-now.ensures in
    let newest = sym c.in-Some-undone.ensures.entry in
    let ordered = c.is_kept.ensures.stored.in_order in
    rw c.in-Some-undone.ensures.history (
      from_can old c.put_back-done.new.self c.args.history.now.past c.args.history.now.future c.requires.0 c.requires.1 ordered before newest c.in_ok-now.now is
          put,
      onto_can old c.put_back-done.new.self c.args.history.now.past c.args.history.now.future c.requires.0 c.requires.1 ordered before newest c.in_ok-now.now is
          put,
    )

pub put_back-done-requires-clause-interp : goal.put_back-done-requires-clause-interp
put_back-done-requires-clause-interp c =
    let same : c.in-Some.last.now ≡ c.in-Some-undone.before =
    same_Some c.in-Some.last.now c.in-Some-undone.before (c.in-Some.ensures.entry ∙ sym c.in-Some-undone.ensures.entry) in
    c.in_ok-model.ensures.interp ∙ ap (λ (kept : Kept). kept.interp) same

pub put_back-done-requires-clause-known : goal.put_back-done-requires-clause-known
put_back-done-requires-clause-known c =
    let same : c.in-Some.last.now ≡ c.in-Some-undone.before =
    same_Some c.in-Some.last.now c.in-Some-undone.before (c.in-Some.ensures.entry ∙ sym c.in-Some-undone.ensures.entry) in
    subst (λ (kept : Kept). Knows (with_sentences c.args.wiki.now.state.stored kept.article kept.sentences) (kept_claims c.in_ok-model.model)) same
    c.in_ok-model.ensures.known

pub put_back-done-requires-clause-can : goal.put_back-done-requires-clause-can
put_back-done-requires-clause-can c =
    can_first c.args.wiki.now c.args.wiki.now c.args.history.now.past c.args.history.now.future c.requires.0 c.requires.1 c.is_kept.ensures.stored.in_order
    c.in-Some-undone.before (sym c.in-Some-undone.ensures.entry)
