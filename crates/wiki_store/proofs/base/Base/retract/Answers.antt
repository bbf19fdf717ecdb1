use Rattle.std.proofs.Common.{◌≡◌, ◌+◌, [], List, true, sym, ap, subst, ◌∙◌}
use Rattle.std.specs.Option.{IsSomeAnd}
use Rattle.articles.specs.declared.article.Article.{Article}
use Rattle.articles.specs.Articles.{sentence_at}
use Rattle.owl_eval.specs.Checked.{kept_interp, kept_claims}
use Rattle.wiki_parts.specs.declared.meanings.Sense.{Sense}
use Rattle.wiki_parts.specs.Holding.{Holding}
use Rattle.wiki_parts.specs.Kept.{known_around, known_in, IsAround, IsKeeping}
use Rattle.plain_wiki.specs.Causes.{may_retract}
use Rattle.plain_wiki.specs.State.{Stored}
use Rattle.wiki_store.proofs.ChangeLemmas.{place-within, around-within, keeps_marked}
use Rattle.wiki_store.proofs.base.Base.retract.Goals as goal

pub leave-requires-clause-there : goal.leave-requires-clause-there
leave-requires-clause-there c =
    let inside : Stored = record {
      grammar = c.self.inside.grammar;
      words = c.self.inside.lexicon;
      articles = c.self.inside.articles;
    } in
    let senses = c.self.inside.senses.items in
    let word = c.in_ok-word.word in
    let place = c.place-place.result in
    let at = c.args.at in
    let around : IsAround inside.articles senses place at (at + 1) =
    around-within inside c.self.inside.budget (kept_interp c.self.inside.kept) c.args.self.now c.self.view_is senses c.self.inside.kept c.self.invariant.0
    c.as_slice.ensures.in_order word place c.place-place.ensures at
    c.in_ok-word.ensures.place in
    subst (λ (articles : List Article). IsAround articles c.deref.result.now place at (at + 1)) (sym c.as_slice.ensures.articles)
    (subst (λ (kept : List (List Sense)). IsAround inside.articles kept place at (at + 1)) (sym c.deref.ensures.value) around)

pub leave-requires-clause-known : goal.leave-requires-clause-known
leave-requires-clause-known c =
    subst (λ (articles : List Article). kept_claims c.self.inside.kept ≡ known_in articles c.deref.result.now) (sym c.as_slice.ensures.articles)
    (subst (λ (kept : List (List Sense)). kept_claims c.self.inside.kept ≡ known_in c.self.inside.articles kept) (sym c.deref.ensures.value)
    c.self.invariant.0.known)

pub invariant_of-self : goal.invariant_of-self
invariant_of-self c =
    let inside : Stored = record {
      grammar = c.self.inside.grammar;
      words = c.self.inside.lexicon;
      articles = c.self.inside.articles;
    } in
    let senses = c.self.inside.senses.items in
    let word = c.in_ok-word.word in
    let place = c.place-place.result in
    let at = c.args.at in
    let around : IsAround inside.articles senses place at (at + 1) =
    around-within inside c.self.inside.budget (kept_interp c.self.inside.kept) c.args.self.now c.self.view_is senses c.self.inside.kept c.self.invariant.0
    c.as_slice.ensures.in_order word place c.place-place.ensures at
    c.in_ok-word.ensures.place in
    let is = place-within inside c.self.inside.budget (kept_interp c.self.inside.kept) c.args.self.now c.self.view_is senses c.self.inside.kept
    c.self.invariant.0
    c.as_slice.ensures.in_order word place c.place-place.ensures in
    let claims : kept_claims c.leave.new.kept ≡ known_around inside.articles senses place at [] (at + 1) =
    c.leave.ensures.left ∙ ap (λ (articles : List Article). known_around articles c.deref.result.now place at [] (at + 1)) c.as_slice.ensures.articles
    ∙ ap (λ (kept : List (List Sense)). known_around inside.articles kept place at [] (at + 1)) c.deref.ensures.value in
    let may = subst (λ (h : Holding). IsSomeAnd (sentence_at h.state.articles word at) (λ sentence. may_retract sentence.status ≡ true)) (sym c.self.view_is)
    c.in_ok-word.ensures.may in (
      subst (λ (articles : List Article). IsKeeping (record inside { articles = articles }) senses c.leave.new.kept) (sym c.mark.ensures)
          (keeps_marked inside senses c.self.inside.kept c.self.invariant.0 c.as_slice.ensures.in_order word place at is around c.leave.new.kept claims may),
      c.self.invariant.1,
    )
