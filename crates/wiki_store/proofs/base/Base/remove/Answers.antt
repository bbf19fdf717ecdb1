use Rattle.std.proofs.Common.{◌≡◌, ℕ, ◌+◌, ◌<◌, [], List, length, set, sym, ap, subst, ◌∙◌}
use Rattle.std.specs.List.{remove}
use Rattle.std.proofs.lemmas.Option.{slice_get_within}
use Rattle.articles.specs.declared.article.Article.{Article}
use Rattle.articles.specs.Articles.{with_change}
use Rattle.owl_eval.specs.Checked.{kept_interp, kept_claims}
use Rattle.wiki_parts.specs.declared.meanings.Sense.{Sense}
use Rattle.wiki_parts.specs.Kept.{known_around, known_in, IsAround, IsKeeping}
use Rattle.plain_wiki.specs.State.{Stored}
use Rattle.wiki_store.proofs.ChangeLemmas.{place-within, around-within, own-found, below-own, keeps_taken}
use Rattle.wiki_store.proofs.base.Base.remove.Goals as goal

pub leave-requires-clause-there : goal.leave-requires-clause-there
leave-requires-clause-there c =
    let inside : Stored = record {
      grammar = c.self.inside.grammar;
      words = c.self.inside.lexicon;
      articles = c.self.inside.articles;
    } in
    let senses = c.self.inside.senses.items in
    let word = c.in_ok-word.word in
    let place = c.place-place.result in
    let at = c.args.at in
    let around : IsAround inside.articles senses place at (at + 1) =
    around-within inside c.self.inside.budget (kept_interp c.self.inside.kept) c.args.self.now c.self.view_is senses c.self.inside.kept c.self.invariant.0
    c.as_slice.ensures.in_order word place c.place-place.ensures at
    c.in_ok-word.ensures.place in
    subst (λ (articles : List Article). IsAround articles c.deref.result.now place at (at + 1)) (sym c.as_slice.ensures.articles)
    (subst (λ (kept : List (List Sense)). IsAround inside.articles kept place at (at + 1)) (sym c.deref.ensures.value) around)

pub leave-requires-clause-known : goal.leave-requires-clause-known
leave-requires-clause-known c =
    subst (λ (articles : List Article). kept_claims c.self.inside.kept ≡ known_in articles c.deref.result.now) (sym c.as_slice.ensures.articles)
    (subst (λ (kept : List (List Sense)). kept_claims c.self.inside.kept ≡ known_in c.self.inside.articles kept) (sym c.deref.ensures.value)
    c.self.invariant.0.known)

pub index_mut-requires : goal.index_mut-requires
index_mut-requires c =
    let inside : Stored = record {
      grammar = c.self.inside.grammar;
      words = c.self.inside.lexicon;
      articles = c.self.inside.articles;
    } in
    let senses = c.self.inside.senses.items in
    let word = c.in_ok-word.word in
    let place = c.place-place.result in
    let at = c.args.at in
    let around : IsAround inside.articles senses place at (at + 1) =
    around-within inside c.self.inside.budget (kept_interp c.self.inside.kept) c.args.self.now c.self.view_is senses c.self.inside.kept c.self.invariant.0
    c.as_slice.ensures.in_order word place c.place-place.ensures at
    c.in_ok-word.ensures.place in
    subst (λ (n : ℕ). place < n) (sym c.self.inside.senses.ok.0) (slice_get_within senses place around.own around.meant)

pub remove-requires : goal.remove-requires
remove-requires c =
    let inside : Stored = record {
      grammar = c.self.inside.grammar;
      words = c.self.inside.lexicon;
      articles = c.self.inside.articles;
    } in
    let senses = c.self.inside.senses.items in
    let word = c.in_ok-word.word in
    let place = c.place-place.result in
    let at = c.args.at in
    let around : IsAround inside.articles senses place at (at + 1) =
    around-within inside c.self.inside.budget (kept_interp c.self.inside.kept) c.args.self.now c.self.view_is senses c.self.inside.kept c.self.invariant.0
    c.as_slice.ensures.in_order word place c.place-place.ensures at
    c.in_ok-word.ensures.place in
    subst (λ (own : List Sense). at < length own) (sym (own-found inside.articles senses place at around c.index_mut.result.now c.index_mut.ensures.value))
    (below-own inside.articles senses place at around)

pub invariant_of-self : goal.invariant_of-self
invariant_of-self c =
    let inside : Stored = record {
      grammar = c.self.inside.grammar;
      words = c.self.inside.lexicon;
      articles = c.self.inside.articles;
    } in
    let senses = c.self.inside.senses.items in
    let word = c.in_ok-word.word in
    let place = c.place-place.result in
    let at = c.args.at in
    let around : IsAround inside.articles senses place at (at + 1) =
    around-within inside c.self.inside.budget (kept_interp c.self.inside.kept) c.args.self.now c.self.view_is senses c.self.inside.kept c.self.invariant.0
    c.as_slice.ensures.in_order word place c.place-place.ensures at
    c.in_ok-word.ensures.place in
    let is = place-within inside c.self.inside.budget (kept_interp c.self.inside.kept) c.args.self.now c.self.view_is senses c.self.inside.kept
    c.self.invariant.0
    c.as_slice.ensures.in_order word place c.place-place.ensures in
    let claims : kept_claims c.leave.new.kept ≡ known_around inside.articles senses place at [] (at + 1) =
    c.leave.ensures.left ∙ ap (λ (articles : List Article). known_around articles c.deref.result.now place at [] (at + 1)) c.as_slice.ensures.articles
    ∙ ap (λ (kept : List (List Sense)). known_around inside.articles kept place at [] (at + 1)) c.deref.ensures.value in
    let left : c.remove.new.self ≡ remove around.own at =
    c.remove.ensures.rest ∙ ap (λ (own : List Sense). remove own at)
    (own-found inside.articles senses place at around c.index_mut.result.now c.index_mut.ensures.value) in
    let after : Stored = record inside { articles = with_change inside.articles word (λ sentences. remove sentences at) } in (
      subst (λ (articles : List Article). IsKeeping (record inside { articles = articles }) (set senses place c.remove.new.self) c.leave.new.kept)
          (sym c.take.ensures.articles)
          (subst (λ (own : List Sense). IsKeeping after (set senses place own) c.leave.new.kept) (sym left)
          (keeps_taken inside senses c.self.inside.kept c.self.invariant.0 c.as_slice.ensures.in_order word place at is around c.leave.new.kept claims)),
      c.self.invariant.1,
    )
