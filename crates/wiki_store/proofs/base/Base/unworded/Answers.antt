use Rattle.std.proofs.Common.{◌<◌, List, length, sym, ap, subst, ◌∙◌, arith}
use Rattle.lexicon.specs.Words.{Listed, forms_of}
use Rattle.articles.specs.declared.article.Article.{Article}
use Rattle.articles.specs.Articles.{IsEmptyArticle, without_article}
use Rattle.articles.specs.Places.{IsPlaceOf}
use Rattle.wiki_parts.specs.declared.meanings.Sense.{Sense}
use Rattle.wiki_parts.specs.Holding.{Holding}
use Rattle.wiki_parts.specs.Kept.{IsKeeping}
use Rattle.plain_wiki.specs.State.{Stored}
use Rattle.wiki_parts.specs.Sound.{IsSound}
use Rattle.wiki_store.specs.Rewording.{IsGone}
use Rattle.wiki_store.proofs.KeepingLemmas.{as_many_lists}
use Rattle.wiki_store.proofs.RewordLemmas.{lives_by, has_article}
use Rattle.wiki_store.proofs.UnwordLemmas.{empty-article}
use Rattle.wiki_store.proofs.WordKeeping.{keeps_without}
use Rattle.wiki_store.proofs.base.Base.unworded.Goals as goal

pub place-place-requires : goal.place-place-requires
place-place-requires c =
    let state = c.args.self.now.state in
    let sound : IsSound state = subst (λ (h : Holding). IsSound h.state) c.self.view_is c.self.invariant.0.sound in
    has_article state sound c.args.word (lives_by (forms_of state.words.live c.args.word) c.requires.forms c.requires.of_word)

pub remove-requires : goal.remove-requires
remove-requires c =
    let inside : Stored = record {
      grammar = c.self.inside.grammar;
      words = c.self.inside.lexicon;
      articles = c.self.inside.articles;
    } in
    let many = as_many_lists inside.grammar inside.words inside.articles c.self.inside.senses.items c.self.invariant.0.mean in
    let there : c.place-place.result < length inside.articles =
    subst (λ (h : Holding). c.place-place.result < length h.state.articles) (sym c.self.view_is) c.place-place.ensures.in_range in
    omega (arith, many, there, c.self.inside.senses.ok.0)

pub end-requires : goal.end-requires
end-requires c =
    let state = c.args.self.now.state in
    let sound : IsSound state = subst (λ (h : Holding). IsSound h.state) c.self.view_is c.self.invariant.0.sound in
    let lives = lives_by (forms_of state.words.live c.args.word) c.requires.forms c.requires.of_word in
    subst (λ (h : Holding). IsEmptyArticle h.state.articles c.args.word) (sym c.self.view_is)
    (empty-article state sound c.args.word c.requires.forms lives c.requires.unused)

pub invariant_of-self : goal.invariant_of-self
invariant_of-self c =
    let inside : Stored = record {
      grammar = c.self.inside.grammar;
      words = c.self.inside.lexicon;
      articles = c.self.inside.articles;
    } in
    let gone : IsGone inside c.args.word c.args.lexicon = subst (λ (h : Holding). IsGone h.state c.args.word c.args.lexicon) (sym c.self.view_is) c.requires in
    let is : IsPlaceOf inside.articles c.args.word c.place-place.result =
    subst (λ (h : Holding). IsPlaceOf h.state.articles c.args.word c.place-place.result) (sym c.self.view_is) c.place-place.ensures in
    let keeps = keeps_without inside c.self.inside.senses.items c.self.inside.kept c.args.word c.place-place.result c.args.lexicon c.self.invariant.0
    c.len-2.ensures.in_order c.len.ensures.lexicon gone is in (
      subst (λ (xs : List Article). IsKeeping (record inside { words = c.args.lexicon; articles = xs }) c.remove.new.self.items c.self.inside.kept)
          (sym c.end.ensures)
          (subst (λ (ms : List (List Sense)). IsKeeping (record inside { words = c.args.lexicon; articles = without_article inside.articles c.args.word }) ms
          c.self.inside.kept) (sym c.remove.ensures.items) keeps),
      c.self.invariant.1 ∙ sym (ap (λ (ws : Listed). ws.last) gone.words),
    )
