use Rattle.std.proofs.Common.{◌≡◌, ◌+◌, ◌≤◌, length, subst, sym, ap, ◌∙◌, option_map, find, drop}
use Rattle.std.specs.Option.{option_or}
use Rattle.wiki_talk.specs.declared.limits.TheConstants.{MOST_SENTENCES}
use Rattle.articles.specs.declared.article.Article.{Article}
use Rattle.plain_wiki.specs.Places.{placed_in, all_placed, told_place}
use Rattle.plain_wiki.specs.Causes.{uses_word}
use Rattle.wiki_parts.proofs.UseLemmas.{place_in, found-word, find-next, first-found, second-found}
use Rattle.wiki_parts.proofs.uses.first_use.Goals as goal

pub returns-in-Some : goal.returns-in-Some
returns-in-Some c =
    let test = uses_word c.args.word c.args.forms.now in
    let articles = c.args.articles.now in
    let i = c.loop-article.article-index in
    let here = c.article-item.result in
    let told = found-word test here.word 0 here.sentences ∙ ap (option_map (λ p. place_in here.word p)) (sym c.use_in.ensures ∙ c.in-Some.is) in
    let next = find-next test articles i here c.loop-article-test.true
    ∙ ap (λ (a : Article). option_or (find test (placed_in a)) (find test (all_placed (drop (i + 1) articles)))) (sym c.article-item.is) in
    sym (ap (option_map told_place) (c.loop-article.invariant ∙ next) ∙ first-found (find test (placed_in here)) _ _ told)

pub loop-article-preserved : goal.loop-article-preserved
loop-article-preserved c =
    let test = uses_word c.args.word c.args.forms.now in
    let articles = c.args.articles.now in
    let i = c.loop-article.article-index in
    let here = c.article-item.result in
    let next = find-next test articles i here c.loop-article-test.true
    ∙ ap (λ (a : Article). option_or (find test (placed_in a)) (find test (all_placed (drop (i + 1) articles)))) (sym c.article-item.is) in
    c.loop-article.invariant ∙ next ∙ second-found (find test (placed_in here)) _ (sym c.use_in.ensures ∙ c.in-None.is)

pub use_in-requires : goal.use_in-requires
use_in-requires c =
    subst (λ (a : Article). length a.sentences ≤ MOST_SENTENCES) (sym c.article-item.is)
    (c.requires c.loop-article.article-index c.article-item.result c.loop-article-test.true)
