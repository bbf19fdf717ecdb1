use Rattle.std.proofs.Common.{◌≡◌, ◌+◌, ◌<◌, All, IfSome, subst}
use Rattle.plain_wiki.specs.State.{Stored}
use Rattle.wiki_parts.specs.Holding.{Holding}
use Rattle.wiki_store.proofs.AddLemmas.{next-is}
use Rattle.wiki_store.proofs.base.Base.next_number.Goals as goal

pub returns-clause-next : goal.returns-clause-next
returns-clause-next c =
    let inside : Stored = record {
      grammar = c.self.inside.grammar;
      words = c.self.inside.lexicon;
      articles = c.self.inside.articles;
    } in
    subst (λ (h : Holding). IfSome c.checked_add.result (λ next. (next ≡ h.state.words.last + 1) × All (λ article. article.word.0 < next) h.state.articles))
    c.self.view_is
    (next-is inside c.self.invariant.0.sound c.len.ensures.lexicon c.self.inside.last c.self.invariant.1 c.checked_add.result c.checked_add.ensures)
