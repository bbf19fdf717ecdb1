use Rattle.std.proofs.Common.{sym, subst, ◌∙◌}
use Rattle.wiki_parts.specs.Holding.{Holding}
use Rattle.plain_wiki.specs.State.{Stored}
use Rattle.wiki_store.specs.Rewording.{KeepsSentences}
use Rattle.wiki_store.proofs.WordKeeping.{keeps_regrounded}
use Rattle.wiki_store.proofs.base.Base.regrounded.Goals as goal

pub invariant_of-self : goal.invariant_of-self
invariant_of-self c =
    let inside : Stored = record {
      grammar = c.self.inside.grammar;
      words = c.self.inside.lexicon;
      articles = c.self.inside.articles;
    } in
    let keeps : KeepsSentences inside c.args.grammar c.args.lexicon =
    subst (λ (h : Holding). KeepsSentences h.state c.args.grammar c.args.lexicon) (sym c.self.view_is) c.requires.keeps in (
      keeps_regrounded inside c.self.inside.senses.items c.self.inside.kept c.args.grammar c.args.lexicon c.self.invariant.0 c.requires.labelled keeps,
      c.self.invariant.1 ∙ sym keeps.last,
    )
