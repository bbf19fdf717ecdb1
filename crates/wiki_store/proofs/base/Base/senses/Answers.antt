use Rattle.std.proofs.Common.{List, sym, subst}
use Rattle.wiki_parts.specs.declared.meanings.Sense.{Sense}
use Rattle.wiki_parts.specs.Holding.{Holding}
use Rattle.wiki_parts.specs.Kept.{MeanInEach}
use Rattle.wiki_store.proofs.base.Base.senses.Goals as goal

pub returns : goal.returns
returns c =
    subst (λ (h : Holding). MeanInEach h.state.grammar h.state.words h.state.articles c.as_slice.result.now) c.self.view_is
    (subst (λ (senses : List (List Sense)). MeanInEach c.self.inside.grammar c.self.inside.lexicon c.self.inside.articles senses)
    (sym c.as_slice.ensures.value) c.self.invariant.0.mean)
