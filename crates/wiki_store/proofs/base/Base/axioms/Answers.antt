use Rattle.std.proofs.Common.{ℕ, List, sym, subst}
use Rattle.derivation_trees.specs.Sentences.{IsSentence}
use Rattle.wiki_parts.specs.Holding.{Holding}
use Rattle.wiki_store.proofs.KeepingLemmas.{has_derivation}
use Rattle.wiki_store.proofs.base.Base.axioms.Goals as goal

pub sense_of-requires-clause-few : goal.sense_of-requires-clause-few
sense_of-requires-clause-few c = rw c.get.ensures c.in_ok-sentence.ensures.stored.few

pub unreachable-requires : goal.unreachable-requires
unreachable-requires c =
    let sentence = c.in_ok-sentence.sentence.now in
    let none = rw c.in-None.is at c.in_ok-sense.ensures.means in
    none (subst (λ (ts : List (List ℕ)). IsSentence c.self.inside.grammar c.self.inside.lexicon ts) (sym c.get.ensures)
    (subst (λ (h : Holding). IsSentence h.state.grammar h.state.words sentence.tokens) (sym c.self.view_is)
    (has_derivation c.args.self.now.state sentence c.in_ok-sentence.ensures.stored)))
