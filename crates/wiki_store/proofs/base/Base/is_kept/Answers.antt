use Rattle.std.proofs.Common.{subst}
use Rattle.logic_terms.specs.Interpretation.{Interpretation}
use Rattle.owl_eval.specs.Checked.{kept_claims}
use Rattle.reasoner.specs.Verdicts.{IsFiniteModel}
use Rattle.plain_wiki.specs.State.{Stored}
use Rattle.wiki_parts.specs.Holding.{IsKept}
use Rattle.wiki_store.proofs.KeepingLemmas.{is_kept}
use Rattle.wiki_store.proofs.base.Base.is_kept.Goals as goal

pub returns : goal.returns
returns c =
    let inside : Stored = record {
      grammar = c.self.inside.grammar;
      words = c.self.inside.lexicon;
      articles = c.self.inside.articles;
    } in
    let finite = subst (λ (i : Interpretation). IsFiniteModel i (kept_claims c.self.inside.kept)) c.interp.ensures.part
    (c.interp.ensures.sound, c.interp.ensures.model) in
    subst IsKept c.self.view_is (is_kept inside c.self.inside.budget c.self.inside.senses.items c.self.inside.kept
    (λ tokens. c.is_faithful.ensures inside.words tokens)
    c.self.invariant.0 c.len.ensures.in_order finite)
