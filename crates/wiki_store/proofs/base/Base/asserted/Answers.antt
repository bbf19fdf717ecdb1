use Rattle.std.proofs.Common.{List, sym, subst}
use Rattle.logic_terms.specs.Concept.{Claim}
use Rattle.owl_eval.specs.Checked.{kept_claims}
use Rattle.plain_wiki.specs.State.{Stored}
use Rattle.wiki_parts.specs.Holding.{Holding}
use Rattle.plain_wiki.specs.Knowledge.{Knows}
use Rattle.wiki_parts.proofs.KnownLemmas.{knows_from_known}
use Rattle.wiki_store.proofs.base.Base.asserted.Goals as goal

pub returns : goal.returns
returns c =
    let inside : Stored = record {
      grammar = c.self.inside.grammar;
      words = c.self.inside.lexicon;
      articles = c.self.inside.articles;
    } in
    let claims : List Claim = kept_claims c.self.inside.kept in
    let known : Knows inside claims =
    subst (Knows inside) (sym c.self.invariant.0.known)
    (knows_from_known c.self.inside.grammar c.self.inside.lexicon c.self.inside.articles c.self.inside.senses.items c.self.invariant.0.mean) in
    subst (λ (cs : List Claim). Knows c.args.self.now.state cs) (sym c.axioms.ensures.part)
    (subst (λ (h : Holding). Knows h.state claims) c.self.view_is known)
