use Rattle.std.proofs.Common.{◌≡◌, List, sym, subst}
use Rattle.std.specs.Prelude.{IsTrue}
use Rattle.absorb.specs.Absorbed.{IsAbsorbed}
use Rattle.absorb.specs.Mentioned.{are_over}
use Rattle.consequences.specs.Known.{theory_in}
use Rattle.logic_terms.specs.Concept.{Claim}
use Rattle.logic_terms.specs.Known.{theory_of}
use Rattle.owl_eval.specs.Checked.{kept_claims}
use Rattle.wiki_parts.specs.Holding.{Holding}
use Rattle.plain_wiki.specs.Knowledge.{live_names, Knows}
use Rattle.plain_wiki.specs.State.{Stored}
use Rattle.wiki_parts.proofs.KnownLemmas.{knows_from_known}
use Rattle.wiki_parts.proofs.MeaningLemmas.{knows_one}
use Rattle.wiki_parts.proofs.OverLemmas.{verdict_over}
use Rattle.wiki_store.proofs.base.Base.consequences.Goals as goal

pub absorb-requires : goal.absorb-requires
absorb-requires c =
    subst (λ (cs : List Claim). IsTrue (are_over c.args.names.now cs)) (sym c.axioms.ensures.part)
    (verdict_over c.self.inside.grammar c.self.inside.lexicon c.self.inside.articles c.self.inside.senses.items c.grammar.ensures.sound
    c.len.ensures.lexicon.apart c.self.invariant.0.mean
    c.args.names.now (kept_claims c.self.inside.kept) (subst (λ (h : Holding). c.args.names.now ≡ live_names h.state.words) (sym c.self.view_is) c.requires)
    c.self.invariant.0.known)

pub returns : goal.returns
returns c other knows =
    let inside : Stored = record {
      grammar = c.self.inside.grammar;
      words = c.self.inside.lexicon;
      articles = c.self.inside.articles;
    } in
    let claims : List Claim = kept_claims c.self.inside.kept in
    let known : Knows inside claims =
    subst (Knows inside) (sym c.self.invariant.0.known)
    (knows_from_known c.self.inside.grammar c.self.inside.lexicon c.self.inside.articles c.self.inside.senses.items c.self.invariant.0.mean) in
    let seen : Knows c.args.self.now.state claims = subst (λ (h : Holding). Knows h.state claims) c.self.view_is known in
    let absorbed : IsAbsorbed claims c.args.names.now (theory_in c.in_ok-known.known) =
    subst (IsAbsorbed claims c.args.names.now) (sym c.in_ok-known.ensures)
    (subst (λ (cs : List Claim). IsAbsorbed cs c.args.names.now (theory_of c.in_ok-k.k)) c.axioms.ensures.part c.in_ok-k.ensures.exact) in
    subst (λ (cs : List Claim). IsAbsorbed cs c.args.names.now (theory_in c.in_ok-known.known)) (knows_one c.args.self.now.state claims other seen knows)
    absorbed
