use Rattle.std.proofs.Common.{◌≡◌, List, sym, subst}
use Rattle.std.specs.Prelude.{All, IfOk}
use Rattle.std.proofs.lemmas.Option.{IfSome_then}
use Rattle.logic_terms.specs.Concept.{Claim}
use Rattle.logic_terms.specs.Interpretation.{element_of}
use Rattle.logic_terms.specs.Reading.{IsIn}
use Rattle.logic_terms.specs.Shown.{concept_of}
use Rattle.owl_eval.specs.declared.checked.CheckedModel.{CheckedModel}
use Rattle.owl_eval.specs.Checked.{kept_claims, kept_interp}
use Rattle.wiki_parts.specs.Holding.{Holding}
use Rattle.wiki_parts.specs.Spending.{IsCutOff}
use Rattle.plain_wiki.specs.Knowledge.{Answer, live_names, Knows}
use Rattle.plain_wiki.specs.Meanings.{asking, Means}
use Rattle.plain_wiki.specs.State.{Stored}
use Rattle.wiki_parts.proofs.KnownLemmas.{knows_from_known}
use Rattle.wiki_parts.proofs.OverLemmas.{answers_over, answers_plain}
use Rattle.wiki_store.proofs.ReadLemmas.{are-answers}
use Rattle.wiki_store.proofs.base.Base.answers_to.Goals as goal

pub answers_of-requires-clause-over : goal.answers_of-requires-clause-over
answers_of-requires-clause-over c =
    rw c.model.ensures
    (answers_over c.self.inside.grammar c.self.inside.lexicon c.self.inside.articles c.self.inside.senses.items c.grammar.ensures.sound
    c.len.ensures.lexicon.apart c.self.invariant.0.mean
    c.args.names.now (kept_claims c.self.inside.kept)
    (subst (λ (h : Holding). c.args.names.now ≡ live_names h.state.words) (sym c.self.view_is) c.requires.names) c.self.invariant.0.known
    c.args.sentence.now.tokens (concept_of c.args.class.now)
    (subst (λ (h : Holding). Means h.state.grammar h.state.words c.args.sentence.now.tokens (asking (concept_of c.args.class.now))) (sym c.self.view_is)
    c.requires.means))

pub answers_of-requires-clause-plain : goal.answers_of-requires-clause-plain
answers_of-requires-clause-plain c =
    rw c.model.ensures
    (answers_plain c.self.inside.grammar c.self.inside.lexicon c.self.inside.articles c.self.inside.senses.items c.grammar.ensures.sound
    c.len.ensures.lexicon.apart c.self.invariant.0.mean
    c.args.names.now (kept_claims c.self.inside.kept)
    (subst (λ (h : Holding). c.args.names.now ≡ live_names h.state.words) (sym c.self.view_is) c.requires.names) c.self.invariant.0.known
    c.args.sentence.now.tokens (concept_of c.args.class.now)
    (subst (λ (h : Holding). Means h.state.grammar h.state.words c.args.sentence.now.tokens (asking (concept_of c.args.class.now))) (sym c.self.view_is)
    c.requires.means))

pub answers_of-requires-clause-absorbed : goal.answers_of-requires-clause-absorbed
answers_of-requires-clause-absorbed c =
    let inside : Stored = record {
      grammar = c.self.inside.grammar;
      words = c.self.inside.lexicon;
      articles = c.self.inside.articles;
    } in
    let claims : List Claim = kept_claims c.self.inside.kept in
    let known : Knows inside claims =
    subst (Knows inside) (sym c.self.invariant.0.known)
    (knows_from_known c.self.inside.grammar c.self.inside.lexicon c.self.inside.articles c.self.inside.senses.items c.self.invariant.0.mean) in
    rw c.model.ensures
    (IfSome_then c.args.known.now c.requires.absorbed (λ k absorbs. absorbs claims (subst (λ (h : Holding). Knows h.state claims) c.self.view_is known)))

pub returns : goal.returns
returns c =
    let inside : Stored = record {
      grammar = c.self.inside.grammar;
      words = c.self.inside.lexicon;
      articles = c.self.inside.articles;
    } in
    let claims : List Claim = kept_claims c.self.inside.kept in
    let known : Knows inside claims =
    subst (Knows inside) (sym c.self.invariant.0.known)
    (knows_from_known c.self.inside.grammar c.self.inside.lexicon c.self.inside.articles c.self.inside.senses.items c.self.invariant.0.mean) in
    are-answers (record { state = inside; budget = c.self.inside.budget; interpretation = kept_interp c.self.inside.kept }) c.args.self.now c.self.view_is
    claims known c.args.names.now
    c.requires.names (concept_of c.args.class.now) c.answers_of.result
    (subst
    (λ (kept : CheckedModel). IfOk c.answers_of.result
    (λ a. Answer (kept_claims kept) c.args.names.now (IsCutOff c.self.inside.budget) (concept_of c.args.class.now) a.yes a.unknown))
    c.model.ensures
    c.answers_of.ensures.answer)
    (subst
    (λ (kept : CheckedModel). IfOk c.answers_of.result
    (λ a. All (λ n. IsIn (kept_interp kept) (concept_of c.args.class.now) (element_of (kept_interp kept) n)) a.unknown))
    c.model.ensures
    c.answers_of.ensures.kept_has_unknown)
