use Rattle.std.proofs.Common.{◌≡◌, List, refl, sym, ap, subst, ◌∙◌}
use Rattle.wiki_base.proofs.OptionLaws.{OnErr_any}
use Rattle.logic_terms.specs.Concept.{Claim}
use Rattle.logic_terms.specs.Interpretation.{Interpretation}
use Rattle.logic_terms.specs.Reading.{IsModel}
use Rattle.owl_eval.specs.Checked.{kept_interp, kept_claims}
use Rattle.wiki_talk.specs.declared.statuses.Status.TheVariants.{Asserted}
use Rattle.plain_wiki.specs.State.{Stored}
use Rattle.wiki_parts.specs.Holding.{Holding}
use Rattle.wiki_parts.specs.Found.{meaning_shown}
use Rattle.wiki_parts.specs.Kept.{stated_by, known_around}
use Rattle.wiki_store.specs.Settled.{IsTrueIn}
use Rattle.wiki_store.proofs.JoiningLemmas.{settled-states, not-red}
use Rattle.wiki_store.proofs.PutLemmas.{making, around_there, known_there, own_there, settled-there, keeps-undone, keeps-made, is-made, seen}
use Rattle.wiki_store.proofs.base.Base.put_true.Goals as goal

pub join-requires-clause-there : goal.join-requires-clause-there
join-requires-clause-there c =
    let m = making c.self.view_is c.self.invariant.0 c.requires.can c.as_slice.ensures.in_order c.as_slice.ensures.articles c.deref.ensures.value
    c.place-place.ensures in
    around_there m

pub join-requires-clause-known : goal.join-requires-clause-known
join-requires-clause-known c =
    let m = making c.self.view_is c.self.invariant.0 c.requires.can c.as_slice.ensures.in_order c.as_slice.ensures.articles c.deref.ensures.value
    c.place-place.ensures in
    known_there m

pub join-requires-clause-model : goal.join-requires-clause-model
join-requires-clause-model c =
    subst (λ (cs : List Claim). IsModel (kept_interp c.self.inside.kept) cs) (sym c.in_ok-own.ensures)
    (settled-states (kept_interp c.self.inside.kept) (meaning_shown c.args.change.sense)
    (subst (λ (h : Holding). IsTrueIn h.interpretation (meaning_shown c.args.change.sense)) (sym c.self.view_is) c.requires.settled))

pub invariant_of-self : goal.invariant_of-self
invariant_of-self c =
    let m = making c.self.view_is c.self.invariant.0 c.requires.can c.as_slice.ensures.in_order c.as_slice.ensures.articles c.deref.ensures.value
    c.place-place.ensures in
    (keeps-undone m c.self.inside.articles c.self.inside.senses.items c.join.new.kept refl refl c.in_err-joined.ensures.memory, c.self.invariant.1)

pub returns-in_err-joined-clause-memory : goal.returns-in_err-joined-clause-memory
returns-in_err-joined-clause-memory c =
    let inside : Stored = record {
      grammar = c.self.inside.grammar;
      words = c.self.inside.lexicon;
      articles = c.self.inside.articles;
    } in
    let after : Holding = record { state = inside; budget = c.self.inside.budget; interpretation = kept_interp c.join.new.kept } in
    OnErr_any {P = after ≡ c.args.self.now} c.from_residual-in_err-joined.result
    (ap (λ (i : Interpretation). record { state = inside; budget = c.self.inside.budget; interpretation = i }) c.join.ensures.interp ∙ c.self.view_is)

pub store-requires-clause-open : goal.store-requires-clause-open
store-requires-clause-open c =
    let m = making c.self.view_is c.self.invariant.0 c.requires.can c.as_slice.ensures.in_order c.as_slice.ensures.articles c.deref.ensures.value
    c.place-place.ensures in
    m.can.changes

pub store-requires-clause-in_order : goal.store-requires-clause-in_order
store-requires-clause-in_order c =
    let m = making c.self.view_is c.self.invariant.0 c.requires.can c.as_slice.ensures.in_order c.as_slice.ensures.articles c.deref.ensures.value
    c.place-place.ensures in
    m.ordered

pub store-requires-clause-place : goal.store-requires-clause-place
store-requires-clause-place c =
    let m = making c.self.view_is c.self.invariant.0 c.requires.can c.as_slice.ensures.in_order c.as_slice.ensures.articles c.deref.ensures.value
    c.place-place.ensures in
    m.can.place

pub store-requires-clause-own : goal.store-requires-clause-own
store-requires-clause-own c =
    let m = making c.self.view_is c.self.invariant.0 c.requires.can c.as_slice.ensures.in_order c.as_slice.ensures.articles c.deref.ensures.value
    c.place-place.ensures in
    own_there m

pub invariant_of-self-in-Ok : goal.invariant_of-self-in-Ok
invariant_of-self-in-Ok c =
    let m = making c.self.view_is c.self.invariant.0 c.requires.can c.as_slice.ensures.in_order c.as_slice.ensures.articles c.deref.ensures.value
    c.place-place.ensures in
    let claims : kept_claims c.remove.new.self
    ≡ known_around c.as_slice.result.now c.deref.result.now c.place-place.result c.args.change.from (stated_by (meaning_shown c.args.change.sense))
    c.args.change.to =
    c.remove.ensures.axioms ∙ c.in_ok-joined.ensures.joined.settled
    ∙ ap (λ (cs : List Claim). known_around c.as_slice.result.now c.deref.result.now c.place-place.result c.args.change.from cs c.args.change.to)
    c.in_ok-own.ensures in
    let stands = settled-there m (kept_interp c.self.inside.kept) c.remove.new.self
    (subst (λ (h : Holding). IsTrueIn h.interpretation (meaning_shown c.args.change.sense)) (sym c.self.view_is) c.requires.settled) claims
    c.remove.ensures.finite in (
      keeps-made m Asserted stands c.store.new.articles c.store.new.senses.items c.remove.new.self c.in-Ok.ensures.articles c.in-Ok.ensures.senses claims,
      c.self.invariant.1,
    )

pub returns-in-Ok-clause-made : goal.returns-in-Ok-clause-made
returns-in-Ok-clause-made c =
    let m = making c.self.view_is c.self.invariant.0 c.requires.can c.as_slice.ensures.in_order c.as_slice.ensures.articles c.deref.ensures.value
    c.place-place.ensures in
    let claims : kept_claims c.remove.new.self
    ≡ known_around c.as_slice.result.now c.deref.result.now c.place-place.result c.args.change.from (stated_by (meaning_shown c.args.change.sense))
    c.args.change.to =
    c.remove.ensures.axioms ∙ c.in_ok-joined.ensures.joined.settled
    ∙ ap (λ (cs : List Claim). known_around c.as_slice.result.now c.deref.result.now c.place-place.result c.args.change.from cs c.args.change.to)
    c.in_ok-own.ensures in
    let stands = settled-there m (kept_interp c.self.inside.kept) c.remove.new.self
    (subst (λ (h : Holding). IsTrueIn h.interpretation (meaning_shown c.args.change.sense)) (sym c.self.view_is) c.requires.settled) claims
    c.remove.ensures.finite in
    seen c.self.view_is
    (is-made m Asserted stands c.store.new.articles (kept_interp c.self.inside.kept) (kept_interp c.remove.new.self) c.in-Ok.ensures.articles
    (λ red. absurd (not-red red)))

pub invariant_of-self-in-Err : goal.invariant_of-self-in-Err
invariant_of-self-in-Err c =
    let m = making c.self.view_is c.self.invariant.0 c.requires.can c.as_slice.ensures.in_order c.as_slice.ensures.articles c.deref.ensures.value
    c.place-place.ensures in (
      keeps-undone m c.store.new.articles c.store.new.senses.items c.remove-in-Err.new.self c.in-Err.ensures.articles_stay c.in-Err.ensures.senses_stay
          (c.remove-in-Err.ensures.axioms ∙ c.in_ok-joined.ensures.joined.undone),
      c.self.invariant.1,
    )
