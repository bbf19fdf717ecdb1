use Rattle.std.proofs.Common.{ap, ◌∙◌, refl}
use Rattle.owl_eval.specs.Checked.{kept_interp, kept_claims}
use Rattle.wiki_store.proofs.PutLemmas.{making, around_there, known_there, over_there, plain_there, own_there, keeps-undone, keeps-made, is-made, seen}
use Rattle.wiki_store.proofs.base.Base.put_judged.Goals as goal

pub standing-requires-clause-there : goal.standing-requires-clause-there
standing-requires-clause-there c =
    let m = making c.self.view_is c.self.invariant.0 c.requires.can c.as_slice.ensures.in_order c.as_slice.ensures.articles c.deref.ensures.value
    c.place-place.ensures in
    around_there m

pub standing-requires-clause-known : goal.standing-requires-clause-known
standing-requires-clause-known c =
    let m = making c.self.view_is c.self.invariant.0 c.requires.can c.as_slice.ensures.in_order c.as_slice.ensures.articles c.deref.ensures.value
    c.place-place.ensures in
    known_there m

pub standing-requires-clause-over : goal.standing-requires-clause-over
standing-requires-clause-over c =
    let m = making c.self.view_is c.self.invariant.0 c.requires.can c.as_slice.ensures.in_order c.as_slice.ensures.articles c.deref.ensures.value
    c.place-place.ensures in
    over_there m c.self.view_is c.are_apart.ensures.sound c.are_apart.ensures.apart

pub standing-requires-clause-plain : goal.standing-requires-clause-plain
standing-requires-clause-plain c =
    let m = making c.self.view_is c.self.invariant.0 c.requires.can c.as_slice.ensures.in_order c.as_slice.ensures.articles c.deref.ensures.value
    c.place-place.ensures in
    plain_there m c.self.view_is c.are_apart.ensures.sound c.are_apart.ensures.apart

pub store-requires-clause-open : goal.store-requires-clause-open
store-requires-clause-open c =
    let m = making c.self.view_is c.self.invariant.0 c.requires.can c.as_slice.ensures.in_order c.as_slice.ensures.articles c.deref.ensures.value
    c.place-place.ensures in
    m.can.changes

pub store-requires-clause-in_order : goal.store-requires-clause-in_order
store-requires-clause-in_order c =
    let m = making c.self.view_is c.self.invariant.0 c.requires.can c.as_slice.ensures.in_order c.as_slice.ensures.articles c.deref.ensures.value
    c.place-place.ensures in
    m.ordered

pub store-requires-clause-place : goal.store-requires-clause-place
store-requires-clause-place c =
    let m = making c.self.view_is c.self.invariant.0 c.requires.can c.as_slice.ensures.in_order c.as_slice.ensures.articles c.deref.ensures.value
    c.place-place.ensures in
    m.can.place

pub store-requires-clause-own : goal.store-requires-clause-own
store-requires-clause-own c =
    let m = making c.self.view_is c.self.invariant.0 c.requires.can c.as_slice.ensures.in_order c.as_slice.ensures.articles c.deref.ensures.value
    c.place-place.ensures in
    own_there m

pub invariant_of-self : goal.invariant_of-self
invariant_of-self c =
    let m = making c.self.view_is c.self.invariant.0 c.requires.can c.as_slice.ensures.in_order c.as_slice.ensures.articles c.deref.ensures.value
    c.place-place.ensures in (
      keeps-undone m c.store.new.articles c.store.new.senses.items c.self.inside.kept c.in_err-store.ensures.articles_stay
          c.in_err-store.ensures.senses_stay refl,
      c.self.invariant.1,
    )

pub invariant_of-self-2 : goal.invariant_of-self-2
invariant_of-self-2 c =
    let m = making c.self.view_is c.self.invariant.0 c.requires.can c.as_slice.ensures.in_order c.as_slice.ensures.articles c.deref.ensures.value
    c.place-place.ensures in (
      keeps-made m c.in_ok-status.status c.in_ok-status.ensures.status c.store.new.articles c.store.new.senses.items c.exchange.new.self
          c.in_ok-store.ensures.articles c.in_ok-store.ensures.senses (ap kept_claims c.exchange.ensures ∙ c.in_ok-status.ensures.model),
      c.self.invariant.1,
    )

pub returns-clause-made : goal.returns-clause-made
returns-clause-made c =
    let m = making c.self.view_is c.self.invariant.0 c.requires.can c.as_slice.ensures.in_order c.as_slice.ensures.articles c.deref.ensures.value
    c.place-place.ensures in
    seen c.self.view_is
    (is-made m c.in_ok-status.status c.in_ok-status.ensures.status c.store.new.articles (kept_interp c.self.inside.kept) (kept_interp c.exchange.new.self)
    c.in_ok-store.ensures.articles c.in_ok-status.ensures.spent)
