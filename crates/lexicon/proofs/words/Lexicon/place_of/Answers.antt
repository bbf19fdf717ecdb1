use Rattle.std.proofs.Common.{◌≡◌, ◌<◌, None, MatchOption, AllPairs, subst, rules}
use Rattle.std.proofs.lemmas.List.Sorted.{answers_always}
use Rattle.lexicon.proofs.Places.{searched, found_lives}
use Rattle.lexicon.specs.Words.{Listed, forms_of, IsPlaceOf}
use Rattle.lexicon.proofs.words.Lexicon.place_of.Goals.{After-ok}
use Rattle.lexicon.proofs.words.Lexicon.place_of.Goals as goal

-- the closure gives a word's number, and the slice is the list of live words
found : (c : After-ok) → MatchOption c.ok.result (forms_of c.args.self.now.live c.args.id ≡ None) (IsPlaceOf c.args.self.now.live c.args.id)
found c =
    let facts = c.binary_search_by_key.ensures in
    let by_number = facts.position (λ word. word.id.0) (answers_always _ _ _ (λ f a r g called. search rules)) in
    rw (c.ok.ensures.value, ← c.self.view_is, ← c.deref.ensures.value)
    (searched _ (rw c.deref.ensures.value c.self.invariant.0.in_order) c.args.id _ facts.bound by_number)

pub returns-clause-place : goal.returns-clause-place
returns-clause-place c = found c

pub returns-clause-lives : goal.returns-clause-lives
returns-clause-lives c = found_lives c.args.self.now.live
    (subst (λ (listed : Listed). AllPairs (λ word later. word.id.0 < later.id.0) listed.live) c.self.view_is c.self.invariant.0.in_order) c.args.id c.ok.result
    (found c)
