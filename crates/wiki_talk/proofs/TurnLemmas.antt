-- Runs that go on.
use Rattle.std.proofs.Common.{◌≡◌, List, [], ◌∷◌, ◌++◌, refl, subst}
use Rattle.wiki_talk.specs.Turns.{Exchange, Turn, Turns}

module _ {S Q R : Type 0} (step : S → Q → R → S → Type 0) where
  -- one turn more
  pub Turns-push : (first : S) (exchanges : List (Exchange Q R)) (exchange : Exchange Q R) (before last : S) → Turns step first exchanges before
      → Turn step before exchange last → Turns step first (exchanges ++ exchange ∷ []) last
  Turns-push first [] exchange before last turns turn = (last, subst (λ s. Turn step s exchange last) turns turn, refl)
  Turns-push first (e ∷ exchanges) exchange before last turns turn = (turns.0, turns.1, Turns-push turns.0 exchanges exchange before last turns.2 turn)
