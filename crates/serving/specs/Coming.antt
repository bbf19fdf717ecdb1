-- What a link hands in. Only private calls speak of it.
use Rattle.std.specs.Prelude.{◌≡◌, ◌⊎◌, ℕ, List, [], ◌∷◌}
use Rattle.wiki_io.specs.declared.links.Event.{Event}
use Rattle.wiki_io.specs.declared.links.Event.TheVariants.{Piece}
use Rattle.serving.specs.declared.serving.Come.{Come}
use Rattle.serving.specs.declared.serving.Come.TheVariants as come

-- the events that were handed in with this answer
abbrev pub AreCome : Come → List Event → Type 0
AreCome (come.Event event) events = events ≡ event ∷ []
AreCome come.Over events = events ≡ []
AreCome come.Failed events = events ≡ []
AreCome come.Unread events = (event : Event) × (events ≡ event ∷ [])

-- a piece came on a connection, and there was memory for it or not
abbrev pub IsPieceCome : ℕ → List ℕ → Come → Type 0
IsPieceCome n piece answer = (answer ≡ come.Event (Piece n piece)) ⊎ (answer ≡ come.Unread)
