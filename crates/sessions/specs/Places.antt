-- Where a session stands. Only private calls speak of it.
use Rattle.std.specs.Prelude.{◌≡◌, ◌<◌, ℕ, List, length}
use Rattle.std.specs.List.{HoldsAt}
use Rattle.wiki_base.specs.declared.numbers.SessionId.{SessionId}
use Rattle.sessions.specs.declared.session.Session.{Session}

-- the session with the number stands at the place
pub record IsPlaceOf (sessions : List Session) (number : SessionId) (place : ℕ) : Type 0 where
  pub in_range : place < length sessions
  pub numbered : HoldsAt (λ session. session.number.0 ≡ number.0) sessions place
