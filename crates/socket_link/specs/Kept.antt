-- What a place keeps for its socket, and all places for theirs. Only private calls speak of it.
use Rattle.std.specs.Prelude.{◌≡◌, ◌≢◌, ℕ, ◌<◌, ◌⊎◌, Bool, true, false, List, [], ◌++◌, drop, slice_get, Option, Some, None, option_map, IfSome}
use Rattle.std.specs.Duration.{as_nanos}
use Rattle.socket_link.specs.declared.place.Place.{Place}
use Rattle.socket_link.specs.Deeds.{Deed, Goes, Line, line_of, time_of, end_of, sent_of, IsRight, AreRight}

-- what is kept and isn't written yet
abbrev pub left_in : Place → List ℕ
left_in place = drop place.written place.unsent.items

-- What is left to be written is the rest of what was sent. The time of a closed connection is over when the place says so, unless
-- nothing is left; nor is anything, once the writing was ended.
pub record Keeps (left : List ℕ) (is_closed is_shut : Bool) (due : ℕ) (line : Line) : Type 0 where
  pub rest : line.sent ≡ line.written ++ left
  pub while_open : is_closed ≡ false → line.closed ≡ None
  pub once_closed : is_closed ≡ true → (time : ℕ) × (line.closed ≡ Some time) × ((due ≡ end_of time) ⊎ (left ≡ []))
  pub once_shut : is_shut ≡ true → (is_closed ≡ true) × (left ≡ [])

-- the deeds are right so far, and of the socket of this number so much is kept
pub record Serves (n : ℕ) (left : List ℕ) (is_closed is_shut : Bool) (due now : ℕ) (deeds : List Deed) : Type 0 where
  pub right : AreRight deeds
  pub clock : time_of deeds ≡ now
  pub line : Line
  pub has_number : line_of n deeds ≡ Some line
  pub keeps : Keeps left is_closed is_shut due line

-- so it is of a place, where the deeds are told
abbrev pub IsServed : ℕ → Place → ℕ → Option (List Deed) → Type 0
IsServed n place now told = ∥ IfSome told (Serves n (left_in place) place.is_closed place.is_shut (as_nanos place.due) now) ∥₁

-- no other socket has done anything
pub record TouchesOnly (n : ℕ) (deeds deeds_after : List Deed) : Type 0 where
  pub others : (m : ℕ) → m ≢ n → line_of m deeds_after ≡ line_of m deeds
  pub clock : time_of deeds_after ≡ time_of deeds
  pub sent : sent_of deeds_after ≡ sent_of deeds

-- so it is where the deeds are told
abbrev pub OnlyOn : ℕ → Option (List Deed) → Option (List Deed) → Type 0
OnlyOn n None after = after ≡ None
OnlyOn n (Some deeds) after = (deeds_after : List Deed) × (after ≡ Some deeds_after) × TouchesOnly n deeds deeds_after

-- the socket of this number has failed
abbrev pub HasFailed : ℕ → Option (List Deed) → Type 0
HasFailed n told = ∥ IfSome told (λ deeds. option_map (λ line. line.has_failed) (line_of n deeds) ≡ Some true) ∥₁

-- the socket of this number may go
abbrev pub IsFreeToGo : ℕ → Option (List Deed) → Type 0
IsFreeToGo n told = ∥ IfSome told (IsRight (Goes n)) ∥₁

-- a number has a socket where there is a place for it, which keeps the socket's rest
abbrev pub Stands : Option (Option Place) → ℕ → List Deed → Type 0
Stands (Some (Some place)) n deeds =
    (line : Line) × (line_of n deeds ≡ Some line) × Keeps (left_in place) place.is_closed place.is_shut (as_nanos place.due) line
Stands (Some None) n deeds = line_of n deeds ≡ None
Stands None n deeds = line_of n deeds ≡ None

-- the deeds are right so far, and the places keep for each socket what it is still to write
pub record IsSound (places : List (Option Place)) (now : ℕ) (deeds : List Deed) : Type 0 where
  pub right : AreRight deeds
  pub clock : time_of deeds ≡ now
  pub each : (n : ℕ) → Stands (slice_get places n) n deeds

-- a number below that of the places that nobody has
abbrev pub IsFree : List (Option Place) → ℕ → Type 0
IsFree places n = slice_get places n ≡ Some None

-- nobody has a number
abbrev pub AreFree : List (Option Place) → Type 0
AreFree places = (n : ℕ) → (slice_get places n ≡ Some None) ⊎ (slice_get places n ≡ None)

-- the connection of this number is open
abbrev pub IsOpenAt : List (Option Place) → ℕ → Type 0
IsOpenAt places n = (place : Place) × (slice_get places n ≡ Some (Some place)) × (place.is_closed ≡ false)

-- the connection of this number is closed, and its socket hasn't gone
abbrev pub IsClosedAt : List (Option Place) → ℕ → Type 0
IsClosedAt places n = (place : Place) × (slice_get places n ≡ Some (Some place)) × (place.is_closed ≡ true)

-- no place below a number is free
abbrev pub AreTakenBelow : List (Option Place) → ℕ → Type 0
AreTakenBelow places below = (n : ℕ) → n < below → (place : Place) × (slice_get places n ≡ Some (Some place))
