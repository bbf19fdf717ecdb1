-- What sockets do, the newest deed first, and what it comes to for each of them.
use Rattle.std.specs.Prelude.{◌≡◌, ℕ, ◌==◌, ◌+◌, ◌<◌, ◌≤◌, min, ◌⊎◌, Bool, true, false, IsTrue, List, [], ◌∷◌, ◌++◌, Option, Some, None, option_map, IfSome, IsSome, if◌then◌else◌, ⊤}
use Rattle.std.specs.Duration.{max_nanos}
use Rattle.wiki_io.specs.Lines.{Begins}

-- The clock shows so many nanoseconds. A socket gets a number; takes bytes, to be written to it; writes some; fails; is told that
-- its connection is closed; and goes.
pub data Deed : Type 0 where
  Shows : ℕ → Deed
  Opens : ℕ → Deed
  Takes : ℕ → List ℕ → Deed
  Writes : ℕ → List ℕ → Deed
  Fails : ℕ → Deed
  Closes : ℕ → Deed
  Goes : ℕ → Deed

-- what the clock showed last
abbrev pub time_of : List Deed → ℕ
time_of [] = 0
time_of (Shows time ∷ earlier) = time
time_of (_ ∷ earlier) = time_of earlier

-- of one socket, since it got its number: the bytes that were to be written to it, those that it wrote, when its connection was
-- closed, if it was, and whether it has failed
pub record Line : Type 0 where
  pub sent : List ℕ
  pub written : List ℕ
  pub closed : Option ℕ
  pub has_failed : Bool

abbrev pub new_line : Line
new_line = record { sent = []; written = []; closed = None; has_failed = false }

abbrev pub with_sent : List ℕ → Line → Line
with_sent bytes line = record line { sent = line.sent ++ bytes }

abbrev pub with_written : List ℕ → Line → Line
with_written bytes line = record line { written = line.written ++ bytes }

abbrev pub as_failed : Line → Line
as_failed line = record line { has_failed = true }

abbrev pub closed_at : ℕ → Line → Line
closed_at time line = record line { closed = Some time }

-- the socket that has this number, if one has it
abbrev pub line_of : ℕ → List Deed → Option Line
line_of n [] = None
line_of n (Shows time ∷ earlier) = line_of n earlier
line_of n (Opens m ∷ earlier) = if m == n then Some new_line else line_of n earlier
line_of n (Takes m bytes ∷ earlier) = if m == n then option_map (with_sent bytes) (line_of n earlier) else line_of n earlier
line_of n (Writes m bytes ∷ earlier) = if m == n then option_map (with_written bytes) (line_of n earlier) else line_of n earlier
line_of n (Fails m ∷ earlier) = if m == n then option_map as_failed (line_of n earlier) else line_of n earlier
line_of n (Closes m ∷ earlier) = if m == n then option_map (closed_at (time_of earlier)) (line_of n earlier) else line_of n earlier
line_of n (Goes m ∷ earlier) = if m == n then None else line_of n earlier

-- when the time is over of a connection that was closed then: after sixty seconds, as far as a clock tells
abbrev pub end_of : ℕ → ℕ
end_of time = min (time + 60_000_000_000) max_nanos

-- A socket writes what was sent on its own connection: what it wrote, with these bytes behind it, is a front of that. It writes nothing
-- once the time of a closed connection is over.
pub record MayWrite (n : ℕ) (bytes : List ℕ) (earlier : List Deed) : Type 0 where
  pub line : Line
  pub has_number : line_of n earlier ≡ Some line
  pub front : Begins (line.written ++ bytes) line.sent
  pub in_time : (time : ℕ) → line.closed ≡ Some time → time_of earlier < end_of time

-- each number below 128 is a socket's
abbrev pub AreAllTaken : List Deed → Type 0
AreAllTaken deeds = (n : ℕ) → n < 128 → IsSome (line_of n deeds)

-- why the socket of a connection that was closed then may go: it wrote all that was sent, it has failed, its time is over, or there is no
-- number left for another one
abbrev pub MayGo : Line → ℕ → List Deed → Type 0
MayGo line time earlier = (line.written ≡ line.sent) ⊎ IsTrue line.has_failed ⊎ (end_of time ≤ time_of earlier) ⊎ AreAllTaken earlier

-- a socket has the number, and its connection isn't closed
abbrev pub IsOpenLine : ℕ → List Deed → Type 0
IsOpenLine n earlier = (line : Line) × (line_of n earlier ≡ Some line) × (line.closed ≡ None)

-- what a deed has to be behind the earlier ones
abbrev pub IsRight : Deed → List Deed → Type 0
IsRight (Shows time) earlier = ⊤
IsRight (Opens n) earlier = line_of n earlier ≡ None
IsRight (Takes n bytes) earlier = IsOpenLine n earlier
IsRight (Writes n bytes) earlier = MayWrite n bytes earlier
IsRight (Fails n) earlier = ⊤
IsRight (Closes n) earlier = IsOpenLine n earlier
IsRight (Goes n) earlier = (line : Line) (time : ℕ) → line_of n earlier ≡ Some line → line.closed ≡ Some time → MayGo line time earlier

-- each deed is right behind the earlier ones
abbrev pub AreRight : List Deed → Type 0
AreRight [] = ⊤
AreRight (deed ∷ earlier) = IsRight deed earlier × AreRight earlier

-- so they are where they are told
abbrev pub AreToldRight : Option (List Deed) → Type 0
AreToldRight told = IfSome told AreRight

-- what is told, with a deed more
abbrev pub with_deed : Option (List Deed) → Deed → Option (List Deed)
with_deed told deed = option_map (λ deeds. deed ∷ deeds) told

-- what was taken to be written, each piece with its number, the oldest first
abbrev pub sent_of : List Deed → List (ℕ × List ℕ)
sent_of [] = []
sent_of (Takes n bytes ∷ earlier) = sent_of earlier ++ (n, bytes) ∷ []
sent_of (_ ∷ earlier) = sent_of earlier

-- so where the deeds are told
abbrev pub sent_in : Option (List Deed) → Option (List (ℕ × List ℕ))
sent_in told = option_map sent_of told
