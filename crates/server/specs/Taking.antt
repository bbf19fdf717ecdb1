-- What a server does at an event. It knows nothing of the wiki: it tells what to ask.
use Rattle.std.specs.Prelude.{◌≡◌, ◌<◌, ◌≤◌, ℕ, List, [], ◌∷◌, ◌++◌, length}
use Rattle.wiki_io.specs.declared.links.Event.{Event}
use Rattle.wiki_io.specs.declared.links.Event.TheVariants.{Opened, Piece, Ended}
use Rattle.http_front.specs.declared.seen.Seen.{Seen}
use Rattle.http_front.specs.declared.seen.Seen.TheVariants as seen
use Rattle.http_front.specs.Front.{Sees}
use Rattle.server.specs.declared.turns.Turn.{Turn}
use Rattle.server.specs.declared.turns.Turn.TheVariants as turns
use Rattle.wiki_io.specs.declared.limits.TheConstants.{MOST_OPEN}
use Rattle.server.specs.Kept.{Kept, fresh, bytes_of, with_piece, closed}
use Rattle.server.specs.Responses.{status_response, busy_response, own_response}

-- an opening: the connection is kept with no bytes, or has a response at once where `MOST_OPEN` are open already
pub record TakesOpening (old : List Kept) (n : ℕ) (turn : Turn) (new : List Kept) : Type 0 where
  pub full : MOST_OPEN ≤ length old → (turn ≡ turns.Own n busy_response) × (new ≡ old)
  pub free : length old < MOST_OPEN → (turn ≡ turns.Wait) × (new ≡ old ++ fresh n ∷ [])

-- What the bytes of a connection are, as a turn: wait, a response of the program's own, or a request to the wiki. A refusal, the
-- way to the editor page and a file of it are of the first kind.
abbrev pub turn_of : ℕ → Seen → Turn
turn_of n seen.Wait = turns.Wait
turn_of n (seen.Refuse status allow bad_line) = turns.Own n (status_response status allow bad_line)
turn_of n (seen.Own answer) = turns.Own n (own_response answer)
turn_of n (seen.Ask request answer) = turns.Ask n request answer

-- the connections that are kept after a piece: all where more is waited for, else all but that with the response
abbrev pub kept_after : ℕ → List ℕ → Turn → List Kept → List Kept
kept_after n piece turns.Wait kept = with_piece n piece kept
kept_after n piece turn kept = closed n kept

-- a piece: it is added to the bytes of its connection, and these tell whether to wait, to answer without the wiki or to ask it
pub record TakesPiece (old : List Kept) (n : ℕ) (piece : List ℕ) (turn : Turn) (new : List Kept) : Type 0 where
  pub seen : Seen
  pub sees : Sees (bytes_of n old ++ piece) seen
  pub turn_is : turn ≡ turn_of n seen
  pub new_is : new ≡ kept_after n piece turn old

-- an end: the connection isn't kept, and gets nothing
pub record TakesEnd (old : List Kept) (n : ℕ) (turn : Turn) (new : List Kept) : Type 0 where
  pub turn_is : turn ≡ turns.Wait
  pub new_is : new ≡ closed n old

-- one event at a server that keeps these connections
abbrev pub Takes : List Kept → Event → Turn → List Kept → Type 0
Takes old (Opened n) turn new = TakesOpening old n turn new
Takes old (Piece n piece) turn new = TakesPiece old n piece turn new
Takes old (Ended n) turn new = TakesEnd old n turn new
