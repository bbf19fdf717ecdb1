-- A server over many events, and what has come over one connection of them.
use Rattle.std.specs.Prelude.{◌≡◌, ◌==◌, ℕ, List, [], ◌∷◌, ◌++◌, IsTrue, if◌then◌else◌, ⊤}
use Rattle.wiki_io.specs.declared.links.Event.{Event}
use Rattle.wiki_io.specs.declared.links.Event.TheVariants.{Opened, Piece, Ended}
use Rattle.wiki_io.specs.Link.{can_come}
use Rattle.http_front.specs.Cuts.{IsCutAnywhere}
use Rattle.server.specs.declared.turns.Turn.{Turn}
use Rattle.server.specs.Kept.{Kept, numbers}
use Rattle.server.specs.Taking.{Takes}
use Rattle.server.specs.Reading.{IsSeen}

-- events one after another, each of which can come when it comes, and the turn at each
abbrev pub TakesAll : List Kept → List Event → List Turn → List Kept → Type 0
TakesAll old [] [] new = new ≡ old
TakesAll old [] (turn ∷ turns) new = ⊥
TakesAll old (event ∷ events) [] new = ⊥
TakesAll old (event ∷ events) (turn ∷ turns) new =
    (next : List Kept) × IsTrue (can_come (numbers old) event) × Takes old event turn next × TakesAll next events turns new

-- what has come over a connection since its opening, after one event more
abbrev pub own_after : ℕ → List ℕ → Event → List ℕ
own_after n bytes (Opened m) = if m == n then [] else bytes
own_after n bytes (Piece m piece) = if m == n then bytes ++ piece else bytes
own_after n bytes (Ended m) = bytes

-- the same after some events more
abbrev pub own_after_all : ℕ → List ℕ → List Event → List ℕ
own_after_all n bytes [] = bytes
own_after_all n bytes (event ∷ events) = own_after_all n (own_after n bytes event) events

-- what has come over a connection since its last opening: no other connection has a part in it
abbrev pub own_bytes : ℕ → List Event → List ℕ
own_bytes n events = own_after_all n [] events

-- the turn is what these bytes of the connection with this number are, however they were cut into pieces
abbrev pub IsSeenAnywhere : ℕ → List ℕ → Turn → Type 0
IsSeenAnywhere n bytes turn = (is : IsSeen n bytes turn) × IsCutAnywhere bytes is.seen

-- at a piece the turn is what the bytes of its own connection are
abbrev pub IsOwn : List Event → Event → Turn → Type 0
IsOwn events (Opened n) turn = ⊤
IsOwn events (Piece n piece) turn = IsSeenAnywhere n (own_bytes n (events ++ Piece n piece ∷ [])) turn
IsOwn events (Ended n) turn = ⊤

-- so it is at each of some events that come behind others
abbrev pub AreOwn : List Event → List Event → List Turn → Type 0
AreOwn before [] turns = ⊤
AreOwn before (event ∷ events) [] = ⊤
AreOwn before (event ∷ events) (turn ∷ turns) = IsOwn before event turn × AreOwn (before ++ event ∷ []) events turns

-- so it is whatever came over all connections since there was none
abbrev pub IsApart : List Kept → Event → Turn → Type 0
IsApart kept event turn = (events : List Event) (turns : List Turn) → TakesAll [] events turns kept → IsOwn events event turn
