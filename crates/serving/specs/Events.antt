-- Runs of events on connections, at a server and a machine that answers requests, whatever the machine's states are.
use Rattle.std.specs.Prelude.{◌≡◌, ◌⊎◌, ℕ, ◌≤◌, List, [], ◌∷◌, ◌++◌, length, take, map, All, Option}
use Rattle.std.specs.List.{flat_map}
use Rattle.std.specs.Io.KnownBytes.{Appends}
use Rattle.wiki_io.specs.declared.links.Event.{Event}
use Rattle.wiki_io.specs.Link.{with_more, IsOver}
use Rattle.wiki_talk.specs.declared.requests.Request.{Request}
use Rattle.wiki_talk.specs.declared.replies.Reply.{Reply}
use Rattle.wiki_talk.specs.Turns.{Turns}
use Rattle.server.specs.Kept.{Kept}
use Rattle.server.specs.Taking.{Takes}
use Rattle.server.specs.Runs.{TakesAll}
use Rattle.serving.specs.declared.serving.Served.{Served}
use Rattle.serving.specs.declared.serving.Served.TheVariants as served
use Rattle.serving.specs.Handling.{Handling, turn_in, exchange_in, journal_in, CameInLine, response_in}
use Rattle.serving.specs.Delivering.{Delivers}

-- what the journal has taken and what the link has taken to be sent, where they tell it, and how often a send failed
pub record Outside : Type 0 where
  pub journal : Option (List ℕ)
  pub sent : Option (List (ℕ × List ℕ))
  pub send_faults : ℕ

-- Events one after another: the server takes each in turn, the machine is asked what they ask, in order and in one run,
-- the accepted changes are written to the journal, where each grammar has its line, and each response is sent on its connection. A
-- refusal of bytes and a file of the editor page are no replies: the server answers them by itself, and the machine has no step for them.
pub record RunsEvents {S : Type 0} (step : S → Request → Reply → S → Type 0) (first : S) (kept : List Kept) (outside : Outside) (events : List Event) (last : S)
    (kept_after : List Kept) (outside_after : Outside) : Type 0 where
  pub handlings : List Handling
  pub turns : TakesAll kept events (map turn_in handlings) kept_after
  pub steps : Turns step first (flat_map exchange_in handlings) last
  pub in_lines : All CameInLine handlings
  pub journal : Appends outside.journal outside_after.journal (flat_map journal_in handlings)
  pub responses : Delivers (flat_map response_in handlings) outside.sent outside.send_faults outside_after.sent outside_after.send_faults

-- one event alone, as far as the server and the machine go
pub record Handles {S : Type 0} (step : S → Request → Reply → S → Type 0) (old : S) (kept : List Kept) (event : Event) (handling : Handling) (new : S)
    (kept_after : List Kept) : Type 0 where
  pub takes : Takes kept event (turn_in handling) kept_after
  pub steps : Turns step old (exchange_in handling) new

-- the machine is as before an event, or has stepped for it
abbrev pub WasHandled : {S : Type 0} → (S → Request → Reply → S → Type 0) → S → List Kept → Event → S → Type 0
WasHandled step old kept event new = (new ≡ old) ⊎ ((handling : Handling) × (after : List Kept) × Handles step old kept event handling new after)

-- the machine has stepped for an event, and of the journal's line a front was written
pub record CutsJournal {S : Type 0} (step : S → Request → Reply → S → Type 0) (old : S) (kept : List Kept) (event : Event) (taken : Option (List ℕ)) (new : S)
    (kept_after : List Kept) (taken_after : Option (List ℕ)) : Type 0 where
  pub handling : Handling
  pub handles : Handles step old kept event handling new kept_after
  pub count : ℕ
  pub within : count ≤ length (journal_in handling)
  pub written : Appends taken taken_after (take count (journal_in handling))

-- Events that were handed in before the journal cut the last of them off: those before it were handled, for it the machine
-- has stepped, of its line a front was written, and nothing was sent.
pub record RunsUntilJournal {S : Type 0} (step : S → Request → Reply → S → Type 0) (first : S) (outside : Outside) (events : List Event)
    (outside_after : Outside) : Type 0 where
  pub handled : List Event
  pub last_event : Event
  pub all : events ≡ handled ++ last_event ∷ []
  pub before : S
  pub kept : List Kept
  pub outside_before : Outside
  pub run : RunsEvents step first [] outside handled before kept outside_before
  pub last : S
  pub kept_after : List Kept
  pub cut : CutsJournal step before kept last_event outside_before.journal last kept_after outside_after.journal
  pub unsent : (outside_after.sent ≡ outside_before.sent) × (outside_after.send_faults ≡ outside_before.send_faults)

-- The same where there was no memory for the last of them: the machine is as before it, or has stepped for it, and nothing was
-- written or sent.
pub record RunsUntilMemory {S : Type 0} (step : S → Request → Reply → S → Type 0) (first : S) (outside : Outside) (events : List Event)
    (outside_after : Outside) : Type 0 where
  pub handled : List Event
  pub last_event : Event
  pub all : events ≡ handled ++ last_event ∷ []
  pub before : S
  pub kept : List Kept
  pub run : RunsEvents step first [] outside handled before kept outside_after
  pub last : S
  pub was_handled : WasHandled step before kept last_event last

-- all events that were handed in were handled
pub record RunsAll {S : Type 0} (step : S → Request → Reply → S → Type 0) (first : S) (outside : Outside) (events : List Event) (outside_after : Outside) : Type
    0 where
  pub last : S
  pub kept : List Kept
  pub run : RunsEvents step first [] outside events last kept outside_after

-- What serving has done when it ends so: it handled what was handed in, and ends where the link is over or as many events were
-- handled as there are to be, where the link failed, where a write to the journal failed, or where there was no memory.
abbrev pub EndsServing : {S : Type 0} → (S → Request → Reply → S → Type 0) → S → ℕ → Outside → List Event → Served → Option (List Event) → Outside → Type 0
EndsServing step first most outside events served.Done left outside_after =
    RunsAll step first outside events outside_after × (IsOver left ⊎ (length events ≡ most))
EndsServing step first most outside events served.LinkFault left outside_after = RunsAll step first outside events outside_after
EndsServing step first most outside events served.JournalFault left outside_after = RunsUntilJournal step first outside events outside_after
EndsServing step first most outside events served.Memory left outside_after =
    RunsAll step first outside events outside_after ⊎ RunsUntilMemory step first outside events outside_after

-- What was served up to an end, from a first state on: the events that were handed in, at most so many, and that end.
abbrev pub Ended : {S : Type 0} → (S → Request → Reply → S → Type 0) → S → Outside → Option (List Event) → ℕ → Option (List Event) → Served
    → Option (List Event) → Outside → Type 0
Ended step first outside handed_first most handed ended_so left outside_after =
    (events : List Event) × (handed ≡ with_more handed_first events) × (length events ≤ most)
    × EndsServing step first most outside events ended_so left outside_after
