-- Responses that are sent, each whole, or a front of it where a send failed.
use Rattle.std.specs.Prelude.{◌≡◌, ℕ, ◌+◌, ◌-◌, ◌^◌, ◌≤◌, min, List, [], ◌∷◌, ◌++◌, map, Option}
use Rattle.wiki_io.specs.Link.{with_more, sent_on}

-- a response on a connection: what of it was sent, and what wasn't
pub record Delivery : Type 0 where
  pub number : ℕ
  pub sent : List ℕ
  pub unsent : List ℕ

-- the whole response
abbrev pub response : Delivery → ℕ × List ℕ
response d = (d.number, d.sent ++ d.unsent)

-- what of it was sent
abbrev pub front_sent : Delivery → ℕ × List ℕ
front_sent d = (d.number, d.sent)

-- 1 where something wasn't sent
abbrev pub lacking : List ℕ → ℕ
lacking [] = 0
lacking (b ∷ bytes) = 1

-- how many of the responses were not sent whole
abbrev pub cut : List Delivery → ℕ
cut [] = 0
cut (d ∷ deliveries) = lacking d.unsent + cut deliveries

-- These responses were sent, each on its connection, one after another; no more of them were cut than sends failed, unless
-- these weren't counted any more.
pub record Delivers (responses : List (ℕ × List ℕ)) (sent : Option (List (ℕ × List ℕ))) (faults : ℕ) (sent_after : Option (List (ℕ × List ℕ)))
    (faults_after : ℕ) : Type 0 where
  pub deliveries : List Delivery
  pub whole : map response deliveries ≡ responses
  pub pieces : List (ℕ × List ℕ)
  pub taken : sent_after ≡ with_more sent pieces
  pub on_each : (n : ℕ) → sent_on n pieces ≡ sent_on n (map front_sent deliveries)
  pub few : min (faults + cut deliveries) (2 ^ 64 - 1) ≤ faults_after
