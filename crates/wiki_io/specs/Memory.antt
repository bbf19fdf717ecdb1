-- Sources and sinks in memory.
use Rattle.std.specs.Prelude.{ℕ, ◌+◌, ◌-◌, ◌^◌, min, Bool, List, length, ◌==◌, if◌then◌else◌}
use Rattle.std.specs.List.{list_any}
use Rattle.wiki_io.specs.declared.sources.Got.{Got}
use Rattle.wiki_io.specs.declared.sources.Got.TheVariants.{Bytes, End, Failed}

pub record Held : Type 0 where
  -- what a source has left, or what a sink has taken
  pub bytes : List ℕ
  -- the most bytes of one call
  pub largest : ℕ
  -- the numbers of the calls that are to fail
  pub fails : List ℕ
  -- how many calls there were, and how many failed
  pub calls : ℕ
  pub faults : ℕ

-- counted up to the last value of a `u64`
abbrev pub one_more : ℕ → ℕ
one_more n = min (n + 1) (2 ^ 64 - 1)

-- the next call is to fail
abbrev pub is_to_fail : Held → Bool
is_to_fail held = list_any (λ k. k == one_more held.calls) held.fails

-- what the next read gives, into a buffer of this length
abbrev pub next_got : Held → ℕ → Got
next_got held room =
    let size = min (min (length held.bytes) room) held.largest in
    if is_to_fail held then Failed else (if size == 0 then End else Bytes size)
