-- The bytes of a connection cut into other pieces.
use Rattle.std.specs.Prelude.{◌≡◌, ◌⊎◌, ℕ, false, List, ◌++◌, None}
use Rattle.httparse.specs.Grammar.{RequestHead, EndsInTarget}
use Rattle.http_front.specs.declared.seen.Seen.{Seen}
use Rattle.http_front.specs.declared.seen.Seen.TheVariants as seen
use Rattle.http_front.specs.Front.{head_part, HasTooManyFields, BeginsWith, Sees}

-- a head of at most 64 fields stands at the front of these bytes
abbrev pub HasHead : List ℕ → Type 0
HasHead bytes = (head : RequestHead) × BeginsWith head (head_part bytes)

-- more was waited for, or the same was seen as now
abbrev pub IsWaitOr : Seen → Seen → Type 0
IsWaitOr now was = (was ≡ seen.Wait) ⊎ (was ≡ now)

-- the bytes were refused because they begin with no head
abbrev pub IsRefusedHead : Seen → Type 0
IsRefusedHead was = (was ≡ seen.Refuse 400 None false) ⊎ (was ≡ seen.Refuse 413 None false)

-- How bytes come in pieces changes nothing of what is seen in them. Where they have a head, more was waited for or the same
-- was seen in whatever part of them came first. Where they have none, more was waited for or that part was refused, with the
-- same status unless the bytes end within a target or have too many fields.
pub record IsCutAnywhere (bytes : List ℕ) (now : Seen) : Type 0 where
  pub headed : HasHead bytes → (before more : List ℕ) (was : Seen) → bytes ≡ before ++ more → Sees before was → IsWaitOr now was
  pub headless : ¬ HasHead bytes → (before more : List ℕ) (was : Seen) → bytes ≡ before ++ more → Sees before was
      → (was ≡ seen.Wait) ⊎ (IsRefusedHead was × ((was ≡ now) ⊎ (EndsInTarget (head_part bytes) ⊎ HasTooManyFields (head_part before))))
