-- Categories in groups, where those of one group have one kind, and what each group may be. Only private calls speak of it.
use Rattle.std.specs.Prelude.{◌≡◌, ℕ, ◌<◌, ◌==◌, if◌then◌else◌, Bool, true, false, List, length, slice_index, slice_index_or}
use Rattle.codeco_checked.specs.declared.labels.Kind.{Kind}
use Rattle.codeco_labels.specs.declared.allowed.Allowed.{Allowed}
use Rattle.codeco_labels.specs.declared.allowed.Allowed.TheVariants.{Nothing}
use Rattle.codeco_labels.specs.Kinds.{allows, is_nothing}

-- the group of each category, and what each group is allowed to be
pub record KindRows : Type 0 where
  pub groups : List ℕ
  pub allowed : List Allowed

-- what the category may be
abbrev pub allowed_at : KindRows → ℕ → Allowed
allowed_at t c = slice_index_or t.allowed (slice_index t.groups c) Nothing

-- each category has a group, and each group something that it is allowed
pub record IsWhole (t : KindRows) : Type 0 where
  pub sized : length t.allowed ≡ length t.groups
  pub inside : (c : ℕ) → c < length t.groups → slice_index t.groups c < length t.groups

-- the kinds are allowed, and one for each group
pub record Meets (t : KindRows) (kinds : ℕ → Kind) : Type 0 where
  pub allowed : (c : ℕ) → c < length t.groups → allows (allowed_at t c) (kinds c) ≡ true
  pub alike : (c d : ℕ) → c < length t.groups → d < length t.groups → slice_index t.groups c ≡ slice_index t.groups d → kinds c ≡ kinds d

-- each category has a kind that it is allowed
abbrev pub IsAlive : KindRows → Type 0
IsAlive t = (c : ℕ) → c < length t.groups → is_nothing (allowed_at t c) ≡ false

-- The kinds that meet the new table are those that meet the old one and pass a test; where the answer is false, there are none.
pub record Narrows (old new : KindRows) (answer : Bool) (test : (ℕ → Kind) → Bool) : Type 0 where
  pub size : length new.groups ≡ length old.groups
  pub whole : IsWhole old → IsWhole new
  pub alive : answer ≡ true → IsAlive old → IsAlive new
  pub only : (kinds : ℕ → Kind) → Meets old kinds → test kinds ≡ true → (answer ≡ true) × Meets new kinds
  pub all : answer ≡ true → (kinds : ℕ → Kind) → Meets new kinds → Meets old kinds × (test kinds ≡ true)

-- the first group is put into the second
abbrev pub moved : ℕ → ℕ → ℕ → ℕ
moved from to group = if group == from then to else group
