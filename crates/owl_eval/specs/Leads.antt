-- Whether pairs of elements lead on, told without a look at each two of them.
use Rattle.std.specs.Prelude.{ℕ, Bool, ◌≡◌, ◌==◌, ◌<◌, ◌⊎◌, true, List, length, filter}
use Rattle.std.specs.List.{list_all}
use Rattle.logic_terms.specs.Meaning.{implies}
use Rattle.owl_eval.specs.Pairs.{is_paired}

-- whether x is related to each element to which y is
abbrev pub spans : List (ℕ × ℕ) → ℕ → ℕ → Bool
spans pairs x y = list_all (λ q. implies (q.0 == y) (is_paired pairs x q.1)) pairs

-- how many pairs begin with an element
abbrev pub successor_count : List (ℕ × ℕ) → ℕ → ℕ
successor_count pairs x = length (filter (λ p. p.0 == x) pairs)

-- x has fewer successors than y, or as many and a lower number
abbrev pub ComesBefore : List (ℕ × ℕ) → ℕ → ℕ → Type 0
ComesBefore pairs x y =
    (successor_count pairs x < successor_count pairs y) ⊎ ((successor_count pairs x ≡ successor_count pairs y) × (x < y))

-- y is a successor of an element that comes before x, and x is related to each successor of that
pub record IsRelayed (pairs : List (ℕ × ℕ)) (x y : ℕ) : Type 0 where
  pub relay : ℕ
  pub before : ComesBefore pairs relay x
  pub spanned : spans pairs x relay ≡ true
  pub leads : is_paired pairs relay y ≡ true

-- x is related to each successor of y, or will be if that holds of each two elements of which the one comes before x
abbrev pub IsLedBy : List (ℕ × ℕ) → ℕ → ℕ → Type 0
IsLedBy pairs x y = (spans pairs x y ≡ true) ⊎ IsRelayed pairs x y

-- so it is for each of its successors
abbrev pub IsLed : List (ℕ × ℕ) → ℕ → Type 0
IsLed pairs x = (y : ℕ) → is_paired pairs x y ≡ true → IsLedBy pairs x y

-- those of some pairs that begin with w end in elements that are relayed to x
abbrev pub AreRelayed : List (ℕ × ℕ) → ℕ → ℕ → List (ℕ × ℕ) → Type 0
AreRelayed pairs x w run = (y : ℕ) → is_paired run w y ≡ true → IsRelayed pairs x y
