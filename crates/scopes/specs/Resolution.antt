-- Which referents agree with a test, and which one a reference finds.
use Rattle.std.specs.Prelude.{ℕ, List, [], ◌∷◌, Bool, false, ◌==◌, ◌&&◌, if◌then◌else◌, Option, Some, None, option_map, position, unwrap_or}
use Rattle.std.specs.List.{list_any, list_all, filter_map}
use Rattle.codeco_terms.specs.declared.values.Value.{Value}
use Rattle.codeco_terms.specs.declared.categories.Ground.{Ground}
use Rattle.codeco_terms.specs.Values.{same_value}
use Rattle.scopes.specs.declared.entries.Entry.{Entry}
use Rattle.scopes.specs.declared.entries.Entry.TheVariants.{Opener, Weak, Strong}
use Rattle.scopes.specs.declared.agreement.Test.{Test}
use Rattle.scopes.specs.declared.agreement.Tests.{Tests}

-- the values have this one at this feature
abbrev pub has_value : List (ℕ × Value) → (ℕ × Value) → Bool
has_value vals wanted = list_any (λ p. (p.0 == wanted.0) && same_value p.1 wanted.1) vals

-- a referent agrees with a test where the names are equal and the referent has each value of the test
abbrev pub agrees : Ground → Test → Bool
agrees referent test = (referent.name == test.name) && list_all (has_value referent.vals) test.values

-- the entry is a referent that agrees with one of the tests
abbrev pub is_agreeing : List Test → Entry → Bool
is_agreeing tests Opener = false
is_agreeing tests (Weak referent pos) = list_any (agrees referent) tests
is_agreeing tests (Strong referent pos) = list_any (agrees referent) tests

-- what a reference finds: a referent with its position, and the place of the first positive test that it agrees with
pub record Finding : Type 0 where
  pub pos : ℕ
  pub referent : Ground
  pub pattern : ℕ

-- what a reference finds at a referent: it agrees with a positive test and with no negative one
abbrev pub finding_at : Tests → Ground → ℕ → Option Finding
finding_at tests referent pos =
    if list_any (agrees referent) tests.negative then None
    else option_map (λ k. record { pos = pos; referent = referent; pattern = k }) (position (agrees referent) tests.positive)

abbrev pub finding : Tests → Entry → Option Finding
finding tests Opener = None
finding tests (Weak referent pos) = finding_at tests referent pos
finding tests (Strong referent pos) = finding_at tests referent pos

-- the last of a list
abbrev pub last_of : {X : Type 0} → List X → Option X
last_of [] = None
last_of (x ∷ xs) = Some (unwrap_or (last_of xs) x)

-- what a reference finds in an access list: the last referent that agrees with a positive test and with no negative one
abbrev pub closest_finding : Tests → List Entry → Option Finding
closest_finding tests entries = last_of (filter_map (finding tests) entries)
