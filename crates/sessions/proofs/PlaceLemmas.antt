-- Sessions in order of their numbers: where one stands, and what a change of one makes of the list.
use Rattle.std.proofs.Common.{◌≡◌, ℕ, zero, suc, ◌<◌, ◌≤◌, eqb, List, [], ◌∷◌, length, find, get_or, set, Some, None, option_map, Result, Ok, Err, MatchOption, Bool, true, false, not, cond, ◌⊎◌, inl, inr, refl, sym, ap, ◌∙◌, arith}
use Rattle.std.specs.List.{remove}
use Rattle.std.specs.List.Sorted.{IsSearchInRange, IsBinarySearchResult, IsNonDecreasingBy}
use Rattle.std.specs.Ordering.{nat_cmp, ordering_index}
use Rattle.std.specs.Result.{result_ok}
use Rattle.std.proofs.lemmas.Cmp.{ranked}
use Rattle.std.proofs.lemmas.Bool.{cases_lt, false≢true}
use Rattle.std.proofs.lemmas.Bool.Decides.{nat_tests}
use Rattle.wiki_base.specs.declared.numbers.SessionId.{SessionId}
use Rattle.wiki_base.proofs.ListLaws.{find_none, find_first, AllPairs-tail, AllPairs-head}
use Rattle.sessions.specs.declared.session.Session.{Session}
use Rattle.plain_wiki.specs.Sessions.{PlainSession, session_of, with_change, without_session}
use Rattle.sessions.specs.Sessions.{plain, all_plain, AreInOrder}
use Rattle.sessions.specs.Places.{IsPlaceOf}

-- the session has the number, as it is held
abbrev pub is_numbered : SessionId → Session → Bool
is_numbered number session = eqb session.number.0 number.0

-- a session is found in the list as it is where it is found among the plain ones
session_plain : (number : SessionId) (sessions : List Session) → session_of (all_plain sessions) number ≡ option_map plain (find (is_numbered number) sessions)
session_plain number [] = refl
session_plain number (s ∷ ss) = by (eqb s.number.0 number.0) (session_plain number ss)
  where
    by : (b : Bool) → session_of (all_plain ss) number ≡ option_map plain (find (is_numbered number) ss)
        → cond b (Some (plain s)) (session_of (all_plain ss) number) ≡ option_map plain (cond b (Some s) (find (is_numbered number) ss))
    by true later = refl
    by false later = later

pub plain_none : (number : SessionId) (sessions : List Session) → find (is_numbered number) sessions ≡ None → session_of (all_plain sessions) number ≡ None
plain_none number sessions h = session_plain number sessions ∙ ap (option_map plain) h

pub plain_some : (number : SessionId) (sessions : List Session) (s : Session) → find (is_numbered number) sessions ≡ Some s
    → session_of (all_plain sessions) number ≡ Some (plain s)
plain_some number sessions s h = session_plain number sessions ∙ ap (option_map plain) h

module _ (sessions : List Session) (in_order : AreInOrder sessions) (number : SessionId) where
  -- the numbers rise along the list, as a binary search asks
  numbers_rise : IsNonDecreasingBy (λ session. ordering_index (nat_cmp session.number.0 number.0)) sessions
  numbers_rise i j d le in_range =
      let rise : (get_or sessions i d).number.0 ≤ (get_or sessions j d).number.0 =
      grind (arith, in_order i j d, λ (same : i ≡ j). ap (λ k. (get_or sessions k d).number.0) same) in
      grind (arith, nat_tests)

  -- the session at the place is the one with the number
  pub session_at : (place : ℕ) (d : Session) → IsPlaceOf sessions number place → session_of (all_plain sessions) number ≡ Some (plain (get_or sessions place d))
  session_at place d is_place =
      plain_some number sessions (get_or sessions place d) (find_first (is_numbered number) sessions place d is_place.in_range
      (λ k before. grind (arith, nat_tests, in_order k place d before is_place.in_range, is_place.numbered d))
      (grind (arith, nat_tests, is_place.numbered d)))

  -- a binary search by number ends at the session with the number, or there is none
  pub searched : (r : Result ℕ ℕ) → IsSearchInRange r (length sessions) → IsBinarySearchResult (λ session. nat_cmp session.number.0 number.0) sessions r
      → MatchOption (result_ok r) (session_of (all_plain sessions) number ≡ None) (IsPlaceOf sessions number)
  searched (Ok place) in_range equal = record { in_range = in_range; numbered = λ d. ranked _ number.0 _ (sym (equal d)) }
  searched (Err gap) in_range parted = plain_none number sessions (find_none (is_numbered number) sessions (λ k d bound. unequal k d bound (cases_lt k gap)))
    where
      -- a number before the gap is smaller, and one after it greater
      unequal : (k : ℕ) (d : Session) → k < length sessions → (k < gap) ⊎ (gap ≤ k) → eqb (get_or sessions k d).number.0 number.0 ≡ false
      unequal k d bound (inl before) =
          let smaller : (get_or sessions k d).number.0 < number.0 = ranked _ number.0 _ (sym ((parted numbers_rise).0 k d (omega arith) before)) in
          grind (arith, nat_tests)
      unequal k d bound (inr after) =
          let greater : number.0 < (get_or sessions k d).number.0 = ranked _ number.0 _ (sym ((parted numbers_rise).1 k d after bound)) in
          grind (arith, nat_tests)

-- a session behind the one with the number has another number
other_after : (first : Session) (sessions : List Session) (number : SessionId) → AreInOrder (first ∷ sessions) → first.number.0 ≡ number.0
    → (k : ℕ) (d : Session) → k < length sessions → is_numbered number (get_or sessions k d) ≡ false
other_after first sessions number in_order same k d in_range =
    let above : first.number.0 < (get_or sessions k d).number.0 =
    AllPairs-head (λ (a b : Session). a.number.0 < b.number.0) first sessions in_order k d in_range in
    grind (arith, nat_tests)

-- a session before the one with the number has another number
other_before : (first : Session) (sessions : List Session) (number : SessionId) → AreInOrder (first ∷ sessions) → (place : ℕ)
    → suc place < length (first ∷ sessions) → (get_or sessions place first).number.0 ≡ number.0 → is_numbered number first ≡ false
other_before first sessions number in_order place in_range same =
    let below : first.number.0 < (get_or sessions place first).number.0 =
    AllPairs-head (λ (a b : Session). a.number.0 < b.number.0) first sessions in_order place first (omega arith) in
    grind (arith, nat_tests)

-- where no session has the number, a change of it changes nothing
unchanged : (sessions : List Session) (number : SessionId) (change : PlainSession → PlainSession)
    → ((k : ℕ) (d : Session) → k < length sessions → is_numbered number (get_or sessions k d) ≡ false)
    → with_change (all_plain sessions) number change ≡ all_plain sessions
unchanged [] number change none = refl
unchanged (s ∷ ss) number change none = by (eqb s.number.0 number.0) (none zero s (omega arith))
    (unchanged ss number change (λ k d in_range. none (suc k) d (omega arith)))
  where
    by : (b : Bool) → b ≡ false → with_change (all_plain ss) number change ≡ all_plain ss
        → cond b (change (plain s)) (plain s) ∷ with_change (all_plain ss) number change ≡ plain s ∷ all_plain ss
    by true here rest = absurd (false≢true (sym here))
    by false here rest = ap (λ (others : List PlainSession). plain s ∷ others) rest

-- and to leave it out leaves out nothing
not_left_out : (sessions : List Session) (number : SessionId) → ((k : ℕ) (d : Session) → k < length sessions → is_numbered number (get_or sessions k d) ≡ false)
    → without_session (all_plain sessions) number ≡ all_plain sessions
not_left_out [] number none = refl
not_left_out (s ∷ ss) number none = by (eqb s.number.0 number.0) (none zero s (omega arith))
    (not_left_out ss number (λ k d in_range. none (suc k) d (omega arith)))
  where
    by : (b : Bool) → b ≡ false → without_session (all_plain ss) number ≡ all_plain ss
        → cond (not b) (plain s ∷ without_session (all_plain ss) number) (without_session (all_plain ss) number) ≡ plain s ∷ all_plain ss
    by true here rest = absurd (false≢true (sym here))
    by false here rest = ap (λ (others : List PlainSession). plain s ∷ others) rest

-- a change of the session with the number is a change at its place
pub with_change-set : (sessions : List Session) → AreInOrder sessions → (number : SessionId) (place : ℕ) → IsPlaceOf sessions number place
    → (change : PlainSession → PlainSession) (after d : Session) → plain after ≡ change (plain (get_or sessions place d))
    → all_plain (set sessions place after) ≡ with_change (all_plain sessions) number change
with_change-set [] in_order number place is change after d changed = absurd (omega (arith, is.in_range))
with_change-set (first ∷ sessions) in_order number zero is change after d changed =
    by_test (is_numbered number first) (let same = is.numbered d in grind (arith, nat_tests))
    (unchanged sessions number change (other_after first sessions number in_order (is.numbered d)))
  where
    by_test : (b : Bool) → b ≡ true → with_change (all_plain sessions) number change ≡ all_plain sessions
        → plain after ∷ all_plain sessions ≡ cond b (change (plain first)) (plain first) ∷ with_change (all_plain sessions) number change
    by_test true here rest = ap (λ (s : PlainSession). s ∷ all_plain sessions) changed
        ∙ ap (λ (others : List PlainSession). change (plain first) ∷ others) (sym rest)
    by_test false here rest = absurd (false≢true here)
with_change-set (first ∷ sessions) in_order number (suc place) is change after d changed =
    by_test (is_numbered number first) (other_before first sessions number in_order place is.in_range (is.numbered first))
    (with_change-set sessions (AllPairs-tail (λ (a b : Session). a.number.0 < b.number.0) first sessions in_order) number place
    (record { in_range = omega (arith, is.in_range); numbered = is.numbered }) change after d changed)
  where
    by_test : (b : Bool) → b ≡ false → all_plain (set sessions place after) ≡ with_change (all_plain sessions) number change
        → plain first ∷ all_plain (set sessions place after) ≡ cond b (change (plain first)) (plain first) ∷ with_change (all_plain sessions) number change
    by_test true failed rest = absurd (false≢true (sym failed))
    by_test false failed rest = ap (λ (others : List PlainSession). plain first ∷ others) rest

-- the sessions but for the one with the number are the list without its place
pub without_session-remove : (sessions : List Session) → AreInOrder sessions → (number : SessionId) (place : ℕ) → IsPlaceOf sessions number place
    → all_plain (remove sessions place) ≡ without_session (all_plain sessions) number
without_session-remove [] in_order number place is = absurd (omega (arith, is.in_range))
without_session-remove (first ∷ sessions) in_order number zero is =
    by_test (is_numbered number first) (let same = is.numbered first in grind (arith, nat_tests))
    (not_left_out sessions number (other_after first sessions number in_order (is.numbered first)))
  where
    by_test : (b : Bool) → b ≡ true → without_session (all_plain sessions) number ≡ all_plain sessions
        → all_plain sessions ≡ cond (not b) (plain first ∷ without_session (all_plain sessions) number) (without_session (all_plain sessions) number)
    by_test true here rest = sym rest
    by_test false here rest = absurd (false≢true here)
without_session-remove (first ∷ sessions) in_order number (suc place) is =
    by_test (is_numbered number first) (other_before first sessions number in_order place is.in_range (is.numbered first))
    (without_session-remove sessions (AllPairs-tail (λ (a b : Session). a.number.0 < b.number.0) first sessions in_order) number place
    (record { in_range = omega (arith, is.in_range); numbered = is.numbered }))
  where
    by_test : (b : Bool) → b ≡ false → all_plain (remove sessions place) ≡ without_session (all_plain sessions) number
        → plain first ∷ all_plain (remove sessions place)
        ≡ cond (not b) (plain first ∷ without_session (all_plain sessions) number) (without_session (all_plain sessions) number)
    by_test true failed rest = absurd (false≢true (sym failed))
    by_test false failed rest = ap (λ (others : List PlainSession). plain first ∷ others) rest
