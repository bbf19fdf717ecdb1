-- Places that keep for each socket what it is still to write, behind a deed more.
use Rattle.std.proofs.Common.{◌≡◌, ◌≢◌, refl, sym, ap, subst, ◌∙◌, inl, inr, ◌⊎◌, arith, ℕ, zero, suc, ◌+◌, ◌-◌, ◌<◌, ◌≤◌, Bool, true, false, not, IsTrue, List, [], ◌∷◌, ◌++◌, length, take, drop, slice_get, slice_set, Option, None, Some, if◌then◌else◌, append-nil, rules}
use Rattle.std.specs.Prelude.{◌==◌, IfSome, IsSome, option_map}
use Rattle.std.specs.Duration.{as_nanos}
use Rattle.std.proofs.Math.Logic.{∥∥₁_map, ∥∥₁_map₂}
use Rattle.std.proofs.lemmas.Bool.{ne_eqb, cases_Bool, cases_lt, eqb-true, eqb-false}
use Rattle.std.proofs.lemmas.Option.{same_Some, none-some, slice_get_past}
use Rattle.std.proofs.Math.Seq.{take-length}
use Rattle.std.proofs.lemmas.List.{length-drop}
use Rattle.wiki_base.proofs.BoolLaws.{not_both}
use Rattle.wiki_io.specs.Link.{with_more}
use Rattle.socket_link.specs.declared.place.Place.{Place}
use Rattle.socket_link.specs.Deeds.{Deed, Shows, Opens, Takes, Writes, Fails, Closes, Goes, Line, new_line, line_of, time_of, end_of, sent_of, sent_in, with_deed, IsRight, AreRight}
use Rattle.socket_link.specs.Kept.{left_in, Keeps, Serves, IsServed, TouchesOnly, OnlyOn, HasFailed, IsFreeToGo, Stands, IsSound, IsFree, AreFree, IsOpenAt, IsClosedAt, AreTakenBelow}
use Rattle.socket_link.proofs.DeedLemmas.{at_own, at_other, touches_nothing, touches_writing, touches_failing, touches_then, serves_writing, serves_failing, serves_closing, serves_taking, serves_due, serves_shutting}

-- ---- lists

-- a slice from a place on is the rest
pub slice_rest : (from : ℕ) (xs : List ℕ) → take (length xs - from) (drop from xs) ≡ drop from xs
slice_rest from xs = ap (λ n. take n (drop from xs)) (sym (length-drop from xs)) ∙ take-length (drop from xs)

module _ {X : Type 0} where
  pub get_set_same : (xs : List X) (i : ℕ) (v w : X) → slice_get xs i ≡ Some v → slice_get (slice_set xs i w) i ≡ Some w
  get_set_same [] i v w at = absurd (none-some v at)
  get_set_same (x ∷ xs) zero v w at = refl
  get_set_same (x ∷ xs) (suc i) v w at = get_set_same xs i v w at

  pub get_set_other : (xs : List X) (i j : ℕ) (w : X) → j ≢ i → slice_get (slice_set xs i w) j ≡ slice_get xs j
  get_set_other [] i j w ne = refl
  get_set_other (x ∷ xs) zero zero w ne = absurd (ne refl)
  get_set_other (x ∷ xs) zero (suc j) w ne = refl
  get_set_other (x ∷ xs) (suc i) zero w ne = refl
  get_set_other (x ∷ xs) (suc i) (suc j) w ne = get_set_other xs i j w (λ e. ne (ap suc e))

  -- what was set is there, or there was no such place
  pub get_set_cases : (xs : List X) (i : ℕ) (w : X) → (slice_get (slice_set xs i w) i ≡ Some w) ⊎ (slice_get (slice_set xs i w) i ≡ None)
  get_set_cases [] i w = inr refl
  get_set_cases (x ∷ xs) zero w = inl refl
  get_set_cases (x ∷ xs) (suc i) w = get_set_cases xs i w

  pub set_set : (xs : List X) (i : ℕ) (v w : X) → slice_set (slice_set xs i v) i w ≡ slice_set xs i w
  set_set [] i v w = refl
  set_set (x ∷ xs) zero v w = refl
  set_set (x ∷ xs) (suc i) v w = ap (λ ys. x ∷ ys) (set_set xs i v w)

-- ---- one socket's part

-- a place that is there keeps its socket's rest
pub serves_at : (places : List (Option Place)) (now n : ℕ) (place : Place) (deeds : List Deed) → IsSound places now deeds
    → slice_get places n ≡ Some (Some place)
    → Serves n (left_in place) place.is_closed place.is_shut (as_nanos place.due) now deeds
serves_at places now n place deeds sound at =
    let stands : Stands (Some (Some place)) n deeds = subst (λ p. Stands p n deeds) at (sound.each n) in
    record { right = sound.right; clock = sound.clock; line = stands.0; has_number = stands.1; keeps = stands.2 }

-- what stands of a socket stands where it did nothing
pub stands_on : (place : Option (Option Place)) (m : ℕ) (deeds deeds_after : List Deed) → line_of m deeds_after ≡ line_of m deeds
    → Stands place m deeds → Stands place m deeds_after
stands_on (Some (Some place)) m deeds deeds_after same stands = (stands.0, same ∙ stands.1, stands.2)
stands_on (Some None) m deeds deeds_after same stands = same ∙ stands
stands_on None m deeds deeds_after same stands = same ∙ stands

-- where one place changed as its socket did, all are sound again
pub sound_after : (places : List (Option Place)) (now n : ℕ) (old place : Place) (deeds deeds_after : List Deed) → IsSound places now deeds
    → slice_get places n ≡ Some (Some old) → Serves n (left_in place) place.is_closed place.is_shut (as_nanos place.due) now deeds_after
    → ((m : ℕ) → m ≢ n → line_of m deeds_after ≡ line_of m deeds) → IsSound (slice_set places n (Some place)) now deeds_after
sound_after places now n old place deeds deeds_after sound at serves others = record {
  right = serves.right;
  clock = serves.clock;
  each = λ m. elim (cases_Bool (m == n)) [
    | inl same ↦
        let is : n ≡ m = sym (eqb-true m n same) in
        subst (λ k. Stands (slice_get (slice_set places n (Some place)) k) k deeds_after) is
        (subst (λ p. Stands p n deeds_after) (sym (get_set_same places n (Some old) (Some place) at)) (serves.line, serves.has_number, serves.keeps))
    | inr other ↦
        let is : m ≢ n = eqb-false m n other in
        subst (λ p. Stands p m deeds_after) (sym (get_set_other places n m (Some place) is))
        (stands_on (slice_get places m) m deeds deeds_after (others m is) (sound.each m))
  ];
}

-- a socket goes, and its place is free
pub sound_going : (places : List (Option Place)) (now n : ℕ) (deeds : List Deed) → IsSound places now deeds → IsRight (Goes n) deeds
    → IsSound (slice_set places n None) now (Goes n ∷ deeds)
sound_going places now n deeds sound right = record {
  right = (right, sound.right);
  clock = sound.clock;
  each = λ m. elim (cases_Bool (m == n)) [
    | inl same ↦
        let is : n ≡ m = sym (eqb-true m n same) in
        subst (λ k. Stands (slice_get (slice_set places n None) k) k (Goes n ∷ deeds)) is
        (elim (get_set_cases places n None) [
          | inl set ↦ subst (λ p. Stands p n (Goes n ∷ deeds)) (sym set) (at_own n None (line_of n deeds))
          | inr past ↦ subst (λ p. Stands p n (Goes n ∷ deeds)) (sym past) (at_own n None (line_of n deeds))
        ])
    | inr other ↦
        let is : m ≢ n = eqb-false m n other in
        subst (λ p. Stands p m (Goes n ∷ deeds)) (sym (get_set_other places n m None is))
        (stands_on (slice_get places m) m deeds (Goes n ∷ deeds) (at_other n m None (line_of m deeds) is) (sound.each m))
  ];
}

-- a socket gets a number that was free, and a place that keeps nothing
pub sound_opening : (places : List (Option Place)) (now n : ℕ) (place : Place) (deeds : List Deed) → IsSound places now deeds → IsFree places n
    → left_in place ≡ [] → place.is_closed ≡ false → place.is_shut ≡ false → IsSound (slice_set places n (Some place)) now (Opens n ∷ deeds)
sound_opening places now n place deeds sound free none is_open not_shut = record {
  right = (subst (λ p. Stands p n deeds) free (sound.each n), sound.right);
  clock = sound.clock;
  each = λ m. elim (cases_Bool (m == n)) [
    | inl same ↦
        let is : n ≡ m = sym (eqb-true m n same) in
        subst (λ k. Stands (slice_get (slice_set places n (Some place)) k) k (Opens n ∷ deeds)) is
        (subst (λ p. Stands p n (Opens n ∷ deeds)) (sym (get_set_same places n None (Some place) free)) (
          new_line,
          at_own n (Some new_line) (line_of n deeds),
          record {
            rest = sym none;
            while_open = λ _. refl;
            once_closed = λ so. absurd (not_both so is_open);
            once_shut = λ so. absurd (not_both so not_shut);
          },
        ))
    | inr other ↦
        let is : m ≢ n = eqb-false m n other in
        subst (λ p. Stands p m (Opens n ∷ deeds)) (sym (get_set_other places n m (Some place) is))
        (stands_on (slice_get places m) m deeds (Opens n ∷ deeds) (at_other n m (Some new_line) (line_of m deeds) is) (sound.each m))
  ];
}

-- no socket has a number yet
pub sound_first : (places : List (Option Place)) → AreFree places → IsSound places 0 []
sound_first places free = record {
  right = tt;
  clock = refl;
  each = λ n. elim (free n) [
    | inl is ↦ subst (λ p. Stands p n []) (sym is) refl
    | inr is ↦ subst (λ p. Stands p n []) (sym is) refl
  ];
}

-- the clock shows a time
pub sound_showing : (places : List (Option Place)) (now time : ℕ) (deeds : List Deed) → IsSound places now deeds → IsSound places time (Shows time ∷ deeds)
sound_showing places now time deeds sound = record {
  right = (tt, sound.right);
  clock = refl;
  each = λ m. stands_on (slice_get places m) m deeds (Shows time ∷ deeds) refl (sound.each m);
}

-- the same, written otherwise
pub serves_like : (n : ℕ) (deeds : List Deed) (now : ℕ) {left left_then : List ℕ} {is_closed is_closed_then is_shut is_shut_then : Bool} {due due_then : ℕ}
    → left ≡ left_then → is_closed ≡ is_closed_then → is_shut ≡ is_shut_then → due ≡ due_then → Serves n left is_closed is_shut due now deeds
    → Serves n left_then is_closed_then is_shut_then due_then now deeds
serves_like n deeds now {left} {left_then} {is_closed} {is_closed_then} {is_shut} {is_shut_then} {due} {due_then} l c s d serves =
    subst (λ x. Serves n left_then is_closed_then is_shut_then x now deeds) d
    (subst (λ x. Serves n left_then is_closed_then x due now deeds) s
    (subst (λ x. Serves n left_then x is_shut due now deeds) c
    (subst (λ x. Serves n x is_closed is_shut due now deeds) l serves)))

-- ---- where the deeds are told

told_with : (P Q : List Deed → Type 0) (told told_after : Option (List Deed)) (deed : Deed) → ((deeds : List Deed) → P deeds → Q (deed ∷ deeds))
    → told_after ≡ with_deed told deed → IfSome told P → IfSome told_after Q
told_with P Q None told_after deed step is holds = subst (λ t. IfSome t Q) (sym is) tt
told_with P Q (Some deeds) told_after deed step is holds = subst (λ t. IfSome t Q) (sym is) (step deeds holds)

told_same : (P Q : List Deed → Type 0) (told told_after : Option (List Deed)) → ((deeds : List Deed) → P deeds → Q deeds) → told_after ≡ told
    → IfSome told P → IfSome told_after Q
told_same P Q None told_after step is holds = subst (λ t. IfSome t Q) (sym is) tt
told_same P Q (Some deeds) told_after step is holds = subst (λ t. IfSome t Q) (sym is) (step deeds holds)

-- nothing but the taking of bytes changes what was sent
pub sent_same : (told told_after : Option (List Deed)) (deed : Deed) → ((deeds : List Deed) → sent_of (deed ∷ deeds) ≡ sent_of deeds)
    → told_after ≡ with_deed told deed → sent_in told_after ≡ sent_in told
sent_same None told_after deed same is = ap sent_in is
sent_same (Some deeds) told_after deed same is = ap sent_in is ∙ ap Some (same deeds)

pub sent_taking : (told told_after : Option (List Deed)) (n : ℕ) (bytes : List ℕ) → told_after ≡ with_deed told (Takes n bytes)
    → sent_in told_after ≡ with_more (sent_in told) ((n, bytes) ∷ [])
sent_taking None told_after n bytes is = ap sent_in is
sent_taking (Some deeds) told_after n bytes is = ap sent_in is

pub only_same : (n : ℕ) (told told_after : Option (List Deed)) → told_after ≡ told → OnlyOn n told told_after
only_same n None told_after is = is
only_same n (Some deeds) told_after is = (deeds, is, touches_nothing n deeds)

pub only_deed : (n : ℕ) (told told_after : Option (List Deed)) (deed : Deed) → ((deeds : List Deed) → TouchesOnly n deeds (deed ∷ deeds))
    → told_after ≡ with_deed told deed → OnlyOn n told told_after
only_deed n None told_after deed touches is = is
only_deed n (Some deeds) told_after deed touches is = (deed ∷ deeds, is, touches deeds)

pub only_then : (n : ℕ) (a b c : Option (List Deed)) → OnlyOn n a b → OnlyOn n b c → OnlyOn n a c
only_then n None b c first second = subst (λ t. OnlyOn n t c) first second
only_then n (Some deeds) b c first second =
    let next : OnlyOn n (Some first.0) c = subst (λ t. OnlyOn n t c) first.1 second in
    (next.0, next.1, touches_then n deeds first.0 next.0 first.2 next.2)

pub only_sent : (n : ℕ) (a b : Option (List Deed)) → OnlyOn n a b → sent_in b ≡ sent_in a
only_sent n None b only = ap sent_in only
only_sent n (Some deeds) b only = ap sent_in only.1 ∙ ap Some only.2.sent

module _ (n : ℕ) (left : List ℕ) (is_closed is_shut : Bool) (due now : ℕ) (told told_after : Option (List Deed))
    (served : ∥ IfSome told (Serves n left is_closed is_shut due now) ∥₁) where
  pub served_writing : (size : ℕ) (left_after : List ℕ) → 0 < length left → (IsTrue is_closed → now < due) → left_after ≡ drop size left
      → told_after ≡ with_deed told (Writes n (take size left)) → ∥ IfSome told_after (Serves n left_after is_closed is_shut due now) ∥₁
  served_writing size left_after some in_time rest is =
      ∥∥₁_map served (told_with (Serves n left is_closed is_shut due now) (Serves n left_after is_closed is_shut due now) told told_after
      (Writes n (take size left)) (λ deeds serves.
      subst (λ l. Serves n l is_closed is_shut due now (Writes n (take size left) ∷ deeds)) (sym rest)
      (serves_writing n left is_closed is_shut due now deeds serves size some in_time)) is)

  -- nothing was written
  pub served_still : (left_after : List ℕ) → left_after ≡ left → told_after ≡ told → ∥ IfSome told_after (Serves n left_after is_closed is_shut due now) ∥₁
  served_still left_after rest is =
      ∥∥₁_map served (told_same (Serves n left is_closed is_shut due now) (Serves n left_after is_closed is_shut due now) told told_after
      (λ deeds serves. subst (λ l. Serves n l is_closed is_shut due now deeds) (sym rest) serves) is)

  pub served_failing : told_after ≡ with_deed told (Fails n) → ∥ IfSome told_after (Serves n left is_closed is_shut due now) ∥₁
  served_failing is =
      ∥∥₁_map served (told_with (Serves n left is_closed is_shut due now) (Serves n left is_closed is_shut due now) told told_after (Fails n)
      (λ deeds serves. serves_failing n left is_closed is_shut due now deeds serves) is)

  pub failed_then : told_after ≡ with_deed told (Fails n) → HasFailed n told_after
  failed_then is = ∥∥₁_map served (told_with (Serves n left is_closed is_shut due now)
      (λ deeds. option_map (λ (line : Line). line.has_failed) (line_of n deeds) ≡ Some true) told told_after (Fails n) (λ deeds serves.
      ap (option_map (λ line. line.has_failed)) (at_own n _ _ ∙ ap (option_map _) serves.has_number)) is)

  -- nothing is left to be written
  pub free_written : left ≡ [] → told_after ≡ told → IsFreeToGo n told_after
  free_written none is = ∥∥₁_map served (told_same (Serves n left is_closed is_shut due now) (IsRight (Goes n)) told told_after
      (λ deeds serves line time at closed.
      let same : serves.line ≡ line = same_Some _ _ (sym serves.has_number ∙ at) in
      let whole : serves.line.sent ≡ serves.line.written = serves.keeps.rest ∙ ap (λ l. serves.line.written ++ l) none ∙ append-nil _ in
      inl (subst (λ (l : Line). l.written ≡ l.sent) same (sym whole))) is)

  -- the writing is ended
  pub served_shutting : (is_shut_then : Bool) (due_then : ℕ) → is_closed ≡ true → left ≡ [] → told_after ≡ told
      → ∥ IfSome told_after (Serves n left is_closed is_shut_then due_then now) ∥₁
  served_shutting is_shut_then due_then so none is =
      ∥∥₁_map served (told_same (Serves n left is_closed is_shut due now) (Serves n left is_closed is_shut_then due_then now) told told_after
      (λ deeds serves. serves_shutting n left is_closed is_shut due due_then now deeds serves so none is_shut_then) is)

  -- the writing was ended, since all was written
  pub free_shut : is_shut ≡ true → IsFreeToGo n told
  free_shut shut = ∥∥₁_map served (told_same (Serves n left is_closed is_shut due now) (IsRight (Goes n)) told told (λ deeds serves line time at closed.
      let same : serves.line ≡ line = same_Some _ _ (sym serves.has_number ∙ at) in
      let none : left ≡ [] = (serves.keeps.once_shut shut).1 in
      let whole : serves.line.sent ≡ serves.line.written = serves.keeps.rest ∙ ap (λ l. serves.line.written ++ l) none ∙ append-nil _ in
      inl (subst (λ (l : Line). l.written ≡ l.sent) same (sym whole))) refl)

  -- the time of a closed connection is over
  pub free_over : is_closed ≡ true → due ≤ now → IsFreeToGo n told
  free_over so over = ∥∥₁_map served (told_same (Serves n left is_closed is_shut due now) (IsRight (Goes n)) told told (λ deeds serves line time at closed.
      let same : serves.line ≡ line = same_Some _ _ (sym serves.has_number ∙ at) in
      let kept = serves.keeps.once_closed so in
      elim kept.2 [
        | inl kept_due ↦
            let is : kept.0 ≡ time = same_Some _ _ (sym kept.1 ∙ ap (λ (l : Line). l.closed) same ∙ closed) in
            inr (inr (inl (subst (λ t. t ≤ time_of deeds) (kept_due ∙ ap end_of is) (subst (λ t. due ≤ t) (sym serves.clock) over))))
        | inr none ↦
            let whole : serves.line.sent ≡ serves.line.written = serves.keeps.rest ∙ ap (λ l. serves.line.written ++ l) none ∙ append-nil _ in
            inl (subst (λ (l : Line). l.written ≡ l.sent) same (sym whole))
      ]) refl)

-- a socket that has failed may go
pub free_failed : (n : ℕ) (told : Option (List Deed)) → HasFailed n told → IsFreeToGo n told
free_failed n told failed = ∥∥₁_map failed
    (told_same (λ deeds. option_map (λ (line : Line). line.has_failed) (line_of n deeds) ≡ Some true) (IsRight (Goes n)) told told
    (λ deeds is line time at closed.
    inr (inl (same_Some _ _ (sym (ap (option_map (λ (l : Line). l.has_failed)) at) ∙ is)))) refl)

-- ---- all places, where the deeds are told

module _ (places : List (Option Place)) (now : ℕ) (told told_after : Option (List Deed)) (sound : ∥ IfSome told (IsSound places now) ∥₁) where
  pub board_same : told_after ≡ told → ∥ IfSome told_after (IsSound places now) ∥₁
  board_same is = ∥∥₁_map sound (told_same (IsSound places now) (IsSound places now) told told_after (λ deeds s. s) is)

  pub board_showing : (time : ℕ) → told_after ≡ with_deed told (Shows time) → ∥ IfSome told_after (IsSound places time) ∥₁
  board_showing time is = ∥∥₁_map sound (told_with (IsSound places now) (IsSound places time) told told_after (Shows time)
      (λ deeds s. sound_showing places now time deeds s) is)

  pub board_opening : (n : ℕ) (place : Place) → IsFree places n → left_in place ≡ [] → place.is_closed ≡ false → place.is_shut ≡ false
      → told_after ≡ with_deed told (Opens n) → ∥ IfSome told_after (IsSound (slice_set places n (Some place)) now) ∥₁
  board_opening n place free none is_open not_shut is =
      ∥∥₁_map sound (told_with (IsSound places now) (IsSound (slice_set places n (Some place)) now) told told_after (Opens n)
      (λ deeds s. sound_opening places now n place deeds s free none is_open not_shut) is)

  pub board_going : (n : ℕ) → IsFreeToGo n told → told_after ≡ with_deed told (Goes n) → ∥ IfSome told_after (IsSound (slice_set places n None) now) ∥₁
  board_going n free is = ∥∥₁_map₂ sound free (going told is)
    where
      going : (t : Option (List Deed)) → told_after ≡ with_deed t (Goes n) → IfSome t (IsSound places now) → IfSome t (IsRight (Goes n))
          → IfSome told_after (IsSound (slice_set places n None) now)
      going None e s f = subst (λ u. IfSome u (IsSound (slice_set places n None) now)) (sym e) tt
      going (Some deeds) e s f = subst (λ u. IfSome u (IsSound (slice_set places n None) now)) (sym e) (sound_going places now n deeds s f)

  -- one place's part
  pub board_served : (n : ℕ) (place : Place) → slice_get places n ≡ Some (Some place) → IsServed n place now told
  board_served n place at = ∥∥₁_map sound
      (told_same (IsSound places now) (Serves n (left_in place) place.is_closed place.is_shut (as_nanos place.due) now) told told
      (λ deeds s. serves_at places now n place deeds s at) refl)

  -- one place changed as its socket did
  pub board_after : (n : ℕ) (old place : Place) → slice_get places n ≡ Some (Some old) → IsServed n place now told_after → OnlyOn n told told_after
      → ∥ IfSome told_after (IsSound (slice_set places n (Some place)) now) ∥₁
  board_after n old place at served only = ∥∥₁_map₂ sound served (after told only)
    where
      after : (t : Option (List Deed)) → OnlyOn n t told_after → IfSome t (IsSound places now)
          → IfSome told_after (Serves n (left_in place) place.is_closed place.is_shut (as_nanos place.due) now)
          → IfSome told_after (IsSound (slice_set places n (Some place)) now)
      after None e s f = subst (λ u. IfSome u (IsSound (slice_set places n (Some place)) now)) (sym e) tt
      after (Some deeds) e s f =
          subst (λ u. IfSome u (IsSound (slice_set places n (Some place)) now)) (sym e.1)
          (sound_after places now n old place deeds e.0 s at
          (subst (λ u. IfSome u (Serves n (left_in place) place.is_closed place.is_shut (as_nanos place.due) now)) e.1 f) e.2.others)

  -- a place of an open connection keeps more, as its socket takes it
  pub board_taking : (n : ℕ) (old place : Place) (bytes : List ℕ) → slice_get places n ≡ Some (Some old) → old.is_closed ≡ false
      → left_in place ≡ left_in old ++ bytes → place.is_closed ≡ old.is_closed → place.is_shut ≡ old.is_shut → place.due ≡ old.due
      → told_after ≡ with_deed told (Takes n bytes) → ∥ IfSome told_after (IsSound (slice_set places n (Some place)) now) ∥₁
  board_taking n old place bytes at not_so left closed shut due is =
      ∥∥₁_map sound (told_with (IsSound places now) (IsSound (slice_set places n (Some place)) now) told told_after (Takes n bytes) (λ deeds s.
      sound_after places now n old place deeds (Takes n bytes ∷ deeds) s at
      (moved (serves_taking n (left_in old) old.is_closed old.is_shut (as_nanos old.due) now deeds (serves_at places now n old deeds s at) not_so bytes))
      (λ m other. at_other n m _ _ other)) is)
    where
      moved : {ds : List Deed} → Serves n (left_in old ++ bytes) old.is_closed old.is_shut (as_nanos old.due) now ds
          → Serves n (left_in place) place.is_closed place.is_shut (as_nanos place.due) now ds
      moved {ds} serves = serves_like n ds now (sym left) (sym closed) (sym shut) (ap as_nanos (sym due)) serves

  -- an open connection is closed
  pub board_closing : (n : ℕ) (old place : Place) → slice_get places n ≡ Some (Some old) → old.is_closed ≡ false
      → left_in place ≡ left_in old → place.is_closed ≡ true → place.is_shut ≡ old.is_shut → as_nanos place.due ≡ end_of now
      → told_after ≡ with_deed told (Closes n) → ∥ IfSome told_after (IsSound (slice_set places n (Some place)) now) ∥₁
  board_closing n old place at not_so left closed shut due is =
      ∥∥₁_map sound (told_with (IsSound places now) (IsSound (slice_set places n (Some place)) now) told told_after (Closes n) (λ deeds s.
      sound_after places now n old place deeds (Closes n ∷ deeds) s at
      (serves_like n (Closes n ∷ deeds) now (sym left) (sym closed) (sym shut) refl
      (serves_closing n (left_in old) old.is_closed old.is_shut (as_nanos old.due) now deeds (serves_at places now n old deeds s at) not_so (as_nanos place.due)
      due))
      (λ m other. at_other n m _ _ other)) is)

  -- a place of an open connection may change when its time is over
  pub board_due : (n : ℕ) (old place : Place) → slice_get places n ≡ Some (Some old) → old.is_closed ≡ false
      → left_in place ≡ left_in old → place.is_closed ≡ old.is_closed → place.is_shut ≡ old.is_shut
      → told_after ≡ told → ∥ IfSome told_after (IsSound (slice_set places n (Some place)) now) ∥₁
  board_due n old place at not_so left closed shut is =
      ∥∥₁_map sound (told_same (IsSound places now) (IsSound (slice_set places n (Some place)) now) told told_after (λ deeds s.
      sound_after places now n old place deeds deeds s at
      (serves_like n deeds now (sym left) (sym closed) (sym shut) refl
      (serves_due n (left_in old) old.is_closed old.is_shut (as_nanos old.due) (as_nanos place.due) now deeds (serves_at places now n old deeds s at) not_so))
      (λ m other. refl)) is)

  -- all numbers are taken
  pub board_full : (n : ℕ) → AreTakenBelow places 128 → IsFreeToGo n told
  board_full n taken = ∥∥₁_map sound (told_same (IsSound places now) (IsRight (Goes n)) told told (λ deeds s line time at closed.
      inr (inr (inr (λ m below.
      let has = taken m below in
      let stands : Stands (Some (Some has.0)) m deeds = subst (λ p. Stands p m deeds) has.1 (s.each m) in
      subst (λ (l : Option Line). IsSome l) (sym stands.1) (search (rules)))))) refl)

  -- the socket of an open connection may go
  pub board_open : (n : ℕ) → IsOpenAt places n → IsFreeToGo n told
  board_open n is_open = ∥∥₁_map sound (told_same (IsSound places now) (IsRight (Goes n)) told told (λ deeds s line time at closed.
      let serves = serves_at places now n is_open.0 deeds s is_open.1 in
      let same : serves.line ≡ line = same_Some _ _ (sym serves.has_number ∙ at) in
      absurd (none-some time (sym (serves.keeps.while_open is_open.2) ∙ ap (λ (l : Line). l.closed) same ∙ closed))) refl)

  -- a socket that has no number may go
  pub board_free : (n : ℕ) → IsFree places n → IsFreeToGo n told
  board_free n free = ∥∥₁_map sound (told_same (IsSound places now) (IsRight (Goes n)) told told (λ deeds s line time at closed.
      let none : line_of n deeds ≡ None = subst (λ p. Stands p n deeds) free (s.each n) in
      absurd (none-some line (sym none ∙ at))) refl)

-- the sockets have done nothing yet
pub board_first : (places : List (Option Place)) (told : Option (List Deed)) → IfSome told (λ deeds. deeds ≡ []) → AreFree places
    → ∥ IfSome told (IsSound places 0) ∥₁
board_first places None fresh free = ∣ tt ∣₁
board_first places (Some deeds) fresh free = ∣ subst (IsSound places 0) (sym fresh) (sound_first places free) ∣₁

-- where the places are as they were but for one
pub via : (now : ℕ) (told : Option (List Deed)) (places_after places : List (Option Place)) → places_after ≡ places → ∥ IfSome told (IsSound places now) ∥₁
    → ∥ IfSome told (IsSound places_after now) ∥₁
via now told places_after places same sound = subst (λ ps. ∥ IfSome told (IsSound ps now) ∥₁) (sym same) sound

-- who isn't closed is open
pub is_false : (b : Bool) → IsTrue (not b) → b ≡ false
is_false true is = absurd (not_both is refl)
is_false false is = refl

pub open_here : (places : List (Option Place)) (n : ℕ) (place : Place) → IsOpenAt places n → slice_get places n ≡ Some (Some place) → place.is_closed ≡ false
open_here places n place is_open at =
    let same : is_open.0 ≡ place = same_Some _ _ (same_Some _ _ (sym is_open.1 ∙ at)) in
    subst (λ (p : Place). p.is_closed ≡ false) same is_open.2

pub closed_here : (places : List (Option Place)) (n : ℕ) (place : Place) → IsClosedAt places n → slice_get places n ≡ Some (Some place) → place.is_closed ≡ true
closed_here places n place is_closed at =
    let same : is_closed.0 ≡ place = same_Some _ _ (same_Some _ _ (sym is_closed.1 ∙ at)) in
    subst (λ (p : Place). p.is_closed ≡ true) same is_closed.2

-- a place was taken out and put back
pub put_back : (lifted after places : List (Option Place)) (n : ℕ) (place : Place) → lifted ≡ slice_set places n None
    → after ≡ slice_set lifted n (Some place) → after ≡ slice_set places n (Some place)
put_back lifted after places n place out back = back ∙ ap (λ ps. slice_set ps n (Some place)) out ∙ set_set places n None (Some place)

pub open_via : (places_after places : List (Option Place)) (n : ℕ) (old place : Place) → places_after ≡ slice_set places n (Some place)
    → slice_get places n ≡ Some (Some old) → place.is_closed ≡ false → IsOpenAt places_after n
open_via places_after places n old place is at not_closed =
    (place, ap (λ ps. slice_get ps n) is ∙ get_set_same places n (Some old) (Some place) at, not_closed)

-- one more number that is taken
pub taken_more : (places : List (Option Place)) (k : ℕ) → AreTakenBelow places k → (place : Place) → slice_get places k ≡ Some (Some place)
    → AreTakenBelow places (k + 1)
taken_more places k before place here n below =
    elim (cases_lt n k) [
      | inl lt ↦ before n lt
      | inr ge ↦
          let is : k ≡ n = omega (arith, ge, below) in
          (place, ap (slice_get places) (sym is) ∙ here)
    ]

pub free_none : (n : ℕ) → (slice_get {X = Option Place} [] n ≡ Some None) ⊎ (slice_get {X = Option Place} [] n ≡ None)
free_none n = inr refl

-- one number more that nobody has
pub free_push : (places : List (Option Place)) → AreFree places → AreFree (places ++ None ∷ [])
free_push [] free zero = inl refl
free_push [] free (suc n) = inr refl
free_push (p ∷ ps) free zero = free zero
free_push (p ∷ ps) free (suc n) = free_push ps (λ k. free (suc k)) n
