-- What a deed more does to what is told of each socket, and that the deeds stay right.
use Rattle.std.proofs.Common.{◌≡◌, ◌≢◌, refl, sym, ap, subst, ◌∙◌, inl, inr, ◌⊎◌, arith, ℕ, zero, suc, ◌<◌, ◌≤◌, Bool, true, false, IsTrue, List, [], ◌∷◌, ◌++◌, length, take, drop, Option, None, Some, if◌then◌else◌, append_assoc, append-nil, take-append-drop}
use Rattle.std.specs.Prelude.{◌==◌, option_map}
use Rattle.std.proofs.lemmas.Bool.{ne_eqb, cases_Bool}
use Rattle.std.proofs.lemmas.Option.{same_Some, none-some}
use Rattle.wiki_base.proofs.NumberLaws.{eqb_refl}
use Rattle.wiki_base.proofs.BoolLaws.{not_both}
use Rattle.socket_link.specs.Deeds.{Deed, Shows, Opens, Takes, Writes, Fails, Closes, Goes, Line, with_sent, with_written, as_failed, closed_at, line_of, time_of, end_of, sent_of, MayWrite, IsOpenLine, IsRight, AreRight}
use Rattle.socket_link.specs.Kept.{Keeps, Serves, TouchesOnly}

pub at_own : {X : Type 0} (n : ℕ) (x y : X) → (if n == n then x else y) ≡ x
at_own n x y = ap (λ b. if b then x else y) (eqb_refl n)

pub at_other : {X : Type 0} (n m : ℕ) (x y : X) → m ≢ n → (if n == m then x else y) ≡ y
at_other n m x y other = ap (λ b. if b then x else y) (ne_eqb n m (λ same. other (sym same)))

-- ---- each deed is one socket's

module _ (n : ℕ) (deeds : List Deed) where
  pub touches_nothing : TouchesOnly n deeds deeds
  touches_nothing = record { others = λ m other. refl; clock = refl; sent = refl }

  pub touches_writing : (bytes : List ℕ) → TouchesOnly n deeds (Writes n bytes ∷ deeds)
  touches_writing bytes = record { others = λ m other. at_other n m _ _ other; clock = refl; sent = refl }

  pub touches_failing : TouchesOnly n deeds (Fails n ∷ deeds)
  touches_failing = record { others = λ m other. at_other n m _ _ other; clock = refl; sent = refl }

pub touches_then : (n : ℕ) (a b c : List Deed) → TouchesOnly n a b → TouchesOnly n b c → TouchesOnly n a c
touches_then n a b c first second = record {
  others = λ m other. second.others m other ∙ first.others m other;
  clock = second.clock ∙ first.clock;
  sent = second.sent ∙ first.sent;
}

-- ---- what is kept behind a deed

nothing_left : (left : List ℕ) → left ≡ [] → 0 < length left → ⊥
nothing_left left none some = let size : length left ≡ 0 = ap length none in absurd (omega (arith, size, some))

module _ (n : ℕ) (left : List ℕ) (is_closed is_shut : Bool) (due now : ℕ) (deeds : List Deed) (serves : Serves n left is_closed is_shut due now deeds) where
  -- a line that is closed has time where its place has
  has_time : 0 < length left → (IsTrue is_closed → now < due) → (time : ℕ) → serves.line.closed ≡ Some time → time_of deeds < end_of time
  has_time some in_time time is =
      elim (cases_Bool is_closed) [
        | inl so ↦
            let closed = serves.keeps.once_closed so in
            elim closed.2 [
              | inl over ↦
                  let same : closed.0 ≡ time = same_Some _ _ (sym closed.1 ∙ is) in
                  let before : time_of deeds < due = subst (λ t. t < due) (sym serves.clock) (in_time so) in
                  subst (λ t. time_of deeds < t) (over ∙ ap end_of same) before
              | inr none ↦ absurd (nothing_left left none some)
            ]
        | inr not_so ↦ absurd (none-some time (sym (serves.keeps.while_open not_so) ∙ is))
      ]

  pub serves_writing : (size : ℕ) → 0 < length left → (IsTrue is_closed → now < due)
      → Serves n (drop size left) is_closed is_shut due now (Writes n (take size left) ∷ deeds)
  serves_writing size some in_time =
      let joined : serves.line.sent ≡ (serves.line.written ++ take size left) ++ drop size left =
      serves.keeps.rest ∙ ap (λ r. serves.line.written ++ r) (sym (take-append-drop size left))
      ∙ sym (append_assoc serves.line.written (take size left) (drop size left)) in
      record {
        right = (
          record { line = serves.line; has_number = serves.has_number; front = (drop size left, joined); in_time = has_time some in_time },
          serves.right,
        );
        clock = serves.clock;
        line = with_written (take size left) serves.line;
        has_number = at_own n _ _ ∙ ap (option_map (with_written (take size left))) serves.has_number;
        keeps = record {
          rest = joined;
          while_open = serves.keeps.while_open;
          once_closed = λ so. (let closed = serves.keeps.once_closed so in (
            closed.0,
            closed.1,
            elim closed.2 [ inl over ↦ inl over | inr none ↦ absurd (nothing_left left none some) ],
          ));
          once_shut = λ so. absurd (nothing_left left (serves.keeps.once_shut so).1 some);
        };
      }

  pub serves_failing : Serves n left is_closed is_shut due now (Fails n ∷ deeds)
  serves_failing = record {
    right = (tt, serves.right);
    clock = serves.clock;
    line = as_failed serves.line;
    has_number = at_own n _ _ ∙ ap (option_map as_failed) serves.has_number;
    keeps = record {
      rest = serves.keeps.rest;
      while_open = serves.keeps.while_open;
      once_closed = serves.keeps.once_closed;
      once_shut = serves.keeps.once_shut;
    };
  }

  pub serves_closing : is_closed ≡ false → (due_then : ℕ) → due_then ≡ end_of now → Serves n left true is_shut due_then now (Closes n ∷ deeds)
  serves_closing not_so due_then is = record {
    right = ((serves.line, serves.has_number, serves.keeps.while_open not_so), serves.right);
    clock = serves.clock;
    line = closed_at (time_of deeds) serves.line;
    has_number = at_own n _ _ ∙ ap (option_map (closed_at (time_of deeds))) serves.has_number;
    keeps = record {
      rest = serves.keeps.rest;
      while_open = λ open_still. absurd (not_both refl open_still);
      once_closed = λ _. (time_of deeds, refl, inl (is ∙ ap end_of (sym serves.clock)));
      once_shut = λ so. (refl, (serves.keeps.once_shut so).1);
    };
  }

  pub serves_taking : is_closed ≡ false → (bytes : List ℕ) → Serves n (left ++ bytes) is_closed is_shut due now (Takes n bytes ∷ deeds)
  serves_taking not_so bytes = record {
    right = ((serves.line, serves.has_number, serves.keeps.while_open not_so), serves.right);
    clock = serves.clock;
    line = with_sent bytes serves.line;
    has_number = at_own n _ _ ∙ ap (option_map (with_sent bytes)) serves.has_number;
    keeps = record {
      rest = ap (λ s. s ++ bytes) serves.keeps.rest ∙ append_assoc serves.line.written left bytes;
      while_open = serves.keeps.while_open;
      once_closed = λ so. absurd (not_both so not_so);
      once_shut = λ so. absurd (not_both (serves.keeps.once_shut so).0 not_so);
    };
  }

  -- of an open connection it is nothing to what was sent when its time is over
  serves_due_then : is_closed ≡ false → (due_then : ℕ) → Serves n left is_closed is_shut due_then now deeds
  serves_due_then not_so due_then = record {
    right = serves.right;
    clock = serves.clock;
    line = serves.line;
    has_number = serves.has_number;
    keeps = record {
      rest = serves.keeps.rest;
      while_open = serves.keeps.while_open;
      once_closed = λ so. absurd (not_both so not_so);
      once_shut = serves.keeps.once_shut;
    };
  }

pub serves_due : (n : ℕ) (left : List ℕ) (is_closed is_shut : Bool) (due due_then now : ℕ) (deeds : List Deed) → Serves n left is_closed is_shut due now deeds
    → is_closed ≡ false → Serves n left is_closed is_shut due_then now deeds
serves_due n left is_closed is_shut due due_then now deeds serves not_so = serves_due_then n left is_closed is_shut due now deeds serves not_so due_then

-- once nothing is left, the writing may be ended, and another time counts
pub serves_shutting : (n : ℕ) (left : List ℕ) (is_closed is_shut : Bool) (due due_then now : ℕ) (deeds : List Deed)
    → Serves n left is_closed is_shut due now deeds
    → is_closed ≡ true → left ≡ [] → (is_shut_then : Bool) → Serves n left is_closed is_shut_then due_then now deeds
serves_shutting n left is_closed is_shut due due_then now deeds serves so none is_shut_then = record {
  right = serves.right;
  clock = serves.clock;
  line = serves.line;
  has_number = serves.has_number;
  keeps = record {
    rest = serves.keeps.rest;
    while_open = serves.keeps.while_open;
    once_closed = λ is. (let closed = serves.keeps.once_closed is in (closed.0, closed.1, inr none));
    once_shut = λ _. (so, none);
  };
}
