-- Bytes that a source or a sink may tell, over several calls.
use Rattle.std.proofs.Common.{◌≡◌, ℕ, ◌+◌, ◌-◌, ◌≤◌, List, [], ◌++◌, length, take, drop, Option, Some, None, refl, subst, sym, ◌∙◌, ap, arith}
use Rattle.std.specs.Io.KnownBytes.{Consumes, Appends}
use Rattle.std.proofs.lemmas.List.{append_assoc, append-nil, drop-drop, take_at, take-append-drop, length-take, length-drop, length-append, take_rest, nil_from_length}

pub Consumes-nil : (known : Option (List ℕ)) → Consumes known known []
Consumes-nil None = tt
Consumes-nil (Some xs) = refl

pub Appends-nil : (known : Option (List ℕ)) → Appends known known []
Appends-nil None = tt
Appends-nil (Some xs) = sym (append-nil xs)

pub Appends-trans : (a b c : Option (List ℕ)) (bs cs : List ℕ) → Appends a b bs → Appends b c cs → Appends a c (bs ++ cs)
Appends-trans None b c bs cs first second = tt
Appends-trans (Some xs) None c bs cs first second = absurd first
Appends-trans (Some xs) (Some ys) None bs cs first second = absurd second
Appends-trans (Some xs) (Some ys) (Some zs) bs cs first second = second ∙ ap (λ (l : List ℕ). l ++ cs) first ∙ append_assoc xs bs cs

pub Consumes-trans : (a b c : Option (List ℕ)) (bs cs : List ℕ) → Consumes a b bs → Consumes b c cs → Consumes a c (bs ++ cs)
Consumes-trans None b c bs cs first second = tt
Consumes-trans (Some xs) None c bs cs first second = absurd first
Consumes-trans (Some xs) (Some ys) None bs cs first second = absurd second
Consumes-trans (Some xs) (Some ys) (Some zs) bs cs first second = first ∙ ap (λ (l : List ℕ). bs ++ l) second ∙ sym (append_assoc bs cs zs)

-- a last call that took nothing
pub Appends-kept : (a b c : Option (List ℕ)) (bs : List ℕ) → Appends a b bs → Appends b c [] → Appends a c bs
Appends-kept a b c bs first second = subst (Appends a c) (append-nil bs) (Appends-trans a b c bs [] first second)

-- of these bytes a front part was taken, and the rest is left
pub record HasWritten (bytes rest : List ℕ) (first now : Option (List ℕ)) : Type 0 where
  pub front : List ℕ
  pub all : bytes ≡ front ++ rest
  pub taken : Appends first now front

pub HasWritten-none : (bytes : List ℕ) (first : Option (List ℕ)) → HasWritten bytes bytes first first
HasWritten-none bytes first = record { front = []; all = refl; taken = Appends-nil first }

-- a write takes the first n bytes of the rest
pub HasWritten-more : (bytes rest : List ℕ) (first before now : Option (List ℕ)) (n : ℕ) → HasWritten bytes rest first before → n ≤ length rest
    → Appends before now (take n rest) → HasWritten bytes (take (length rest - n) (drop n rest)) first now
HasWritten-more bytes rest first before now n written fits is = record {
  front = written.front ++ take n rest;
  all = written.all ∙ ap (λ (l : List ℕ). written.front ++ l) (sym (take-append-drop n rest) ∙ ap (λ (l : List ℕ). take n rest ++ l) (sym (take_rest rest n)))
      ∙ sym (append_assoc written.front (take n rest) (take (length rest - n) (drop n rest)));
  taken = Appends-trans first before now written.front (take n rest) written.taken is;
}

pub HasWritten-all : (bytes rest : List ℕ) (first now : Option (List ℕ)) → HasWritten bytes rest first now → length rest ≡ 0 → Appends first now bytes
HasWritten-all bytes rest first now written none =
    subst (Appends first now) (sym (written.all ∙ ap (λ (l : List ℕ). written.front ++ l) (nil_from_length rest none) ∙ append-nil written.front)) written.taken

pub HasWritten-prefix : (bytes rest : List ℕ) (first now : Option (List ℕ)) → HasWritten bytes rest first now
    → (n : ℕ) × (n ≤ length bytes) × Appends first now (take n bytes)
HasWritten-prefix bytes rest first now written =
    let front_is : take (length written.front) bytes ≡ written.front =
    ap (λ (l : List ℕ). take (length written.front) l) written.all ∙ take_at written.front rest (length written.front) refl in
    (length written.front, omega (arith, ap length written.all, length-append written.front rest), subst (Appends first now) (sym front_is) written.taken)

-- a read of n bytes of memory, which were copied before other bytes
pub read_part : (bytes copied others : List ℕ) (at n : ℕ) → copied ≡ take ((at + n) - at) (drop at bytes) → at + n ≤ length bytes
    → drop at bytes ≡ take n (copied ++ others) ++ drop (at + n) bytes
read_part bytes copied others at n is fits =
    let count : (at + n) - at ≡ n = omega arith in
    let copied_is : copied ≡ take n (drop at bytes) = is ∙ ap (λ (k : ℕ). take k (drop at bytes)) count in
    let size : length copied ≡ n = omega (arith, ap length copied_is, length-take n (drop at bytes), length-drop at bytes) in
    let first : take n (copied ++ others) ≡ take n (drop at bytes) = take_at copied others n size ∙ copied_is in
    sym (take-append-drop n (drop at bytes)) ∙ ap (λ (l : List ℕ). take n (drop at bytes) ++ l) (drop-drop n at bytes)
    ∙ ap (λ (l : List ℕ). l ++ drop (at + n) bytes) (sym first)
