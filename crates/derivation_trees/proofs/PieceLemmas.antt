-- The pieces of a text, and the mark at the end of the last.
use Rattle.std.proofs.Common.{◌≡◌, ℕ, suc, zero, ◌+◌, ◌-◌, ◌<◌, ◌≤◌, List, [], ◌∷◌, ◌++◌, Bool, true, false, not, ◌&&◌, filter, length, take, drop, get_or, refl, sym, ap, ◌∙◌, arith, nat_lt, append-nil, append_assoc, inl, inr, ◌⊎◌, ◌≢◌, Option, None, Some, MatchOption, Bor, length-append}
use Rattle.std.specs.Prelude.{if◌then◌else◌, ◌==◌, slice_index}
use Rattle.std.specs.List.{list_all, slice_split, onto_first}
use Rattle.std.specs.Char.{to_ascii_lowercase, to_ascii_uppercase}
use Rattle.std.proofs.lemmas.Bool.{cases_lt, and_parts, not-true, and_from}
use Rattle.std.proofs.lemmas.Bool.Decides.{nat_tests}
use Rattle.std.proofs.lemmas.List.Splits.{slice_split-cons_no}
use Rattle.std.proofs.lemmas.List.Elements.{filter-append}
use Rattle.std.proofs.lemmas.List.{take_at, drop_at, length_push, get_or_at}
use Rattle.std.specs.Str.{IsUtf8, IsCharBoundary}
use Rattle.std.proofs.lemmas.Str.{IsCharBoundary-after_ascii}
use Rattle.wiki_base.specs.Token.{has_no_space}
use Rattle.lexicon.specs.Terminals.{raised}
use Rattle.derivation_trees.specs.Cutting.{is_kept, pieces, is_mark, ends_with_mark, parted, parted_last, is_terminal, lowered, read_first, lowered_first, cut_of, is_mark_token, gap, continued, shown_first, shown, is_whole, IsNotRaised, FirstIsNotRaised}

-- Texts without a space

pub no_space_take : (n : ℕ) (bs : List ℕ) → has_no_space bs ≡ true → has_no_space (take n bs) ≡ true
no_space_take zero bs h = refl
no_space_take (suc n) [] h = refl
no_space_take (suc n) (b ∷ bs) h =
    let both = and_parts (not (b == 32)) (has_no_space bs) h in
    and_from (not (b == 32)) (has_no_space (take n bs)) both.0 (no_space_take n bs both.1)

pub no_space_drop : (n : ℕ) (bs : List ℕ) → has_no_space bs ≡ true → has_no_space (drop n bs) ≡ true
no_space_drop zero bs h = h
no_space_drop (suc n) [] h = refl
no_space_drop (suc n) (b ∷ bs) h = no_space_drop n bs (and_parts (not (b == 32)) (has_no_space bs) h).1

pub no_space_append : (xs ys : List ℕ) → has_no_space xs ≡ true → has_no_space ys ≡ true → has_no_space (xs ++ ys) ≡ true
no_space_append [] ys h k = k
no_space_append (x ∷ xs) ys h k =
    let both = and_parts (not (x == 32)) (has_no_space xs) h in
    and_from (not (x == 32)) (has_no_space (xs ++ ys)) both.0 (no_space_append xs ys both.1 k)

-- each byte differs from a space
differ : (b : ℕ) → ((b ≡ 32) → ⊥) → not (b == 32) ≡ true
differ b h = grind (arith, nat_tests)

pub no_space_from_bytes : (bs : List ℕ) → ((i : ℕ) → i < length bs → get_or bs i 0 ≡ 32 → ⊥) → has_no_space bs ≡ true
no_space_from_bytes [] h = refl
no_space_from_bytes (b ∷ bs) h =
    and_from (not (b == 32)) (has_no_space bs) (differ b (h 0 (omega arith))) (no_space_from_bytes bs (λ i lt. h (suc i) (omega arith)))

none_pass : (bs : List ℕ) → has_no_space bs ≡ true → (i : ℕ) (d : ℕ) → i < length bs → (get_or bs i d == 32) ≡ false
none_pass [] h i d lt = absurd (omega arith)
none_pass (b ∷ bs) h zero d lt = not-true (b == 32) (and_parts (not (b == 32)) (has_no_space bs) h).0
none_pass (b ∷ bs) h (suc i) d lt = none_pass bs (and_parts (not (b == 32)) (has_no_space bs) h).1 i d (omega arith)

-- a text without a space is one part
split_one : (bs : List ℕ) → has_no_space bs ≡ true → slice_split (λ b. b == 32) bs ≡ bs ∷ []
split_one [] h = refl
split_one (b ∷ bs) h =
    let both = and_parts (not (b == 32)) (has_no_space bs) h in
    slice_split-cons_no (λ x. x == 32) b bs (not-true (b == 32) both.0) ∙ ap (onto_first b) (split_one bs both.1)

-- the first space ends the first part
split_at_space : (xs ys : List ℕ) → has_no_space xs ≡ true → slice_split (λ b. b == 32) (xs ++ 32 ∷ ys) ≡ xs ∷ slice_split (λ b. b == 32) ys
split_at_space [] ys h = refl
split_at_space (x ∷ xs) ys h =
    let both = and_parts (not (x == 32)) (has_no_space xs) h in
    slice_split-cons_no (λ b. b == 32) x (xs ++ 32 ∷ ys) (not-true (x == 32) both.0) ∙ ap (onto_first x) (split_at_space xs ys both.1)

kept_cons : (t : List ℕ) (ts : List (List ℕ)) → filter is_kept (t ∷ ts) ≡ filter is_kept (t ∷ []) ++ filter is_kept ts
kept_cons t ts = filter-append is_kept (t ∷ []) ts

kept_one : (t : List ℕ) → is_kept t ≡ true → filter is_kept (t ∷ []) ≡ t ∷ []
kept_one t h = ap (λ c. if c then t ∷ [] else []) h

-- the pieces of a text without a space
pub pieces_last : (bs : List ℕ) → has_no_space bs ≡ true → pieces bs ≡ filter is_kept (bs ∷ [])
pieces_last bs h = ap (filter is_kept) (split_one bs h)

-- the pieces of a text with a space
pub pieces_space : (xs ys : List ℕ) → has_no_space xs ≡ true → pieces (xs ++ 32 ∷ ys) ≡ filter is_kept (xs ∷ []) ++ pieces ys
pieces_space xs ys h = ap (filter is_kept) (split_at_space xs ys h) ∙ kept_cons xs (slice_split (λ b. b == 32) ys)

-- one more piece is taken off
pub pieces_step : (tokens : List (List ℕ)) (text piece rest : List ℕ) → has_no_space piece ≡ true → text ≡ piece ++ 32 ∷ rest
    → (tokens ++ filter is_kept (piece ∷ [])) ++ pieces rest ≡ tokens ++ pieces text
pieces_step tokens text piece rest h e =
    append_assoc tokens (filter is_kept (piece ∷ [])) (pieces rest) ∙ ap (λ x. tokens ++ x) (sym (pieces_space piece rest h))
    ∙ ap (λ x. tokens ++ pieces x) (sym e)

pub pieces_end : (tokens : List (List ℕ)) (text : List ℕ) → has_no_space text ≡ true → tokens ++ filter is_kept (text ∷ []) ≡ tokens ++ pieces text
pieces_end tokens text h = ap (λ x. tokens ++ x) (sym (pieces_last text h))

-- The mark at the end of the last piece

pub parted_push : (front : List (List ℕ)) (last : List ℕ) → parted_last (front ++ last ∷ []) ≡ front ++ parted last
parted_push [] last = refl
parted_push (x ∷ []) last = refl
parted_push (x ∷ y ∷ ys) last = ap (λ xs. x ∷ xs) (parted_push (y ∷ ys) last)

parted_cons : (t : List ℕ) (xs : List (List ℕ)) (u : List ℕ) (us : List (List ℕ)) → parted_last xs ≡ u ∷ us → parted_last (t ∷ xs) ≡ t ∷ u ∷ us
parted_cons t [] u us h = cc
parted_cons t (x ∷ xs) u us h = ap (λ ys. t ∷ ys) h

parted_unmarked : (t : List ℕ) → ends_with_mark t ≡ false → parted t ≡ t ∷ []
parted_unmarked t h = ap (λ b. if b then take (length t - 1) t ∷ drop (length t - 1) t ∷ [] else t ∷ []) h

above : (n : ℕ) (m : ℕ) → nat_lt 0 n ≡ true → m ≡ n + 1 → nat_lt 1 m ≡ true
above n m h e = grind (arith, nat_tests)

pub above_zero : (n : ℕ) (m : ℕ) → m ≡ n + 1 → nat_lt 0 m ≡ true
above_zero n m e = grind (arith, nat_tests)

parted_mark : (t : List ℕ) (m : ℕ) → is_kept t ≡ true → is_mark m ≡ true → parted (t ++ m ∷ []) ≡ t ∷ (m ∷ []) ∷ []
parted_mark t m k h =
    let long : length (t ++ m ∷ []) - 1 ≡ length t = omega (arith, length_push t m) in
    let at : slice_index (t ++ m ∷ []) (length (t ++ m ∷ []) - 1) ≡ m = ap (slice_index (t ++ m ∷ [])) long ∙ get_or_at t m [] 0 (length t) refl in
    let marked : ends_with_mark (t ++ m ∷ []) ≡ true =
    and_from (nat_lt 1 (length (t ++ m ∷ []))) (is_mark (slice_index (t ++ m ∷ []) (length (t ++ m ∷ []) - 1)))
    (above (length t) (length (t ++ m ∷ [])) k (length_push t m)) (ap is_mark at ∙ h) in
    ap (λ b. if b then take (length (t ++ m ∷ []) - 1) (t ++ m ∷ []) ∷ drop (length (t ++ m ∷ []) - 1) (t ++ m ∷ []) ∷ [] else (t ++ m ∷ []) ∷ []) marked
    ∙ ap (λ n. take n (t ++ m ∷ []) ∷ drop n (t ++ m ∷ []) ∷ []) long
    ∙ ap (λ x. x ∷ drop (length t) (t ++ m ∷ []) ∷ []) (take_at t (m ∷ []) (length t) refl) ∙ ap (λ x. t ∷ x ∷ []) (drop_at t (m ∷ []) (length t) refl)

-- What is shown is cut into the same tokens

pub record Whole (t : List ℕ) : Type 0 where
  pub kept : is_kept t ≡ true
  pub spaceless : has_no_space t ≡ true
  pub unmarked : ends_with_mark t ≡ false

whole_parts : (t : List ℕ) → is_whole t ≡ true → Whole t
whole_parts t h =
    let outer = and_parts (is_kept t && has_no_space t) (not (ends_with_mark t)) h in
    let inner = and_parts (is_kept t) (has_no_space t) outer.0 in
    record { kept = inner.0; spaceless = inner.1; unmarked = not-true (ends_with_mark t) outer.1 }

pub whole_from_parts : (t : List ℕ) → Whole t → is_whole t ≡ true
whole_from_parts t w =
    and_from (is_kept t && has_no_space t) (not (ends_with_mark t)) (and_from (is_kept t) (has_no_space t) w.kept w.spaceless) (ap not w.unmarked)

back_one : (t : List ℕ) → Whole t → parted_last (pieces (t ++ [])) ≡ t ∷ []
back_one t w =
    ap (λ x. parted_last (pieces x)) (append-nil t) ∙ ap parted_last (pieces_last t w.spaceless ∙ kept_one t w.kept) ∙ parted_unmarked t w.unmarked

back_more : (t u : List ℕ) (us : List (List ℕ)) → Whole t → gap u us ≡ 32 ∷ [] → parted_last (pieces (u ++ continued us)) ≡ u ∷ us
    → parted_last (pieces (t ++ continued (u ∷ us))) ≡ t ∷ u ∷ us
back_more t u us w g h =
    ap (λ x. parted_last (pieces (t ++ (x ++ u ++ continued us)))) g
    ∙ ap parted_last (pieces_space t (u ++ continued us) w.spaceless ∙ ap (λ x. x ++ pieces (u ++ continued us)) (kept_one t w.kept))
    ∙ parted_cons t (pieces (u ++ continued us)) u us h

back_mark : (t : List ℕ) (m : ℕ) → Whole t → has_no_space (m ∷ []) ≡ true → is_mark m ≡ true
    → parted_last (pieces (t ++ continued ((m ∷ []) ∷ []))) ≡ t ∷ (m ∷ []) ∷ []
back_mark t m w k h =
    ap (λ b. parted_last (pieces (t ++ ((if b then [] else 32 ∷ []) ++ (m ∷ []) ++ [])))) h
    ∙ ap parted_last (pieces_last (t ++ m ∷ []) (no_space_append t (m ∷ []) w.spaceless k)
    ∙ kept_one (t ++ m ∷ []) (above_zero (length t) (length (t ++ m ∷ [])) (length_push t m))) ∙ parted_mark t m w.kept h

back_last_at : (t : List ℕ) (m : ℕ) (b : Bool) → is_mark m ≡ b → Whole t → Whole (m ∷ [])
    → parted_last (pieces (t ++ continued ((m ∷ []) ∷ []))) ≡ t ∷ (m ∷ []) ∷ []
back_last_at t m true h w v = back_mark t m w v.spaceless h
back_last_at t m false h w v = back_more t (m ∷ []) [] w (ap (λ b. if b then [] else 32 ∷ []) h) (back_one (m ∷ []) v)

back_last : (t u : List ℕ) → Whole t → Whole u → parted_last (pieces (t ++ continued (u ∷ []))) ≡ t ∷ u ∷ []
back_last t [] w v = back_more t [] [] w refl (back_one [] v)
back_last t (m ∷ []) w v = back_last_at t m (is_mark m) refl w v
back_last t (m ∷ n ∷ ns) w v = back_more t (m ∷ n ∷ ns) [] w refl (back_one (m ∷ n ∷ ns) v)

pub more_left : (u : List ℕ) (v : List ℕ) (vs : List (List ℕ)) → gap u (v ∷ vs) ≡ 32 ∷ []
more_left u v vs =
    let some : (length (v ∷ vs) == 0) ≡ false = grind (arith, nat_tests) in
    ap (λ b. if b && is_mark_token u then [] else 32 ∷ []) some

back : (t : List ℕ) (ts : List (List ℕ)) → Whole t → list_all is_whole ts ≡ true → parted_last (pieces (t ++ continued ts)) ≡ t ∷ ts
back t [] w ws = back_one t w
back t (u ∷ []) w ws = back_last t u w (whole_parts u (and_parts (is_whole u) true ws).0)
back t (u ∷ v ∷ vs) w ws =
    let both = and_parts (is_whole u) (list_all is_whole (v ∷ vs)) ws in
    back_more t u (v ∷ vs) w (more_left u v vs) (back u (v ∷ vs) (whole_parts u both.0) both.1)

-- The letter of the first token

lower_keeps : (b : ℕ) → (b < 65) ⊎ (91 ≤ b) → to_ascii_lowercase b ≡ b
lower_keeps b (inl h) = grind (arith, nat_tests)
lower_keeps b (inr h) = grind (arith, nat_tests)

raise_keeps : (b : ℕ) → (b < 97) ⊎ (123 ≤ b) → to_ascii_uppercase b ≡ b
raise_keeps b (inl h) = grind (arith, nat_tests)
raise_keeps b (inr h) = grind (arith, nat_tests)

upper_case : (b : ℕ) → 65 ≤ b → b < 91 → to_ascii_uppercase (to_ascii_lowercase b) ≡ b
upper_case b h k = grind (arith, nat_tests)

lower_case : (b : ℕ) → 97 ≤ b → b < 123 → to_ascii_lowercase (to_ascii_uppercase b) ≡ b
lower_case b h k = grind (arith, nat_tests)

raise_lowered : (b : ℕ) → (to_ascii_uppercase (to_ascii_lowercase b) ≡ b) ⊎ (to_ascii_lowercase b ≡ b)
raise_lowered b =
    elim (cases_lt b 65) [
      | inl low ↦ inr (lower_keeps b (inl low))
      | inr high ↦ elim (cases_lt b 91) [ inl low ↦ inl (upper_case b high low) | inr other ↦ inr (lower_keeps b (inr other)) ]
    ]

lower_raised : (b : ℕ) → (to_ascii_lowercase (to_ascii_uppercase b) ≡ b) ⊎ (to_ascii_uppercase b ≡ b)
lower_raised b =
    elim (cases_lt b 97) [
      | inl low ↦ inr (raise_keeps b (inl low))
      | inr high ↦ elim (cases_lt b 123) [ inl low ↦ inl (lower_case b high low) | inr other ↦ inr (raise_keeps b (inr other)) ]
    ]

raised_differs : (b : ℕ) → not (b == 32) ≡ true → not (to_ascii_uppercase b == 32) ≡ true
raised_differs b h = grind (arith, nat_tests)

same_end : (x y : ℕ) (bs : List ℕ) → ends_with_mark (x ∷ bs) ≡ ends_with_mark (y ∷ bs)
same_end x y [] = refl
same_end x y (c ∷ cs) =
    let e : length (x ∷ c ∷ cs) - 1 ≡ suc (length cs) = omega arith in
    ap (λ n. nat_lt 1 (length (x ∷ c ∷ cs)) && is_mark (slice_index (x ∷ c ∷ cs) n)) e
    ∙ sym (ap (λ n. nat_lt 1 (length (x ∷ c ∷ cs)) && is_mark (slice_index (y ∷ c ∷ cs) n)) e)

whole_raised : (t : List ℕ) → Whole t → Whole (raised t)
whole_raised [] w = w
whole_raised (b ∷ bs) w =
    let both = and_parts (not (b == 32)) (has_no_space bs) w.spaceless in
    record {
      kept = w.kept;
      spaceless = and_from (not (to_ascii_uppercase b == 32)) (has_no_space bs) (raised_differs b both.0) both.1;
      unmarked = same_end (to_ascii_uppercase b) b bs ∙ w.unmarked;
    }

whole_first : (b : Bool) (t : List ℕ) → Whole t → Whole (if b then raised t else t)
whole_first true t w = whole_raised t w
whole_first false t w = w

one_branch : (b : Bool) (t : List ℕ) → (if b then t else t) ≡ t
one_branch true t = refl
one_branch false t = refl

read_plain_at : (terminals : List (List ℕ)) (b : ℕ) (bs : List ℕ) (c : Bool) → is_terminal terminals (lowered (b ∷ bs)) ≡ c → IsNotRaised terminals (b ∷ bs)
    → read_first terminals (b ∷ bs) ≡ b ∷ bs
read_plain_at terminals b bs false is plain = ap (λ x. if x then lowered (b ∷ bs) else b ∷ bs) is
read_plain_at terminals b bs true is plain =
    ap (λ x. if x then lowered (b ∷ bs) else b ∷ bs) is ∙ elim (raise_lowered b) [
      | inl e ↦ sym (plain (lowered (b ∷ bs)) is (ap (λ x. x ∷ bs) (sym e)))
      | inr e ↦ ap (λ x. x ∷ bs) e
    ]

read_plain : (terminals : List (List ℕ)) (t : List ℕ) → IsNotRaised terminals t → read_first terminals t ≡ t
read_plain terminals [] plain = one_branch (is_terminal terminals []) []
read_plain terminals (b ∷ bs) plain = read_plain_at terminals b bs (is_terminal terminals (lowered (b ∷ bs))) refl plain

read_raised : (terminals : List (List ℕ)) (b : ℕ) (bs : List ℕ) → is_terminal terminals (b ∷ bs) ≡ true → IsNotRaised terminals (b ∷ bs)
    → read_first terminals (raised (b ∷ bs)) ≡ b ∷ bs
read_raised terminals b bs is plain =
    elim (lower_raised b) [
      | inl e ↦ ap (λ x. if is_terminal terminals (x ∷ bs) then x ∷ bs else raised (b ∷ bs)) e ∙ ap (λ x. if x then b ∷ bs else raised (b ∷ bs)) is
      | inr e ↦ ap (λ x. read_first terminals (x ∷ bs)) e ∙ read_plain terminals (b ∷ bs) plain
    ]

read_back_at : (terminals : List (List ℕ)) (t : List ℕ) (c : Bool) → is_terminal terminals t ≡ c → IsNotRaised terminals t
    → read_first terminals (shown_first terminals t) ≡ t
read_back_at terminals [] c is plain =
    ap (read_first terminals) (one_branch (is_terminal terminals []) []) ∙ read_plain terminals [] plain
read_back_at terminals (b ∷ bs) true is plain =
    ap (λ x. read_first terminals (if x then raised (b ∷ bs) else b ∷ bs)) is ∙ read_raised terminals b bs is plain
read_back_at terminals (b ∷ bs) false is plain =
    ap (λ x. read_first terminals (if x then raised (b ∷ bs) else b ∷ bs)) is ∙ read_plain terminals (b ∷ bs) plain

-- tokens that are shown and cut are the same
pub cut_shown : (terminals tokens : List (List ℕ)) → list_all is_whole tokens ≡ true → FirstIsNotRaised terminals tokens
    → cut_of terminals (shown terminals tokens) ≡ tokens
cut_shown terminals [] ws plain = refl
cut_shown terminals (t ∷ ts) ws plain =
    let both = and_parts (is_whole t) (list_all is_whole ts) ws in
    ap (lowered_first terminals) (back (shown_first terminals t) ts (whole_first (is_terminal terminals t) t (whole_parts t both.0)) both.1)
    ∙ ap (λ x. x ∷ ts) (read_back_at terminals t (is_terminal terminals t) refl plain)

-- Steps of the code

pub split_cases : (text : List ℕ) (r : Option (Bor (List ℕ) × Bor (List ℕ)))
    → MatchOption r ((i : ℕ) → i < length text → get_or text i 0 ≢ 32)
    (λ x. (text ≡ x.0.now ++ (32 ∷ x.1.now)) × ((i : ℕ) → i < length x.0.now → get_or x.0.now i 0 ≢ 32))
    → MatchOption r (has_no_space text ≡ true) (λ parts. (has_no_space parts.0.now ≡ true) × (text ≡ parts.0.now ++ 32 ∷ parts.1.now))
split_cases text None h = no_space_from_bytes text h
split_cases text (Some x) h = (no_space_from_bytes x.0.now h.1, h.0)

pub shorter : (text piece rest : List ℕ) → text ≡ piece ++ 32 ∷ rest → length rest < length text
shorter text piece rest e = omega (arith, ap length e, length-append piece (32 ∷ rest))

-- a text may be cut behind a first letter
pub boundary_one : (bs : List ℕ) → IsUtf8 bs → 0 < length bs → get_or bs 0 0 < 128 → IsCharBoundary bs 1
boundary_one bs utf8 some low = IsCharBoundary-after_ascii bs 0 utf8 some low
