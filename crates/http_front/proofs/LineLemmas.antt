-- Half a head of which too many lines have come has too many fields, however it goes on.
use Rattle.std.proofs.Common.{◌≡◌, ◌⊎◌, inl, inr, ℕ, zero, suc, ◌+◌, ◌<◌, ◌≤◌, List, [], ◌∷◌, ◌++◌, Bool, true, false, length, take, drop, refl, sym, ap, ◌∙◌, subst, arith, append_assoc, append-nil, length-append, length-take-le, take-append-drop}
use Rattle.std.specs.Prelude.{◌==◌, if◌then◌else◌, IsTrue, All}
use Rattle.std.specs.List.{flat_map}
use Rattle.std.proofs.lemmas.Grind.{flat_map-append}
use Rattle.std.proofs.lemmas.List.Elements.{All-head, All-tail, All-take}
use Rattle.matchit.proofs.ConflictLemmas.{head-of, tail-of}
use Rattle.httparse.specs.Ascii.{space, colon}
use Rattle.httparse.specs.Grammar.{LineEnd, crlf, lf, print_end, print_blank, print_version, Field, IsField, print_field, RequestHead, IsRequestHead, print_request, HasNoRequest, MayBecomeRequest, AllPass, is_token_byte, is_uri_byte, is_value_byte}
use Rattle.httparse.specs.Spans.{RequestExceeds, RequestOverflows}
use Rattle.http_front.specs.declared.limits.TheConstants.{MOST_FIELDS}
use Rattle.http_front.specs.Front.{newlines, is_line_end, after_blank, HasTooManyFields}
use Rattle.http_front.proofs.ExceedLemmas.{newlines-append, newlines-end, ten, token_byte, after_blank-blank, newline_is_none, print_request-is}

-- ---- which bytes are newlines

unlike : (t : Bool) (b : ℕ) (test : ℕ → Bool) → (t ≡ true → b ≡ 10) → (IsTrue (test 10) → ⊥) → IsTrue (test b) → ◌≡◌ {A = ℕ} (if t then 1 else 0) 0
unlike true b test is none passes = absurd (none (subst (λ (n : ℕ). IsTrue (test n)) (is refl) passes))
unlike false b test is none passes = refl

no_newline : (test : ℕ → Bool) (bytes : List ℕ) → (IsTrue (test 10) → ⊥) → AllPass test bytes → newlines bytes ≡ 0
no_newline test [] none all = refl
no_newline test (b ∷ bytes) none all =
    let here = unlike (b == 10) b test (ten b) none (All-head (λ c. IsTrue (test c)) b bytes all) in
    let behind = no_newline test bytes none (All-tail (λ c. IsTrue (test c)) b bytes all) in
    omega (arith, here, behind)

uri_is_none : IsTrue (is_uri_byte 10) → ⊥
uri_is_none h = cc

value_is_none : IsTrue (is_value_byte 10) → ⊥
value_is_none h = cc

newlines-version : (minor : ℕ) → minor ≤ 1 → newlines (print_version minor) ≡ 0
newlines-version zero h = refl
newlines-version (suc zero) h = refl
newlines-version (suc (suc minor)) h = absurd (omega (arith, h))

-- a field has one newline
field_line : (f : Field) → IsField f → newlines (print_field f) ≡ 1
field_line f is =
    let whole = newlines-append (f.name ++ colon ∷ f.raw) (print_end f.end) in
    let front = newlines-append f.name (colon ∷ f.raw) in
    let value : newlines (colon ∷ f.raw) ≡ newlines f.raw = omega arith in
    omega (
      arith,
      whole,
      front,
      value,
      no_newline is_token_byte f.name newline_is_none is.name.1,
      no_newline is_value_byte f.raw value_is_none is.raw,
      newlines-end f.end,
    )

field_lines : (fields : List Field) → All IsField fields → newlines (flat_map print_field fields) ≡ length fields
field_lines [] all = refl
field_lines (f ∷ fields) all =
    let whole : newlines (flat_map print_field (f ∷ fields)) ≡ newlines (print_field f) + newlines (flat_map print_field fields) =
    newlines-append (print_field f) (flat_map print_field fields) in
    omega (arith, whole, field_line f (All-head IsField f fields all), field_lines fields (All-tail IsField f fields all))

-- ---- the lines of a head

-- what a head has before its fields, behind its method
abbrev first_line : RequestHead → List ℕ → List ℕ
first_line h behind = (space ∷ h.target) ++ ((space ∷ print_version h.minor) ++ (print_end h.line_end ++ behind))

-- a head up to its empty line, with these fields
abbrev lead : RequestHead → List Field → List ℕ
lead h fields = print_blank h.blank ++ (h.method ++ first_line h (flat_map print_field fields))

lead_by : (ends : List LineEnd) (method behind : List ℕ) → 0 < length method → AllPass is_token_byte method
    → newlines (after_blank (print_blank ends ++ (method ++ behind))) ≡ newlines behind
lead_by ends [] behind some all = absurd (omega (arith, some))
lead_by ends (m ∷ ms) behind some all =
    let at = after_blank-blank ends m (ms ++ behind) (token_byte m (All-head (λ b. IsTrue (is_token_byte b)) m ms all)) in
    let whole : newlines (m ∷ (ms ++ behind)) ≡ newlines (m ∷ ms) + newlines behind = newlines-append (m ∷ ms) behind in
    omega (arith, ap newlines at, whole, no_newline is_token_byte (m ∷ ms) newline_is_none all)

first_line_is : (h : RequestHead) (behind : List ℕ) → IsRequestHead h → newlines (first_line h behind) ≡ 1 + newlines behind
first_line_is h behind is =
    let target = newlines-append (space ∷ h.target) ((space ∷ print_version h.minor) ++ (print_end h.line_end ++ behind)) in
    let version = newlines-append (space ∷ print_version h.minor) (print_end h.line_end ++ behind) in
    let end = newlines-append (print_end h.line_end) behind in
    let target_space : newlines (space ∷ h.target) ≡ newlines h.target = omega arith in
    let version_space : newlines (space ∷ print_version h.minor) ≡ newlines (print_version h.minor) = omega arith in
    omega (
      arith,
      target,
      version,
      end,
      target_space,
      version_space,
      no_newline is_uri_byte h.target uri_is_none is.target.1,
      newlines-version h.minor is.minor,
      newlines-end h.line_end,
    )

lead_lines : (h : RequestHead) (fields : List Field) → IsRequestHead h → All IsField fields → newlines (after_blank (lead h fields)) ≡ length fields + 1
lead_lines h fields is all =
    let front = lead_by h.blank h.method (first_line h (flat_map print_field fields)) is.method.0 is.method.1 in
    omega (arith, front, first_line_is h (flat_map print_field fields) is, field_lines fields all)

more_behind : (b m t v e f s : List ℕ) → (b ++ (m ++ (t ++ (v ++ (e ++ f))))) ++ s ≡ b ++ (m ++ (t ++ (v ++ (e ++ (f ++ s)))))
more_behind b m t v e f s =
    append_assoc b (m ++ (t ++ (v ++ (e ++ f)))) s
    ∙ ap (λ x. b ++ x) (append_assoc m (t ++ (v ++ (e ++ f))) s
    ∙ ap (λ x. m ++ x) (append_assoc t (v ++ (e ++ f)) s
    ∙ ap (λ x. t ++ x) (append_assoc v (e ++ f) s
    ∙ ap (λ x. v ++ x) (append_assoc e f s))))

lead_more : (h : RequestHead) (fields : List Field) (s : List ℕ)
    → lead h fields ++ s ≡ print_blank h.blank ++ (h.method ++ first_line h (flat_map print_field fields ++ s))
lead_more h fields s =
    more_behind (print_blank h.blank) h.method (space ∷ h.target) (space ∷ print_version h.minor) (print_end h.line_end) (flat_map print_field fields) s

-- a head is what it is up to its empty line, and that
whole_is : (h : RequestHead) → print_request h ++ [] ≡ lead h h.fields ++ print_end h.last
whole_is h = print_request-is h ∙ sym (lead_more h h.fields (print_end h.last))

-- ---- bytes that end with a newline

record EndsLine (bytes : List ℕ) : Type 0 where
  front : List ℕ
  is : bytes ≡ front ++ 10 ∷ []

ends_behind : (xs ys : List ℕ) → EndsLine ys → EndsLine (xs ++ ys)
ends_behind xs ys e = record { front = xs ++ e.front; is = ap (λ zs. xs ++ zs) e.is ∙ sym (append_assoc xs e.front (10 ∷ [])) }

ends_end : (e : LineEnd) → EndsLine (print_end e)
ends_end crlf = record { front = 13 ∷ []; is = refl }
ends_end lf = record { front = []; is = refl }

ends_field : (f : Field) → EndsLine (print_field f)
ends_field f = ends_behind (f.name ++ colon ∷ f.raw) (print_end f.end) (ends_end f.end)

ends_fields : (xs : List ℕ) (fields : List Field) → EndsLine xs → EndsLine (xs ++ flat_map print_field fields)
ends_fields xs [] e = subst EndsLine (sym (append-nil xs)) e
ends_fields xs (f ∷ fields) e =
    subst EndsLine (append_assoc xs (print_field f) (flat_map print_field fields))
    (ends_fields (xs ++ print_field f) fields (ends_behind xs (print_field f) (ends_field f)))

ends_lead : (h : RequestHead) (fields : List Field) → EndsLine (lead h fields)
ends_lead h fields =
    ends_behind (print_blank h.blank) (h.method ++ first_line h (flat_map print_field fields))
    (ends_behind h.method (first_line h (flat_map print_field fields))
    (ends_behind (space ∷ h.target) ((space ∷ print_version h.minor) ++ (print_end h.line_end ++ flat_map print_field fields))
    (ends_behind (space ∷ print_version h.minor) (print_end h.line_end ++ flat_map print_field fields)
    (ends_fields (print_end h.line_end) fields (ends_end h.line_end)))))

last_newline : (xs ys : List ℕ) (x : ℕ) (zs : List ℕ) → xs ++ 10 ∷ [] ≡ ys ++ x ∷ zs → 1 ≤ newlines (x ∷ zs)
last_newline xs [] x zs e =
    let one : newlines (10 ∷ []) ≡ 1 = refl in
    omega (arith, ap newlines e, newlines-append xs (10 ∷ []), one)
last_newline [] (y ∷ ys) x zs e =
    let none : [] ≡ ys ++ x ∷ zs = tail-of 10 y [] (ys ++ x ∷ zs) e in
    let some : length (x ∷ zs) ≡ suc (length zs) = refl in
    absurd (omega (arith, ap length none, length-append ys (x ∷ zs), some))
last_newline (w ∷ xs) (y ∷ ys) x zs e = last_newline xs ys x zs (tail-of w y (xs ++ 10 ∷ []) (ys ++ x ∷ zs) e)

-- ---- lines of bytes that go on

more_by : (t : Bool) (x : ℕ) (xs ys : List ℕ)
    → (0 < newlines (after_blank xs) → newlines (after_blank (xs ++ ys)) ≡ newlines (after_blank xs) + newlines ys)
    → 0 < newlines (if t then after_blank xs else x ∷ xs)
    → newlines (if t then after_blank (xs ++ ys) else x ∷ (xs ++ ys)) ≡ newlines (if t then after_blank xs else x ∷ xs) + newlines ys
more_by true x xs ys rest some = rest some
more_by false x xs ys rest some = newlines-append (x ∷ xs) ys

-- behind a line that has come, all newlines count
lines_more : (xs ys : List ℕ) → 0 < newlines (after_blank xs) → newlines (after_blank (xs ++ ys)) ≡ newlines (after_blank xs) + newlines ys
lines_more [] ys some = absurd (omega (arith, some))
lines_more (x ∷ xs) ys some = more_by (is_line_end x) x xs ys (lines_more xs ys) some

-- bytes that go on up to a newline have a line less
line_less : (bytes whole : List ℕ) (x : ℕ) (xs : List ℕ) → whole ≡ bytes ++ x ∷ xs → EndsLine whole → 0 < newlines (after_blank bytes)
    → newlines (after_blank bytes) + 1 ≤ newlines (after_blank whole)
line_less bytes whole x xs e ends some =
    omega (
      arith,
      last_newline ends.front bytes x xs (sym ends.is ∙ e),
      lines_more bytes (x ∷ xs) some,
      ap (λ w. newlines (after_blank w)) e,
    )

-- a whole head has two lines more than fields
whole_lines : (h : RequestHead) → IsRequestHead h → newlines (after_blank (print_request h)) ≡ length h.fields + 2
whole_lines h is =
    let same = ap (λ w. newlines (after_blank w)) (sym (append-nil (print_request h)) ∙ whole_is h) in
    let front = lead_lines h h.fields is is.fields in
    omega (arith, same, front, lines_more (lead h h.fields) (print_end h.last) (omega (arith, front)), newlines-end h.last)

ends_whole : (h : RequestHead) → EndsLine (print_request h)
ends_whole h =
    subst EndsLine (sym (sym (append-nil (print_request h)) ∙ whole_is h)) (ends_behind (lead h h.fields) (print_end h.last) (ends_end h.last))

-- ---- two fronts of the same bytes

-- the first goes on where the second ends, or the other way round
abbrev IsFrontOf : List ℕ → List ℕ → Type 0
IsFrontOf a c = ((m : List ℕ) × (a ≡ c ++ m)) ⊎ ((x : ℕ) × (xs : List ℕ) × (c ≡ a ++ x ∷ xs))

which_goes_on : (a b c d : List ℕ) → a ++ b ≡ c ++ d → IsFrontOf a c
which_goes_on a b [] d e = inl (a, refl)
which_goes_on [] b (x ∷ c) d e = inr (x, c, refl)
which_goes_on (y ∷ a) b (x ∷ c) d e =
    let same : y ≡ x = head-of y x (a ++ b) (c ++ d) e in
    elim (which_goes_on a b c d (tail-of y x (a ++ b) (c ++ d) e)) [
      | inl more ↦ inl (more.0, ap (λ z. z ∷ a) same ∙ ap (λ zs. x ∷ zs) more.1)
      | inr more ↦ inr (more.0, more.1, ap (λ z. z ∷ c) (sym same) ∙ ap (λ zs. y ∷ zs) more.2)
    ]

-- ---- too many fields

overflows_by : (room : ℕ) (bytes : List ℕ) (h : RequestHead) → HasNoRequest bytes → room + 2 ≤ newlines (after_blank bytes) → IsRequestHead h
    → IsFrontOf bytes (print_request h) → room < length h.fields
overflows_by room bytes h none lines is (inl whole) = absurd (none h whole.0 (is, whole.1))
overflows_by room bytes h none lines is (inr part) =
    let less = line_less bytes (print_request h) part.0 part.1 part.2 (ends_whole h) (omega (arith, lines)) in
    omega (arith, less, lines, whole_lines h is)

overflows : (room : ℕ) (bytes : List ℕ) → HasNoRequest bytes → room + 2 ≤ newlines (after_blank bytes) → RequestOverflows room bytes
overflows room bytes none lines more h rest reads =
    overflows_by room bytes h none lines reads.0 (which_goes_on bytes more (print_request h) rest reads.1)

-- the head with its first fields alone, that ends behind them
abbrev cut_head : ℕ → RequestHead → RequestHead
cut_head n h = record h { fields = take n h.fields; last = lf }

cut_is : (n : ℕ) (h : RequestHead) → IsRequestHead h → IsRequestHead (cut_head n h)
cut_is n h is = record {
  method = is.method;
  target = is.target;
  target_text = is.target_text;
  minor = is.minor;
  fields = All-take IsField n h.fields is.fields;
}

exceeds_by : (room : ℕ) (bytes : List ℕ) (h : RequestHead) → room + 2 ≤ newlines (after_blank bytes) → IsRequestHead h → room < length h.fields
    → IsFrontOf bytes (lead h (take (room + 1) h.fields)) → RequestExceeds room bytes
exceeds_by room bytes h lines is few (inl whole) = (
  lead h (take (room + 1) h.fields),
  whole.0,
  whole.1,
  cut_head (room + 1) h,
  (cut_is (room + 1) h is, sym (whole_is (cut_head (room + 1) h))),
  omega (arith, few, length-take-le (room + 1) h.fields (omega (arith, few))),
)
exceeds_by room bytes h lines is few (inr part) =
    let first = take (room + 1) h.fields in
    let less = line_less bytes (lead h first) part.0 part.1 part.2 (ends_lead h first) (omega (arith, lines)) in
    let count = lead_lines h first is (All-take IsField (room + 1) h.fields is.fields) in
    absurd (omega (arith, less, lines, count, length-take-le (room + 1) h.fields (omega (arith, few))))

-- what a head is up to some of its fields, and what stands behind them
lead_cut : (n : ℕ) (h : RequestHead) → lead h h.fields ≡ lead h (take n h.fields) ++ flat_map print_field (drop n h.fields)
lead_cut n h =
    let parts : flat_map print_field h.fields ≡ flat_map print_field (take n h.fields) ++ flat_map print_field (drop n h.fields) =
    ap (flat_map print_field) (sym (take-append-drop n h.fields)) ∙ flat_map-append print_field (take n h.fields) (drop n h.fields) in
    ap (λ f. print_blank h.blank ++ (h.method ++ first_line h f)) parts ∙ sym (lead_more h (take n h.fields) (flat_map print_field (drop n h.fields)))

exceeds : (room : ℕ) (bytes : List ℕ) → HasNoRequest bytes → MayBecomeRequest bytes → room + 2 ≤ newlines (after_blank bytes) → RequestExceeds room bytes
exceeds room bytes none (inl (more, h, reads)) lines =
    let few : room < length h.fields = overflows room bytes none lines more h [] reads in
    let first = take (room + 1) h.fields in
    let behind = flat_map print_field (drop (room + 1) h.fields) in
    let whole : bytes ++ more ≡ lead h first ++ (behind ++ print_end h.last) =
    reads.1 ∙ whole_is h ∙ ap (λ x. x ++ print_end h.last) (lead_cut (room + 1) h) ∙ append_assoc (lead h first) behind (print_end h.last) in
    exceeds_by room bytes h lines reads.0 few (which_goes_on bytes more (lead h first) (behind ++ print_end h.last) whole)
exceeds room bytes none (inr (blank, method, target, token, uri, is)) lines =
    let front = lead_by blank method (space ∷ target) token.0 token.1 in
    let same = ap (λ w. newlines (after_blank w)) (is ∙ append_assoc (print_blank blank) method (space ∷ target)) in
    let target_space : newlines (space ∷ target) ≡ newlines target = omega arith in
    absurd (omega (arith, lines, front, same, target_space, no_newline is_uri_byte target uri_is_none uri))

-- half a head of which so many lines have come has too many fields
pub many_fields : (bytes : List ℕ) → HasNoRequest bytes → MayBecomeRequest bytes → MOST_FIELDS + 2 ≤ newlines (after_blank bytes) → HasTooManyFields bytes
many_fields bytes none may lines = (overflows MOST_FIELDS bytes none lines, exceeds MOST_FIELDS bytes none may lines, lines)
