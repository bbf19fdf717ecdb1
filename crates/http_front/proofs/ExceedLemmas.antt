-- A head with too many fields has a newline for each of them, and two more.
use Rattle.std.proofs.Common.{◌≡◌, ◌⊎◌, inl, inr, ℕ, ◌+◌, ◌<◌, ◌≤◌, List, [], ◌∷◌, ◌++◌, Bool, true, false, ◌||◌, length, refl, sym, ap, ◌∙◌, arith, append_assoc, append-nil}
use Rattle.std.specs.Prelude.{◌==◌, if◌then◌else◌, IsTrue, All}
use Rattle.std.specs.List.{flat_map}
use Rattle.std.proofs.lemmas.Bool.Decides.{nat_tests}
use Rattle.std.proofs.lemmas.List.Elements.{All-head}
use Rattle.httparse.specs.Ascii.{space, colon}
use Rattle.httparse.specs.Grammar.{LineEnd, crlf, lf, print_end, print_blank, print_version, Field, print_field, print_section, RequestHead, print_request, is_token_byte}
use Rattle.httparse.specs.Spans.{RequestExceeds}
use Rattle.http_front.specs.Front.{newlines, is_line_end, after_blank}

pub newlines-append : (xs ys : List ℕ) → newlines (xs ++ ys) ≡ newlines xs + newlines ys
newlines-append [] ys = omega arith
newlines-append (x ∷ xs) ys = omega (arith, newlines-append xs ys)

pub newlines-end : (e : LineEnd) → newlines (print_end e) ≡ 1
newlines-end crlf = refl
newlines-end lf = refl

-- bytes have no fewer newlines than their end
newlines-back : (xs ys : List ℕ) (n : ℕ) → n ≤ newlines ys → n ≤ newlines (xs ++ ys)
newlines-back xs ys n h = omega (arith, h, newlines-append xs ys)

-- a field has a newline at its end
newlines-field : (f : Field) → 1 ≤ newlines (print_field f)
newlines-field f = newlines-back (f.name ++ colon ∷ f.raw) (print_end f.end) 1 (omega (arith, newlines-end f.end))

newlines-fields : (fields : List Field) → length fields ≤ newlines (flat_map print_field fields)
newlines-fields [] = omega arith
newlines-fields (f ∷ fields) =
    let whole : newlines (flat_map print_field (f ∷ fields)) ≡ newlines (print_field f) + newlines (flat_map print_field fields) =
    newlines-append (print_field f) (flat_map print_field fields) in
    omega (arith, whole, newlines-field f, newlines-fields fields)

lines_of : (target version line fields last : List ℕ) (n : ℕ) → n ≤ newlines fields → newlines line ≡ 1 → newlines last ≡ 1
    → n + 2 ≤ newlines (target ++ (version ++ (line ++ (fields ++ last))))
lines_of target version line fields last n some one end =
    let section : newlines (fields ++ last) ≡ newlines fields + newlines last = newlines-append fields last in
    let lines : newlines (line ++ (fields ++ last)) ≡ newlines line + newlines (fields ++ last) = newlines-append line (fields ++ last) in
    newlines-back target (version ++ (line ++ (fields ++ last))) (n + 2)
    (newlines-back version (line ++ (fields ++ last)) (n + 2) (omega (arith, section, lines, some, one, end)))

-- what a head has behind its method
abbrev start_of : RequestHead → List ℕ
start_of h = (space ∷ h.target) ++ ((space ∷ print_version h.minor) ++ (print_end h.line_end ++ print_section h.fields h.last))

newlines-start : (h : RequestHead) → length h.fields + 2 ≤ newlines (start_of h)
newlines-start h =
    lines_of (space ∷ h.target) (space ∷ print_version h.minor) (print_end h.line_end) (flat_map print_field h.fields) (print_end h.last) (length h.fields)
    (newlines-fields h.fields) (newlines-end h.line_end) (newlines-end h.last)

thirteen : (b : ℕ) → (b == 13) ≡ true → b ≡ 13
thirteen b h = grind (arith, nat_tests)

pub ten : (b : ℕ) → (b == 10) ≡ true → b ≡ 10
ten b h = grind (arith, nat_tests)

either_end : (s t : Bool) (b : ℕ) → (s ≡ true → b ≡ 13) → (t ≡ true → b ≡ 10) → ((s || t) ≡ false) ⊎ ((b ≡ 13) ⊎ (b ≡ 10))
either_end true t b f g = inr (inl (f refl))
either_end false true b f g = inr (inr (g refl))
either_end false false b f g = inl refl

return_is_none : is_token_byte 13 ≡ true → ⊥
unfolding is_token_byte
return_is_none h = cc

pub newline_is_none : is_token_byte 10 ≡ true → ⊥
unfolding is_token_byte
newline_is_none h = cc

token_byte_by : (b : ℕ) → is_token_byte b ≡ true → (is_line_end b ≡ false) ⊎ ((b ≡ 13) ⊎ (b ≡ 10)) → is_line_end b ≡ false
token_byte_by b h (inl other) = other
token_byte_by b h (inr (inl e)) = absurd (return_is_none (sym (ap is_token_byte e) ∙ h))
token_byte_by b h (inr (inr e)) = absurd (newline_is_none (sym (ap is_token_byte e) ∙ h))

-- no byte of a token ends a line
pub token_byte : (b : ℕ) → is_token_byte b ≡ true → is_line_end b ≡ false
token_byte b h = token_byte_by b h (either_end (b == 13) (b == 10) b (thirteen b) (ten b))

pub after_blank-blank : (ends : List LineEnd) (b : ℕ) (bytes : List ℕ) → is_line_end b ≡ false → after_blank (print_blank ends ++ (b ∷ bytes)) ≡ b ∷ bytes
after_blank-blank [] b bytes h = ap (λ t. if t then after_blank bytes else b ∷ bytes) h
after_blank-blank (crlf ∷ ends) b bytes h = after_blank-blank ends b bytes h
after_blank-blank (lf ∷ ends) b bytes h = after_blank-blank ends b bytes h

-- what follows the empty lines before a method
record Behind (bytes start : List ℕ) : Type 0 where
  z : ℕ
  zs : List ℕ
  is : after_blank bytes ≡ z ∷ zs
  lines : newlines start ≤ newlines (z ∷ zs)

behind : (ends : List LineEnd) (method start : List ℕ) → 0 < length method → All (λ b. IsTrue (is_token_byte b)) method
    → Behind (print_blank ends ++ (method ++ start)) start
behind ends [] start some all = absurd (omega arith)
behind ends (m ∷ ms) start some all = record {
  z = m;
  zs = ms ++ start;
  is = after_blank-blank ends m (ms ++ start) (token_byte m (All-head (λ b. IsTrue (is_token_byte b)) m ms all));
  lines = newlines-back (m ∷ ms) start (newlines start) (omega arith);
}

lost_step : (t : Bool) (x : ℕ) (xs ys : List ℕ) (z : ℕ) (zs : List ℕ)
    → (after_blank (xs ++ 10 ∷ []) ≡ z ∷ zs → newlines (z ∷ zs) ≤ newlines (after_blank (xs ++ ys)) + 1)
    → (if t then after_blank (xs ++ 10 ∷ []) else x ∷ xs ++ 10 ∷ []) ≡ z ∷ zs
    → newlines (z ∷ zs) ≤ newlines (if t then after_blank (xs ++ ys) else x ∷ xs ++ ys) + 1
lost_step true x xs ys z zs lost_rest h = lost_rest h
lost_step false x xs ys z zs lost_rest h =
    let same : newlines (x ∷ xs ++ 10 ∷ []) ≡ newlines (z ∷ zs) = ap newlines h in
    let one : newlines (10 ∷ []) ≡ 1 = refl in
    omega (arith, same, one, newlines-append (x ∷ xs) (10 ∷ []), newlines-append (x ∷ xs) ys)

-- where other bytes stand in the place of a newline behind some bytes, one is lost at most
lost : (xs ys : List ℕ) (z : ℕ) (zs : List ℕ) → after_blank (xs ++ 10 ∷ []) ≡ z ∷ zs → newlines (z ∷ zs) ≤ newlines (after_blank (xs ++ ys)) + 1
lost [] ys z zs h = cc
lost (x ∷ xs) ys z zs h = lost_step (is_line_end x) x xs ys z zs (lost xs ys z zs) h

right_nested : (b m t v e s : List ℕ) → b ++ m ++ t ++ v ++ e ++ s ++ [] ≡ b ++ (m ++ (t ++ (v ++ (e ++ s))))
right_nested b m t v e s =
    append-nil (b ++ m ++ t ++ v ++ e ++ s)
    ∙ append_assoc (b ++ m ++ t ++ v) e s
    ∙ append_assoc (b ++ m ++ t) v (e ++ s)
    ∙ append_assoc (b ++ m) t (v ++ (e ++ s))
    ∙ append_assoc b m (t ++ (v ++ (e ++ s)))

pub print_request-is : (h : RequestHead) → print_request h ++ [] ≡ print_blank h.blank ++ (h.method ++ start_of h)
unfolding print_request
print_request-is h = right_nested (print_blank h.blank) h.method (space ∷ h.target) (space ∷ print_version h.minor) (print_end h.line_end)
    (print_section h.fields h.last)

-- a head with more fields than there is room for has a newline for each that fits, and two more
pub exceeds_newlines : (room : ℕ) (bytes : List ℕ) → RequestExceeds room bytes → room + 2 ≤ newlines (after_blank bytes)
exceeds_newlines room bytes exceeds =
    let front = exceeds.0 in
    let rest = exceeds.1 in
    let h = exceeds.3 in
    let reads = exceeds.4 in
    let found = behind h.blank h.method (start_of h) reads.0.method.0 reads.0.method.1 in
    let at : after_blank (front ++ 10 ∷ []) ≡ found.z ∷ found.zs = ap after_blank (reads.1 ∙ print_request-is h) ∙ found.is in
    let kept = lost front rest found.z found.zs at in
    let whole : newlines (after_blank (front ++ rest)) ≡ newlines (after_blank bytes) = ap (λ bs. newlines (after_blank bs)) (sym exceeds.2) in
    omega (arith, kept, whole, found.lines, newlines-start h, exceeds.5)
