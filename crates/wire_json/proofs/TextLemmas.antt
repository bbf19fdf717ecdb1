-- The compact text of a value: it is UTF-8, has no newline byte, and reads as the value's tokens.
use Rattle.std.proofs.Common.{◌≡◌, ◌≢◌, ℕ, zero, suc, ◌+◌, ◌*◌, ◌^◌, ◌<◌, ◌≤◌, Bool, true, false, ◌&&◌, not, ◌==◌, nat_lt, nat_le, List, [], ◌∷◌, ◌++◌, length, IsUtf8, decimal, inl, inr, refl, sym, ap, ◌∙◌, subst, arith}
use Rattle.std.specs.Prelude.{⊤}
use Rattle.std.proofs.lemmas.Bool.{and_parts, cases_lt, cases_eq, eqb-false, leb-true, not-true}
use Rattle.std.proofs.lemmas.Fmt.{IsAscii-decimal, decimal_is_IsNumeral, length-decimal-le}
use Rattle.std.proofs.lemmas.List.{length-append}
use Rattle.std.proofs.lemmas.List.Elements.{All-nil, All-cons, All-append, All-from_get_or}
use Rattle.std.proofs.lemmas.Str.{IsUtf8-append, IsUtf8-from_ascii}
use Rattle.std.proofs.lemmas.Str.Parse.{digit_at}
use Rattle.json.specs.Lex.{tokens}
use Rattle.json.specs.Print.{escape_byte, escape, quoted}
use Rattle.json.specs.Tree as tree
use Rattle.json.proofs.Printed.Decimals.{IsNumber-decimal}
use Rattle.json.proofs.Printed.Strings.{escape_byte_plain}
use Rattle.json.proofs.Printed.Tokens.{tokens-print}
use Rattle.json.proofs.Printed.Trees.{ArePrintable-json_tokens}
use Rattle.json.proofs.Printed.Utf8.{IsUtf8-are_ascii, IsUtf8-quoted}
use Rattle.serde_json.specs.Data.{Num, unsigned, negative, float, Data, null, boolean, number, string, array, object, Items, no_items, item, Members, no_members, member}
use Rattle.serde_json.specs.Written.{outline, items_outline, members_outline, comma_if, compact_text, items_text, members_text}
use Rattle.serde_json.proofs.Texts.{print-outline}
use Rattle.wiki_io.specs.Lines.{HasNoNewline}
use Rattle.wiki_io.specs.declared.limits.TheConstants.{NEWLINE}

-- ---- values that a line tells: their texts are UTF-8, their numbers whole and below 2 ^ 64

abbrev pub IsWhole : Num → Type 0
IsWhole (unsigned n) = n < 2 ^ 64
IsWhole (negative z) = ⊥
IsWhole (float x) = ⊥

abbrev mutual
  pub IsTold : Data → Type 0
  IsTold null = ⊤
  IsTold (boolean b) = ⊤
  IsTold (number n) = IsWhole n
  IsTold (string s) = IsUtf8 s
  IsTold (array ds) = AreTold ds
  IsTold (object ms) = MembersAreTold ms

  pub AreTold : Items → Type 0
  AreTold no_items = ⊤
  AreTold (item d ds) = IsTold d × AreTold ds

  pub MembersAreTold : Members → Type 0
  MembersAreTold no_members = ⊤
  MembersAreTold (member k d ms) = IsUtf8 k × IsTold d × MembersAreTold ms

-- ---- the tokens

mutual
  numbers : (d : Data) → IsTold d → tree.HasNumbers (outline d)
  numbers null h = tt
  numbers (boolean b) h = tt
  numbers (number (unsigned n)) h = IsNumber-decimal n h
  numbers (number (negative z)) h = absurd h
  numbers (number (float x)) h = absurd h
  numbers (string s) h = tt
  numbers (array ds) h = numbers_of_items ds h
  numbers (object ms) h = numbers_of_members ms h

  numbers_of_items : (ds : Items) → AreTold ds → tree.ItemsHaveNumbers (items_outline ds)
  numbers_of_items no_items h = tt
  numbers_of_items (item d ds) h = (numbers d h.0, numbers_of_items ds h.1)

  numbers_of_members : (ms : Members) → MembersAreTold ms → tree.MembersHaveNumbers (members_outline ms)
  numbers_of_members no_members h = tt
  numbers_of_members (member k d ms) h = (numbers d h.1, numbers_of_members ms h.2)

pub tokens-compact_text : (d : Data) → IsTold d → tokens (compact_text d) ≡ tree.json_tokens (outline d)
tokens-compact_text d h =
    ap tokens (sym (print-outline d)) ∙ tokens-print (tree.json_tokens (outline d)) (ArePrintable-json_tokens (outline d) (numbers d h))

-- ---- UTF-8

ascii_before : (x : ℕ) (xs : List ℕ) → nat_lt x 128 ≡ true → IsUtf8 xs → IsUtf8 (x ∷ xs)
ascii_before x xs small h = IsUtf8-append (x ∷ []) xs (IsUtf8-are_ascii (x ∷ []) (rw small refl)) h

comma_before : (later : Bool) (xs : List ℕ) → IsUtf8 xs → IsUtf8 (comma_if later ++ xs)
comma_before true xs h = ascii_before 44 xs refl h
comma_before false xs h = h

mutual
  pub IsUtf8-compact_text : (d : Data) → IsTold d → IsUtf8 (compact_text d)
  IsUtf8-compact_text null h = IsUtf8-are_ascii _ refl
  IsUtf8-compact_text (boolean true) h = IsUtf8-are_ascii _ refl
  IsUtf8-compact_text (boolean false) h = IsUtf8-are_ascii _ refl
  IsUtf8-compact_text (number (unsigned n)) h = IsUtf8-from_ascii (decimal n) (IsAscii-decimal n h)
  IsUtf8-compact_text (number (negative z)) h = absurd h
  IsUtf8-compact_text (number (float x)) h = absurd h
  IsUtf8-compact_text (string s) h = IsUtf8-quoted s h
  IsUtf8-compact_text (array ds) h = ascii_before 91 _ refl (IsUtf8-items_text false ds h)
  IsUtf8-compact_text (object ms) h = ascii_before 123 _ refl (IsUtf8-members_text false ms h)

  IsUtf8-items_text : (later : Bool) (ds : Items) → AreTold ds → IsUtf8 (items_text later ds)
  IsUtf8-items_text later no_items h = IsUtf8-are_ascii _ refl
  IsUtf8-items_text later (item d ds) h =
      comma_before later _ (IsUtf8-append _ _ (IsUtf8-compact_text d h.0) (IsUtf8-items_text true ds h.1))

  IsUtf8-members_text : (later : Bool) (ms : Members) → MembersAreTold ms → IsUtf8 (members_text later ms)
  IsUtf8-members_text later no_members h = IsUtf8-are_ascii _ refl
  IsUtf8-members_text later (member k d ms) h =
      comma_before later _ (IsUtf8-append _ _ (IsUtf8-quoted k h.0)
      (ascii_before 58 _ refl (IsUtf8-append _ _ (IsUtf8-compact_text d h.1) (IsUtf8-members_text true ms h.2))))

-- ---- what stands for one byte: at most six bytes, none of them a newline

abbrev IsOther : ℕ → Type 0
IsOther b = b ≢ NEWLINE

abbrev has_no_newline : List ℕ → Bool
has_no_newline [] = true
has_no_newline (x ∷ xs) = not (x == NEWLINE) && has_no_newline xs

HasNoNewline-by_test : (xs : List ℕ) → has_no_newline xs ≡ true → HasNoNewline xs
HasNoNewline-by_test [] h = All-nil IsOther
HasNoNewline-by_test (x ∷ xs) h =
    let p = and_parts (not (x == NEWLINE)) (has_no_newline xs) h in
    All-cons IsOther x xs (eqb-false x NEWLINE (not-true (x == NEWLINE) p.0)) (HasNoNewline-by_test xs p.1)

abbrev escapes_well : ℕ → Bool
escapes_well x = has_no_newline (escape_byte x) && nat_le (length (escape_byte x)) 6

abbrev escape_well_below : ℕ → Bool
escape_well_below zero = true
escape_well_below (suc n) = escapes_well n && escape_well_below n

each_below : (n : ℕ) → escape_well_below n ≡ true → (x : ℕ) → x < n → escapes_well x ≡ true
each_below zero h x lt = absurd (omega arith)
each_below (suc n) h x lt =
    let p = and_parts _ _ h in
    elim (cases_eq x n) [ inl same ↦ rw same p.0 | inr other ↦ each_below n p.1 x (omega arith) ]

all_well : escape_well_below 128 ≡ true
unfolding escape_byte
all_well = refl

HasNoNewline-one : (x : ℕ) → x ≢ NEWLINE → HasNoNewline (x ∷ [])
HasNoNewline-one x other = All-cons IsOther x [] other (All-nil IsOther)

escape_byte-well : (x : ℕ) → HasNoNewline (escape_byte x) × (length (escape_byte x) ≤ 6)
escape_byte-well x = elim (cases_lt x 128) [
  | inl small ↦
      let p = and_parts _ _ (each_below 128 all_well x small) in
      (HasNoNewline-by_test _ p.0, leb-true _ _ p.1)
  | inr large ↦
      let same = escape_byte_plain x (λ e. omega arith) (λ e. omega arith) (omega arith) in
      (subst HasNoNewline (sym same) (HasNoNewline-one x (λ e. omega arith)), subst (λ l. length l ≤ 6) (sym same) (omega arith))
]

HasNoNewline-escape : (s : List ℕ) → HasNoNewline (escape s)
HasNoNewline-escape [] = All-nil IsOther
HasNoNewline-escape (x ∷ s) = All-append IsOther (escape_byte x) (escape s) (escape_byte-well x).0 (HasNoNewline-escape s)

length-escape : (s : List ℕ) → length (escape s) ≤ 6 * length s
length-escape [] = omega arith
length-escape (x ∷ s) = omega (arith, (escape_byte-well x).1, length-escape s, length-append (escape_byte x) (escape s))

-- ---- no newline

before_all : (x : ℕ) (xs : List ℕ) → (x == NEWLINE) ≡ false → HasNoNewline xs → HasNoNewline (x ∷ xs)
before_all x xs other h = All-cons IsOther x xs (eqb-false x NEWLINE other) h

comma_before_all : (later : Bool) (xs : List ℕ) → HasNoNewline xs → HasNoNewline (comma_if later ++ xs)
comma_before_all true xs h = before_all 44 xs refl h
comma_before_all false xs h = h

HasNoNewline-quoted : (s : List ℕ) → HasNoNewline (quoted s)
HasNoNewline-quoted s = before_all 34 (escape s ++ 34 ∷ []) refl
    (All-append IsOther (escape s) (34 ∷ []) (HasNoNewline-escape s) (HasNoNewline-by_test (34 ∷ []) refl))

HasNoNewline-decimal : (n : ℕ) → n < 2 ^ 64 → HasNoNewline (decimal n)
HasNoNewline-decimal n h = All-from_get_or IsOther (decimal n) 0 (λ i l e. omega (arith, digit_at (decimal n) i (decimal_is_IsNumeral n h).0.1 l))

mutual
  pub HasNoNewline-compact_text : (d : Data) → IsTold d → HasNoNewline (compact_text d)
  HasNoNewline-compact_text null h = HasNoNewline-by_test (compact_text null) refl
  HasNoNewline-compact_text (boolean true) h = HasNoNewline-by_test (compact_text (boolean true)) refl
  HasNoNewline-compact_text (boolean false) h = HasNoNewline-by_test (compact_text (boolean false)) refl
  HasNoNewline-compact_text (number (unsigned n)) h = HasNoNewline-decimal n h
  HasNoNewline-compact_text (number (negative z)) h = absurd h
  HasNoNewline-compact_text (number (float x)) h = absurd h
  HasNoNewline-compact_text (string s) h = HasNoNewline-quoted s
  HasNoNewline-compact_text (array ds) h = before_all 91 (items_text false ds) refl (HasNoNewline-items_text false ds h)
  HasNoNewline-compact_text (object ms) h = before_all 123 (members_text false ms) refl (HasNoNewline-members_text false ms h)

  HasNoNewline-items_text : (later : Bool) (ds : Items) → AreTold ds → HasNoNewline (items_text later ds)
  HasNoNewline-items_text later no_items h = HasNoNewline-by_test (93 ∷ []) refl
  HasNoNewline-items_text later (item d ds) h =
      comma_before_all later (compact_text d ++ items_text true ds)
      (All-append IsOther (compact_text d) (items_text true ds) (HasNoNewline-compact_text d h.0) (HasNoNewline-items_text true ds h.1))

  HasNoNewline-members_text : (later : Bool) (ms : Members) → MembersAreTold ms → HasNoNewline (members_text later ms)
  HasNoNewline-members_text later no_members h = HasNoNewline-by_test (125 ∷ []) refl
  HasNoNewline-members_text later (member k d ms) h =
      let rest = compact_text d ++ members_text true ms in
      comma_before_all later (quoted k ++ 58 ∷ rest)
      (All-append IsOther (quoted k) (58 ∷ rest) (HasNoNewline-quoted k)
      (before_all 58 rest refl
      (All-append IsOther (compact_text d) (members_text true ms) (HasNoNewline-compact_text d h.1) (HasNoNewline-members_text true ms h.2))))

-- ---- lengths

-- a text of n bytes is written in at most 6 · n + 2
pub length-quoted : (s : List ℕ) → length (quoted s) ≤ 6 * length s + 2
length-quoted s = omega (arith, length-escape s, length-append (escape s) (34 ∷ []))

-- a number of a request has at most ten digits
pub length-number : (n : ℕ) → n < 2 ^ 32 → length (decimal n) ≤ 10
length-number n h = length-decimal-le 10 n (omega arith) (omega arith) (omega arith)
