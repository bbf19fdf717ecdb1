-- A step over one character of a text in HTML.
use Rattle.std.proofs.Common.{◌≡◌, ◌∙◌, refl, sym, ap, subst, ℕ, ◌==◌, ◌&&◌, not, Bool, true, false, codes, if◌then◌else◌, List, [], ◌∷◌, ◌++◌, drop, length, ◌<◌, ◌≤◌, arith, append_assoc, append-nil, encode_utf8_all, eqb-true}
use Rattle.std.specs.Prelude.{encode_utf8}
use Rattle.std.specs.List.{flat_map}
use Rattle.std.specs.Str.{chars, IsUtf8}
use Rattle.std.proofs.lemmas.Str.{chars_past_char, chars-nil, encodes-chars, encode_ascii}
use Rattle.std.proofs.lemmas.Bool.{and_parts, false≢true}
use Rattle.wiki_base.proofs.ListLaws.{drop_past}
use Rattle.pages.specs.Html.{escaped, escaped_char, is_marked}

pub escaped-past_char : (front bs rest : List ℕ) (c : ℕ) → IsUtf8 bs → bs ≡ encode_utf8 c ++ rest →
    front ++ flat_map escaped_char (chars bs) ≡ (front ++ escaped_char c) ++ flat_map escaped_char (chars rest)
escaped-past_char front bs rest c utf8 step =
    ap (λ cs. front ++ flat_map escaped_char cs) (chars_past_char bs rest c utf8 step)
    ∙ sym (append_assoc front (escaped_char c) (flat_map escaped_char (chars rest)))

-- at the end nothing is left
pub escaped-end : (front bs : List ℕ) → length bs ≡ 0 → front ++ flat_map escaped_char (chars bs) ≡ front
escaped-end front [] empty = ap (λ cs. front ++ flat_map escaped_char cs) chars-nil ∙ append-nil front
escaped-end front (b ∷ bs) empty = absurd (omega arith)

-- ---- a text without marked characters stands in HTML as it is

-- no byte of these is marked
abbrev pub are_plain : List ℕ → Bool
are_plain [] = true
are_plain (b ∷ bs) = not (is_marked b) && are_plain bs

are_plain-append : (xs ys : List ℕ) → are_plain (xs ++ ys) ≡ (are_plain xs && are_plain ys)
are_plain-append [] ys = refl
are_plain-append (x ∷ xs) ys = ap (λ b. not (is_marked x) && b) (are_plain-append xs ys) ∙ and_assoc (not (is_marked x)) (are_plain xs) (are_plain ys)
  where
    and_assoc : (a b c : Bool) → (a && (b && c)) ≡ ((a && b) && c)
    and_assoc true b c = refl
    and_assoc false b c = refl

escaped_char-plain : (c : ℕ) → are_plain (encode_utf8 c) ≡ true → escaped_char c ≡ encode_utf8 c
unfolding escaped_char
escaped_char-plain c plain = by (c == 38) (c == 60) (c == 62) (c == 34) refl refl refl refl
  where
    marked : (m : ℕ) → m < 128 → (c == m) ≡ true → are_plain (m ∷ []) ≡ true
    marked m ascii same =
        subst (λ bs. are_plain bs ≡ true) (encode_ascii m ascii) (subst (λ d. are_plain (encode_utf8 d) ≡ true) (eqb-true c m same) plain)

    by : (a b d e : Bool) → (c == 38) ≡ a → (c == 60) ≡ b → (c == 62) ≡ d → (c == 34) ≡ e
        → (if a then codes "&amp;" else (if b then codes "&lt;" else (if d then codes "&gt;" else (if e then codes "&quot;" else encode_utf8 c))))
        ≡ encode_utf8 c
    by true b d e same _ _ _ = absurd (false≢true (marked 38 (omega arith) same))
    by false true d e _ same _ _ = absurd (false≢true (marked 60 (omega arith) same))
    by false false true e _ _ same _ = absurd (false≢true (marked 62 (omega arith) same))
    by false false false true _ _ _ same = absurd (false≢true (marked 34 (omega arith) same))
    by false false false false _ _ _ _ = refl

plain_chars : (cs : List ℕ) → are_plain (encode_utf8_all cs) ≡ true → flat_map escaped_char cs ≡ encode_utf8_all cs
plain_chars [] plain = refl
plain_chars (c ∷ cs) plain =
    let parts = and_parts (are_plain (encode_utf8 c)) (are_plain (encode_utf8_all cs)) (sym (are_plain-append (encode_utf8 c) (encode_utf8_all cs)) ∙ plain) in
    ap (λ x. x ++ flat_map escaped_char cs) (escaped_char-plain c parts.0) ∙ ap (λ x. encode_utf8 c ++ x) (plain_chars cs parts.1)

-- no byte up to the end is marked
pub plain_to_the_end : (text : List ℕ) (i : ℕ) → IsUtf8 text → length text ≤ i → are_plain (drop i text) ≡ are_plain text → escaped text ≡ text
plain_to_the_end text i utf8 end same =
    let plain : are_plain (encode_utf8_all (chars text)) ≡ true
    = ap are_plain (encodes-chars text utf8) ∙ sym same ∙ ap are_plain (drop_past text i end) in
    plain_chars (chars text) plain ∙ encodes-chars text utf8

-- what is added to something, and then to that

added : (before a b between after : List ℕ) → between ≡ before ++ a → after ≡ between ++ b → after ≡ before ++ (a ++ b)
added before a b between after one other = other ∙ ap (λ x. x ++ b) one ∙ append_assoc before a b

pub six_added : (before a b c d e f p q r s t after : List ℕ)
    → p ≡ before ++ a → q ≡ p ++ b → r ≡ q ++ c → s ≡ r ++ d → t ≡ s ++ e → after ≡ t ++ f
    → after ≡ before ++ (a ++ (b ++ (c ++ (d ++ (e ++ f)))))
six_added before a b c d e f p q r s t after one two three four five six =
    added before a (b ++ (c ++ (d ++ (e ++ f)))) p after one (added p b (c ++ (d ++ (e ++ f))) q after two
    (added q c (d ++ (e ++ f)) r after three (added r d (e ++ f) s after four (added s e f t after five six))))
