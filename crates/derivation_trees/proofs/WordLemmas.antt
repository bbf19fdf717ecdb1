-- Terminals and the forms of words are whole tokens.
use Rattle.std.proofs.Common.{◌≡◌, ℕ, suc, ◌+◌, ◌-◌, ◌<◌, List, [], ◌∷◌, Bool, true, false, not, ◌&&◌, ◌||◌, length, get_or, Option, None, Some, option_map, refl, sym, ap, ◌∙◌, arith, nat_lt, inl, inr, All, ◌++◌, subst, drop, length-append, append-nil, append_assoc, lit<, zero}
use Rattle.std.specs.Prelude.{if◌then◌else◌, ◌==◌, slice_index, encode_utf8}
use Rattle.std.specs.List.{list_all}
use Rattle.std.specs.Str.{chars, IsUtf8, NonePass, NoCharPasses, bytes_eq, IsAscii}
use Rattle.std.proofs.lemmas.Bool.Decides.{nat_tests}
use Rattle.std.proofs.lemmas.Slice.Eq.{bytes_eq-Decides}
use Rattle.std.proofs.lemmas.Str.{encodes-chars, NoCharPasses-byte, IsUtf8-take, IsUtf8-drop, IsUtf8-from_ascii, IsCharBoundary-before_ascii, IsCharBoundary-after_ascii}
use Rattle.std.proofs.lemmas.List.{take_at, drop_at, length_push, get_or_at}
use Rattle.std.proofs.lemmas.Bool.{and_right, and_left, eqb-true, or_from, and_parts, not-true, and_from}
use Rattle.wiki_base.proofs.OptionLaws.{option_map-none as none_inside}
use Rattle.lexicon.specs.Terminals.{raised}
use Rattle.ucd_derived.specs.Binary.{is_alphabetic}
use Rattle.ucd_derived.specs.AlphabeticRanges.{alphabetic_ranges}
use Rattle.ucd_table.specs.Rows.{in_ranges}
use Rattle.wiki_base.specs.declared.text.BadText.TheVariants.{TooLong, Letter}
use Rattle.wiki_base.specs.Text.{is_letter, begins_with_letter, is_in_place, misplaced, IsText}
use Rattle.wiki_base.specs.Token.{has_no_space}
use Rattle.codeco_text.specs.Names.{is_terminal_byte, ends_well, is_terminal}
use Rattle.codeco_terms.specs.GrammarParts.{GrammarParts}
use Rattle.codeco_checked.specs.Sound.{IsSound}
use Rattle.derivation_trees.specs.Cutting as cutting
use Rattle.derivation_trees.specs.Cutting.{is_kept, is_mark, ends_with_mark, is_whole, shown, cut_of, IsWord, AreWords, gap, continued, shown_first}
use Rattle.derivation_trees.proofs.PieceLemmas.{above_zero, Whole, whole_from_parts, no_space_from_bytes, cut_shown, more_left}

-- Terminals

pub first_fails : (a b c d e f : Bool) → not (((((a || b) || c) || d) || e) || f) ≡ true → not a ≡ true
first_fails true b c d e f h = h
first_fails false b c d e f h = refl

pub spaceless : (bs : List ℕ) → list_all is_terminal_byte bs ≡ true → has_no_space bs ≡ true
spaceless [] h = refl
spaceless (b ∷ bs) h =
    let both = and_parts (is_terminal_byte b) (list_all is_terminal_byte bs) h in
    and_from (not (b == 32)) (has_no_space bs) (first_fails (b == 32) (b == 9) (b == 13) (b == 10) (b == 91) (b == 93) both.0) (spaceless bs both.1)

unmarked_end : (b : ℕ) (bs : List ℕ) → ends_well (b ∷ bs) ≡ true → is_mark (get_or (b ∷ bs) (length bs) 0) ≡ false
unmarked_end b [] h = not-true (is_mark b) h
unmarked_end b (c ∷ cs) h = unmarked_end c cs h

unmarked_from_last : (b : ℕ) (bs : List ℕ) → is_mark (get_or (b ∷ bs) (length bs) 0) ≡ false → ends_with_mark (b ∷ bs) ≡ false
unmarked_from_last b bs h =
    let e : length (b ∷ bs) - 1 ≡ length bs = omega arith in
    and_right (nat_lt 1 (length (b ∷ bs))) (is_mark (slice_index (b ∷ bs) (length (b ∷ bs) - 1))) (ap (λ n. is_mark (slice_index (b ∷ bs) n)) e ∙ h)

kept_here : (b : ℕ) (bs : List ℕ) → is_kept (b ∷ bs) ≡ true
kept_here b bs = above_zero (length bs) (length (b ∷ bs)) (omega arith)

one_byte : (n : ℕ) → n ≡ 1 → nat_lt 1 n ≡ false
one_byte n h = grind (arith, nat_tests)

whole_terminal : (t : List ℕ) → is_terminal t ≡ true → Whole t
whole_terminal [] h = cc
whole_terminal (b ∷ []) h = record {
  kept = kept_here b [];
  spaceless = spaceless (b ∷ []) (and_from (is_terminal_byte b) true h refl);
  unmarked = and_left (nat_lt 1 (length (b ∷ []))) (is_mark (slice_index (b ∷ []) (length (b ∷ []) - 1))) (one_byte (length (b ∷ [])) (omega arith));
}
whole_terminal (b ∷ c ∷ bs) h =
    let outer = and_parts (is_terminal_byte b && list_all is_terminal_byte (c ∷ bs)) (ends_well (c ∷ bs)) h in
    record {
      kept = kept_here b (c ∷ bs);
      spaceless = spaceless (b ∷ c ∷ bs) outer.0;
      unmarked = unmarked_from_last b (c ∷ bs) (unmarked_end c bs outer.1);
    }

spelled_at : (terminals : List (List ℕ)) (x t : List ℕ) (b : Bool) → bytes_eq t x ≡ b → is_terminal x ≡ true → (b || cutting.is_terminal terminals t) ≡ true
    → (cutting.is_terminal terminals t ≡ true → is_terminal t ≡ true) → is_terminal t ≡ true
spelled_at terminals x t true is one among rest = ap is_terminal ((bytes_eq-Decides t x).0 is) ∙ one
spelled_at terminals x t false is one among rest = rest among

-- a token that is one of the terminals is spelled as one
spelled : (terminals : List (List ℕ)) (t : List ℕ) → list_all is_terminal terminals ≡ true → cutting.is_terminal terminals t ≡ true → is_terminal t ≡ true
spelled [] t all among = cc
spelled (x ∷ xs) t all among =
    let both = and_parts (is_terminal x) (list_all is_terminal xs) all in
    spelled_at xs x t (bytes_eq t x) refl both.0 among (spelled xs t both.1)

-- Texts of letters

pub letter-space : is_letter 32 ≡ false
unfolding is_alphabetic in_ranges alphabetic_ranges
letter-space = refl

letter-stop : is_letter 46 ≡ false
unfolding is_alphabetic in_ranges alphabetic_ranges
letter-stop = refl

letter-question : is_letter 63 ≡ false
unfolding is_alphabetic in_ranges alphabetic_ranges
letter-question = refl

-- a space, or a mark at the end of a sentence
abbrev is_other : ℕ → Bool
is_other c = c == 32 || is_mark c

pub out_of_place : (after : Bool) (d : ℕ) (rest : List ℕ) → is_letter d ≡ false → (d == 45) ≡ false → is_in_place after d rest ≡ false
out_of_place after d rest unlettered other =
    ap (λ x. x || (d == 45 && (after && begins_with_letter rest))) unlettered ∙ ap (λ x. x && (after && begins_with_letter rest)) other

pub excluded : (d : ℕ) (after : Bool) (c : ℕ) (rest : List ℕ) (b : Bool) → (c == d) ≡ b → is_letter d ≡ false → (d == 45) ≡ false
    → is_in_place after c rest ≡ true
    → (c == d) ≡ false
excluded d after c rest false is unlettered other h = is
excluded d after c rest true is unlettered other h =
    let at : true ≡ false = sym h ∙ ap (λ x. is_in_place after x rest) (eqb-true c d is) ∙ out_of_place after d rest unlettered other in
    cc

letter_fails : (after : Bool) (c : ℕ) (rest : List ℕ) → is_in_place after c rest ≡ true → is_other c ≡ false
letter_fails after c rest h =
    or_from (c == 32) (is_mark c) (excluded 32 after c rest (c == 32) refl letter-space refl h)
    (or_from (c == 46) (c == 63) (excluded 46 after c rest (c == 46) refl letter-stop refl h)
    (excluded 63 after c rest (c == 63) refl letter-question refl h))

pub placed_step : (after : Bool) (d : ℕ) (ds : List ℕ) (b : Bool) → is_in_place after d ds ≡ b → misplaced after (d ∷ ds) ≡ None
    → (is_in_place after d ds ≡ true) × (misplaced (is_letter d) ds ≡ None)
placed_step after d ds true is h = (
  is,
  none_inside (λ n. length (encode_utf8 d) + n) (misplaced (is_letter d) ds)
      (sym (ap (λ b. if b then option_map (λ n. length (encode_utf8 d) + n) (misplaced (is_letter d) ds) else Some 0) is) ∙ h),
)
placed_step after d ds false is h =
    let here : Option ℕ = Some 0 in
    let at : here ≡ None = sym (ap (λ b. if b then option_map (λ n. length (encode_utf8 d) + n) (misplaced (is_letter d) ds) else Some 0) is) ∙ h in
    cc

none_other : (after : Bool) (cs : List ℕ) → misplaced after cs ≡ None → NonePass is_other cs
none_other after [] h = tt
none_other after (d ∷ ds) h =
    let step = placed_step after d ds (is_in_place after d ds) refl h in
    (letter_fails after d ds step.0, none_other (is_letter d) ds step.1)

pub no_fault : (b : Bool) (o : Option ℕ) → (if b then Some TooLong else option_map Letter o) ≡ None → o ≡ None
no_fault true o h = cc
no_fault false None h = refl
no_fault false (Some n) h = cc

no_space_there : (x : ℕ) → x ≡ 32 → is_other x ≡ false → ⊥
no_space_there x e h =
    let at : true ≡ false = ap is_other (sym e) ∙ h in
    cc

low_mark : (x : ℕ) → is_mark x ≡ true → x < 128
low_mark x h = grind (arith, nat_tests)

mark_fails : (x : ℕ) (b : Bool) → is_mark x ≡ b → (x < 128 → is_other x ≡ false) → is_mark x ≡ false
mark_fails x false is h = is
mark_fails x true is h = right_false (x == 32) (is_mark x) (h (low_mark x is))
  where
    right_false : (a b : Bool) → (a || b) ≡ false → b ≡ false
    right_false true b h = cc
    right_false false b h = h

whole_text : (t : List ℕ) → IsUtf8 t → IsText t → Whole t
whole_text [] utf8 h = cc
whole_text (b ∷ bs) utf8 h =
    let placed : misplaced false (chars (b ∷ bs)) ≡ None = no_fault (nat_lt 64 (length (b ∷ bs))) (misplaced false (chars (b ∷ bs))) h in
    let none : NoCharPasses is_other (b ∷ bs) = (chars (b ∷ bs), encodes-chars (b ∷ bs) utf8, none_other false (chars (b ∷ bs)) placed) in
    record {
      kept = kept_here b bs;
      spaceless = no_space_from_bytes (b ∷ bs)
          (λ i lt e. no_space_there (get_or (b ∷ bs) i 0) e (NoCharPasses-byte is_other (b ∷ bs) i none lt (omega (arith, e))));
      unmarked = unmarked_from_last b bs
          (mark_fails (get_or (b ∷ bs) (length bs) 0) (is_mark (get_or (b ∷ bs) (length bs) 0)) refl
          (λ low. NoCharPasses-byte is_other (b ∷ bs) (length bs) none (omega arith) low));
    }

-- Each token of a text in UTF-8 is in UTF-8

abbrev AllUtf8 : List (List ℕ) → Type 0
AllUtf8 [] = Unit {0}
AllUtf8 (t ∷ ts) = IsUtf8 t × AllUtf8 ts

split_utf8 : (xs ys : List ℕ) (b : ℕ) → b < 128 → IsUtf8 (xs ++ b ∷ ys) → IsUtf8 xs × IsUtf8 ys
split_utf8 xs ys b low utf8 =
    let there : length xs < length (xs ++ b ∷ ys) = omega (arith, length-append xs (b ∷ ys)) in
    let small : get_or (xs ++ b ∷ ys) (length xs) 0 < 128 = omega (arith, get_or_at xs b ys 0 (length xs) refl) in
    let rest : drop (length xs + 1) (xs ++ b ∷ ys) ≡ ys =
    ap (drop (length xs + 1)) (sym (append_assoc xs (b ∷ []) ys)) ∙ drop_at (xs ++ b ∷ []) ys (length xs + 1) (length_push xs b) in (
      subst IsUtf8 (take_at xs (b ∷ ys) (length xs) refl)
          (IsUtf8-take (xs ++ b ∷ ys) (length xs) utf8 (IsCharBoundary-before_ascii (xs ++ b ∷ ys) (length xs) there small)),
      subst IsUtf8 rest (IsUtf8-drop (xs ++ b ∷ ys) (length xs + 1) utf8 (IsCharBoundary-after_ascii (xs ++ b ∷ ys) (length xs) utf8 there small)),
    )

utf8_space : (t u : List ℕ) (us : List (List ℕ)) → gap u us ≡ 32 ∷ [] → IsUtf8 (t ++ continued (u ∷ us)) → IsUtf8 t × IsUtf8 (u ++ continued us)
utf8_space t u us g h =
    split_utf8 t (u ++ continued us) 32 (lit< tt) (subst IsUtf8 (ap (λ x. t ++ (x ++ u ++ continued us)) g) h)

ascii_one : (m : ℕ) → m < 128 → IsAscii (m ∷ [])
ascii_one m low zero = low
ascii_one m low (suc i) = lit< tt

utf8_mark : (t : List ℕ) (m : ℕ) (b : Bool) → is_mark m ≡ b → IsUtf8 (t ++ continued ((m ∷ []) ∷ [])) → IsUtf8 t × AllUtf8 ((m ∷ []) ∷ [])
utf8_mark t m true is h =
    let whole : IsUtf8 (t ++ m ∷ []) = subst IsUtf8 (ap (λ b. t ++ ((if b then [] else 32 ∷ []) ++ (m ∷ []) ++ [])) is) h in
    ((split_utf8 t [] m (low_mark m is) whole).0, (IsUtf8-from_ascii (m ∷ []) (ascii_one m (low_mark m is)), tt))
utf8_mark t m false is h =
    let parts = utf8_space t (m ∷ []) [] (ap (λ b. if b then [] else 32 ∷ []) is) h in
    (parts.0, (parts.1, tt))

utf8_last : (t u : List ℕ) → IsUtf8 (t ++ continued (u ∷ [])) → IsUtf8 t × AllUtf8 (u ∷ [])
utf8_last t [] h = let parts = utf8_space t [] [] refl h in (parts.0, (parts.1, tt))
utf8_last t (m ∷ []) h = utf8_mark t m (is_mark m) refl h
utf8_last t (m ∷ n ∷ ns) h =
    let parts = utf8_space t (m ∷ n ∷ ns) [] refl h in
    (parts.0, (subst IsUtf8 (append-nil (m ∷ n ∷ ns)) parts.1, tt))

utf8_tokens : (t : List ℕ) (ts : List (List ℕ)) → IsUtf8 (t ++ continued ts) → IsUtf8 t × AllUtf8 ts
utf8_tokens t [] h = (subst IsUtf8 (append-nil t) h, tt)
utf8_tokens t (u ∷ []) h = utf8_last t u h
utf8_tokens t (u ∷ v ∷ vs) h =
    let parts = utf8_space t u (v ∷ vs) (more_left u v vs) h in
    (parts.0, utf8_tokens u (v ∷ vs) parts.1)

-- Terminals and forms

whole_word : (terminals : List (List ℕ)) (t : List ℕ) → list_all is_terminal terminals ≡ true → IsUtf8 t → IsWord terminals t → Whole t
whole_word terminals t written utf8 (inl among) = whole_terminal t (spelled terminals t written among)
whole_word terminals t written utf8 (inr text) = whole_text t utf8 text

whole_words : (terminals tokens : List (List ℕ)) → list_all is_terminal terminals ≡ true → AllUtf8 tokens → All (IsWord terminals) tokens
    → list_all is_whole tokens ≡ true
whole_words terminals [] written utf8 words = refl
whole_words terminals (t ∷ ts) written utf8 words =
    and_from (is_whole t) (list_all is_whole ts) (whole_from_parts t (whole_word terminals t written utf8.0 (words 0 t (omega arith))))
    (whole_words terminals ts written utf8.1 (λ k d lt. words (suc k) d (omega arith)))

-- the first token, where the token as shown is in UTF-8
whole_first : (terminals : List (List ℕ)) (t : List ℕ) (b : Bool) → cutting.is_terminal terminals t ≡ b → list_all is_terminal terminals ≡ true
    → IsUtf8 (shown_first terminals t) → IsWord terminals t → Whole t
whole_first terminals t true is written utf8 word = whole_terminal t (spelled terminals t written is)
whole_first terminals t false is written utf8 word =
    whole_word terminals t written (subst IsUtf8 (ap (λ b. if b then raised t else t) is) utf8) word

all_whole : (terminals tokens : List (List ℕ)) → list_all is_terminal terminals ≡ true → IsUtf8 (shown terminals tokens) → All (IsWord terminals) tokens
    → list_all is_whole tokens ≡ true
all_whole terminals [] written utf8 words = refl
all_whole terminals (t ∷ ts) written utf8 words =
    let each = utf8_tokens (shown_first terminals t) ts utf8 in
    and_from (is_whole t) (list_all is_whole ts)
    (whole_from_parts t (whole_first terminals t (cutting.is_terminal terminals t) refl written each.0 (words 0 t (omega arith))))
    (whole_words terminals ts written each.1 (λ k d lt. words (suc k) d (omega arith)))

-- terminals of a checked grammar and forms that are shown and cut are the same tokens
pub cut_shown_words : (g : GrammarParts) (tokens : List (List ℕ)) → IsSound g → IsUtf8 (shown g.terminals tokens) → AreWords g.terminals tokens
    → cut_of g.terminals (shown g.terminals tokens) ≡ tokens
cut_shown_words g tokens sound utf8 words =
    cut_shown g.terminals tokens (all_whole g.terminals tokens sound.written.terminals utf8 words.1) words.2
