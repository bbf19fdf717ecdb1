-- Forms that a word may get are whole tokens of at most 64 bytes.
use Rattle.std.proofs.Common.{◌≡◌, ℕ, ◌+◌, ◌-◌, ◌<◌, ◌≤◌, ◌==◌, nat_lt, Bool, true, false, cond, ◌||◌, List, [], ◌∷◌, ◌++◌, length, take, get_or, Option, Some, None, option_map, is_some, All, refl, sym, ap, subst, ◌∙◌, arith, length-append, append_assoc}
use Rattle.std.specs.Prelude.{slice_index}
use Rattle.std.specs.List.{position_from}
use Rattle.std.specs.Str.{chars, IsUtf8, IsCharBoundary, NonePass, NoCharPasses, bytes_eq}
use Rattle.std.proofs.Math.Seq.{take-append_seam}
use Rattle.std.proofs.lemmas.Bool.{false≢true, or_from, and_right, and_parts}
use Rattle.std.proofs.lemmas.Bool.Decides.{nat_tests, Decides-eqb}
use Rattle.std.proofs.lemmas.List.{get_or_at}
use Rattle.std.proofs.lemmas.List.Elements.{All-head, All-tail}
use Rattle.std.proofs.lemmas.Option.{none-some}
use Rattle.std.proofs.lemmas.Slice.Eq.{bytes_eq-Decides, ends_is}
use Rattle.std.proofs.lemmas.Str.{encodes-chars, NoCharPasses-byte, IsUtf8-append, IsUtf8-take, IsCharBoundary-at_seam}
use Rattle.ucd_derived.specs.Binary.{is_alphabetic}
use Rattle.ucd_derived.specs.AlphabeticRanges.{alphabetic_ranges}
use Rattle.ucd_table.specs.Rows.{in_ranges}
use Rattle.wiki_base.specs.Text.{is_letter, is_in_place, misplaced, fault_of, IsText}
use Rattle.wiki_base.specs.Token.{has_no_space}
use Rattle.wiki_base.specs.declared.text.BadText.{BadText}
use Rattle.wiki_base.specs.declared.text.BadText.TheVariants.{TooLong, Letter}
use Rattle.wiki_base.proofs.OptionLaws.{option_map-none, option_or-none}
use Rattle.lexicon.specs.declared.kinds.Kind.{Kind}
use Rattle.lexicon.specs.declared.kinds.Kind.TheVariants.{Noun, Verb}
use Rattle.lexicon.specs.declared.suggest.FormFault.TheVariants as form_faults
use Rattle.lexicon.specs.Suggest.{ends_in_sibilant, ends_in_consonant, changes_y, ends_in, stem, with_s, with_d, form_texts, form_fault, too_long, told}
use Rattle.lexicon.specs.Words.{is_among}
use Rattle.derivation_trees.specs.Cutting.{is_kept, is_mark, ends_with_mark}
use Rattle.derivation_trees.proofs.PieceLemmas.{Whole, no_space_take, no_space_append}
use Rattle.derivation_trees.proofs.WordLemmas.{excluded, placed_step, no_fault}
use Rattle.derivations.proofs.GrowLemmas.{Each}
use Rattle.derivations.proofs.TokenLemmas.{text_token}
use Rattle.wiki_talk.specs.declared.refusals.Refusal.TheVariants.{BadForm}
use Rattle.plain_wiki.specs.Words.{bad_text, bad_count, number_of}

-- a whole token in UTF-8 of at most 64 bytes, as each form of a word is
pub record IsForm (text : List ℕ) : Type 0 where
  pub utf8 : IsUtf8 text
  pub whole : Whole text
  pub short : length text ≤ 64

-- ---- texts

letter-stop : is_letter 46 ≡ false
unfolding is_alphabetic in_ranges alphabetic_ranges
letter-stop = refl

letter-question : is_letter 63 ≡ false
unfolding is_alphabetic in_ranges alphabetic_ranges
letter-question = refl

letter_unmarked : (after : Bool) (c : ℕ) (rest : List ℕ) → is_in_place after c rest ≡ true → is_mark c ≡ false
letter_unmarked after c rest h =
    or_from (c == 46) (c == 63) (excluded 46 after c rest (c == 46) refl letter-stop refl h) (excluded 63 after c rest (c == 63) refl letter-question refl h)

none_mark : (after : Bool) (cs : List ℕ) → misplaced after cs ≡ None → NonePass is_mark cs
none_mark after [] h = tt
none_mark after (d ∷ ds) h =
    let step = placed_step after d ds (is_in_place after d ds) refl h in
    (letter_unmarked after d ds step.0, none_mark (is_letter d) ds step.1)

low_mark : (x : ℕ) → is_mark x ≡ true → x < 128
low_mark x h = grind (arith, nat_tests)

mark_fails : (x : ℕ) (b : Bool) → is_mark x ≡ b → (x < 128 → is_mark x ≡ false) → is_mark x ≡ false
mark_fails x false is h = is
mark_fails x true is h = h (low_mark x is)

unmarked_by_last : (b : ℕ) (bs : List ℕ) → is_mark (get_or (b ∷ bs) (length bs) 0) ≡ false → ends_with_mark (b ∷ bs) ≡ false
unmarked_by_last b bs h =
    let e : length (b ∷ bs) - 1 ≡ length bs = omega arith in
    and_right (nat_lt 1 (length (b ∷ bs))) (is_mark (slice_index (b ∷ bs) (length (b ∷ bs) - 1))) (ap (λ n. is_mark (slice_index (b ∷ bs) n)) e ∙ h)

pub kept_by_length : (t : List ℕ) → 0 < length t → is_kept t ≡ true
kept_by_length t some = grind (arith, nat_tests)

pub short_text : (t : List ℕ) → IsText t → length t ≤ 64
short_text [] h = omega arith
short_text (b ∷ bs) h = by (nat_lt 64 (length (b ∷ bs))) refl h
  where
    by : (long : Bool) → nat_lt 64 (length (b ∷ bs)) ≡ long → cond long (Some TooLong) (option_map Letter (misplaced false (chars (b ∷ bs)))) ≡ None
        → length (b ∷ bs) ≤ 64
    by true is none = absurd (none-some TooLong (sym none))
    by false is none = grind (arith, nat_tests)

pub text_form : (t : List ℕ) → IsUtf8 t → IsText t → IsForm t
text_form [] utf8 h = cc
text_form (b ∷ bs) utf8 h =
    let token = text_token (b ∷ bs) utf8 h in
    let placed : misplaced false (chars (b ∷ bs)) ≡ None = no_fault (nat_lt 64 (length (b ∷ bs))) (misplaced false (chars (b ∷ bs))) h in
    let none : NoCharPasses is_mark (b ∷ bs) = (chars (b ∷ bs), encodes-chars (b ∷ bs) utf8, none_mark false (chars (b ∷ bs)) placed) in
    record {
      utf8 = utf8;
      whole = record {
        kept = kept_by_length (b ∷ bs) token.0;
        spaceless = token.1;
        unmarked = unmarked_by_last b bs
            (mark_fails (get_or (b ∷ bs) (length bs) 0) (is_mark (get_or (b ∷ bs) (length bs) 0)) refl
            (λ low. NoCharPasses-byte is_mark (b ∷ bs) (length bs) none (omega arith) low));
      };
      short = short_text (b ∷ bs) h;
    }

-- ---- forms that are suggested

-- bytes without a space, with such an ending behind them whose last byte is no mark
ended_whole : (front ending : List ℕ) (c : ℕ) → has_no_space front ≡ true → has_no_space (ending ++ c ∷ []) ≡ true → is_mark c ≡ false
    → Whole (front ++ (ending ++ c ∷ []))
ended_whole front ending c one two unmarked = record {
  kept = kept_by_length (front ++ (ending ++ c ∷ []))
      (omega (arith, length-append front (ending ++ c ∷ []), length-append ending (c ∷ [])));
  spaceless = no_space_append front (ending ++ c ∷ []) one two;
  unmarked = subst (λ (t : List ℕ). ends_with_mark t ≡ false) (append_assoc front ending (c ∷ [])) (last (front ++ ending));
}
  where
    last : (xs : List ℕ) → ends_with_mark (xs ++ c ∷ []) ≡ false
    last xs =
        let e : length (xs ++ c ∷ []) - 1 ≡ length xs = omega (arith, length-append xs (c ∷ [])) in
        and_right (nat_lt 1 (length (xs ++ c ∷ []))) (is_mark (slice_index (xs ++ c ∷ []) (length (xs ++ c ∷ []) - 1)))
        (ap (λ n. is_mark (slice_index (xs ++ c ∷ []) n)) e ∙ ap is_mark (get_or_at xs c [] 0 (length xs) refl) ∙ unmarked)

stem_spaceless : (text : List ℕ) → has_no_space text ≡ true → has_no_space (stem text) ≡ true
stem_spaceless text spaceless = no_space_take (length text - 1) text spaceless

whole_with_s : (text : List ℕ) → has_no_space text ≡ true → Whole (with_s text)
whole_with_s text spaceless = by (ends_in_sibilant text) (changes_y text)
  where
    by : (b c : Bool) → Whole (cond b (text ++ 101 ∷ 115 ∷ []) (cond c (stem text ++ 105 ∷ 101 ∷ 115 ∷ []) (text ++ 115 ∷ [])))
    by true c = ended_whole text (101 ∷ []) 115 spaceless refl refl
    by false true = ended_whole (stem text) (105 ∷ 101 ∷ []) 115 (stem_spaceless text spaceless) refl refl
    by false false = ended_whole text [] 115 spaceless refl refl

whole_with_d : (text : List ℕ) → has_no_space text ≡ true → Whole (with_d text)
whole_with_d text spaceless = by (ends_in text (101 ∷ [])) (changes_y text)
  where
    by : (b c : Bool) → Whole (cond b (text ++ 100 ∷ []) (cond c (stem text ++ 105 ∷ 101 ∷ 100 ∷ []) (text ++ 101 ∷ 100 ∷ [])))
    by true c = ended_whole text [] 100 spaceless refl refl
    by false true = ended_whole (stem text) (105 ∷ 101 ∷ []) 100 (stem_spaceless text spaceless) refl refl
    by false false = ended_whole text (101 ∷ []) 100 spaceless refl refl

not_long : (text : List ℕ) → too_long text ≡ None → length text ≤ 64
not_long text h = by (nat_lt 64 (length text)) refl h
  where
    by : (long : Bool) → nat_lt 64 (length text) ≡ long → cond long (Some (form_faults.TooLong 1)) None ≡ None → length text ≤ 64
    by true is none = absurd (none-some (form_faults.TooLong 1) (sym none))
    by false is none = grind (arith, nat_tests)

-- endings in UTF-8
utf8-s : IsUtf8 (115 ∷ [])
unfolding lib.Utf8.encode
utf8-s = (115 ∷ [], (refl, refl))

utf8-es : IsUtf8 (101 ∷ 115 ∷ [])
unfolding lib.Utf8.encode
utf8-es = (101 ∷ 115 ∷ [], (refl, refl))

utf8-ies : IsUtf8 (105 ∷ 101 ∷ 115 ∷ [])
unfolding lib.Utf8.encode
utf8-ies = (105 ∷ 101 ∷ 115 ∷ [], (refl, refl))

utf8-d : IsUtf8 (100 ∷ [])
unfolding lib.Utf8.encode
utf8-d = (100 ∷ [], (refl, refl))

utf8-ed : IsUtf8 (101 ∷ 100 ∷ [])
unfolding lib.Utf8.encode
utf8-ed = (101 ∷ 100 ∷ [], (refl, refl))

utf8-ied : IsUtf8 (105 ∷ 101 ∷ 100 ∷ [])
unfolding lib.Utf8.encode
utf8-ied = (105 ∷ 101 ∷ 100 ∷ [], (refl, refl))

utf8-y : IsUtf8 (121 ∷ [])
unfolding lib.Utf8.encode
utf8-y = (121 ∷ [], (refl, refl))

-- what stands before a `y` that changes
utf8_stem : (text : List ℕ) → IsUtf8 text → changes_y text ≡ true → IsUtf8 (stem text)
utf8_stem text utf8 changes =
    let both = and_parts (ends_in text (121 ∷ [])) (ends_in_consonant (stem text)) changes in
    let split : text ≡ stem text ++ 121 ∷ [] = (ends_is Decides-eqb text (121 ∷ []) (ends_in text (121 ∷ [])) refl).0 both.0 in
    let seam : IsCharBoundary text (length (stem text)) = IsCharBoundary-at_seam text (stem text) (121 ∷ []) split utf8-y in
    let front : IsUtf8 (take (length (stem text)) text) = IsUtf8-take text (length (stem text)) utf8 seam in
    subst IsUtf8 (subst (λ (bs : List ℕ). take (length (stem text)) bs ≡ stem text) (sym split) (take-append_seam (stem text) (121 ∷ []))) front

utf8_with_s : (text : List ℕ) → IsUtf8 text → IsUtf8 (with_s text)
utf8_with_s text utf8 = by (ends_in_sibilant text) (changes_y text) refl
  where
    by : (b c : Bool) → changes_y text ≡ c → IsUtf8 (cond b (text ++ 101 ∷ 115 ∷ []) (cond c (stem text ++ 105 ∷ 101 ∷ 115 ∷ []) (text ++ 115 ∷ [])))
    by true c is = IsUtf8-append text (101 ∷ 115 ∷ []) utf8 utf8-es
    by false true is = IsUtf8-append (stem text) (105 ∷ 101 ∷ 115 ∷ []) (utf8_stem text utf8 is) utf8-ies
    by false false is = IsUtf8-append text (115 ∷ []) utf8 utf8-s

utf8_with_d : (text : List ℕ) → IsUtf8 text → IsUtf8 (with_d text)
utf8_with_d text utf8 = by (ends_in text (101 ∷ [])) (changes_y text) refl
  where
    by : (b c : Bool) → changes_y text ≡ c → IsUtf8 (cond b (text ++ 100 ∷ []) (cond c (stem text ++ 105 ∷ 101 ∷ 100 ∷ []) (text ++ 101 ∷ 100 ∷ [])))
    by true c is = IsUtf8-append text (100 ∷ []) utf8 utf8-d
    by false true is = IsUtf8-append (stem text) (105 ∷ 101 ∷ 100 ∷ []) (utf8_stem text utf8 is) utf8-ied
    by false false is = IsUtf8-append text (101 ∷ 100 ∷ []) utf8 utf8-ed

-- the suggested forms of a form
form_with_s : (text : List ℕ) → IsForm text → too_long (with_s text) ≡ None → IsForm (with_s text)
form_with_s text form short =
    record { utf8 = utf8_with_s text form.utf8; whole = whole_with_s text form.whole.spaceless; short = not_long (with_s text) short }

form_with_d : (text : List ℕ) → IsForm text → too_long (with_d text) ≡ None → IsForm (with_d text)
form_with_d text form short =
    record { utf8 = utf8_with_d text form.utf8; whole = whole_with_d text form.whole.spaceless; short = not_long (with_d text) short }

forms_each : (kind : Kind) (texts : List (List ℕ)) → form_fault kind texts ≡ None → Each IsForm texts → Each IsForm (form_texts kind texts)
forms_each Noun (text ∷ []) fault each =
    (each.0, (form_with_s text each.0 fault, tt))
forms_each Verb (text ∷ []) fault each =
    let both = option_or-none (too_long (with_s text)) (too_long (with_d text)) fault in
    (form_with_s text each.0 both.0, (each.0, (form_with_d text each.0 both.1, tt)))
forms_each kind texts fault each = each

-- ---- forms that are given

given_each : (i : ℕ) (texts : List (List ℕ)) → position_from (λ text. is_some (fault_of text)) i texts ≡ None → All IsUtf8 texts → Each IsForm texts
given_each i [] none utf8 = tt
given_each i (text ∷ texts) none utf8 =
    by (fault_of text) refl none (λ later. given_each (i + 1) texts later (All-tail IsUtf8 text texts utf8))
  where
    by : (o : Option BadText) → fault_of text ≡ o
        → cond (is_some o) (Some i) (position_from (λ t. is_some (fault_of t)) (i + 1) texts) ≡ None
        → (position_from (λ t. is_some (fault_of t)) (i + 1) texts ≡ None → Each IsForm texts) → IsForm text × Each IsForm texts
    by None is none rest = (text_form text (All-head IsUtf8 text texts utf8) is, rest none)
    by (Some fault) is none rest = absurd (none-some i (sym none))

-- what is one of the texts has what each of them has
pub each_among : (P : List ℕ → Type 0) (texts : List (List ℕ)) → Each P texts → (text : List ℕ) → is_among texts text ≡ true → P text
each_among P [] each text among = absurd (false≢true among)
each_among P (first ∷ texts) each text among = by (bytes_eq text first) (bytes_eq-Decides text first).0 among (each_among P texts each.1 text)
  where
    by : (b : Bool) → (b ≡ true → text ≡ first) → (b || is_among texts text) ≡ true → (is_among texts text ≡ true → P text) → P text
    by true same among rest = subst P (sym (same refl)) each.0
    by false same among rest = rest among

-- texts in UTF-8 that may be given for a word make forms
pub forms_of_texts : (kind : Kind) (texts : List (List ℕ)) → bad_text texts ≡ None → bad_count kind texts ≡ None → All IsUtf8 texts
    → Each IsForm (form_texts kind texts)
forms_of_texts kind texts good few utf8 =
    forms_each kind texts (option_map-none (λ fault. BadForm (number_of fault)) (form_fault kind texts) few)
    (given_each 0 texts (option_map-none (λ place. BadForm (told place)) (position_from (λ text. is_some (fault_of text)) 0 texts) good) utf8)
