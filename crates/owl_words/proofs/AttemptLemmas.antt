use Rattle.std.proofs.Common.{◌≡◌, ℕ, ◌-◌, ◌<◌, ◌≤◌, Bool, true, false, not, nat_lt, List, [], ◌∷◌, ◌++◌, length, take, refl, sym, ap, subst, ◌∙◌, arith, length-append, ◌⊎◌, inl, inr}
use Rattle.std.specs.Prelude.{zero, suc, min, if◌then◌else◌, is_some, option_map, ◌==◌, Option, Some, None}
use Rattle.std.specs.Str.{encode_utf8_all, chars}
use Rattle.std.proofs.lemmas.Bool.{cases_lt}
use Rattle.std.proofs.lemmas.Bool.Decides.{nat_tests}
use Rattle.std.proofs.lemmas.List.{length-take-le}
use Rattle.std.proofs.lemmas.Option.{same_Some, none-some}
use Rattle.std.proofs.lemmas.Str.{length-le-encodes}
use Rattle.wiki_base.specs.Text.{fault_of, misplaced}
use Rattle.wiki_base.specs.declared.text.BadText.TheVariants.{TooLong, Letter}
use Rattle.wiki_base.specs.declared.text.TheConstants.{LONGEST_TEXT}
use Rattle.lexicon.specs.declared.kinds.Kind.{Kind}
use Rattle.lexicon.specs.declared.kinds.Forms.{Forms}
use Rattle.lexicon.specs.Kinds.{IsComplete}
use Rattle.lexicon.specs.Suggest.{form_texts, form_fault}
use Rattle.owl_words.specs.Bases.{is_text}
use Rattle.owl_words.specs.Attempts.{suffix, suggested, fitting, either, longest, attempted}

-- ---- forms are as many as their kind has

suggested_complete : (kind : Kind) (text : List ℕ) (forms : Forms) → suggested kind text ≡ Some forms → IsComplete forms
suggested_complete kind text forms is = by (is_some (form_fault kind (text ∷ []))) is
  where
    whole : (k : Kind) → IsComplete (record { kind = k; texts = form_texts k (text ∷ []) })
    whole Kind.Name = refl
    whole Kind.Noun = refl
    whole Kind.Of = refl
    whole Kind.Verb = refl
    whole Kind.Adjective = refl

    by : (b : Bool) → (if b then None else Some (record { kind = kind; texts = form_texts kind (text ∷ []) })) ≡ Some forms → IsComplete forms
    by true never = cc
    by false same = subst IsComplete (same_Some (record { kind = kind; texts = form_texts kind (text ∷ []) }) forms same) (whole kind)

fitting_complete : (kind : Kind) (cs : List ℕ) (forms : Forms) → fitting kind cs ≡ Some forms → IsComplete forms
fitting_complete kind cs forms is = by (is_text cs) is
  where
    by : (b : Bool) → (if b then suggested kind (encode_utf8_all cs) else None) ≡ Some forms → IsComplete forms
    by true same = suggested_complete kind (encode_utf8_all cs) forms same
    by false never = cc

first_or_next : (first next : Option Forms) (forms : Forms) → (first ≡ Some forms → IsComplete forms) → (next ≡ Some forms → IsComplete forms)
    → either first next ≡ Some forms → IsComplete forms
first_or_next (Some those) next forms of_first of_next is = of_first is
first_or_next None next forms of_first of_next is = of_next is

longest_complete : (kind : Kind) (cs ending : List ℕ) (n : ℕ) (forms : Forms) → longest kind cs ending n ≡ Some forms → IsComplete forms
longest_complete kind cs ending zero forms never = absurd (none-some forms never)
longest_complete kind cs ending (suc n) forms is =
    first_or_next (fitting kind (take (suc n) cs ++ ending)) (longest kind cs ending n) forms
    (fitting_complete kind (take (suc n) cs ++ ending) forms) (longest_complete kind cs ending n forms) is

-- forms that are tried are whole
pub attempted_complete : (kind : Kind) (cs : List ℕ) (attempt : ℕ) (forms : Forms) → attempted kind cs attempt ≡ Some forms → IsComplete forms
attempted_complete kind cs attempt forms is = by (attempt == 0) is
  where
    by : (b : Bool) → (if b then fitting kind cs else longest kind cs (suffix attempt) (length cs)) ≡ Some forms → IsComplete forms
    by true same = fitting_complete kind cs forms same
    by false same = longest_complete kind cs (suffix attempt) (length cs) forms same

-- ---- fronts

longest_step : (kind : Kind) (cs ending : List ℕ) (n : ℕ) → 0 < n
    → longest kind cs ending n ≡ either (fitting kind (take n cs ++ ending)) (longest kind cs ending (n - 1))
longest_step kind cs ending zero never = absurd (omega arith)
longest_step kind cs ending (suc n) some =
    let same : n ≡ suc n - 1 = omega arith in
    ap (λ (m : ℕ). either (fitting kind (take (suc n) cs ++ ending)) (longest kind cs ending m)) same

pub longest_found : (kind : Kind) (cs ending : List ℕ) (n : ℕ) (forms : Forms) → 0 < n → fitting kind (take n cs ++ ending) ≡ Some forms
    → longest kind cs ending n ≡ Some forms
longest_found kind cs ending n forms some is =
    longest_step kind cs ending n some ∙ ap (λ (first : Option Forms). either first (longest kind cs ending (n - 1))) is

pub longest_next : (kind : Kind) (cs ending : List ℕ) (n : ℕ) → 0 < n → fitting kind (take n cs ++ ending) ≡ None
    → longest kind cs ending n ≡ longest kind cs ending (n - 1)
longest_next kind cs ending n some is =
    longest_step kind cs ending n some ∙ ap (λ (first : Option Forms). either first (longest kind cs ending (n - 1))) is

lt_true : (m n : ℕ) → m < n → nat_lt m n ≡ true
lt_true m n less = grind (arith, nat_tests)

-- too many characters are no text
long_is_none : (cs : List ℕ) → LONGEST_TEXT < length cs → is_text cs ≡ false
long_is_none cs long =
    let bytes : LONGEST_TEXT < length (encode_utf8_all cs) = omega (arith, length-le-encodes cs) in
    by (encode_utf8_all cs) bytes
  where
    by : (bytes : List ℕ) → LONGEST_TEXT < length bytes → not (is_some (fault_of bytes)) ≡ false
    by [] never = absurd (omega arith)
    by (b ∷ bytes) long =
        ap (λ (t : Bool). not (is_some (if t then Some TooLong else option_map Letter (misplaced false (chars (b ∷ bytes))))))
        (lt_true LONGEST_TEXT (length (b ∷ bytes)) long)

long_fits_none : (kind : Kind) (cs : List ℕ) → LONGEST_TEXT < length cs → fitting kind cs ≡ None
long_fits_none kind cs long = ap (λ (b : Bool). if b then suggested kind (encode_utf8_all cs) else None) (long_is_none cs long)

-- a front of more characters than a text has bytes doesn't fit
longest_min : (kind : Kind) (cs ending : List ℕ) (n : ℕ) → n ≤ length cs → longest kind cs ending (min n LONGEST_TEXT) ≡ longest kind cs ending n
longest_min kind cs ending zero within =
    let same : min 0 LONGEST_TEXT ≡ 0 = omega arith in
    ap (longest kind cs ending) same
longest_min kind cs ending (suc n) within = by (longest_min kind cs ending n (omega arith)) (cases_lt LONGEST_TEXT (suc n))
  where
    by : longest kind cs ending (min n LONGEST_TEXT) ≡ longest kind cs ending n → (LONGEST_TEXT < suc n) ⊎ (suc n ≤ LONGEST_TEXT)
        → longest kind cs ending (min (suc n) LONGEST_TEXT) ≡ longest kind cs ending (suc n)
    by before (inl long) =
        let same : min (suc n) LONGEST_TEXT ≡ min n LONGEST_TEXT = omega arith in
        let front : length (take (suc n) cs) ≡ suc n = length-take-le (suc n) cs within in
        let many : LONGEST_TEXT < length (take (suc n) cs ++ ending) = omega (arith, length-append (take (suc n) cs) ending) in
        ap (longest kind cs ending) same ∙ before
        ∙ sym (ap (λ (first : Option Forms). either first (longest kind cs ending n)) (long_fits_none kind (take (suc n) cs ++ ending) many))
    by before (inr few) =
        let same : min (suc n) LONGEST_TEXT ≡ suc n = omega arith in
        ap (longest kind cs ending) same

pub attempted_later : (kind : Kind) (cs ending : List ℕ) (attempt most : ℕ) (made : Option Forms) → (attempt ≡ 0 → ⊥) → ending ≡ suffix attempt
    → most ≡ min (length cs) LONGEST_TEXT → made ≡ longest kind cs ending most → made ≡ attempted kind cs attempt
attempted_later kind cs ending attempt most made later is_ending is_most is =
    let tested : (attempt == 0) ≡ false = grind (arith, nat_tests) in
    is ∙ ap (longest kind cs ending) is_most ∙ longest_min kind cs ending (length cs) (omega arith)
    ∙ ap (λ (e : List ℕ). longest kind cs e (length cs)) is_ending
    ∙ sym (ap (λ (b : Bool). if b then fitting kind cs else longest kind cs (suffix attempt) (length cs)) tested)
