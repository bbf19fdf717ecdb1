use Rattle.std.proofs.Common.{◌≡◌, ℕ, ◌+◌, ◌<◌, Bool, true, false, not, ◌||◌, ◌&&◌, List, [], ◌∷◌, ◌++◌, length, take, drop, get_or, append-nil, append_assoc, refl, sym, ap, ◌∙◌}
use Rattle.std.specs.Prelude.{map, encode_utf8, if◌then◌else◌, is_some, Option, Some, None}
use Rattle.std.specs.List.{list_any}
use Rattle.std.specs.Str.{encode_utf8_all}
use Rattle.std.proofs.lemmas.Bool.{false≢true}
use Rattle.wiki_base.specs.Text.{fault_of}
use Rattle.wiki_base.specs.declared.text.BadText.{BadText}
use Rattle.owl_words.specs.Bases.{is_separator, last_part, is_no_hyphen, tidied, is_text, text_in, made_text, base_of_part}
use Rattle.lexicon.specs.declared.kinds.Kind.{Kind}
use Rattle.std.proofs.lemmas.List.{take_more, drop_more, map-append}
use Rattle.std.proofs.lemmas.List.Folds.{list_any-append}
use Rattle.std.proofs.lemmas.Str.{encodes-append}

pub drop_next : (cs : List ℕ) (k c : ℕ) → k < length cs → c ≡ get_or cs k c → drop k cs ≡ c ∷ drop (k + 1) cs
drop_next cs k c within at = drop_more cs k c within ∙ ap (λ (d : ℕ). d ∷ drop (k + 1) cs) (sym at)

pub map_drop : (f : ℕ → ℕ) (cs : List ℕ) (k c : ℕ) → k < length cs → c ≡ get_or cs k c → map f (drop k cs) ≡ f c ∷ map f (drop (k + 1) cs)
map_drop f cs k c within at = ap (map f) (drop_next cs k c within at)

-- ---- the last part

-- where a separator comes, what stands before it isn't in the last part
pub last_part_behind : (part : List ℕ) (c : ℕ) (rest : List ℕ) → is_separator c ≡ true → last_part (part ++ c ∷ rest) ≡ last_part rest
last_part_behind [] c rest is = by (is_separator c) is
  where
    by : (b : Bool) → b ≡ true → (if (b || list_any is_separator rest) then last_part rest else c ∷ rest) ≡ last_part rest
    by true is = refl
    by false never = absurd (false≢true never)
last_part_behind (d ∷ part) c rest is = by (is_separator d) (list_any is_separator (part ++ c ∷ rest)) (some part) ∙ last_part_behind part c rest is
  where
    some : (front : List ℕ) → list_any is_separator (front ++ c ∷ rest) ≡ true
    some [] = ap (λ (b : Bool). b || list_any is_separator rest) is
    some (e ∷ front) = right (is_separator e) _ (some front)
      where
        right : (a b : Bool) → b ≡ true → (a || b) ≡ true
        right true b is = refl
        right false b is = is

    by : (a b : Bool) → b ≡ true → (if (a || b) then last_part (part ++ c ∷ rest) else d ∷ part ++ c ∷ rest) ≡ last_part (part ++ c ∷ rest)
    by true b is = refl
    by false true is = refl
    by false false never = absurd (false≢true never)

-- a part without separators is its own last part
pub last_part_same : (part : List ℕ) → list_any is_separator part ≡ false → last_part part ≡ part
last_part_same [] none = refl
last_part_same (c ∷ part) none = ap (λ (b : Bool). if b then last_part part else c ∷ part) none

-- the next character is a separator
pub separator_step : (cs part : List ℕ) (k c : ℕ) → k < length cs → c ≡ get_or cs k c → is_separator c ≡ true
    → last_part (part ++ drop k cs) ≡ last_part (drop (k + 1) cs)
separator_step cs part k c within at is =
    ap (λ (rest : List ℕ). last_part (part ++ rest)) (drop_next cs k c within at) ∙ last_part_behind part c (drop (k + 1) cs) is

-- the next character isn't one
pub other_step : (cs part : List ℕ) (k c : ℕ) → k < length cs → c ≡ get_or cs k c → is_separator c ≡ false → list_any is_separator part ≡ false
    → (list_any is_separator (part ++ c ∷ []) ≡ false) × (last_part (part ++ drop k cs) ≡ last_part ((part ++ c ∷ []) ++ drop (k + 1) cs))
other_step cs part k c within at is none = (
  list_any-append is_separator part (c ∷ []) ∙ ap (λ (b : Bool). b || list_any is_separator (c ∷ [])) none ∙ ap (λ (b : Bool). b || false) is,
  ap last_part (ap (λ (rest : List ℕ). part ++ rest) (drop_next cs k c within at) ∙ sym (append_assoc part (c ∷ []) (drop (k + 1) cs))),
)

-- ---- hyphens

-- what is left tidied, where some letter came already or none did, and a hyphen came behind it or didn't
abbrev pub tidied_left : Bool → Bool → List ℕ → List ℕ
tidied_left begun due cs = if begun && due then (if list_any is_no_hyphen cs then 45 ∷ tidied false cs else tidied false cs) else tidied begun cs

pub hyphen_step : (begun due : Bool) (rest : List ℕ) → tidied_left begun due (45 ∷ rest) ≡ tidied_left begun true rest
hyphen_step true true rest = refl
hyphen_step true false rest = refl
hyphen_step false true rest = refl
hyphen_step false false rest = refl

-- ---- texts

pub text_in_accepted : (cs bytes : List ℕ) → bytes ≡ encode_utf8_all cs → fault_of bytes ≡ None → text_in cs ≡ Some bytes
text_in_accepted cs bytes same none =
    ap (λ (b : Bool). if b then Some (encode_utf8_all cs) else None)
    (ap (λ (bs : List ℕ). not (is_some (fault_of bs))) (sym same) ∙ ap (λ (f : Option BadText). not (is_some f)) none)
    ∙ ap Some (sym same)

pub text_in_refused : (cs bytes : List ℕ) (fault : BadText) → bytes ≡ encode_utf8_all cs → fault_of bytes ≡ Some fault → text_in cs ≡ None
text_in_refused cs bytes fault same is =
    ap (λ (b : Bool). if b then Some (encode_utf8_all cs) else None)
    (ap (λ (bs : List ℕ). not (is_some (fault_of bs))) (sym same) ∙ ap (λ (f : Option BadText). not (is_some f)) is)

pub base_as_is : (kind : Kind) (part text : List ℕ) → text_in part ≡ Some text → base_of_part kind part ≡ part
base_as_is kind part text is = by (is_text part) is
  where
    by : (b : Bool) → (if b then Some (encode_utf8_all part) else None) ≡ Some text → (if b then part else made_text kind part) ≡ part
    by true is = refl
    by false never = cc

pub base_made : (kind : Kind) (part : List ℕ) → text_in part ≡ None → base_of_part kind part ≡ made_text kind part
base_made kind part is = by (is_text part) is
  where
    by : (b : Bool) → (if b then Some (encode_utf8_all part) else None) ≡ None → (if b then part else made_text kind part) ≡ made_text kind part
    by true never = cc
    by false is = refl

-- ---- one more character

pub encodes_more : (cs : List ℕ) (k c : ℕ) → k < length cs → c ≡ get_or cs k c
    → encode_utf8_all (take (k + 1) cs) ≡ encode_utf8_all (take k cs) ++ encode_utf8 c
encodes_more cs k c within is =
    ap encode_utf8_all (take_more cs k c within ∙ ap (λ (d : ℕ). take k cs ++ d ∷ []) (sym is)) ∙ encodes-append (take k cs) (c ∷ [])
    ∙ ap (λ (bs : List ℕ). encode_utf8_all (take k cs) ++ bs) (append-nil (encode_utf8 c))

pub map_more_at : (f : ℕ → ℕ) (cs : List ℕ) (k d : ℕ) → k < length cs → map f (take (k + 1) cs) ≡ map f (take k cs) ++ f (get_or cs k d) ∷ []
map_more_at f cs k d within = ap (map f) (take_more cs k d within) ∙ map-append f (take k cs) (get_or cs k d ∷ [])
