-- Words, letter by letter.
use Rattle.std.proofs.Common.{◌≡◌, ℕ, ◌<◌, ◌≤◌, Bool, true, false, not, eqb, leb, ◌&&◌, ◌||◌, ◌⊎◌, List, [], ◌∷◌, ◌++◌, Some, refl, sym, ap, ◌∙◌, append_assoc, arith, inl, inr}
use Rattle.std.specs.Prelude.{codes}
use Rattle.std.specs.List.{list_all, list_any}
use Rattle.std.proofs.lemmas.Bool.{eqb-true, leb-true, lt-leb, cases_Bool, both_ways, and_parts, and_from, and_right, or_cases, or_parts, or_from, or_left, or_right, not-true, cond-false}
use Rattle.codeco_text.specs.declared.symbols.Lexeme.TheVariants as lexeme
use Rattle.codeco_text.specs.declared.spot.Wanted.{Wanted}
use Rattle.codeco_text.specs.declared.spot.Wanted.TheVariants as wanted
use Rattle.codeco_text.specs.Names.{same_bytes, is_among, is_space, is_lower, is_upper, is_word_byte, is_lower_word, is_identifier, is_variable, keywords}
use Rattle.codeco_text.specs.Notation.{labels, kinds, has_front}
use Rattle.codeco_text.specs.Reading.{identifier, as_word, may_begin, may_go_on, is_front_among}
use Rattle.codeco_text.specs.Building.{push}
use Rattle.codeco_text.proofs.Growth.{same_is, same_bytes_refl}
use Rattle.codeco_text.proofs.Standing.{wants_names, wants_variables}

-- Letters

space_cases : (b : ℕ) (P : Bool) → is_space b ≡ true → (is_word_byte 32 ≡ is_word_byte b → ⊥) → (is_word_byte 9 ≡ is_word_byte b → ⊥)
    → (is_word_byte 13 ≡ is_word_byte b → ⊥) → (is_word_byte 10 ≡ is_word_byte b → ⊥) → ⊥
space_cases b P h p q r s = elim (or_cases ((eqb b 32) || (eqb b 9) || (eqb b 13)) (eqb b 10) h) [
  | inr e ↦ s (ap is_word_byte (sym (eqb-true b 10 e)))
  | inl f ↦ elim (or_cases ((eqb b 32) || (eqb b 9)) (eqb b 13) f) [
    | inr e ↦ r (ap is_word_byte (sym (eqb-true b 13 e)))
    | inl g ↦ elim (or_cases (eqb b 32) (eqb b 9) g) [
      | inl e ↦ p (ap is_word_byte (sym (eqb-true b 32 e)))
      | inr e ↦ q (ap is_word_byte (sym (eqb-true b 9 e)))
    ]
  ]
]

no_word_byte : (n b : ℕ) → is_word_byte n ≡ false → is_word_byte b ≡ true → is_word_byte n ≡ is_word_byte b → ⊥
no_word_byte n b p q e = both_ways (is_word_byte n) p (e ∙ q)

pub letter_no_space : (b : ℕ) → is_word_byte b ≡ true → is_space b ≡ false
letter_no_space b h = elim (cases_Bool (is_space b)) [
  | inl e ↦ absurd (space_cases b true e (no_word_byte 32 b refl h) (no_word_byte 9 b refl h) (no_word_byte 13 b refl h) (no_word_byte 10 b refl h))
  | inr e ↦ e
]

pub letter_no_comment : (b : ℕ) → is_word_byte b ≡ true → eqb b 37 ≡ false
letter_no_comment b h = elim (cases_Bool (eqb b 37)) [
  | inl e ↦ absurd (no_word_byte 37 b refl h (ap is_word_byte (sym (eqb-true b 37 e))))
  | inr e ↦ e
]

pub lower_letter : (b : ℕ) → is_lower b ≡ true → is_word_byte b ≡ true
lower_letter b h = rw h refl

pub upper_letter : (b : ℕ) → is_upper b ≡ true → is_word_byte b ≡ true
upper_letter b h = elim (cases_Bool (is_lower b)) [ inl e ↦ rw e refl | inr e ↦ rw (e, h) refl ]

pub lower_not_upper : (b : ℕ) → is_lower b ≡ true → is_upper b ≡ false
lower_not_upper b h =
    let low : 97 ≤ b = leb-true 97 b (and_parts (leb 97 b) (leb b 122) h).0 in
    let high : 90 < b = omega arith in
    and_right (leb 65 b) (leb b 90) (lt-leb b 90 high)

-- Words among others

among_front : (names : List (List ℕ)) (p q : List ℕ) → is_among names (p ++ q) ≡ true → is_front_among names p ≡ true
among_front [] p q h = absurd cc
among_front (t ∷ names) p q h = elim (or_cases (same_bytes (p ++ q) t) (is_among names (p ++ q)) h) [
  | inl e ↦ or_left (has_front p t) (is_front_among names p) (same_front p q t e)
  | inr e ↦ or_right (has_front p t) (is_front_among names p) (among_front names p q e)
] where
  same_front : (p q t : List ℕ) → same_bytes (p ++ q) t ≡ true → has_front p t ≡ true
  same_front [] q t e = refl
  same_front (x ∷ p) q [] e = absurd cc
  same_front (x ∷ p) q (y ∷ t) e =
      let parts = and_parts (eqb x y) (same_bytes (p ++ q) t) e in
      and_from (eqb x y) (has_front p t) parts.0 (same_front p q t parts.1)

front_rest : (p t : List ℕ) → has_front p t ≡ true → (q : List ℕ) × (t ≡ p ++ q)
front_rest [] t h = (t, refl)
front_rest (x ∷ p) [] h = absurd cc
front_rest (x ∷ p) (y ∷ t) h =
    let parts = and_parts (eqb x y) (has_front p t) h in
    let rest = front_rest p t parts.1 in
    let first : y ≡ x = sym (eqb-true x y parts.0) in
    (rest.0, ap (λ (n : ℕ). n ∷ t) first ∙ ap (λ (u : List ℕ). x ∷ u) rest.1)

-- a front of one of the names goes on to it
pub front_among : (names : List (List ℕ)) (p : List ℕ) → is_front_among names p ≡ true → (q : List ℕ) × (is_among names (p ++ q) ≡ true)
front_among [] p h = absurd cc
front_among (t ∷ names) p h = elim (or_cases (has_front p t) (is_front_among names p) h) [
  | inl e ↦
      let rest = front_rest p t e in (
        rest.0,
        or_left (same_bytes (p ++ rest.0) t) (is_among names (p ++ rest.0))
            (ap (λ (u : List ℕ). same_bytes (p ++ rest.0) u) rest.1 ∙ same_bytes_refl (p ++ rest.0)),
      )
  | inr e ↦
      let rest = front_among names p e in
      (rest.0, or_right (same_bytes (p ++ rest.0) t) (is_among names (p ++ rest.0)) rest.1)
]

among_lower : (names : List (List ℕ)) (w : List ℕ) → list_all is_lower_word names ≡ true → is_among names w ≡ true → is_lower_word w ≡ true
among_lower [] w all h = absurd cc
among_lower (t ∷ names) w all h =
    let parts = and_parts (is_lower_word t) (list_all is_lower_word names) all in
    elim (or_cases (same_bytes w t) (is_among names w) h) [
      | inl e ↦ ap is_lower_word (same_is w t e) ∙ parts.0
      | inr e ↦ among_lower names w parts.1 e
    ]

pub identifier_lower : (w : List ℕ) → is_identifier w ≡ true → is_lower_word w ≡ true
identifier_lower w h = (and_parts (is_lower_word w) (not (is_among keywords w)) h).0

-- The words that are wanted

not_keyword : (w : List ℕ) → is_identifier w ≡ true → is_among keywords w ≡ false
not_keyword w h = not-true (is_among keywords w) (and_parts (is_lower_word w) (not (is_among keywords w)) h).1

not_feature : (w : List ℕ) → is_identifier w ≡ true → same_bytes w (codes "feature") ≡ false
not_feature w h = (or_parts (same_bytes w (codes "feature")) (list_any (same_bytes w) (codes "word" ∷ codes "position" ∷ [])) (not_keyword w h)).0

not_value : (w : List ℕ) → is_identifier w ≡ true → (same_bytes w (codes "word") || same_bytes w (codes "position")) ≡ false
not_value w h =
    let rest = (or_parts (same_bytes w (codes "feature")) (list_any (same_bytes w) (codes "word" ∷ codes "position" ∷ [])) (not_keyword w h)).1 in
    let parts = or_parts (same_bytes w (codes "word")) (list_any (same_bytes w) (codes "position" ∷ [])) rest in
    let last = or_parts (same_bytes w (codes "position")) false parts.1 in
    or_from (same_bytes w (codes "word")) (same_bytes w (codes "position")) parts.0 last.0

lower_no_variable : (w : List ℕ) → is_lower_word w ≡ true → is_variable w ≡ false
lower_no_variable [] h = refl
lower_no_variable (b ∷ bs) h = rw (lower_not_upper b (and_parts (is_lower b) (list_all is_word_byte bs) h).0) refl

identifier_is : (w : List ℕ) → is_identifier w ≡ true → identifier w ≡ Some (lexeme.Identifier w)
identifier_is w h = rw h refl

pub as_name : (k : Wanted) (w : List ℕ) → wants_names k ≡ true → is_identifier w ≡ true → as_word k w ≡ Some (lexeme.Identifier w)
as_name wanted.Item w k h = cond-false (same_bytes w (codes "feature")) (Some (lexeme.Keyword w)) (identifier w) (not_feature w h) ∙ identifier_is w h
as_name wanted.Identifier w k h = identifier_is w h
as_name wanted.Value w k h = cond-false (same_bytes w (codes "word") || same_bytes w (codes "position")) (Some (lexeme.Keyword w)) (identifier w)
    (not_value w h) ∙ identifier_is w h
as_name wanted.Term w k h = cond-false (is_variable w) (Some (lexeme.Variable w)) (identifier w) (lower_no_variable w (identifier_lower w h))
    ∙ identifier_is w h
as_name k w x h = absurd cc

pub as_variable : (k : Wanted) (w : List ℕ) → wants_variables k ≡ true → is_variable w ≡ true → as_word k w ≡ Some (lexeme.Variable w)
as_variable wanted.Variable w k h = rw h refl
as_variable wanted.Term w k h = rw h refl
as_variable k w x h = absurd cc

-- How a word goes along

-- after these bytes of a word these others may come
abbrev pub goes_along : Wanted → List ℕ → List ℕ → Bool
goes_along k u [] = true
goes_along k u (x ∷ v) = is_word_byte x && (may_go_on k (push u x) && goes_along k (push u x) v)

along_free : (k : Wanted) → ((w : List ℕ) → may_go_on k w ≡ true) → (u v : List ℕ) → list_all is_word_byte v ≡ true → goes_along k u v ≡ true
along_free k free u [] h = refl
along_free k free u (x ∷ v) h =
    let parts = and_parts (is_word_byte x) (list_all is_word_byte v) h in
    and_from (is_word_byte x) _ parts.0 (and_from (may_go_on k (push u x)) _ (free (push u x)) (along_free k free (push u x) v parts.1))

along_among : (k : Wanted) (names : List (List ℕ)) → ((w : List ℕ) → may_go_on k w ≡ is_front_among names w) → (u v : List ℕ) → list_all is_word_byte v ≡ true
    → is_among names (u ++ v) ≡ true → goes_along k u v ≡ true
along_among k names same u [] h among = refl
along_among k names same u (x ∷ v) h among =
    let parts = and_parts (is_word_byte x) (list_all is_word_byte v) h in
    let next : is_among names (push u x ++ v) ≡ true = ap (is_among names) (append_assoc u (x ∷ []) v) ∙ among in
    and_from (is_word_byte x) _ parts.0 (and_from (may_go_on k (push u x)) _ (same (push u x) ∙ among_front names (push u x) v next)
    (along_among k names same (push u x) v parts.1 next))

-- a word that is wanted begins and goes along
pub record IsReadable (k : Wanted) (w : List ℕ) : Type 0 where
  pub first : ℕ
  pub others : List ℕ
  pub parts : w ≡ first ∷ others
  pub letter : is_word_byte first ≡ true
  pub begins : may_begin k first ≡ true
  pub along : goes_along k (first ∷ []) others ≡ true

lower_readable : (k : Wanted) → ((b : ℕ) → is_lower b ≡ true → may_begin k b ≡ true) → ((w : List ℕ) → may_go_on k w ≡ true) → (w : List ℕ)
    → is_lower_word w ≡ true → IsReadable k w
lower_readable k begins free [] h = absurd cc
lower_readable k begins free (b ∷ bs) h =
    let parts = and_parts (is_lower b) (list_all is_word_byte bs) h in
    record { first = b; others = bs; parts = refl; letter = lower_letter b parts.0; begins = begins b parts.0; along = along_free k free (b ∷ []) bs parts.1 }

upper_readable : (k : Wanted) → ((b : ℕ) → is_upper b ≡ true → may_begin k b ≡ true) → ((w : List ℕ) → may_go_on k w ≡ true) → (w : List ℕ)
    → is_variable w ≡ true → IsReadable k w
upper_readable k begins free [] h = absurd cc
upper_readable k begins free (b ∷ bs) h =
    let parts = and_parts (is_upper b) (list_all is_word_byte bs) h in
    record { first = b; others = bs; parts = refl; letter = upper_letter b parts.0; begins = begins b parts.0; along = along_free k free (b ∷ []) bs parts.1 }

among_readable : (k : Wanted) (names : List (List ℕ)) → list_all is_lower_word names ≡ true → ((b : ℕ) → may_begin k b ≡ is_front_among names (b ∷ []))
    → ((w : List ℕ) → may_go_on k w ≡ is_front_among names w) → (w : List ℕ) → is_among names w ≡ true → IsReadable k w
among_readable k names all begins same [] h = absurd (let low = among_lower names [] all h in cc)
among_readable k names all begins same (b ∷ bs) h =
    let low = among_lower names (b ∷ bs) all h in
    let parts = and_parts (is_lower b) (list_all is_word_byte bs) low in
    record {
      first = b;
      others = bs;
      parts = refl;
      letter = lower_letter b parts.0;
      begins = begins b ∙ among_front names (b ∷ []) bs h;
      along = along_among k names same (b ∷ []) bs parts.1 h;
    }

pub keyword_lower : (w : List ℕ) → is_among keywords w ≡ true → is_lower_word w ≡ true
keyword_lower w h = among_lower keywords w refl h

pub name_readable : (k : Wanted) (w : List ℕ) → wants_names k ≡ true → is_lower_word w ≡ true → IsReadable k w
name_readable wanted.Item w k h = lower_readable wanted.Item (λ b e. e) (λ w. refl) w h
name_readable wanted.Identifier w k h = lower_readable wanted.Identifier (λ b e. e) (λ w. refl) w h
name_readable wanted.Value w k h = lower_readable wanted.Value (λ b e. e) (λ w. refl) w h
name_readable wanted.Term w k h = lower_readable wanted.Term (λ b e. or_right (is_upper b) (is_lower b) e) (λ w. refl) w h
name_readable k w x h = absurd cc

pub variable_readable : (k : Wanted) (w : List ℕ) → wants_variables k ≡ true → is_variable w ≡ true → IsReadable k w
variable_readable wanted.Variable w k h = upper_readable wanted.Variable (λ b e. e) (λ w. refl) w h
variable_readable wanted.Term w k h = upper_readable wanted.Term (λ b e. or_left (is_upper b) (is_lower b) e) (λ w. refl) w h
variable_readable k w x h = absurd cc

pub label_readable : (w : List ℕ) → is_among labels w ≡ true → IsReadable wanted.Label w
label_readable w h = among_readable wanted.Label labels refl (λ b. refl) (λ w. refl) w h

pub kind_readable : (w : List ℕ) → is_among kinds w ≡ true → IsReadable wanted.Kind w
kind_readable w h = among_readable wanted.Kind kinds refl (λ b. refl) (λ w. refl) w h
