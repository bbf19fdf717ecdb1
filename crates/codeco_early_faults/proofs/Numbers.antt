-- Numbers of names in a table that has them.
use Rattle.std.proofs.Common.{◌≡◌, ℕ, ◌+◌, Bool, true, false, cond, ◌&&◌, ◌||◌, eqb, List, [], ◌∷◌, ◌++◌, map, length, get_or, refl, sym, ap, subst, ◌∙◌, append_assoc, append-nil, add-zero, add-one, arith, inl, inr}
use Rattle.std.specs.List.{list_all}
use Rattle.std.proofs.lemmas.Bool.{cases_Bool, both_ways, and_parts, or_right, eqb-true, eq-eqb, ne_eqb}
use Rattle.codeco_numbering.proofs.Sizes.{differ_count}
use Rattle.codeco_numbering.proofs.Sound.Tables.{among_append, among_gathered, differ_push}
use Rattle.codeco_text.specs.Names.{same_bytes, is_among}
use Rattle.codeco_text.proofs.Growth.{same_is, same_bytes_refl}
use Rattle.codeco_checked.specs.Numbering.{has, count_different, differ}
use Rattle.codeco_checked.specs.Faults.{count_texts}
use Rattle.codeco_numbering.specs.Numbered.{gathered, number_of}
use Rattle.codeco_early_faults.proofs.Counting.{zero_if, texts_decide, differs_comm, count_texts_move}

-- each of these is in the table
abbrev pub all_among : List (List ℕ) → List (List ℕ) → Bool
all_among names ws = list_all (is_among names) ws

eqb_suc : (a b : ℕ) → eqb (a + 1) (b + 1) ≡ eqb a b
eqb_suc a b = elim (cases_Bool (eqb a b)) [
  | inl h ↦ let e = eqb-true a b h in eq-eqb (a + 1) (b + 1) (omega arith) ∙ sym h
  | inr h ↦ ne_eqb (a + 1) (b + 1) (λ e. both_ways (eqb a b) h (eq-eqb a b (omega arith))) ∙ sym h
]

-- two names in a table have one number where they are the same
pub same_numbers : (names : List (List ℕ)) (v w : List ℕ) → is_among names v ≡ true → is_among names w ≡ true
    → eqb (number_of names v) (number_of names w) ≡ same_bytes v w
same_numbers [] v w hv hw = absurd cc
same_numbers (x ∷ xs) v w hv hw = by (same_bytes v x) (same_bytes w x) refl refl (λ iv iw. same_numbers xs v w iv iw)
  where
    by : (b c : Bool) → same_bytes v x ≡ b → same_bytes w x ≡ c
        → (is_among xs v ≡ true → is_among xs w ≡ true → eqb (number_of xs v) (number_of xs w) ≡ same_bytes v w)
        → eqb (number_of (x ∷ xs) v) (number_of (x ∷ xs) w) ≡ same_bytes v w
    by true true ev ew rest =
        let left = same_is v x ev in
        let right = same_is w x ew in
        let same : same_bytes v w ≡ true = subst (λ y. same_bytes y w ≡ true) (sym left) (subst (λ y. same_bytes x y ≡ true) (sym right) (same_bytes_refl x)) in
        ap (λ (b : Bool). eqb (cond b 0 (number_of xs v + 1)) (number_of (x ∷ xs) w)) ev ∙ ap (λ (b : Bool). eqb 0 (cond b 0 (number_of xs w + 1))) ew
        ∙ sym same
    by true false ev ew rest =
        let left = same_is v x ev in
        let other : same_bytes v w ≡ false = subst (λ y. same_bytes y w ≡ false) (sym left) (differs_comm same_bytes texts_decide w x ew) in
        ap (λ (b : Bool). eqb (cond b 0 (number_of xs v + 1)) (number_of (x ∷ xs) w)) ev ∙ ap (λ (b : Bool). eqb 0 (cond b 0 (number_of xs w + 1))) ew
        ∙ ne_eqb 0 (number_of xs w + 1) (λ e. absurd (omega arith)) ∙ sym other
    by false true ev ew rest =
        let right = same_is w x ew in
        let other : same_bytes v w ≡ false = subst (λ y. same_bytes v y ≡ false) (sym right) ev in
        ap (λ (b : Bool). eqb (cond b 0 (number_of xs v + 1)) (number_of (x ∷ xs) w)) ev
        ∙ ap (λ (b : Bool). eqb (number_of xs v + 1) (cond b 0 (number_of xs w + 1))) ew ∙ ne_eqb (number_of xs v + 1) 0 (λ e. absurd (omega arith))
        ∙ sym other
    by false false ev ew rest =
        let inv : is_among xs v ≡ true = sym (ap (λ b. b || is_among xs v) ev) ∙ hv in
        let inw : is_among xs w ≡ true = sym (ap (λ b. b || is_among xs w) ew) ∙ hw in
        ap (λ (b : Bool). eqb (cond b 0 (number_of xs v + 1)) (number_of (x ∷ xs) w)) ev
        ∙ ap (λ (b : Bool). eqb (number_of xs v + 1) (cond b 0 (number_of xs w + 1))) ew ∙ eqb_suc (number_of xs v) (number_of xs w) ∙ rest inv inw

pub has_numbers : (names : List (List ℕ)) (v : List ℕ) (ws : List (List ℕ)) → is_among names v ≡ true → all_among names ws ≡ true
    → has (map (number_of names) ws) (number_of names v) ≡ is_among ws v
has_numbers names v [] hv h = refl
has_numbers names v (w ∷ ws) hv h =
    let parts = and_parts (is_among names w) (all_among names ws) h in
    ap (λ b. b || has (map (number_of names) ws) (number_of names v)) (same_numbers names v w hv parts.0)
    ∙ ap (λ b. same_bytes v w || b) (has_numbers names v ws hv parts.1)

-- as many numbers are different as names are
pub numbers_differ : (names ws : List (List ℕ)) → all_among names ws ≡ true → count_different (map (number_of names) ws) ≡ count_texts ws
numbers_differ names [] h = refl
numbers_differ names (w ∷ ws) h =
    let parts = and_parts (is_among names w) (all_among names ws) h in
    ap (λ n. n + zero_if (has (map (number_of names) ws) (number_of names w))) (numbers_differ names ws parts.1)
    ∙ ap (λ (b : Bool). count_texts ws + zero_if b) (has_numbers names w ws parts.0 parts.1)

-- the name at a name's number
pub name_back : (names : List (List ℕ)) (w d : List ℕ) → is_among names w ≡ true → get_or names (number_of names w) d ≡ w
name_back [] w d h = absurd cc
name_back (x ∷ xs) w d h = by (same_bytes w x) refl (λ e. name_back xs w d e)
  where
    by : (b : Bool) → same_bytes w x ≡ b → (is_among xs w ≡ true → get_or xs (number_of xs w) d ≡ w) → get_or (x ∷ xs) (number_of (x ∷ xs) w) d ≡ w
    by true e rest = ap (λ (b : Bool). get_or (x ∷ xs) (cond b 0 (number_of xs w + 1)) d) e ∙ sym (same_is w x e)
    by false e rest =
        let there : is_among xs w ≡ true = sym (ap (λ b. b || is_among xs w) e) ∙ h in
        ap (λ (b : Bool). get_or (x ∷ xs) (cond b 0 (number_of xs w + 1)) d) e ∙ rw add-one (rest there)

-- Gathering

or_last : (a b c : Bool) → ((a || (b || false)) || c) ≡ (a || (b || c))
or_last true b c = refl
or_last false true c = refl
or_last false false c = refl

pub all_in : (names ws : List (List ℕ)) → ((w : List ℕ) → is_among ws w ≡ true → is_among names w ≡ true) → all_among names ws ≡ true
all_in names [] h = refl
all_in names (w ∷ ws) h =
    ap (λ b. b && all_among names ws) (h w (ap (λ b. b || is_among ws w) (same_bytes_refl w)))
    ∙ all_in names ws (λ v e. h v (or_right (same_bytes v w) (is_among ws v) e))

-- each name that is gathered is in the table
pub all_gathered : (names ws : List (List ℕ)) → all_among (gathered names ws) ws ≡ true
all_gathered names ws = all_in (gathered names ws) ws (λ w e. among_gathered names ws w ∙ or_right (is_among names w) (is_among ws w) e)

count_behind : (names ws : List (List ℕ)) → differ names ≡ true → count_texts (names ++ ws) ≡ length (gathered names ws)
count_behind names [] h = ap count_texts (append-nil names) ∙ differ_count names h
count_behind names (w ∷ ws) h = by (is_among names w) refl (λ ns k. count_behind ns ws k)
  where
    by : (b : Bool) → is_among names w ≡ b → ((ns : List (List ℕ)) → differ ns ≡ true → count_texts (ns ++ ws) ≡ length (gathered ns ws))
        → count_texts (names ++ w ∷ ws) ≡ length (gathered names (w ∷ ws))
    by true e rest =
        let there : is_among (names ++ ws) w ≡ true = among_append names ws w ∙ ap (λ b. b || is_among ws w) e in
        count_texts_move names ws w ∙ ap (λ (b : Bool). count_texts (names ++ ws) + zero_if b) there ∙ add-zero (count_texts (names ++ ws)) ∙ rest names h
        ∙ sym (ap (λ b. length (gathered (cond b names (names ++ w ∷ [])) ws)) e)
    by false e rest =
        ap count_texts (sym (append_assoc names (w ∷ []) ws)) ∙ rest (names ++ w ∷ []) (differ_push names w h e)
        ∙ sym (ap (λ b. length (gathered (cond b names (names ++ w ∷ [])) ws)) e)

-- as many names are different as are gathered
pub count_gathered : (ws : List (List ℕ)) → count_texts ws ≡ length (gathered [] ws)
count_gathered ws = count_behind [] ws refl

-- how many were gathered
pub is_count : (n : ℕ) (names ws : List (List ℕ)) → n ≡ length names → names ≡ gathered [] ws → n ≡ count_texts ws
is_count n names ws count is = count ∙ ap length is ∙ sym (count_gathered ws)
