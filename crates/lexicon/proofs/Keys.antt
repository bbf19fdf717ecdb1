-- What a table finds at the bytes of a key, after changes at other keys.
use Rattle.std.proofs.Common.{◌≡◌, ℕ, Bool, true, false, cond, ◌||◌, List, [], ◌∷◌, ◌++◌, map, Option, Some, None, MatchOption, IsSomeAnd, string_bytes, String, refl, sym, ◌∙◌, ap, subst, arith}
use Rattle.std.specs.List.{AllZip}
use Rattle.std.specs.Map.{lookup}
use Rattle.std.specs.Str.{bytes_eq}
use Rattle.std.specs.String.{string_eq}
use Rattle.std.specs.HashMap.{get_by_text, UpdatesBy}
use Rattle.std.specs.declared.alloc.Global.{Global}
use Rattle.wiki_base.specs.declared.numbers.WordId.{WordId}
use Rattle.std.proofs.lemmas.List.{map-append}
use Rattle.std.proofs.lemmas.List.Folds.{list_any-append}
use Rattle.std.proofs.lemmas.Map.Entries.{place_from_lookup, lookup_clone}
use Rattle.std.proofs.lemmas.Map.Text.{is_text, hash_map_updates_text}
use Rattle.std.proofs.lemmas.Slice.Eq.{bytes_eq-Decides}
use Rattle.lexicon.specs.Words.{is_among}
use Rattle.lexicon.specs.Index.{Index}

-- the test of two lists of bytes does not ask which stands first
pub bytes_eq-comm : (xs ys : List ℕ) → bytes_eq xs ys ≡ bytes_eq ys xs
bytes_eq-comm xs ys = grind (arith, bytes_eq-Decides xs ys, bytes_eq-Decides ys xs)

-- the key that a look-up by bytes finds has these bytes, so a look-up by that key finds the same
found_key : {X : Type 0} (q : List ℕ) (es fs : List (String Global × X)) (v : X) → ((k : String Global) → lookup (string_eq k) fs ≡ lookup (string_eq k) es)
    → lookup (is_text q) fs ≡ Some v → lookup (is_text q) es ≡ Some v
found_key q es fs v same found =
    let at = place_from_lookup (is_text q) fs v found in
    let bytes : q ≡ string_bytes at.1 = (bytes_eq-Decides q (string_bytes at.1)).0 at.3 in
    let there : lookup (λ k. bytes_eq (string_bytes at.1) (string_bytes k)) fs ≡ Some v =
    subst (λ x. lookup (λ (k : String Global). bytes_eq x (string_bytes k)) fs ≡ Some v) bytes found in
    subst (λ x. lookup (λ (k : String Global). bytes_eq x (string_bytes k)) es ≡ Some v) (sym bytes) (sym (same at.1) ∙ there)

-- two tables that find the same at each key find the same at all bytes
pub same_texts : {X : Type 0} (es fs : List (String Global × X)) → ((k : String Global) → lookup (string_eq k) fs ≡ lookup (string_eq k) es) → (q : List ℕ)
    → lookup (is_text q) fs ≡ lookup (is_text q) es
same_texts {X} es fs same q = by_both (lookup (is_text q) fs) (lookup (is_text q) es) (λ v. found_key q es fs v same)
    (λ v. found_key q fs es v (λ k. sym (same k)))
  where
    by_both : (a b : Option X) → ((v : X) → a ≡ Some v → b ≡ Some v) → ((v : X) → b ≡ Some v → a ≡ Some v) → a ≡ b
    by_both None None there back = refl
    by_both None (Some v) there back = back v refl
    by_both (Some v) b there back = sym (there v refl)

-- a choice between x and a choice
cond-or : {X : Type 0} (b c : Bool) (x y : X) → cond b x (cond c x y) ≡ cond (b || c) x y
cond-or true c x y = refl
cond-or false c x y = refl

-- the last key is entered: what is left to enter decides what is found
pub enter_last : (keys : List (String Global)) (key : String Global) (m n : Index) (id : WordId) → UpdatesBy string_eq (string_eq key) m n (Some id)
    → (q : List ℕ) → cond (is_among (map string_bytes keys) q) (Some id) (get_by_text n q)
    ≡ cond (is_among (map string_bytes (keys ++ key ∷ [])) q) (Some id) (get_by_text m q)
enter_last keys key m n id updates q =
    let at = hash_map_updates_text (string_bytes key) m n (Some id) updates q in
    let split = ap (λ texts. is_among texts q) (map-append string_bytes keys (key ∷ []))
    ∙ list_any-append (bytes_eq q) (map string_bytes keys) (string_bytes key ∷ []) in
    grind (arith, cond-or (is_among (map string_bytes keys) q) (bytes_eq q (string_bytes key)) (Some id) (get_by_text m q), bytes_eq-comm q (string_bytes key))

-- a choice of none by either of two tests
none-or : {X : Type 0} (b c : Bool) (y : Option X) → cond b None (cond c None y) ≡ cond (c || b) None y
none-or true true y = refl
none-or true false y = refl
none-or false true y = refl
none-or false false y = refl

-- the first text is taken out: what is left to take out decides what is found
pub forget_first : (first : List ℕ) (texts : List (List ℕ)) (m n : Index) → UpdatesBy string_eq (λ k. bytes_eq first (string_bytes k)) m n None → (q : List ℕ)
    → cond (is_among texts q) None (get_by_text n q) ≡ cond (is_among (first ∷ texts) q) None (get_by_text m q)
forget_first first texts m n updates q =
    let at = hash_map_updates_text first m n None updates q in
    grind (arith, none-or (is_among texts q) (bytes_eq q first) (get_by_text m q), bytes_eq-comm q first)

-- a table whose keys have the bytes of another's and whose numbers are the other's finds the same
pub cloned_texts : {X : Type 0} (es fs : List (String Global × X)) → AllZip (λ p q. (string_bytes q.0 ≡ string_bytes p.0) × (q.1 ≡ p.1)) es fs → (q : List ℕ)
    → lookup (is_text q) fs ≡ lookup (is_text q) es
cloned_texts {X} es fs clones q = by_first (lookup (is_text q) es) (lookup (is_text q) fs)
    (lookup_clone (λ (x y : String Global). string_bytes y ≡ string_bytes x) (λ (v w : X). w ≡ v) (is_text q) (λ x y same. ap (bytes_eq q) same) es fs clones)
  where
    by_first : (a b : Option X) → MatchOption a (b ≡ None) (λ v. IsSomeAnd b (λ w. w ≡ v)) → b ≡ a
    by_first None b none = none
    by_first (Some v) (Some w) same = ap Some same
    by_first (Some v) None same = absurd same
