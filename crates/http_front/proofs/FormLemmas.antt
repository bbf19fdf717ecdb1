-- The first field of a name, looked for from the front.
use Rattle.std.proofs.Common.{◌≡◌, ℕ, List, [], ◌∷◌, true, false, Option, None, Some, refl, ap, find, option_map}
use Rattle.std.specs.Prelude.{if◌then◌else◌}
use Rattle.std.specs.Str.{bytes_eq}
use Rattle.form_urlencoded.specs.Form.{raw_pairs}
use Rattle.http_front.specs.Forms.{decoded, field}

-- the value of the first of these pairs that has the name
pub value_in : List ℕ → List (List ℕ × List ℕ) → Option (List ℕ)
value_in name pairs = option_map (λ pair. decoded pair.1) (find (λ pair. bytes_eq (decoded pair.0) name) pairs)

pub value_start : (name body : List ℕ) → value_in name (raw_pairs body) ≡ field name body
unfolding value_in field
value_start name body = refl

pub value_end : (name : List ℕ) → value_in name [] ≡ None
unfolding value_in
value_end name = refl

pub value_hit : (name key value : List ℕ) (pairs : List (List ℕ × List ℕ)) → bytes_eq (decoded key) name ≡ true
    → value_in name ((key, value) ∷ pairs) ≡ Some (decoded value)
unfolding value_in
value_hit name key value pairs h = ap (λ b. option_map (λ (pair : List ℕ × List ℕ). decoded pair.1)
    (if b then Some (key, value) else find (λ pair. bytes_eq (decoded pair.0) name) pairs)) h

pub value_miss : (name key value : List ℕ) (pairs : List (List ℕ × List ℕ)) → bytes_eq (decoded key) name ≡ false
    → value_in name ((key, value) ∷ pairs) ≡ value_in name pairs
unfolding value_in
value_miss name key value pairs h = ap (λ b. option_map (λ (pair : List ℕ × List ℕ). decoded pair.1)
    (if b then Some (key, value) else find (λ pair. bytes_eq (decoded pair.0) name) pairs)) h
