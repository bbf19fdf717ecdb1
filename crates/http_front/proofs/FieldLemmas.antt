-- The lengths that fields tell, one after another.
use Rattle.std.proofs.Common.{◌≡◌, ℕ, List, [], ◌∷◌, Bool, true, false, ◌&&◌, refl, sym, ap, ◌∙◌, Option, None, Some, arith, filter, map}
use Rattle.std.specs.Prelude.{◌==◌, if◌then◌else◌, codes, unwrap_or, option_and_then}
use Rattle.std.specs.List.{list_all}
use Rattle.std.proofs.lemmas.Bool.Decides.{nat_tests}
use Rattle.std.proofs.lemmas.Bool.{eqb-true}
use Rattle.http_front.specs.Numbers.{number_of}
use Rattle.http_front.specs.Fields.{is_named, is_same, common, lengths_told, body_length, agreed, with_field, told_after}

-- a number that was told, before others
abbrev before : Option ℕ → List (Option ℕ) → List (Option ℕ)
before None ns = ns
before (Some n) ns = Some n ∷ ns

either_same : (b : Bool) (n : Option ℕ) → (if b then n else n) ≡ n
either_same true n = refl
either_same false n = refl

-- what is no number is in common with nothing
common_none : (found : Option ℕ) (ns : List (Option ℕ)) → common (before found (None ∷ ns)) ≡ None
common_none None ns = either_same (list_all (is_same None) ns) None
common_none (Some n) ns = refl

-- two numbers that differ have nothing in common
common_unequal : (n m : ℕ) (ns : List (Option ℕ)) → (n == m) ≡ false → common (Some n ∷ Some m ∷ ns) ≡ None
common_unequal n m ns h = ap (λ b. if b && list_all (is_same (Some n)) ns then Some n else None) h

-- the same number twice says no more than once
common_twice : (n : ℕ) (ns : List (Option ℕ)) → common (Some n ∷ Some n ∷ ns) ≡ common (Some n ∷ ns)
common_twice n ns =
    let equal : (n == n) ≡ true = grind (arith, nat_tests) in
    ap (λ b. if b && list_all (is_same (Some n)) ns then Some n else None) equal

lengths_told_skip : (f : List ℕ × List ℕ) (fs : List (List ℕ × List ℕ)) → is_named (codes "Content-Length") f ≡ false → lengths_told (f ∷ fs) ≡ lengths_told fs
lengths_told_skip f fs h = ap (λ b. map (λ field. number_of 19 field.1)
    (if b then f ∷ filter (is_named (codes "Content-Length")) fs else filter (is_named (codes "Content-Length")) fs)) h

lengths_told_take : (f : List ℕ × List ℕ) (fs : List (List ℕ × List ℕ)) → is_named (codes "Content-Length") f ≡ true
    → lengths_told (f ∷ fs) ≡ number_of 19 f.1 ∷ lengths_told fs
lengths_told_take f fs h = ap (λ b. map (λ field. number_of 19 field.1)
    (if b then f ∷ filter (is_named (codes "Content-Length")) fs else filter (is_named (codes "Content-Length")) fs)) h

told_end : (found : Option ℕ) → Some (unwrap_or found 0) ≡ common (before found [])
told_end None = refl
told_end (Some n) = refl

told_pair : (t : Bool) (m n : ℕ) (fs : List (List ℕ × List ℕ)) → ((next : Option ℕ) → told_after next fs ≡ common (before next (lengths_told fs)))
    → (m == n) ≡ t
    → option_and_then (λ next. told_after next fs) (if t then Some (Some n) else None) ≡ common (Some m ∷ Some n ∷ lengths_told fs)
told_pair true m n fs rest same =
    let equal : m ≡ n = eqb-true m n same in
    rest (Some n) ∙ sym (common_twice n (lengths_told fs)) ∙ ap (λ k. common (Some k ∷ Some n ∷ lengths_told fs)) (sym equal)
told_pair false m n fs rest other = sym (common_unequal m n (lengths_told fs) other)

-- a field of the name, by the number that it tells
told_number : (found told : Option ℕ) (fs : List (List ℕ × List ℕ)) → ((next : Option ℕ) → told_after next fs ≡ common (before next (lengths_told fs)))
    → option_and_then (λ next. told_after next fs) (option_and_then (agreed found) told) ≡ common (before found (told ∷ lengths_told fs))
told_number found None fs rest = sym (common_none found (lengths_told fs))
told_number None (Some n) fs rest = rest (Some n)
told_number (Some m) (Some n) fs rest = told_pair (m == n) m n fs rest refl

told_field : (t : Bool) (found : Option ℕ) (f : List ℕ × List ℕ) (fs : List (List ℕ × List ℕ))
    → ((next : Option ℕ) → told_after next fs ≡ common (before next (lengths_told fs))) → is_named (codes "Content-Length") f ≡ t
    → option_and_then (λ next. told_after next fs) (if t then option_and_then (agreed found) (number_of 19 f.1) else Some found)
    ≡ common (before found (lengths_told (f ∷ fs)))
told_field true found f fs rest named = told_number found (number_of 19 f.1) fs rest ∙ ap (λ ns. common (before found ns)) (sym (lengths_told_take f fs named))
told_field false found f fs rest other = rest found ∙ ap (λ ns. common (before found ns)) (sym (lengths_told_skip f fs other))

told_is : (fields : List (List ℕ × List ℕ)) (found : Option ℕ) → told_after found fields ≡ common (before found (lengths_told fields))
unfolding with_field
told_is [] found = told_end found
told_is (f ∷ fs) found = told_field (is_named (codes "Content-Length") f) found f fs (told_is fs) refl

-- one field after another, the fields tell the one length that all of them tell
pub told_all : (fields : List (List ℕ × List ℕ)) → told_after None fields ≡ body_length fields
told_all fields = told_is fields None
