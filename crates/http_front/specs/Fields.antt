-- What the fields of a head tell: each is a name, and a value without the white space around it.
use Rattle.std.specs.Prelude.{ℕ, ◌==◌, ◌||◌, ◌&&◌, not, Bool, false, List, [], ◌∷◌, ◌++◌, map, filter, codes, Option, Some, None, option_and_then, unwrap_or, if◌then◌else◌, nat_lt}
use Rattle.std.specs.List.{count_by, list_all}
use Rattle.std.specs.Char.{to_ascii_lowercase}
use Rattle.std.specs.Str.{bytes_eq}
use Rattle.http_front.specs.Numbers.{number_of}

-- the field has this name, without regard to the case of letters
unfoldable pub is_named : List ℕ → List ℕ × List ℕ → Bool
is_named name field = bytes_eq (map to_ascii_lowercase field.0) (map to_ascii_lowercase name)

-- how many fields have this name
abbrev pub fields_named : List ℕ → List (List ℕ × List ℕ) → ℕ
fields_named name fields = count_by (is_named name) fields

-- a field tells how the body is coded for its transfer
abbrev pub has_transfer_coding : List (List ℕ × List ℕ) → Bool
has_transfer_coding fields = nat_lt 0 (fields_named (codes "Transfer-Encoding") fields)

-- more than one field names the host, or none does in a head of HTTP/1.1
abbrev pub is_bad_host : ℕ → List (List ℕ × List ℕ) → Bool
is_bad_host minor fields =
    nat_lt 1 (fields_named (codes "Host") fields) || (minor == 1 && fields_named (codes "Host") fields == 0)

-- ---- which site's page sends a request

-- the value of the first field of this name; nothing where there is none
abbrev pub value_named : List ℕ → List (List ℕ × List ℕ) → List ℕ
value_named name [] = []
value_named name (field ∷ fields) = if is_named name field then field.1 else value_named name fields

-- the origin is this scheme with this host, without regard to the case of letters
unfoldable pub is_at : List ℕ → List ℕ → List ℕ → Bool
is_at scheme host origin = bytes_eq (map to_ascii_lowercase origin) (map to_ascii_lowercase (scheme ++ host))

-- the origin is that of a page of this host (RFC 6454)
abbrev pub is_page_of : List ℕ → List ℕ → Bool
is_page_of host origin = is_at (codes "http://") host origin || is_at (codes "https://") host origin

-- no field tells an origin, or one does, and it is that of a page of the one host that is named
abbrev pub is_own_origin : List (List ℕ × List ℕ) → Bool
is_own_origin fields =
    fields_named (codes "Origin") fields == 0
    || (fields_named (codes "Origin") fields == 1
    && (fields_named (codes "Host") fields == 1 && is_page_of (value_named (codes "Host") fields) (value_named (codes "Origin") fields)))

-- a request that posts, from another site's page
abbrev pub is_foreign : List ℕ → List (List ℕ × List ℕ) → Bool
is_foreign method fields = bytes_eq method (codes "POST") && not (is_own_origin fields)

-- ---- the length of the body

-- both are the same number
abbrev pub is_same : Option ℕ → Option ℕ → Bool
is_same None other = false
is_same (Some n) None = false
is_same (Some n) (Some m) = n == m

-- the one number that all of these are; 0 where there are none
abbrev pub common : List (Option ℕ) → Option ℕ
common [] = Some 0
common (n ∷ ns) = if list_all (is_same n) ns then n else None

-- the numbers that the fields of this name tell, each with up to 19 digits
abbrev pub lengths_told : List (List ℕ × List ℕ) → List (Option ℕ)
lengths_told fields = map (λ field. number_of 19 field.1) (filter (is_named (codes "Content-Length")) fields)

-- the length of the body, if all fields that tell it tell one and the same
abbrev pub body_length : List (List ℕ × List ℕ) → Option ℕ
body_length fields = common (lengths_told fields)

-- a number that was told before, and one that is told now, if they are one and the same
abbrev pub agreed : Option ℕ → ℕ → Option (Option ℕ)
agreed None n = Some (Some n)
agreed (Some m) n = if m == n then Some (Some n) else None

-- what was told before, and what a field tells
unfoldable pub with_field : Option ℕ → List ℕ × List ℕ → Option (Option ℕ)
with_field found field = if is_named (codes "Content-Length") field then option_and_then (agreed found) (number_of 19 field.1) else Some found

-- the length that fields tell, one after another, where one was told before
abbrev pub told_after : Option ℕ → List (List ℕ × List ℕ) → Option ℕ
told_after found [] = Some (unwrap_or found 0)
told_after found (field ∷ fields) = option_and_then (λ next. told_after next fields) (with_field found field)
