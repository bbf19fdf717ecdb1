-- Forms, and the coding of texts in paths.
use Rattle.std.specs.Prelude.{ℕ, ◌==◌, List, ◌++◌, codes, filter, find, Option, option_map, option_and_then}
use Rattle.std.specs.List.{slice_split}
use Rattle.std.specs.Fmt.{decimal}
use Rattle.std.specs.Str.{bytes_eq}
use Rattle.std.specs.Str.Lossy.{utf8_lossy}
use Rattle.form_urlencoded.specs.Form as form
use Rattle.http_front.specs.Numbers.{short_number}

-- the text that a coded segment, name or value stands for
unfoldable pub decoded : List ℕ → List ℕ
decoded bytes = utf8_lossy (form.decode bytes)

-- the value of the first field of this name in a form
unfoldable pub field : List ℕ → List ℕ → Option (List ℕ)
field name body = option_map (λ pair. decoded pair.1) (find (λ pair. bytes_eq (decoded pair.0) name) (form.raw_pairs body))

-- the number that the first field of this name tells
unfoldable pub number_field : List ℕ → List ℕ → Option ℕ
number_field name body = option_and_then short_number (field name body)

-- the pieces of a text between its spaces, without the empty ones
abbrev pub pieces : List ℕ → List (List ℕ)
pieces text = filter form.is_nonempty (slice_split (λ b. b == 32) text)

-- the path of a word's article
unfoldable pub article_path : List ℕ → List ℕ
article_path word = codes "/article/" ++ form.byte_serialize word

-- the path of a session
unfoldable pub session_path : ℕ → List ℕ
session_path session = codes "/session/" ++ decimal session
