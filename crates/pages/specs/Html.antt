-- Texts in HTML, and the frame of a page.
use Rattle.std.specs.Prelude.{ℕ, ◌==◌, ◌||◌, Bool, List, ◌++◌, codes, encode_utf8, if◌then◌else◌}
use Rattle.std.specs.List.{flat_map}
use Rattle.std.specs.Str.{chars}

-- a character of a text: & < > " are written as entities, so that no text leaves its element
unfoldable pub escaped_char : ℕ → List ℕ
escaped_char c =
    if c == 38 then codes "&amp;" else (
    if c == 60 then codes "&lt;" else (
    if c == 62 then codes "&gt;" else (
    if c == 34 then codes "&quot;" else encode_utf8 c)))

-- the character is written as an entity
abbrev pub is_marked : ℕ → Bool
is_marked c = c == 38 || (c == 60 || (c == 62 || c == 34))

-- a text in HTML
abbrev pub escaped : List ℕ → List ℕ
escaped text = flat_map escaped_char (chars text)

-- a page with a title, as text, up to its body
unfoldable pub opening : List ℕ → List ℕ
opening title =
    codes "<!DOCTYPE html>\n<html><head><meta charset=\"utf-8\"><title>" ++ (escaped title
    ++ codes "</title><style>.contradiction,.budget{color:red}</style></head><body>")

-- the page with a title, as text, and a body, as HTML
unfoldable pub framed : List ℕ → List ℕ → List ℕ
framed title body = opening title ++ (body ++ codes "</body></html>\n")
