-- What an entity is called after its IRI, before forms are chosen. Texts are lists of characters here.
use Rattle.std.specs.Prelude.{ℕ, ◌+◌, ◌==◌, nat_le, Bool, true, false, not, ◌&&◌, ◌||◌, if◌then◌else◌, List, [], ◌∷◌, ◌++◌, map, codes, Option, Some, None, is_some}
use Rattle.std.specs.List.{list_any}
use Rattle.std.specs.Str.{chars, encode_utf8_all}
use Rattle.std.specs.Str.Lossy.{utf8_lossy}
use Rattle.unicode.specs.Binary.{is_lowercase, is_uppercase}
use Rattle.wiki_base.specs.Text.{is_letter, fault_of}
use Rattle.lexicon.specs.declared.kinds.Kind.{Kind}

-- one of the characters # / and :
abbrev pub is_separator : ℕ → Bool
is_separator c = c == 35 || (c == 47 || c == 58)

-- the last part of an IRI: what follows its last separator, or all of it
abbrev pub last_part : List ℕ → List ℕ
last_part [] = []
last_part (c ∷ cs) = if list_any is_separator (c ∷ cs) then last_part cs else c ∷ cs

-- a hyphen goes where a small letter meets a capital. after_small says whether a small letter stands before these characters
abbrev pub parted : Bool → List ℕ → List ℕ
parted after_small [] = []
parted after_small (c ∷ cs) = (if after_small && is_uppercase c then 45 ∷ [] else []) ++ c ∷ parted (is_lowercase c) cs

-- a letter stays, each digit becomes a letter from a to j, and each other character a hyphen
abbrev pub respelled : ℕ → ℕ
respelled c = if is_letter c then c else (if nat_le 48 c && nat_le c 57 then c + 49 else 45)

abbrev pub is_no_hyphen : ℕ → Bool
is_no_hyphen c = not (c == 45)

-- Hyphens side by side become one, and those at the ends are dropped: one stays where a letter stands right before it and some letter behind it.
-- after_letter says whether a letter stands before these characters.
abbrev pub tidied : Bool → List ℕ → List ℕ
tidied after_letter [] = []
tidied after_letter (c ∷ cs) =
    if c == 45 then (if after_letter && list_any is_no_hyphen cs then 45 ∷ tidied false cs else tidied false cs) else c ∷ tidied true cs

-- the name of what a word of the kind stands for
abbrev pub kind_text : Kind → List ℕ
kind_text Kind.Noun = codes "class"
kind_text Kind.Name = codes "individual"
kind_text Kind.Of = codes "property"
kind_text Kind.Verb = codes "property"
kind_text Kind.Adjective = codes "property"

-- these characters, or where there are none the name of the kind
abbrev pub named_at_least : Kind → List ℕ → List ℕ
named_at_least kind [] = chars (kind_text kind)
named_at_least kind (c ∷ cs) = c ∷ cs

-- a part that isn't a text as it is
abbrev pub made_text : Kind → List ℕ → List ℕ
made_text kind part = named_at_least kind (tidied false (map respelled (parted false part)))

-- the characters are a text of letters, and of hyphens between two letters
abbrev pub is_text : List ℕ → Bool
is_text cs = not (is_some (fault_of (encode_utf8_all cs)))

-- their text, if they are one
abbrev pub text_in : List ℕ → Option (List ℕ)
text_in cs = if is_text cs then Some (encode_utf8_all cs) else None

-- a part as it is where it is a text, and else what is made of it
abbrev pub base_of_part : Kind → List ℕ → List ℕ
base_of_part kind part = if is_text part then part else made_text kind part

-- what an entity of the IRI is called, as a word of the kind
abbrev pub base : Kind → List ℕ → List ℕ
base kind iri = base_of_part kind (last_part (chars (utf8_lossy iri)))
