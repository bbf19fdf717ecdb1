-- What is known of attempts, so that those of entities with one base aren't made again: how many of them are refused.
use Rattle.std.specs.Prelude.{◌≡◌, ◌⊎◌, ℕ, List, ◌∷◌, Some, String}
use Rattle.std.specs.HashMap.{HashMap, get_by_text}
use Rattle.std.specs.Str.{encode_utf8_all}
use Rattle.std.specs.declared.alloc.Global.{Global}
use Rattle.std.specs.declared.hash.FoldHasher.{FoldHasher}
use Rattle.std.specs.declared.hash.BuildHasherDefault.{BuildHasherDefault}
use Rattle.lexicon.specs.declared.kinds.Kind.{Kind}
use Rattle.lexicon.specs.Words.{Listed}
use Rattle.owl_words.specs.Chosen.{AreRefused}

-- from keys to numbers
abbrev pub Counts : Type 0
Counts = HashMap (String Global) ℕ (BuildHasherDefault FoldHasher)

-- a digit for each kind
abbrev pub kind_mark : Kind → ℕ
kind_mark Kind.Name = 49
kind_mark Kind.Noun = 50
kind_mark Kind.Of = 51
kind_mark Kind.Verb = 52
kind_mark Kind.Adjective = 53

-- the key of a base, as a word of the kind
abbrev pub key : Kind → List ℕ → List ℕ
key kind cs = encode_utf8_all (kind_mark kind ∷ cs)

-- of a base with a number so many attempts are refused
abbrev pub AreKnown : Listed → Counts → Type 0
AreKnown words counts = (kind : Kind) (cs : List ℕ) (count : ℕ) → get_by_text counts (key kind cs) ≡ Some count → AreRefused words kind cs count

-- the number at a key, or 0
abbrev pub IsNoted : Counts → List ℕ → ℕ → Type 0
IsNoted counts at count = (get_by_text counts at ≡ Some count) ⊎ (count ≡ 0)

-- no other number is found than before, but for this one at the key
abbrev pub Notes : Counts → List ℕ → ℕ → Counts → Type 0
Notes old at count new =
    (text : List ℕ) (n : ℕ) → get_by_text new text ≡ Some n → (get_by_text old text ≡ Some n) ⊎ ((text ≡ at) × (n ≡ count))
