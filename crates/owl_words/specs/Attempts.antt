-- The forms that are tried for an entity, one attempt after another: those of its base, and then those with -c, -d and so on.
use Rattle.std.specs.Prelude.{ℕ, zero, suc, ◌+◌, ◌==◌, if◌then◌else◌, List, [], ◌∷◌, ◌++◌, length, take, map, Option, Some, None, is_some}
use Rattle.std.specs.Fmt.{decimal}
use Rattle.std.specs.Str.{encode_utf8_all}
use Rattle.lexicon.specs.declared.kinds.Kind.{Kind}
use Rattle.lexicon.specs.declared.kinds.Forms.{Forms}
use Rattle.lexicon.specs.Suggest.{form_texts, form_fault}
use Rattle.owl_words.specs.Bases.{respelled, is_text}

-- what stands behind the base at an attempt, of which the first is 0: nothing, and then a hyphen and the digits of 2, 3 and so on as letters
abbrev pub suffix : ℕ → List ℕ
suffix attempt = if attempt == 0 then [] else 45 ∷ map respelled (decimal (attempt + 1))

-- the forms of a word of the kind that are suggested for a text, where none of them is too long
abbrev pub suggested : Kind → List ℕ → Option Forms
suggested kind text =
    if is_some (form_fault kind (text ∷ [])) then None else Some (record { kind = kind; texts = form_texts kind (text ∷ []) })

-- the forms from these characters, where all of them are texts
abbrev pub fitting : Kind → List ℕ → Option Forms
fitting kind cs = if is_text cs then suggested kind (encode_utf8_all cs) else None

-- what comes first
abbrev pub either : Option Forms → Option Forms → Option Forms
either (Some forms) other = Some forms
either None other = other

-- the forms from the longest front of the base, of so many characters at most, that fit with an ending behind it
abbrev pub longest : Kind → List ℕ → List ℕ → ℕ → Option Forms
longest kind cs ending zero = None
longest kind cs ending (suc n) = either (fitting kind (take (suc n) cs ++ ending)) (longest kind cs ending n)

-- the forms at an attempt, where some fit: at the first those of the whole base, and else those with a suffix
abbrev pub attempted : Kind → List ℕ → ℕ → Option Forms
attempted kind cs attempt = if attempt == 0 then fitting kind cs else longest kind cs (suffix attempt) (length cs)
