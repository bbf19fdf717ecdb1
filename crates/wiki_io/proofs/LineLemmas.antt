-- How bytes are cut into lines.
use Rattle.std.proofs.Common.{◌≡◌, ◌≢◌, ℕ, ◌<◌, ◌≤◌, true, false, cond, eqb, List, [], ◌∷◌, ◌++◌, length, map, refl, ◌∙◌, ap, inl, inr, ◌⊎◌}
use Rattle.std.specs.List.{onto_first}
use Rattle.std.proofs.lemmas.Bool.{cases_eq, eq-eqb, ne_eqb, le-ltb, lt-ltb}
use Rattle.std.proofs.lemmas.List.{append_assoc, map-append}
use Rattle.std.proofs.lemmas.List.Elements.{All-head, All-tail}
use Rattle.wiki_io.specs.Lines.{cut_lines, into_first, cut_whole_lines, after_newline, HasNoNewline, text, too_long, line_of, input_lines, whole_lines}
use Rattle.wiki_io.specs.declared.limits.TheConstants.{NEWLINE, MAX_LINE}

-- the first byte of bytes without a newline fails the test
head : (b : ℕ) (bytes : List ℕ) → HasNoNewline (b ∷ bytes) → eqb b NEWLINE ≡ false
head b bytes none = ne_eqb b NEWLINE (All-head (λ x. x ≢ NEWLINE) b bytes none)

tail : (b : ℕ) (bytes : List ℕ) → HasNoNewline (b ∷ bytes) → HasNoNewline bytes
tail b bytes none = All-tail (λ x. x ≢ NEWLINE) b bytes none

-- a line that ends with its newline
pub cut_lines-line : (line rest : List ℕ) → HasNoNewline line → cut_lines (line ++ NEWLINE ∷ rest) ≡ line ∷ cut_lines rest
cut_lines-line [] rest none = refl
cut_lines-line (b ∷ line) rest none = rw (head b line none, cut_lines-line line rest (tail b line none)) refl

-- a last line, without a newline
pub cut_lines-last : (b : ℕ) (line : List ℕ) → HasNoNewline (b ∷ line) → cut_lines (b ∷ line) ≡ (b ∷ line) ∷ []
cut_lines-last b [] none = rw (head b [] none) refl
cut_lines-last b (c ∷ line) none = rw (head b (c ∷ line) none, cut_lines-last c line (tail b (c ∷ line) none)) refl

-- the bytes before the first newline byte, or all where there is none
abbrev pub before_newline : List ℕ → List ℕ
before_newline [] = []
before_newline (b ∷ bytes) = cond (eqb b NEWLINE) [] (b ∷ before_newline bytes)

-- the first line of bytes, and the others
onto_cut : (a : ℕ) (rest : List ℕ) → onto_first a (cut_lines rest) ≡ (a ∷ before_newline rest) ∷ cut_lines (after_newline rest)
onto_cut a [] = refl
onto_cut a (b ∷ rest) = elim (eqb b NEWLINE) as (λ t. onto_first a (cond t ([] ∷ cut_lines rest) (onto_first b (cut_lines rest)))
    ≡ (a ∷ cond t [] (b ∷ before_newline rest)) ∷ cut_lines (cond t rest (after_newline rest))) [
      | true ↦ refl
      | false ↦ rw (onto_cut b rest) refl
    ]

pub cut_lines-begun : (b : ℕ) (line rest : List ℕ) → HasNoNewline (b ∷ line)
    → cut_lines ((b ∷ line) ++ rest) ≡ ((b ∷ line) ++ before_newline rest) ∷ cut_lines (after_newline rest)
cut_lines-begun b [] rest none = rw (head b [] none) (onto_cut b rest)
cut_lines-begun b (c ∷ line) rest none = rw (head b (c ∷ line) none, cut_lines-begun c line rest (tail b (c ∷ line) none)) refl

-- bytes without a newline are skipped with the rest of their line
pub after_newline-part : (part rest : List ℕ) → HasNoNewline part → after_newline (part ++ rest) ≡ after_newline rest
after_newline-part [] rest none = refl
after_newline-part (b ∷ part) rest none = rw (head b part none) (after_newline-part part rest (tail b part none))

pub cut_whole_lines-none : (part : List ℕ) → HasNoNewline part → cut_whole_lines part ≡ []
cut_whole_lines-none [] none = refl
cut_whole_lines-none (b ∷ part) none = rw (head b part none, cut_whole_lines-none part (tail b part none)) refl

pub line_of-short : (line : List ℕ) → length line < MAX_LINE → line_of line ≡ text line
line_of-short line short = rw (lt-ltb (length line) MAX_LINE short) refl

pub line_of-long : (line : List ℕ) → MAX_LINE ≤ length line → line_of line ≡ too_long
line_of-long line long = rw (le-ltb (length line) MAX_LINE long) refl

-- Putting its newline back behind each line gives the bytes, or the bytes and the newline that the last line lacked.
abbrev pub joined : List (List ℕ) → List ℕ
joined [] = []
joined (line ∷ lines) = line ++ NEWLINE ∷ joined lines

joined-onto_first : (b : ℕ) (bytes : List ℕ) (lines : List (List ℕ)) → (joined lines ≡ bytes) ⊎ (joined lines ≡ bytes ++ NEWLINE ∷ [])
    → (joined (onto_first b lines) ≡ b ∷ bytes) ⊎ (joined (onto_first b lines) ≡ b ∷ (bytes ++ NEWLINE ∷ []))
joined-onto_first b [] [] is = inr refl
joined-onto_first b (c ∷ bytes) [] (inl is) = absurd (cc is)
joined-onto_first b (c ∷ bytes) [] (inr is) = absurd (cc is)
joined-onto_first b bytes (line ∷ lines) (inl is) = inl (ap (λ (l : List ℕ). b ∷ l) is)
joined-onto_first b bytes (line ∷ lines) (inr is) = inr (ap (λ (l : List ℕ). b ∷ l) is)

pub joined-cut_lines : (bytes : List ℕ) → (joined (cut_lines bytes) ≡ bytes) ⊎ (joined (cut_lines bytes) ≡ bytes ++ NEWLINE ∷ [])
joined-cut_lines [] = inl refl
joined-cut_lines (b ∷ bytes) = elim (cases_eq b NEWLINE) [
  | inl is ↦ rw (eq-eqb b NEWLINE is, is)
      (elim (joined-cut_lines bytes) [ inl whole ↦ inl (ap (λ (l : List ℕ). NEWLINE ∷ l) whole) | inr part ↦ inr (ap (λ (l : List ℕ). NEWLINE ∷ l) part) ])
  | inr ne ↦ rw (ne_eqb b NEWLINE ne) (joined-onto_first b bytes (cut_lines bytes) (joined-cut_lines bytes))
]

-- the bytes after the last newline byte
abbrev pub onto_part : ℕ → List (List ℕ) → List ℕ → List ℕ
onto_part b [] part = b ∷ part
onto_part b (line ∷ lines) part = part

abbrev pub last_part : List ℕ → List ℕ
last_part [] = []
last_part (b ∷ bytes) = cond (eqb b NEWLINE) (last_part bytes) (onto_part b (cut_whole_lines bytes) (last_part bytes))

onto_first-append : (b : ℕ) (lines : List (List ℕ)) (part more : List ℕ)
    → onto_first b (lines ++ (part ++ more) ∷ []) ≡ into_first b lines ++ (onto_part b lines part ++ more) ∷ []
onto_first-append b [] part more = refl
onto_first-append b (line ∷ lines) part more = refl

-- a newline behind all makes one line more of the last part
pub cut_lines-ended : (bytes more : List ℕ) → HasNoNewline more
    → cut_lines (bytes ++ more ++ NEWLINE ∷ []) ≡ cut_whole_lines bytes ++ (last_part bytes ++ more) ∷ []
cut_lines-ended bytes more none = ap cut_lines (append_assoc bytes more (NEWLINE ∷ [])) ∙ ended bytes
  where
    ended : (bytes : List ℕ) → cut_lines (bytes ++ (more ++ NEWLINE ∷ [])) ≡ cut_whole_lines bytes ++ (last_part bytes ++ more) ∷ []
    ended [] = cut_lines-line more [] none
    ended (b ∷ bytes) = elim (eqb b NEWLINE) as (λ t. cond t ([] ∷ cut_lines (bytes ++ (more ++ NEWLINE ∷ [])))
        (onto_first b (cut_lines (bytes ++ (more ++ NEWLINE ∷ []))))
        ≡ cond t ([] ∷ cut_whole_lines bytes) (into_first b (cut_whole_lines bytes))
        ++ (cond t (last_part bytes) (onto_part b (cut_whole_lines bytes) (last_part bytes)) ++ more) ∷ []) [
          | true ↦ ap (λ (l : List (List ℕ)). [] ∷ l) (ended bytes)
          | false ↦ ap (λ (l : List (List ℕ)). onto_first b l) (ended bytes) ∙ onto_first-append b (cut_whole_lines bytes) (last_part bytes) more
        ]

-- the same of lines
pub input_lines-ended : (bytes more : List ℕ) → HasNoNewline more
    → input_lines (bytes ++ more ++ NEWLINE ∷ []) ≡ whole_lines bytes ++ line_of (last_part bytes ++ more) ∷ []
input_lines-ended bytes more none =
    ap (map line_of) (cut_lines-ended bytes more none) ∙ map-append line_of (cut_whole_lines bytes) ((last_part bytes ++ more) ∷ [])
