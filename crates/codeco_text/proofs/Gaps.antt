-- What a text spells, when something is put before it.
use Rattle.std.proofs.Common.{◌≡◌, ℕ, Bool, true, false, not, eqb, ◌&&◌, ◌||◌, List, [], ◌∷◌, ◌++◌, refl, sym, ap, subst, ◌∙◌, append_assoc, ⊎_elim}
use Rattle.std.proofs.Common.{inl, inr}
use Rattle.std.proofs.lemmas.List.{append-nil}
use Rattle.std.proofs.lemmas.Bool.{eqb-true, cases_Bool, both_ways}
use Rattle.codeco_text.specs.declared.symbols.Lexeme.{Lexeme}
use Rattle.codeco_text.specs.Names.{is_space}
use Rattle.codeco_text.specs.Notation.{lexeme_bytes, is_symbol, goes_on, is_gap, Begins, SpellsFrom}
use Rattle.codeco_text.specs.Building.{push}

-- white space is no %
pub space_apart : (b : ℕ) → is_space b ≡ true → eqb b 37 ≡ false
space_apart b h = elim (cases_Bool (eqb b 37)) [
  | inl e ↦ absurd (both_ways (is_space 37) refl (subst (λ n. is_space n ≡ true) (eqb-true b 37 e) h))
  | inr e ↦ e
]

gap_space : (last : Bool) (b : ℕ) (bs : List ℕ) → is_space b ≡ true → is_gap last false (b ∷ bs) ≡ is_gap last false bs
gap_space last b bs h = rw (space_apart b h, h) refl

gap_byte : (last : Bool) (b : ℕ) (bs : List ℕ) → is_gap last true (b ∷ bs) ≡ is_gap last (not (eqb b 10)) bs
gap_byte last b bs = refl

-- what begins behind a longer gap
begins_more : (from to : Bool) (b : ℕ) (text : List ℕ) (x : Lexeme) (rest : List ℕ) → ((gap : List ℕ) → is_gap false to (b ∷ gap) ≡ is_gap false from gap)
    → Begins from text x rest → Begins to (b ∷ text) x rest
begins_more from to b text x rest same begins = record {
  gap = b ∷ begins.gap;
  between = same begins.gap ∙ begins.between;
  symbol = begins.symbol;
  longest = begins.longest;
  parts = ap (λ (t : List ℕ). b ∷ t) begins.parts;
}

pub spells_more : (from to : Bool) (b : ℕ) (text : List ℕ) (xs : List Lexeme) → ((last : Bool) (gap : List ℕ) → is_gap last to (b ∷ gap) ≡ is_gap last from gap)
    → SpellsFrom from text xs → SpellsFrom to (b ∷ text) xs
spells_more from to b text [] same spells = same true text ∙ spells
spells_more from to b text (x ∷ xs) same spells = (spells.0, begins_more from to b text x spells.0 (same false) spells.1, spells.2)

pub spells_space : (b : ℕ) (text : List ℕ) (xs : List Lexeme) → is_space b ≡ true → SpellsFrom false text xs → SpellsFrom false (b ∷ text) xs
spells_space b text xs h = spells_more false false b text xs (λ last gap. gap_space last b gap h)

pub spells_comment : (b : ℕ) (text : List ℕ) (xs : List Lexeme) → b ≡ 37 → SpellsFrom true text xs → SpellsFrom false (b ∷ text) xs
spells_comment b text xs e = spells_more true false b text xs (λ last gap. subst (λ n. is_gap last false (n ∷ gap) ≡ is_gap last true gap) (sym e) refl)

pub spells_in_comment : (b : ℕ) (text : List ℕ) (xs : List Lexeme) → SpellsFrom (not (eqb b 10)) text xs → SpellsFrom true (b ∷ text) xs
spells_in_comment b text xs = spells_more (not (eqb b 10)) true b text xs (λ last gap. refl)

-- The text is the rest of a symbol whose first bytes were read, and then other symbols.
pub record Continues (front text : List ℕ) (xs : List Lexeme) : Type 0 where
  pub symbol : Lexeme
  pub more : List ℕ
  pub rest : List ℕ
  pub others : List Lexeme
  pub first : xs ≡ symbol ∷ others
  pub parts : text ≡ more ++ rest
  pub bytes : lexeme_bytes symbol ≡ front ++ more
  pub is_symbol : is_symbol symbol ≡ true
  pub longest : goes_on symbol rest ≡ false
  pub spells : SpellsFrom false rest others

pub continues_more : (front : List ℕ) (b : ℕ) (text : List ℕ) (xs : List Lexeme) → Continues (push front b) text xs → Continues front (b ∷ text) xs
continues_more front b text xs c = record {
  symbol = c.symbol;
  more = b ∷ c.more;
  rest = c.rest;
  others = c.others;
  first = c.first;
  parts = ap (λ (t : List ℕ). b ∷ t) c.parts;
  bytes = c.bytes ∙ append_assoc front (b ∷ []) c.more;
  is_symbol = c.is_symbol;
  longest = c.longest;
  spells = c.spells;
}

-- the symbol is whole with this byte
pub continues_whole : (front : List ℕ) (b : ℕ) (text : List ℕ) (x : Lexeme) (xs : List Lexeme) → lexeme_bytes x ≡ push front b → is_symbol x ≡ true
    → goes_on x text ≡ false → SpellsFrom false text xs → Continues front (b ∷ text) (x ∷ xs)
continues_whole front b text x xs bytes symbol longest spells = record {
  symbol = x;
  more = b ∷ [];
  rest = text;
  others = xs;
  first = refl;
  parts = refl;
  bytes = bytes;
  is_symbol = symbol;
  longest = longest;
  spells = spells;
}

-- the symbol was whole before
pub continues_before : (front text : List ℕ) (x : Lexeme) (xs : List Lexeme) → lexeme_bytes x ≡ front → is_symbol x ≡ true → goes_on x text ≡ false
    → SpellsFrom false text xs → Continues front text (x ∷ xs)
continues_before front text x xs bytes symbol longest spells = record {
  symbol = x;
  more = [];
  rest = text;
  others = xs;
  first = refl;
  parts = refl;
  bytes = bytes ∙ sym (append-nil front);
  is_symbol = symbol;
  longest = longest;
  spells = spells;
}

-- a symbol that begins here is spelled here
pub begins_here : (front text : List ℕ) (xs : List Lexeme) → Continues front text xs → SpellsFrom false (front ++ text) xs
begins_here front text xs c =
    let begins : Begins false (front ++ text) c.symbol c.rest = record {
      gap = [];
      between = refl;
      symbol = c.is_symbol;
      longest = c.longest;
      parts = ap (λ (t : List ℕ). front ++ t) c.parts ∙ sym (append_assoc front c.more c.rest) ∙ ap (λ (t : List ℕ). t ++ c.rest) (sym c.bytes);
    } in
    subst (λ (ys : List Lexeme). SpellsFrom false (front ++ text) ys) (sym c.first) (c.rest, begins, c.spells)
