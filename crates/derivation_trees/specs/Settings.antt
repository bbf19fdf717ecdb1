-- What a derivation is of: a grammar, tokens, and how each token reads by a lexicon.
use Rattle.std.specs.Prelude.{◌≡◌, ℕ, ◌+◌, ◌==◌, nat_le, ◌&&◌, ◌||◌, Bool, false, List, [], ◌∷◌, length, slice_get}
use Rattle.std.specs.List.{list_any}
use Rattle.std.specs.Option.{option_map_or}
use Rattle.std.specs.Str.{bytes_eq}
use Rattle.codeco_terms.specs.declared.values.Value.{Value}
use Rattle.codeco_terms.specs.declared.values.Value.TheVariants.{Atom, Word, Pos}
use Rattle.codeco_terms.specs.declared.categories.Ground.{Ground}
use Rattle.codeco_terms.specs.declared.declarations.Declared.{Declared}
use Rattle.codeco_terms.specs.declared.declarations.Declared.TheVariants as declared
use Rattle.codeco_terms.specs.GrammarParts.{GrammarParts}
use Rattle.scopes.specs.declared.agreement.Test.{Test}
use Rattle.scopes.specs.Resolution.{has_value, agrees}
use Rattle.codeco_checked.specs.Numbering.{has}
use Rattle.codeco_checked.specs.Faults.{values_of}

-- a grammar, the bytes of the tokens, and for each token its readings: the ground preterminals that it stands for
pub record Setting : Type 0 where
  pub grammar : GrammarParts
  pub tokens : List (List ℕ)
  pub readings : List (List Ground)

-- the token at the place is the terminal with the number
abbrev pub matches_terminal : Setting → ℕ → ℕ → Bool
matches_terminal s terminal place =
    option_map_or (λ token. option_map_or (bytes_eq token) (slice_get s.grammar.terminals terminal) false) (slice_get s.tokens place) false

-- the token at the place has a reading with the preterminal's name and with the values that are asked for
abbrev pub matches_preterminal : Setting → Test → ℕ → Bool
matches_preterminal s asked place =
    option_map_or (λ readings. list_any (λ reading. agrees reading asked) readings) (slice_get s.readings place) false

-- the word has a form among the tokens: the feature 3 of a reading is its word
abbrev pub has_word : Setting → Value → Bool
has_word s word = list_any (λ readings. list_any (λ reading. has_value reading.vals (3, word)) readings) s.readings

-- The values of a feature at the tokens are its atoms; or word 0 and the words with a form among the tokens; or the
-- positions 0 to the number of tokens.
abbrev pub is_value : Setting → Declared → Value → Bool
is_value s declared.Words (Word w) = (w.0 == 0) || has_word s (Word w)
is_value s declared.Positions (Pos p) = nat_le p (length s.tokens)
is_value s (declared.Atoms atoms) (Atom a) = has atoms a
is_value _ _ _ = false

-- the value is one of the feature with the number
abbrev pub fits_feature : Setting → ℕ → Value → Bool
fits_feature s feature v = is_value s (values_of s.grammar feature) v
