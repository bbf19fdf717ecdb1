-- Where a symbol may stand, by the words and signs that may come there.
use Rattle.std.proofs.Common.{◌≡◌, ℕ, Bool, true, false, List, [], ◌∷◌, Some}
use Rattle.std.specs.Prelude.{is_some}
use Rattle.codeco_text.specs.declared.symbols.Sign.TheVariants as sign
use Rattle.codeco_text.specs.declared.symbols.Lexeme.TheVariants as lexeme
use Rattle.codeco_text.specs.declared.spot.Role.TheVariants as role
use Rattle.codeco_text.specs.declared.spot.Part.TheVariants as part
use Rattle.codeco_text.specs.declared.spot.Spot.{Spot}
use Rattle.codeco_text.specs.declared.spot.Spot.TheVariants as spot
use Rattle.codeco_text.specs.declared.spot.Wanted.{Wanted}
use Rattle.codeco_text.specs.declared.spot.Wanted.TheVariants as wanted
use Rattle.codeco_text.specs.Reading.{wants, next_spot}

-- the words that are wanted are names
abbrev pub wants_names : Wanted → Bool
wants_names wanted.Item = true
wants_names wanted.Identifier = true
wants_names wanted.Value = true
wants_names wanted.Term = true
wants_names _ = false

-- or variables
abbrev pub wants_variables : Wanted → Bool
wants_variables wanted.Variable = true
wants_variables wanted.Term = true
wants_variables _ = false

-- Each lemma goes through the stands, through the parts of a category, and where a category may end through its roles: the
-- first three cases say so, and the last covers what they don't name.

pub name_wanted : (s : Spot) (w : List ℕ) (t : Spot) → next_spot s (lexeme.Identifier w) ≡ Some t → wants_names (wants s) ≡ true
name_wanted (spot.Category part.Name role.Head) w t e = cc
name_wanted (spot.Category part.Named role.Head) w t e = cc
name_wanted (spot.Category part.Whole role.Head) w t e = cc
name_wanted s w t e = cc

pub name_next : (s : Spot) (w : List ℕ) → wants_names (wants s) ≡ true → is_some (next_spot s (lexeme.Identifier w)) ≡ true
name_next (spot.Category part.Name role.Head) w e = cc
name_next (spot.Category part.Named role.Head) w e = cc
name_next (spot.Category part.Whole role.Head) w e = cc
name_next s w e = cc

pub variable_wanted : (s : Spot) (w : List ℕ) (t : Spot) → next_spot s (lexeme.Variable w) ≡ Some t → wants_variables (wants s) ≡ true
variable_wanted (spot.Category part.Name role.Head) w t e = cc
variable_wanted (spot.Category part.Named role.Head) w t e = cc
variable_wanted (spot.Category part.Whole role.Head) w t e = cc
variable_wanted s w t e = cc

pub variable_next : (s : Spot) (w : List ℕ) → wants_variables (wants s) ≡ true → is_some (next_spot s (lexeme.Variable w)) ≡ true
variable_next (spot.Category part.Name role.Head) w e = cc
variable_next (spot.Category part.Named role.Head) w e = cc
variable_next (spot.Category part.Whole role.Head) w e = cc
variable_next s w e = cc

pub label_wanted : (s : Spot) (w : List ℕ) (t : Spot) → next_spot s (lexeme.Label w) ≡ Some t → wants s ≡ wanted.Label
label_wanted (spot.Category part.Name role.Head) w t e = cc
label_wanted (spot.Category part.Named role.Head) w t e = cc
label_wanted (spot.Category part.Whole role.Head) w t e = cc
label_wanted s w t e = cc

pub label_next : (s : Spot) (w : List ℕ) → wants s ≡ wanted.Label → is_some (next_spot s (lexeme.Label w)) ≡ true
label_next (spot.Category part.Name role.Head) w e = cc
label_next (spot.Category part.Named role.Head) w e = cc
label_next (spot.Category part.Whole role.Head) w e = cc
label_next s w e = cc

pub kind_wanted : (s : Spot) (w : List ℕ) (t : Spot) → next_spot s (lexeme.Kind w) ≡ Some t → wants s ≡ wanted.Kind
kind_wanted (spot.Category part.Name role.Head) w t e = cc
kind_wanted (spot.Category part.Named role.Head) w t e = cc
kind_wanted (spot.Category part.Whole role.Head) w t e = cc
kind_wanted s w t e = cc

pub kind_next : (s : Spot) (w : List ℕ) → wants s ≡ wanted.Kind → is_some (next_spot s (lexeme.Kind w)) ≡ true
kind_next (spot.Category part.Name role.Head) w e = cc
kind_next (spot.Category part.Named role.Head) w e = cc
kind_next (spot.Category part.Whole role.Head) w e = cc
kind_next s w e = cc

pub strong_weak : (s : Spot) (t : Spot) → next_spot s (lexeme.Sign sign.Strong) ≡ Some t → is_some (next_spot s (lexeme.Sign sign.Weak)) ≡ true
strong_weak (spot.Category part.Name role.Head) t e = cc
strong_weak (spot.Category part.Named role.Head) t e = cc
strong_weak (spot.Category part.Whole role.Head) t e = cc
strong_weak s t e = cc

pub absent_scope : (s : Spot) (t : Spot) → next_spot s (lexeme.Sign sign.NoBack) ≡ Some t → is_some (next_spot s (lexeme.Sign sign.Scope)) ≡ true
absent_scope (spot.Category part.Name role.Head) t e = cc
absent_scope (spot.Category part.Named role.Head) t e = cc
absent_scope (spot.Category part.Whole role.Head) t e = cc
absent_scope s t e = cc

pub normal_not_minus : (s : Spot) (t : Spot) → next_spot s (lexeme.Sign sign.Normal) ≡ Some t → is_some (next_spot s (lexeme.Sign sign.Minus)) ≡ false
normal_not_minus (spot.Category part.Name role.Head) t e = cc
normal_not_minus (spot.Category part.Named role.Head) t e = cc
normal_not_minus (spot.Category part.Whole role.Head) t e = cc
normal_not_minus s t e = cc
