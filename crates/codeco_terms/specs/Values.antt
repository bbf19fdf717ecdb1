-- Values of features.
use Rattle.std.specs.Prelude.{Bool, false, ◌==◌}
use Rattle.codeco_terms.specs.declared.values.Value.{Value}
use Rattle.codeco_terms.specs.declared.values.Value.TheVariants.{Atom, Word, Pos}

-- the two values are the same
abbrev pub same_value : Value → Value → Bool
same_value (Atom a) (Atom b) = a == b
same_value (Word v) (Word w) = v.0 == w.0
same_value (Pos p) (Pos q) = p == q
same_value _ _ = false
