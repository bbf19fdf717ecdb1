-- Whether elements may begin at a place.
use Rattle.std.specs.Prelude.{ℕ, ◌==◌, Bool, true, false, List, [], ◌∷◌, slice_get}
use Rattle.std.specs.List.{list_any}
use Rattle.std.specs.Option.{option_map_or}
use Rattle.codeco_terms.specs.declared.elements.Element.{Element}
use Rattle.codeco_terms.specs.declared.elements.Element.TheVariants.{Terminal, Preterminal, Sub}
use Rattle.derivation_trees.specs.Settings.{Setting, matches_terminal}

-- the token at the place has a reading with the preterminal's name
abbrev pub has_kind : Setting → ℕ → ℕ → Bool
has_kind s name place = option_map_or (λ readings. list_any (λ reading. reading.name == name) readings) (slice_get s.readings place) false

-- the first element that takes tokens may stand at the place
abbrev pub may_start : Setting → ℕ → List Element → Bool
may_start s place [] = true
may_start s place (Terminal t ∷ es) = matches_terminal s t place
may_start s place (Preterminal c ∷ es) = has_kind s c.name place
may_start s place (Sub c ∷ es) = true
may_start s place (_ ∷ es) = may_start s place es
