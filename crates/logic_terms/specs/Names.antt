-- Lists of name words.
use Rattle.std.specs.Prelude.{◌&&◌, Bool, true, List, [], ◌∷◌, nat_lt}
use Rattle.wiki_base.specs.declared.numbers.WordId.{WordId}

-- whether the numbers of names rise, above that of a name
abbrev pub names_above : WordId → List WordId → Bool
names_above name [] = true
names_above name (n ∷ ns) = nat_lt name.0 n.0 && names_above n ns

-- whether the numbers of names rise: each is named once
abbrev pub names_rise : List WordId → Bool
names_rise [] = true
names_rise (n ∷ ns) = names_above n ns
