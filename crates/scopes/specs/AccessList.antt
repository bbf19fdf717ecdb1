-- Access lists: the referents that a reference may find, with the openers of scopes between them.
use Rattle.std.specs.Prelude.{ℕ, List, [], ◌∷◌, ◌-◌, Bool, true, false, if◌then◌else◌, length, drop}
use Rattle.std.specs.List.{list_any}
use Rattle.codeco_terms.specs.declared.categories.Ground.{Ground}
use Rattle.scopes.specs.declared.entries.Entry.{Entry}
use Rattle.scopes.specs.declared.entries.Entry.TheVariants.{Opener, Weak, Strong}

-- the strong referents among the entries
abbrev pub strong_referents : List Entry → List Entry
strong_referents [] = []
strong_referents (Opener ∷ rest) = strong_referents rest
strong_referents (Weak referent pos ∷ rest) = strong_referents rest
strong_referents (Strong referent pos ∷ rest) = Strong referent pos ∷ strong_referents rest

-- What closing leaves of the entries that a phrase has added: all of them where there is no opener, else what stands
-- before the first opener, and then the strong referents after it.
abbrev pub closed : List Entry → List Entry
closed [] = []
closed (Opener ∷ rest) = strong_referents rest
closed (Weak referent pos ∷ rest) = Weak referent pos ∷ closed rest
closed (Strong referent pos ∷ rest) = Strong referent pos ∷ closed rest

-- the entries without the openers
abbrev pub referents : List Entry → List Entry
referents [] = []
referents (Opener ∷ rest) = referents rest
referents (Weak referent pos ∷ rest) = Weak referent pos ∷ referents rest
referents (Strong referent pos ∷ rest) = Strong referent pos ∷ referents rest

-- the entry of a referent that is introduced at the position
abbrev pub introduced : Ground → ℕ → Bool → Entry
introduced referent pos strong = if strong then Strong referent pos else Weak referent pos

-- the entry opens a scope
abbrev pub is_opener : Entry → Bool
is_opener Opener = true
is_opener (Weak referent pos) = false
is_opener (Strong referent pos) = false

-- there is an opener among the entries
abbrev pub any_opener : List Entry → Bool
any_opener entries = list_any is_opener entries

-- so many of the newest entries
abbrev pub newest_of : ℕ → List Entry → List Entry
newest_of count entries = drop (length entries - count) entries

-- what closing leaves of entries after others, which had an opener or not
abbrev pub left_of : Bool → List Entry → List Entry
left_of opened entries = if opened then strong_referents entries else closed entries
