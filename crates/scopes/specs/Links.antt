-- An access list as it is stored: the newest entry over the older ones, or a newer list after an older one.
use Rattle.std.specs.Prelude.{◌≡◌, List, [], ◌∷◌, ◌++◌, length, not}
use Rattle.scopes.specs.declared.entries.Entry.{Entry}
use Rattle.scopes.specs.declared.access.Link.{Link, Nil, Cons', Join'}
use Rattle.scopes.specs.AccessList.{any_opener}

-- the entries of the links, oldest first
abbrev pub entries : Link → List Entry
entries Nil = []
entries (Cons' p older entry plain) = entries older ++ entry ∷ []
entries (Join' p older newer count plain) = entries older ++ entries newer

-- each count in the links is that of the newer entries, and each flag tells whether there is no opener
abbrev pub Counted : Link → Type 0
Counted Nil = Unit {0}
Counted (Cons' p older entry plain) = (plain ≡ not (any_opener (entries older ++ entry ∷ []))) × Counted older
Counted (Join' p older newer count plain) =
    (count ≡ length (entries newer)) × (plain ≡ not (any_opener (entries older ++ entries newer))) × Counted older × Counted newer
