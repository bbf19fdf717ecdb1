-- The kinds that a category may still have, by what is known of it. Only private calls speak of it.
use Rattle.std.specs.Prelude.{if◌then◌else◌, Bool, true, false, not}
use Rattle.codeco_checked.specs.declared.labels.Kind.{Kind}
use Rattle.codeco_checked.specs.declared.labels.Kind.TheVariants.{Sentence, Mark}
use Rattle.codeco_checked.specs.declared.labels.Heads.{Heads}
use Rattle.codeco_checked.specs.declared.labels.Heads.TheVariants as heads
use Rattle.codeco_checked.specs.Labels.{same_kind, is_mark, head_fits}
use Rattle.codeco_labels.specs.declared.allowed.Allowed.{Allowed}
use Rattle.codeco_labels.specs.declared.allowed.Allowed.TheVariants.{NoMark, Meanings, Clauses, Only, Nothing}

-- the kind is among them
abbrev pub allows : Allowed → Kind → Bool
allows NoMark k = not (is_mark k)
allows Meanings k = head_fits heads.Meanings k
allows Clauses k = head_fits heads.Clauses k
allows (Only l) k = same_kind k l
allows Nothing k = false

abbrev pub of_heads : Heads → Allowed
of_heads (heads.Only k) = Only k
of_heads heads.Clauses = Clauses
of_heads heads.Meanings = Meanings

abbrev pub of_mark : Bool → Allowed
of_mark mark = if mark then Only Mark else NoMark

abbrev pub is_nothing : Allowed → Bool
is_nothing Nothing = true
is_nothing _ = false

-- the one kind, where it is among them
abbrev pub keep : Allowed → Kind → Allowed
keep a k = if allows a k then Only k else Nothing

-- what both allow
abbrev pub meet : Allowed → Allowed → Allowed
meet NoMark NoMark = NoMark
meet NoMark Meanings = Meanings
meet NoMark Clauses = Clauses
meet NoMark (Only k) = keep NoMark k
meet NoMark Nothing = Nothing
meet Meanings NoMark = Meanings
meet Meanings Meanings = Meanings
meet Meanings Clauses = Clauses
meet Meanings (Only k) = keep Meanings k
meet Meanings Nothing = Nothing
meet Clauses NoMark = Clauses
meet Clauses Meanings = Clauses
meet Clauses Clauses = Clauses
meet Clauses (Only k) = keep Clauses k
meet Clauses Nothing = Nothing
meet (Only k) b = keep b k
meet Nothing b = Nothing

-- one kind that is among them, if there is any
abbrev pub pick : Allowed → Kind
pick NoMark = Sentence
pick Meanings = Sentence
pick Clauses = Sentence
pick (Only k) = k
pick Nothing = Sentence
