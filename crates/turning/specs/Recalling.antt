-- A wiki and its history, as the program holds them, and what holds of both together.
use Rattle.std.specs.Prelude.{List, [], ◌∷◌, map}
use Rattle.history.specs.declared.kept.Kept.{Kept}
use Rattle.history.specs.Entries.{Entries}
use Rattle.plain_wiki.specs.State.{Stored}
use Rattle.wiki_store.specs.PuttingBack.{CanBePut, with_sentences}
use Rattle.wiki_core.specs.Holding.{Holding}
use Rattle.turning.specs.Turning.{Former, Recalling}

-- an entry of the history as what stood
abbrev pub former : Kept → Former
former kept = record { article = kept.article; sentences = kept.sentences; interpretation = kept.interp }

-- a wiki and its history
abbrev pub recalling : Holding → Entries → Recalling
recalling wiki entries = record { wiki = wiki; past = map former entries.past; future = map former entries.future }

-- the newest entry can be put back, and after it the next one, to the oldest
abbrev pub CanAllBePut : Stored → List Kept → Type 0
CanAllBePut state [] = Unit {0}
CanAllBePut state (kept ∷ older) = CanBePut state kept × CanAllBePut (with_sentences state kept.article kept.sentences) older

-- What holds of a wiki and its history together: each of both lists can be put back, one entry after the other.
abbrev pub FitsHistory : Stored → Entries → Type 0
FitsHistory state entries = CanAllBePut state entries.past × CanAllBePut state entries.future
