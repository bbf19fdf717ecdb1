-- What one `read` of a source gives.
use Rattle.std.specs.Prelude.{ℕ, ◌<◌, ◌≤◌, List, [], take, ⊤}
use Rattle.wiki_io.specs.declared.sources.Got.{Got}
use Rattle.wiki_io.specs.declared.sources.Got.TheVariants.{Bytes, End, Failed}

-- of a buffer as it is after the call, the bytes that were read into it
abbrev pub bytes_got : Got → List ℕ → List ℕ
bytes_got (Bytes n) buffer = take n buffer
bytes_got End buffer = []
bytes_got Failed buffer = []

-- where bytes were read, there is one at least, and no more than a buffer of this length holds
abbrev pub GotFits : Got → ℕ → Type 0
GotFits (Bytes n) len = (0 < n) × (n ≤ len)
GotFits End len = ⊤
GotFits Failed len = ⊤
