-- What is handed in, and which connections are open then. Only private calls speak of it.
use Rattle.std.specs.Prelude.{◌≡◌, ℕ, List, length, IsTrue}
use Rattle.wiki_io.specs.declared.links.Next.{Next}
use Rattle.wiki_io.specs.Link.{can_all_come, connections_after_all, event_in, NextFits}

-- this was handed in where those connections were open, and these are open after it
pub record HandsIn (open_before : List ℕ) (next : Next) (buffer : List ℕ) (open_after : List ℕ) : Type 0 where
  pub fits : NextFits next (length buffer)
  pub comes : IsTrue (can_all_come open_before (event_in next buffer))
  pub after : open_after ≡ connections_after_all open_before (event_in next buffer)
