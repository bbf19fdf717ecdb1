-- What is told where nothing more is, and where one listens.
use Rattle.std.proofs.Common.{◌≡◌, refl, ap, ℕ, Bool, IsTrue, List, [], Option, None, Some, append-nil}
use Rattle.wiki_io.specs.Link.{with_more, listens_anywhere}

pub with_nothing : {X : Type 0} (told : Option (List X)) → with_more told [] ≡ told
with_nothing None = refl
with_nothing (Some xs) = ap Some (append-nil xs)

-- one that listens anywhere listens at each address
pub listens_once : (is_listening : Bool) (address : List ℕ) → IsTrue is_listening → IsTrue (listens_anywhere is_listening address)
unfolding listens_anywhere
listens_once is_listening address is = is
