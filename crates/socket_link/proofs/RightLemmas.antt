-- The deeds are right wherever the places keep what is still to be written.
use Rattle.std.proofs.Common.{List, Option, None, Some, ℕ}
use Rattle.std.specs.Prelude.{IfSome}
use Rattle.std.proofs.Math.Logic.{∥∥₁_map}
use Rattle.socket_link.specs.declared.place.Place.{Place}
use Rattle.socket_link.specs.Deeds.{Deed, AreRight, AreToldRight}
use Rattle.socket_link.specs.Kept.{IsSound}

pub right_told : (places : List (Option Place)) (now : ℕ) (told : Option (List Deed)) → ∥ IfSome told (IsSound places now) ∥₁ → ∥ AreToldRight told ∥₁
right_told places now told sound = ∥∥₁_map sound (rights told)
  where
    rights : (t : Option (List Deed)) → IfSome t (IsSound places now) → AreToldRight t
    rights None s = tt
    rights (Some deeds) s = s.right
