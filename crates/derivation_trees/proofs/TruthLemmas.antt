-- What is true isn't false.
use Rattle.std.proofs.Common.{◌≡◌, true, false}

pub true_is_false : {X : Type 0} → true ≡ false → X
true_is_false w = cc
