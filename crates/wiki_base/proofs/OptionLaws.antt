-- Laws on options and results, which std has not.
use Rattle.std.proofs.Common.{◌≡◌, Option, None, Some, option_map, Result, Ok, Err, refl}
use Rattle.std.specs.Option.{option_or}
use Rattle.std.specs.Result.{OnErr}

-- what is mapped to none is none
pub option_map-none : {X Y : Type 0} (f : X → Y) (o : Option X) → option_map f o ≡ None → o ≡ None
option_map-none f None none = refl
option_map-none f (Some x) none = cc

-- where neither of two is there, the first isn't, and the second isn't
pub option_or-first_none : {X : Type 0} (a b : Option X) → option_or a b ≡ None → a ≡ None
option_or-first_none None b h = refl
option_or-first_none (Some x) b h = h

pub option_or-second_none : {X : Type 0} (a b : Option X) → option_or a b ≡ None → b ≡ None
option_or-second_none None b h = h
option_or-second_none (Some x) b h = cc

pub option_or-none : {X : Type 0} (a b : Option X) → option_or a b ≡ None → (a ≡ None) × (b ≡ None)
option_or-none a b h = (option_or-first_none a b h, option_or-second_none a b h)

-- what holds anyhow holds where there is an error
pub OnErr_any : {A E P : Type 0} (r : Result A E) → P → OnErr r P
OnErr_any (Ok value) holds = tt
OnErr_any (Err fault) holds = holds
