-- The first of two causes.
use Rattle.std.proofs.Common.{◌≡◌, Option, None}
use Rattle.std.specs.Option.{option_or}
use Rattle.wiki_talk.specs.declared.refusals.Refusal.{Refusal}
use Rattle.wiki_parts.specs.declared.faults.Fault.{Fault}
use Rattle.wiki_parts.specs.declared.faults.Fault.TheVariants.{Refused, Memory}
use Rattle.wiki_parts.specs.Faults.{IsCause}

pub IsCause-first : (first next : Option Refusal) (fault : Fault) → IsCause first fault → IsCause (option_or first next) fault
IsCause-first first next (Refused refusal) is = rw is
IsCause-first first next Memory is = tt

pub IsCause-next : (first next : Option Refusal) (fault : Fault) → first ≡ None → IsCause next fault → IsCause (option_or first next) fault
IsCause-next first next fault none is = rw none is
