-- The first of causes in a row, and that none of them stands.
use Rattle.std.proofs.Common.{◌≡◌, List, [], ◌∷◌, ◌++◌, ◌⊎◌, inl, inr}
use Rattle.wiki_talk.specs.declared.refusals.Refusal.{Refusal}
use Rattle.wiki_parts.specs.declared.faults.Fault.{Fault}
use Rattle.wiki_parts.specs.declared.faults.Fault.TheVariants.{Refused, Memory}
use Rattle.wiki_parts.specs.Faults.{IsFault, IsAbsent}
use Rattle.plain_wiki.specs.Causes.{FirstOf}

-- the second of two causes stands alone
pub first_of_two : (a b : Refusal → Type 0) (others : List (Refusal → Type 0)) (refusal : Refusal) → IsAbsent a → b refusal → FirstOf (a ∷ b ∷ others) refusal
first_of_two a b others refusal no_a here = inr (no_a, inl here)

-- behind a cause that doesn't stand, the first of the others is the first of all
pub first_behind : (a : Refusal → Type 0) (others : List (Refusal → Type 0)) (refusal : Refusal) → IsAbsent a → FirstOf others refusal
    → FirstOf (a ∷ others) refusal
first_behind a others refusal no_a first = inr (no_a, first)

-- where neither the one nor any of the others stands, none of all does
pub none_stands : (a : Refusal → Type 0) (others : List (Refusal → Type 0)) → IsAbsent a → IsAbsent (FirstOf others) → IsAbsent (FirstOf (a ∷ others))
none_stands a others no_a none refusal (inl here) = no_a refusal here
none_stands a others no_a none refusal (inr later) = none refusal later.1

-- no causes at all
pub nothing_stands : IsAbsent (FirstOf [])
nothing_stands refusal h = h

-- a fault of the first cause is one of all, and so is a fault of the others behind a cause that doesn't stand
pub fault_first : (a : Refusal → Type 0) (others : List (Refusal → Type 0)) (fault : Fault) → IsFault a fault → IsFault (FirstOf (a ∷ others)) fault
fault_first a others (Refused refusal) is = inl is
fault_first a others Memory is = tt

pub fault_behind : (a : Refusal → Type 0) (others : List (Refusal → Type 0)) (fault : Fault) → IsAbsent a → IsFault (FirstOf others) fault
    → IsFault (FirstOf (a ∷ others)) fault
fault_behind a others (Refused refusal) no_a first = inr (no_a, first)
fault_behind a others Memory no_a first = tt
