-- Runs of a machine that answers requests, whatever its states, requests and replies are.
use Rattle.std.specs.Prelude.{◌≡◌, List, [], ◌∷◌, Option, Some, None}

-- What was asked and what was answered: a request and the reply to it, or what is no request.
pub data Exchange (Q R : Type 0) : Type 0 where
  answered : Q → R → Exchange Q R
  no_request : Exchange Q R

-- the request, if there was one
abbrev pub request_in : {Q R : Type 0} → Exchange Q R → Option Q
request_in (answered request reply) = Some request
request_in no_request = None

-- One turn by a machine's step: a request takes the one state to the other with that reply, and what is no request
-- changes nothing.
abbrev pub Turn : {S Q R : Type 0} → (S → Q → R → S → Type 0) → S → Exchange Q R → S → Type 0
Turn step old (answered request reply) new = step old request reply new
Turn step old no_request new = new ≡ old

-- turns one after another
abbrev pub Turns : {S Q R : Type 0} → (S → Q → R → S → Type 0) → S → List (Exchange Q R) → S → Type 0
Turns step first [] last = last ≡ first
Turns {S} step first (exchange ∷ exchanges) last = (next : S) × Turn step first exchange next × Turns step next exchanges last
