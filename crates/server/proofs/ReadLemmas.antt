-- Heads that were read of a connection's bytes.
use Rattle.std.proofs.Common.{◌≡◌, ℕ, false, List, ◌++◌, Option, Some, None, IfSome, refl, ap, subst, ◌∙◌}
use Rattle.http_front.specs.declared.goals.Verb.{Verb}
use Rattle.http_front.specs.declared.seen.Head.{Head}
use Rattle.http_front.specs.declared.seen.Begun.{Begun}
use Rattle.http_front.specs.declared.seen.Begun.TheVariants as begun
use Rattle.http_front.specs.declared.seen.Seen.{Seen}
use Rattle.http_front.specs.declared.seen.Seen.TheVariants as seen
use Rattle.http_front.specs.Front.{Begins, seen_after}
use Rattle.http_front.proofs.HeadLemmas.{begins_on, sees_wait, sees_refusal, sees_head}
use Rattle.server.specs.declared.turns.Turn.{Turn}
use Rattle.server.specs.declared.turns.Turn.TheVariants as turns
use Rattle.server.specs.Responses.{status_response}
use Rattle.server.specs.Taking.{turn_of}
use Rattle.server.specs.Reading.{IsSeen}

-- a head stays when more bytes come
pub begins_more : (head : Option Head) (bytes piece : List ℕ) → IfSome head (λ h. Begins bytes (begun.Head h))
    → IfSome head (λ h. Begins (bytes ++ piece) (begun.Head h))
begins_more None bytes piece begins = tt
begins_more (Some h) bytes piece begins = begins_on bytes piece h begins

-- ---- what the bytes of a connection are, of what they are as a head

pub seen_wait : (n : ℕ) (bytes part : List ℕ) (b : Begun) → part ≡ bytes → Begins part b → b ≡ begun.Wait → IsSeen n bytes turns.Wait
seen_wait n bytes part b same begins is = record {
  seen = seen.Wait;
  sees = sees_wait bytes (subst (λ bs. Begins bs begun.Wait) same (subst (λ x. Begins part x) is begins));
  turn_is = refl;
}

pub seen_refusal : (n : ℕ) (bytes part : List ℕ) (b : Begun) (status : ℕ) (allow : Option Verb) (response : List ℕ) → part ≡ bytes → Begins part b
    → b ≡ begun.Refuse status allow
    → response ≡ status_response status allow false → IsSeen n bytes (turns.Own n response)
seen_refusal n bytes part b status allow response same begins is told = record {
  seen = seen.Refuse status allow false;
  sees = sees_refusal bytes status allow (subst (λ bs. Begins bs (begun.Refuse status allow)) same (subst (λ x. Begins part x) is begins));
  turn_is = ap (turns.Own n) told;
}

pub begins_head : (bytes part : List ℕ) (b : Begun) (head : Head) → part ≡ bytes → Begins part b → b ≡ begun.Head head → Begins bytes (begun.Head head)
begins_head bytes part b head same begins is = subst (λ bs. Begins bs (begun.Head head)) same (subst (λ x. Begins part x) is begins)

pub seen_head : (n : ℕ) (bytes part : List ℕ) (head : Head) (s : Seen) (turn : Turn) → part ≡ bytes → Begins bytes (begun.Head head) → s ≡ seen_after head part
    → turn ≡ turn_of n s → IsSeen n bytes turn
seen_head n bytes part head s turn same begins is told = record {
  seen = s;
  sees = sees_head bytes head s begins (is ∙ ap (seen_after head) same);
  turn_is = told;
}
