-- A run over generated requests, and what it adds up to, whatever the machine is that answers them.
use Rattle.std.specs.Prelude.{◌≡◌, ℕ, ◌≤◌, List, [], ◌∷◌, length, take, Option}
use Rattle.std.specs.Io.KnownBytes.{Appends}
use Rattle.wiki_talk.specs.declared.requests.Request.{Request}
use Rattle.wiki_talk.specs.declared.replies.Reply.{Reply}
use Rattle.generator.specs.declared.summary.Summary.{Summary}
use Rattle.generator.specs.Requests.{made_requests}
use Rattle.generator.specs.Summary.{nothing, summed, summary_text}
use Rattle.making.specs.declared.making.Made.{Made}
use Rattle.making.specs.declared.making.Made.TheVariants as made

-- requests were stepped one after another, with these replies
abbrev pub StepsAll : {S : Type 0} → (S → Request → Reply → S → Type 0) → S → List Request → List Reply → S → Type 0
StepsAll step first [] [] last = last ≡ first
StepsAll step first [] (reply ∷ replies) last = ⊥
StepsAll step first (request ∷ requests) [] last = ⊥
StepsAll {S} step first (request ∷ requests) (reply ∷ replies) last = (next : S) × step first request reply next × StepsAll step next requests replies last

-- requests were stepped, and their replies were added to a summary
pub record AddsUp {S : Type 0} (step : S → Request → Reply → S → Type 0) (first : S) (requests : List Request) (before : Summary) (last : S)
    (after : Summary) : Type 0 where
  pub replies : List Reply
  pub steps : StepsAll step first requests replies last
  pub sum : after ≡ summed before replies

-- The text is the summary of a run over the generated requests, the last of which read each article.
pub record IsSummaryOf {S : Type 0} (step : S → Request → Reply → S → Type 0) (first : S) (count seed : ℕ) (text : List ℕ) : Type 0 where
  pub last : S
  pub summary : Summary
  pub adds_up : AddsUp step first (made_requests count seed) nothing last summary
  pub told : text ≡ summary_text summary

-- What was written when making ends so: the summary; where a write failed, a front part of it; and nothing where there was no
-- memory.
abbrev pub Makes : {S : Type 0} → (S → Request → Reply → S → Type 0) → S → ℕ → ℕ → Option (List ℕ) → Made → Option (List ℕ) → Type 0
Makes step first count seed taken made.Done taken_after = (text : List ℕ) × IsSummaryOf step first count seed text × Appends taken taken_after text
Makes step first count seed taken made.WriteFault taken_after =
    (text : List ℕ) × IsSummaryOf step first count seed text × ((n : ℕ) × (n ≤ length text) × Appends taken taken_after (take n text))
Makes step first count seed taken made.Memory taken_after = Appends taken taken_after []
