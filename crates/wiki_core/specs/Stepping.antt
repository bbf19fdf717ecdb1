-- One step of a wiki with the model that it keeps.
use Rattle.std.specs.Prelude.{◌≡◌}
use Rattle.wiki_talk.specs.declared.replies.Reply.{Reply}
use Rattle.wiki_talk.specs.declared.requests.Request.{Request}
use Rattle.plain_wiki.specs.Step.{Step}
use Rattle.wiki_parts.specs.Spending.{IsCutOff}
use Rattle.wiki_core.specs.Holding.{Holding, IsKept}
use Rattle.wiki_core.specs.Spending.{SpendsBeyondKept, KeptHasEachUnknown}
use Rattle.wiki_core.specs.Unchanged.{KeepsInterpretation}
use Rattle.wiki_core.specs.Apart.{MenuIsOwn}
use Rattle.wiki_core.specs.Journaled.{IsHeld}

-- The plain wiki takes its step, where a budget counts as spent by the tableau's count. A budget is told as spent, and a name as unknown,
-- only where the kept interpretation doesn't decide. It stays, unless a sentence was added, edited, taken up again or committed. A session's
-- menu is told by its tokens alone. What is kept then fits the state. What was asked is a request that a program can hold.
pub record KeptStep (old : Holding) (request : Request) (reply : Reply) (new : Holding) : Type 0 where
  pub step : Step (IsCutOff old.budget) old.state request reply new.state
  pub budget : new.budget ≡ old.budget
  pub spent : SpendsBeyondKept old request reply
  pub unknown : KeptHasEachUnknown old request reply
  pub interpretation : KeepsInterpretation old reply new
  pub menu : MenuIsOwn old.state request reply
  pub kept : IsKept new
  pub held : IsHeld request
