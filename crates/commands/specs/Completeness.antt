-- What is done where nothing stands against it.
use Rattle.std.specs.Prelude.{⊤}
use Rattle.wiki_talk.specs.declared.requests.Request.{Request}
use Rattle.wiki_talk.specs.declared.replies.Reply.{Reply}
use Rattle.wiki_talk.specs.declared.replies.Reply.TheVariants as replies
use Rattle.plain_wiki.specs.Against.{IsFree}
use Rattle.commands.specs.Wiki.{Holding, KeptStep}

-- the reply tells that what was asked was done
abbrev pub IsDone : Reply → Type 0
IsDone (replies.Refused refusal) = ⊥
IsDone reply = ⊤

-- in each step of the wiki a request is done where no refusal's cause stands against it
abbrev pub DoesWhatIsFree : Type 0
DoesWhatIsFree =
    (old : Holding) (request : Request) (reply : Reply) (new : Holding) → KeptStep old request reply new → IsFree old.state request → IsDone reply
