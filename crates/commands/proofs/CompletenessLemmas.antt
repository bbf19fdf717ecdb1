-- What is free is done.
use Rattle.wiki_talk.specs.declared.replies.Reply.TheVariants as replies
use Rattle.commands.specs.Completeness.{DoesWhatIsFree}

-- a refusal has a cause that stands
pub does_what_is_free : DoesWhatIsFree
does_what_is_free old request (replies.Refused refusal) new step free = free refusal step.step.0
does_what_is_free old request reply new step free = tt
