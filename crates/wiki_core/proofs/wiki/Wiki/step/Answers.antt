use Rattle.std.proofs.Common.{◌≡◌, ℕ, Result, Ok, Err, IfOk}
use Rattle.lists.specs.declared.memory.Memory.{Memory}
use Rattle.wiki_talk.specs.declared.requests.Request.{Request}
use Rattle.wiki_talk.specs.declared.replies.Reply.{Reply}
use Rattle.plain_wiki.specs.State.{State}
use Rattle.plain_wiki.specs.Step.{Step}
use Rattle.wiki_parts.specs.Spending.{IsCutOff}
use Rattle.wiki_core.specs.Apart.{MenuIsOwn}
use Rattle.wiki_core.specs.Spending.{SpendsBeyondKept, KeptHasEachUnknown}
use Rattle.wiki_core.proofs.MenuLemmas.{menu_own}
use Rattle.wiki_core.proofs.ToldLemmas.{told-step, told-keeps, told-so, told-interpretation, refused-spends, refused-unknown}
use Rattle.wiki_core.proofs.wiki.Wiki.step.Goals as goal

own : (budget : ℕ) (old new : State) (request : Request) (result : Result Reply Memory) → IfOk result (λ reply. Step (IsCutOff budget) old request reply new)
    → IfOk result (MenuIsOwn old request)
own budget old new request (Ok reply) step = menu_own budget old new request reply step
own budget old new request (Err memory) step = step

pub returns-clause-step : goal.returns-clause-step
returns-clause-step c =
    told-step c.args.self.now c.carry_out.new.self c.args.request.now c.carry_out.result c.told-reply.result c.told-reply.ensures.told c.carry_out.ensures.step
    c.carry_out.ensures.refused c.carry_out.ensures.kept

pub returns-clause-spent : goal.returns-clause-spent
returns-clause-spent c =
    told-so (SpendsBeyondKept c.args.self.now c.args.request.now) c.carry_out.result c.told-reply.result c.told-reply.ensures.told c.carry_out.ensures.spent
    (refused-spends c.args.self.now c.args.request.now)

pub returns-clause-unknown : goal.returns-clause-unknown
returns-clause-unknown c =
    told-so (KeptHasEachUnknown c.args.self.now c.args.request.now) c.carry_out.result c.told-reply.result c.told-reply.ensures.told
    c.carry_out.ensures.unknown (refused-unknown c.args.self.now c.args.request.now)

pub returns-clause-memory : goal.returns-clause-memory
returns-clause-memory c =
    told-keeps (c.carry_out.new.self ≡ c.args.self.now) c.carry_out.result c.told-reply.result c.told-reply.ensures.memory c.carry_out.ensures.kept

pub returns-clause-interpretation : goal.returns-clause-interpretation
returns-clause-interpretation c =
    told-interpretation c.args.self.now c.carry_out.new.self c.carry_out.result c.told-reply.result c.told-reply.ensures.told
    c.carry_out.ensures.interpretation c.carry_out.ensures.kept

pub returns-clause-menu : goal.returns-clause-menu
returns-clause-menu c =
    own c.args.self.now.budget c.args.self.now.state c.carry_out.new.self.state c.args.request.now c.told-reply.result
    (told-step c.args.self.now c.carry_out.new.self c.args.request.now c.carry_out.result c.told-reply.result c.told-reply.ensures.told
    c.carry_out.ensures.step c.carry_out.ensures.refused c.carry_out.ensures.kept)
