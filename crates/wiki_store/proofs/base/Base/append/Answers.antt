use Rattle.std.proofs.Common.{◌≡◌, refl, ◌∙◌}
use Rattle.wiki_talk.specs.declared.statuses.Status.TheVariants.{Asserted}
use Rattle.wiki_parts.specs.Spending.{IsCutOff}
use Rattle.plain_wiki.specs.Knowledge.{GetStatus}
use Rattle.plain_wiki.specs.Doing.{with_appended}
use Rattle.wiki_store.specs.declared.putting.Change.{Change}
use Rattle.wiki_store.specs.Spending.{SpendsAtEnd}
use Rattle.wiki_store.specs.Putting.{IsMade}
use Rattle.wiki_store.proofs.InsideLemmas.{each-ok}
use Rattle.wiki_store.proofs.StepLemmas.{appends-status, appends-after, appends-spent}
use Rattle.wiki_store.proofs.base.Base.append.Goals as goal

pub returns-clause-status : goal.returns-clause-status
returns-clause-status c =
    let change : Change = record {
      word = c.args.word;
      from = c.end-end.result;
      to = c.end-end.result;
      tokens = c.in_ok-new.field-0;
      sense = c.in_ok-new-2.field-0;
    } in
    each-ok c.put.result (λ status. IsMade c.args.self.now change status c.put.new.self)
    (GetStatus (IsCutOff c.args.self.now.budget) (with_appended c.args.self.now.state c.args.word c.args.tokens.now Asserted) c.args.tokens.now)
    (appends-status c.args.self.now c.put.new.self change c.args.tokens.now c.end-end.ensures.end refl
    (c.in_ok-new.ensures ∙ c.in_ok-copy.ensures)) c.put.ensures.made

pub returns-clause-after : goal.returns-clause-after
returns-clause-after c =
    let change : Change = record {
      word = c.args.word;
      from = c.end-end.result;
      to = c.end-end.result;
      tokens = c.in_ok-new.field-0;
      sense = c.in_ok-new-2.field-0;
    } in
    each-ok c.put.result (λ status. IsMade c.args.self.now change status c.put.new.self)
    (λ status. c.put.new.self.state ≡ with_appended c.args.self.now.state c.args.word c.args.tokens.now status)
    (appends-after c.args.self.now c.put.new.self change c.args.tokens.now c.end-end.ensures.end refl
    (c.in_ok-new.ensures ∙ c.in_ok-copy.ensures)) c.put.ensures.made

pub returns-clause-spent : goal.returns-clause-spent
returns-clause-spent c =
    let change : Change = record {
      word = c.args.word;
      from = c.end-end.result;
      to = c.end-end.result;
      tokens = c.in_ok-new.field-0;
      sense = c.in_ok-new-2.field-0;
    } in
    each-ok c.put.result (λ status. IsMade c.args.self.now change status c.put.new.self)
    (SpendsAtEnd c.args.self.now c.args.word c.args.tokens.now)
    (appends-spent c.args.self.now c.put.new.self change c.args.tokens.now c.end-end.ensures.end refl
    (c.in_ok-new.ensures ∙ c.in_ok-copy.ensures)) c.put.ensures.made

pub returns-clause-budget : goal.returns-clause-budget
returns-clause-budget c =
    let change : Change = record {
      word = c.args.word;
      from = c.end-end.result;
      to = c.end-end.result;
      tokens = c.in_ok-new.field-0;
      sense = c.in_ok-new-2.field-0;
    } in
    each-ok c.put.result (λ status. IsMade c.args.self.now change status c.put.new.self) (λ status. c.put.new.self.budget ≡ c.args.self.now.budget)
    (λ status made. made.budget) c.put.ensures.made
