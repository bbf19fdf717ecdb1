use Rattle.std.proofs.Common.{sym}
use Rattle.sessions.specs.Sessions.{all_plain}
use Rattle.wiki_talk.specs.declared.requests.Request.TheVariants as requests
use Rattle.wiki_talk.specs.declared.requests.WikiRequest.TheVariants as of_wiki
use Rattle.wiki_parts.specs.Spending.{IsCutOff}
use Rattle.wiki_core.proofs.StepLemmas.{step_of}
use Rattle.wiki_core.proofs.WordLemmas.{held_after_word, does_after_word}
use Rattle.plain_wiki.specs.State.{State}
use Rattle.wiki_core.proofs.wiki.Wiki.add_word.Goals as goal

pub invariant_of-self : goal.invariant_of-self
invariant_of-self c =
    held_after_word c.self.inside.store c.add_word.new.self c.self.inside.sessions c.self.inside.last c.self.invariant c.len.ensures.sessions
    c.is_kept.ensures.sound.terminals c.args.kind c.args.forms.now c.add_word.result c.add_word.ensures.free c.add_word.ensures.adds c.add_word.ensures.kept

pub returns-clause-step : goal.returns-clause-step
returns-clause-step c =
    let store = c.self.inside.store in
    let old : State = record { stored = store.state; sessions = all_plain c.self.inside.sessions; last = c.self.inside.last } in
    let new : State = record { stored = c.add_word.new.self.state; sessions = all_plain c.self.inside.sessions; last = c.self.inside.last } in
    rw (sym c.self.view_is) (step_of (IsCutOff store.budget) old (requests.OnWiki (of_wiki.Word c.args.kind c.args.forms.now)) c.add_word.result new
    c.add_word.ensures.free
    (does_after_word store c.add_word.new.self c.self.inside.sessions c.self.inside.last c.self.invariant c.len.ensures.sessions
    c.is_kept.ensures.sound.terminals c.args.kind c.args.forms.now c.add_word.result c.add_word.ensures.free c.add_word.ensures.adds))
