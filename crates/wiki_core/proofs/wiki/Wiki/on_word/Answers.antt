use Rattle.std.proofs.Common.{refl, sym}
use Rattle.sessions.specs.Sessions.{all_plain}
use Rattle.wiki_talk.specs.declared.requests.Request.TheVariants as requests
use Rattle.wiki_talk.specs.declared.requests.WordRequest.TheVariants as of_word
use Rattle.wiki_parts.specs.Spending.{IsCutOff}
use Rattle.plain_wiki.specs.Places.{word_with}
use Rattle.plain_wiki.specs.Doing.{TellsWord}
use Rattle.wiki_core.proofs.StepLemmas.{step_of}
use Rattle.wiki_core.proofs.SessionLemmas.{state_of}
use Rattle.wiki_core.proofs.AskedLemmas.{found_free, tells_named, spends_none}
use Rattle.wiki_core.proofs.wiki.Wiki.on_word.Goals as goal

pub returns-in-Find-clause-step : goal.returns-in-Find-clause-step
returns-in-Find-clause-step c =
    let old = state_of c.self.inside.store.state (all_plain c.self.inside.sessions) c.self.inside.last in
    rw (sym c.self.view_is, c.in-Find.is) (step_of (IsCutOff c.self.inside.store.budget) old (requests.OnWord c.args.form.now of_word.Find) c.find.result old
    (found_free old.stored c.args.form.now c.find.result c.find.ensures.tells)
    (tells_named (word_with old.stored c.args.form.now) TellsWord old old c.find.result c.find.ensures.tells refl))

pub returns-in-Reword-clause-step : goal.returns-in-Reword-clause-step
returns-in-Reword-clause-step c = rw (c.in-Reword.is, ← c.as_slice.ensures) c.reword.ensures.step

pub returns-in-Reword-clause-refused : goal.returns-in-Reword-clause-refused
returns-in-Reword-clause-refused c = rw (c.in-Reword.is, ← c.as_slice.ensures) c.reword.ensures.refused

pub returns-in-Unword-clause-step : goal.returns-in-Unword-clause-step
returns-in-Unword-clause-step c = rw c.in-Unword.is c.unword.ensures.step
