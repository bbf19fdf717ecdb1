use Rattle.std.proofs.Common.{refl, sym}
use Rattle.sessions.specs.Sessions.{all_plain}
use Rattle.wiki_talk.specs.declared.requests.Request.TheVariants as requests
use Rattle.wiki_talk.specs.declared.requests.WikiRequest.TheVariants as of_wiki
use Rattle.wiki_parts.specs.Spending.{IsCutOff}
use Rattle.wiki_parts.proofs.FirstLemmas.{nothing_stands}
use Rattle.plain_wiki.specs.Doing.{TellsWords, TellsCode}
use Rattle.wiki_core.proofs.StepLemmas.{does_step, step_of}
use Rattle.wiki_core.proofs.SessionLemmas.{state_of}
use Rattle.wiki_core.proofs.AskedLemmas.{tells_all, same_keeps, spends_none, ok_unit}
use Rattle.wiki_core.proofs.wiki.Wiki.on_wiki.Goals as goal

pub returns-in-Word-clause-step : goal.returns-in-Word-clause-step
returns-in-Word-clause-step c = rw (c.in-Word.is, ← c.as_slice.ensures) c.add_word.ensures.step

pub returns-in-Word-clause-refused : goal.returns-in-Word-clause-refused
returns-in-Word-clause-refused c = rw (c.in-Word.is, ← c.as_slice.ensures) c.add_word.ensures.refused

pub returns-in_ok-words-in-Words-clause-step : goal.returns-in_ok-words-in-Words-clause-step
returns-in_ok-words-in-Words-clause-step c =
    let state = c.args.self.now.state in
    rw c.in-Words.is (does_step (IsCutOff c.args.self.now.budget) state (requests.OnWiki of_wiki.Words) c.in_ok-words-in-Words.field-0 state nothing_stands
    (rw (sym c.self.view_is) c.in_ok-words-in-Words.ensures, refl))

pub returns-in-Parse-clause-step : goal.returns-in-Parse-clause-step
returns-in-Parse-clause-step c =
    let old = state_of c.self-in-Parse.inside.store.state (all_plain c.self-in-Parse.inside.sessions) c.self-in-Parse.inside.last in
    rw (sym c.self-in-Parse.view_is, c.in-Parse.is) (step_of (IsCutOff c.self-in-Parse.inside.store.budget) old
    (requests.OnWiki (of_wiki.Parse c.in-Parse.text)) c.parse.result old c.parse.ensures.free
    (tells_all (TellsCode c.in-Parse.text old.stored) old old c.parse.result c.parse.ensures.tells refl))

pub returns-in-Grammar-clause-step : goal.returns-in-Grammar-clause-step
returns-in-Grammar-clause-step c = rw c.in-Grammar.is c.reground.ensures.step

pub returns-in-Word-clause-spent : goal.returns-in-Word-clause-spent
returns-in-Word-clause-spent c = spends_none c.args.self.now (requests.OnWiki c.args.asked.now) refl c.add_word.result

pub returns-in_ok-words-in-Words-clause-spent : goal.returns-in_ok-words-in-Words-clause-spent
returns-in_ok-words-in-Words-clause-spent c = λ told. tt

pub returns-in-Parse-clause-spent : goal.returns-in-Parse-clause-spent
returns-in-Parse-clause-spent c = spends_none c.args.self.now (requests.OnWiki c.args.asked.now) refl c.parse.result

pub returns-in-Grammar-clause-spent : goal.returns-in-Grammar-clause-spent
returns-in-Grammar-clause-spent c = spends_none c.args.self.now (requests.OnWiki c.args.asked.now) refl c.reground.result
