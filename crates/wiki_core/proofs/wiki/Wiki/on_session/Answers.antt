use Rattle.std.proofs.Common.{refl}
use Rattle.wiki_talk.specs.declared.requests.Request.TheVariants as requests
use Rattle.wiki_talk.specs.declared.requests.SessionRequest.TheVariants as of_session
use Rattle.wiki_core.proofs.AskedLemmas.{spends_none}
use Rattle.wiki_core.proofs.wiki.Wiki.on_session.Goals as goal

pub returns-in-Type-clause-step : goal.returns-in-Type-clause-step
returns-in-Type-clause-step c = rw c.in-Type.is c.type_token.ensures.step

pub returns-in-Type-clause-refused : goal.returns-in-Type-clause-refused
returns-in-Type-clause-refused c = rw c.in-Type.is c.type_token.ensures.refused

pub returns-in-Type-clause-spent : goal.returns-in-Type-clause-spent
returns-in-Type-clause-spent c = rw c.in-Type.is
    (spends_none c.args.self.now (requests.OnSession c.args.session (of_session.Type c.in-Type.text)) refl c.type_token.result)

pub returns-in-Back-clause-step : goal.returns-in-Back-clause-step
returns-in-Back-clause-step c = rw c.in-Back.is c.back.ensures.step

pub returns-in-Back-clause-refused : goal.returns-in-Back-clause-refused
returns-in-Back-clause-refused c = rw c.in-Back.is c.back.ensures.refused

pub returns-in-Back-clause-spent : goal.returns-in-Back-clause-spent
returns-in-Back-clause-spent c = rw c.in-Back.is (spends_none c.args.self.now (requests.OnSession c.args.session of_session.Back) refl c.back.result)

pub returns-in-Menu-clause-step : goal.returns-in-Menu-clause-step
returns-in-Menu-clause-step c = rw c.in-Menu.is c.menu.ensures.step

pub returns-in-Menu-clause-refused : goal.returns-in-Menu-clause-refused
returns-in-Menu-clause-refused c = rw c.in-Menu.is c.menu.ensures.refused

pub returns-in-Menu-clause-spent : goal.returns-in-Menu-clause-spent
returns-in-Menu-clause-spent c = rw c.in-Menu.is (spends_none c.args.self.now (requests.OnSession c.args.session of_session.Menu) refl c.menu.result)

pub returns-in-Commit-clause-step : goal.returns-in-Commit-clause-step
returns-in-Commit-clause-step c = rw c.in-Commit.is c.commit.ensures.step

pub returns-in-Commit-clause-refused : goal.returns-in-Commit-clause-refused
returns-in-Commit-clause-refused c = rw c.in-Commit.is c.commit.ensures.refused

pub returns-in-Commit-clause-spent : goal.returns-in-Commit-clause-spent
returns-in-Commit-clause-spent c = rw c.in-Commit.is c.commit.ensures.spent

pub returns-in-Refresh-clause-step : goal.returns-in-Refresh-clause-step
returns-in-Refresh-clause-step c = rw c.in-Refresh.is c.refresh.ensures.step

pub returns-in-Refresh-clause-refused : goal.returns-in-Refresh-clause-refused
returns-in-Refresh-clause-refused c = rw c.in-Refresh.is c.refresh.ensures.refused

pub returns-in-Refresh-clause-spent : goal.returns-in-Refresh-clause-spent
returns-in-Refresh-clause-spent c = rw c.in-Refresh.is
    (spends_none c.args.self.now (requests.OnSession c.args.session of_session.Refresh) refl c.refresh.result)

pub returns-in-Drop-clause-step : goal.returns-in-Drop-clause-step
returns-in-Drop-clause-step c = rw c.in-Drop.is c.drop_session.ensures.step

pub returns-in-Drop-clause-refused : goal.returns-in-Drop-clause-refused
returns-in-Drop-clause-refused c = rw c.in-Drop.is c.drop_session.ensures.refused

pub returns-in-Drop-clause-spent : goal.returns-in-Drop-clause-spent
returns-in-Drop-clause-spent c = rw c.in-Drop.is (spends_none c.args.self.now (requests.OnSession c.args.session of_session.Drop) refl c.drop_session.result)
