use Rattle.std.proofs.Common.{◌≡◌, refl, sym, subst, ap}
use Rattle.std.specs.Option.{IsSomeAnd}
use Rattle.sessions.specs.Sessions.{all_plain}
use Rattle.wiki_talk.specs.declared.requests.Request.TheVariants as requests
use Rattle.wiki_talk.specs.declared.requests.ArticleRequest.TheVariants as of_article
use Rattle.wiki_parts.specs.Spending.{IsCutOff}
use Rattle.wiki_parts.specs.Holding as holding
use Rattle.plain_wiki.specs.Places.{article_named}
use Rattle.plain_wiki.specs.Doing.{AddsSentence, EditsSentence, RemovesSentence, RetractsSentence, ReassertsSentence, TellsArticle, TellsMeaning}
use Rattle.wiki_core.specs.Keeping.{AreHeld}
use Rattle.wiki_core.proofs.StepLemmas.{step_of}
use Rattle.wiki_core.proofs.SessionLemmas.{state_of}
use Rattle.wiki_core.proofs.AskedLemmas.{wiki_of, held_article, adds_keep, edits_keep, removes_keep, retracts_keep, reasserts_keep, changes_stored, tells_named, tells_status, judged_keeps, same_keeps, spends_none, taken_none, ok_unit}
use Rattle.wiki_core.proofs.wiki.Wiki.on_article.Goals as goal

pub invariant_of-self-in-Add : goal.invariant_of-self-in-Add
invariant_of-self-in-Add c =
    let stored = c.self-in-Add.inside.store.state in
    let new = c.add.new.self.state in
    let IsSpent = IsCutOff c.self-in-Add.inside.store.budget in
    held_article c.self-in-Add.inside.store c.add.new.self c.self-in-Add.inside.sessions c.self-in-Add.inside.last c.self-in-Add.invariant
    (article_named stored c.args.form.now)
    (λ article reply. AddsSentence IsSpent c.in-Add.at c.in-Add.text article stored reply new)
    (λ article reply. adds_keep article stored reply new IsSpent c.in-Add.at c.in-Add.text) c.add.result c.add.ensures.does
    c.add.ensures.kept

pub returns-in-Add-clause-step : goal.returns-in-Add-clause-step
returns-in-Add-clause-step c =
    let old = state_of c.self-in-Add.inside.store.state (all_plain c.self-in-Add.inside.sessions) c.self-in-Add.inside.last in
    let new = state_of c.add.new.self.state (all_plain c.self-in-Add.inside.sessions) c.self-in-Add.inside.last in
    let IsSpent = IsCutOff c.self-in-Add.inside.store.budget in
    rw (sym c.self-in-Add.view_is, c.in-Add.is)
    (step_of IsSpent old (requests.OnArticle c.args.form.now (of_article.Add c.in-Add.at c.in-Add.text)) c.add.result new c.add.ensures.free
    (changes_stored (article_named old.stored c.args.form.now) (λ article. AddsSentence IsSpent c.in-Add.at c.in-Add.text article) old new c.add.result
    c.add.ensures.does refl refl))

pub returns-in-Add-clause-spent : goal.returns-in-Add-clause-spent
returns-in-Add-clause-spent c = rw (sym c.self-in-Add.view_is, c.in-Add.is) c.add.ensures.spent

pub returns-in-Add-clause-interpretation : goal.returns-in-Add-clause-interpretation
returns-in-Add-clause-interpretation c =
    let stored = c.self-in-Add.inside.store.state in
    let new = c.add.new.self.state in
    let IsSpent = IsCutOff c.self-in-Add.inside.store.budget in
    judged_keeps c.args.self.now (wiki_of c.add.new.self (all_plain c.self-in-Add.inside.sessions) c.self-in-Add.inside.last)
    (article_named stored c.args.form.now) (λ article reply. AddsSentence IsSpent c.in-Add.at c.in-Add.text article stored reply new)
    (λ article reply does. ap tells_status does.answer) c.add.result c.add.ensures.does

pub invariant_of-self-in-Edit : goal.invariant_of-self-in-Edit
invariant_of-self-in-Edit c =
    let stored = c.self-in-Edit.inside.store.state in
    let new = c.edit.new.self.state in
    let IsSpent = IsCutOff c.self-in-Edit.inside.store.budget in
    held_article c.self-in-Edit.inside.store c.edit.new.self c.self-in-Edit.inside.sessions c.self-in-Edit.inside.last c.self-in-Edit.invariant
    (article_named stored c.args.form.now)
    (λ article reply. EditsSentence IsSpent c.in-Edit.at c.in-Edit.text article stored reply new)
    (λ article reply. edits_keep article stored reply new IsSpent c.in-Edit.at c.in-Edit.text) c.edit.result c.edit.ensures.does
    c.edit.ensures.kept

pub returns-in-Edit-clause-step : goal.returns-in-Edit-clause-step
returns-in-Edit-clause-step c =
    let old = state_of c.self-in-Edit.inside.store.state (all_plain c.self-in-Edit.inside.sessions) c.self-in-Edit.inside.last in
    let new = state_of c.edit.new.self.state (all_plain c.self-in-Edit.inside.sessions) c.self-in-Edit.inside.last in
    let IsSpent = IsCutOff c.self-in-Edit.inside.store.budget in
    rw (sym c.self-in-Edit.view_is, c.in-Edit.is)
    (step_of IsSpent old (requests.OnArticle c.args.form.now (of_article.Edit c.in-Edit.at c.in-Edit.text)) c.edit.result new c.edit.ensures.free
    (changes_stored (article_named old.stored c.args.form.now) (λ article. EditsSentence IsSpent c.in-Edit.at c.in-Edit.text article) old new c.edit.result
    c.edit.ensures.does refl refl))

pub returns-in-Edit-clause-spent : goal.returns-in-Edit-clause-spent
returns-in-Edit-clause-spent c = rw (sym c.self-in-Edit.view_is, c.in-Edit.is) c.edit.ensures.spent

pub returns-in-Edit-clause-interpretation : goal.returns-in-Edit-clause-interpretation
returns-in-Edit-clause-interpretation c =
    let stored = c.self-in-Edit.inside.store.state in
    let new = c.edit.new.self.state in
    let IsSpent = IsCutOff c.self-in-Edit.inside.store.budget in
    judged_keeps c.args.self.now (wiki_of c.edit.new.self (all_plain c.self-in-Edit.inside.sessions) c.self-in-Edit.inside.last)
    (article_named stored c.args.form.now) (λ article reply. EditsSentence IsSpent c.in-Edit.at c.in-Edit.text article stored reply new)
    (λ article reply does. ap tells_status does.answer) c.edit.result c.edit.ensures.does

pub invariant_of-self-in-Remove : goal.invariant_of-self-in-Remove
invariant_of-self-in-Remove c =
    let stored = c.self-in-Remove.inside.store.state in
    let new = c.remove.new.self.state in
    held_article c.self-in-Remove.inside.store c.remove.new.self c.self-in-Remove.inside.sessions c.self-in-Remove.inside.last c.self-in-Remove.invariant
    (article_named stored c.args.form.now)
    (λ article reply. RemovesSentence c.in-Remove.at article stored reply new) (λ article reply. removes_keep article stored reply new c.in-Remove.at)
    c.remove.result c.remove.ensures.does
    c.remove.ensures.kept

pub returns-in-Remove-clause-step : goal.returns-in-Remove-clause-step
returns-in-Remove-clause-step c =
    let old = state_of c.self-in-Remove.inside.store.state (all_plain c.self-in-Remove.inside.sessions) c.self-in-Remove.inside.last in
    let new = state_of c.remove.new.self.state (all_plain c.self-in-Remove.inside.sessions) c.self-in-Remove.inside.last in
    let IsSpent = IsCutOff c.self-in-Remove.inside.store.budget in
    rw (sym c.self-in-Remove.view_is, c.in-Remove.is)
    (step_of IsSpent old (requests.OnArticle c.args.form.now (of_article.Remove c.in-Remove.at)) c.remove.result new c.remove.ensures.free
    (changes_stored (article_named old.stored c.args.form.now) (λ article. RemovesSentence c.in-Remove.at article) old new c.remove.result
    c.remove.ensures.does refl refl))

pub returns-in-Remove-clause-spent : goal.returns-in-Remove-clause-spent
returns-in-Remove-clause-spent c =
    rw c.in-Remove.is (spends_none c.args.self.now (requests.OnArticle c.args.form.now (of_article.Remove c.in-Remove.at))
    (taken_none c.args.self.now.state.stored c.args.form.now (of_article.Remove c.in-Remove.at) refl) c.remove.result)

pub returns-in-Remove-clause-interpretation : goal.returns-in-Remove-clause-interpretation
returns-in-Remove-clause-interpretation c =
    let old = c.self-in-Remove.inside in
    rw (sym c.self-in-Remove.view_is) (same_keeps (wiki_of old.store (all_plain old.sessions) old.last)
    (wiki_of c.remove.new.self (all_plain old.sessions) old.last)
    c.remove.result c.remove.ensures.interpretation)

pub invariant_of-self-in-Retract : goal.invariant_of-self-in-Retract
invariant_of-self-in-Retract c =
    let stored = c.self-in-Retract.inside.store.state in
    let new = c.retract.new.self.state in
    held_article c.self-in-Retract.inside.store c.retract.new.self c.self-in-Retract.inside.sessions c.self-in-Retract.inside.last c.self-in-Retract.invariant
    (article_named stored c.args.form.now)
    (λ article reply. RetractsSentence c.in-Retract.at article stored reply new) (λ article reply. retracts_keep article stored reply new c.in-Retract.at)
    c.retract.result c.retract.ensures.does
    c.retract.ensures.kept

pub returns-in-Retract-clause-step : goal.returns-in-Retract-clause-step
returns-in-Retract-clause-step c =
    let old = state_of c.self-in-Retract.inside.store.state (all_plain c.self-in-Retract.inside.sessions) c.self-in-Retract.inside.last in
    let new = state_of c.retract.new.self.state (all_plain c.self-in-Retract.inside.sessions) c.self-in-Retract.inside.last in
    let IsSpent = IsCutOff c.self-in-Retract.inside.store.budget in
    rw (sym c.self-in-Retract.view_is, c.in-Retract.is)
    (step_of IsSpent old (requests.OnArticle c.args.form.now (of_article.Retract c.in-Retract.at)) c.retract.result new c.retract.ensures.free
    (changes_stored (article_named old.stored c.args.form.now) (λ article. RetractsSentence c.in-Retract.at article) old new c.retract.result
    c.retract.ensures.does refl refl))

pub returns-in-Retract-clause-spent : goal.returns-in-Retract-clause-spent
returns-in-Retract-clause-spent c =
    rw c.in-Retract.is (spends_none c.args.self.now (requests.OnArticle c.args.form.now (of_article.Retract c.in-Retract.at))
    (taken_none c.args.self.now.state.stored c.args.form.now (of_article.Retract c.in-Retract.at) refl) c.retract.result)

pub returns-in-Retract-clause-interpretation : goal.returns-in-Retract-clause-interpretation
returns-in-Retract-clause-interpretation c =
    let old = c.self-in-Retract.inside in
    rw (sym c.self-in-Retract.view_is) (same_keeps (wiki_of old.store (all_plain old.sessions) old.last)
    (wiki_of c.retract.new.self (all_plain old.sessions) old.last)
    c.retract.result c.retract.ensures.interpretation)

pub invariant_of-self-in-Reassert : goal.invariant_of-self-in-Reassert
invariant_of-self-in-Reassert c =
    let stored = c.self-in-Reassert.inside.store.state in
    let new = c.reassert.new.self.state in
    let IsSpent = IsCutOff c.self-in-Reassert.inside.store.budget in
    held_article c.self-in-Reassert.inside.store c.reassert.new.self c.self-in-Reassert.inside.sessions c.self-in-Reassert.inside.last
    c.self-in-Reassert.invariant (article_named stored c.args.form.now)
    (λ article reply. ReassertsSentence IsSpent c.in-Reassert.at article stored reply new)
    (λ article reply. reasserts_keep article stored reply new IsSpent c.in-Reassert.at) c.reassert.result c.reassert.ensures.does
    c.reassert.ensures.kept

pub returns-in-Reassert-clause-step : goal.returns-in-Reassert-clause-step
returns-in-Reassert-clause-step c =
    let old = state_of c.self-in-Reassert.inside.store.state (all_plain c.self-in-Reassert.inside.sessions) c.self-in-Reassert.inside.last in
    let new = state_of c.reassert.new.self.state (all_plain c.self-in-Reassert.inside.sessions) c.self-in-Reassert.inside.last in
    let IsSpent = IsCutOff c.self-in-Reassert.inside.store.budget in
    rw (sym c.self-in-Reassert.view_is, c.in-Reassert.is)
    (step_of IsSpent old (requests.OnArticle c.args.form.now (of_article.Reassert c.in-Reassert.at)) c.reassert.result new c.reassert.ensures.free
    (changes_stored (article_named old.stored c.args.form.now) (λ article. ReassertsSentence IsSpent c.in-Reassert.at article) old new c.reassert.result
    c.reassert.ensures.does refl refl))

pub returns-in-Reassert-clause-spent : goal.returns-in-Reassert-clause-spent
returns-in-Reassert-clause-spent c = rw (sym c.self-in-Reassert.view_is, c.in-Reassert.is) c.reassert.ensures.spent

pub returns-in-Reassert-clause-interpretation : goal.returns-in-Reassert-clause-interpretation
returns-in-Reassert-clause-interpretation c =
    let stored = c.self-in-Reassert.inside.store.state in
    let new = c.reassert.new.self.state in
    let IsSpent = IsCutOff c.self-in-Reassert.inside.store.budget in
    judged_keeps c.args.self.now (wiki_of c.reassert.new.self (all_plain c.self-in-Reassert.inside.sessions) c.self-in-Reassert.inside.last)
    (article_named stored c.args.form.now) (λ article reply. ReassertsSentence IsSpent c.in-Reassert.at article stored reply new)
    (λ article reply does. ap tells_status does.answer) c.reassert.result c.reassert.ensures.does

pub invariant_of-self : goal.invariant_of-self
invariant_of-self c =
    subst (λ (h : holding.Holding). AreHeld h.state c.self.inside.sessions c.self.inside.last) (sym c.read.ensures.same) c.self.invariant

pub returns-in-Read-clause-step : goal.returns-in-Read-clause-step
returns-in-Read-clause-step c =
    let old = state_of c.self.inside.store.state (all_plain c.self.inside.sessions) c.self.inside.last in
    let new = state_of c.read.new.self.state (all_plain c.self.inside.sessions) c.self.inside.last in
    let IsSpent = IsCutOff c.self.inside.store.budget in
    rw (sym c.self.view_is, c.in-Read.is) (step_of IsSpent old (requests.OnArticle c.args.form.now of_article.Read) c.read.result new c.read.ensures.free
    (tells_named (article_named old.stored c.args.form.now) (TellsArticle IsSpent old.stored) old new c.read.result c.read.ensures.tells
    (ap (λ (h : holding.Holding). state_of h.state (all_plain c.self.inside.sessions) c.self.inside.last) c.read.ensures.same)))

pub returns-in-Read-clause-unknown : goal.returns-in-Read-clause-unknown
returns-in-Read-clause-unknown c = rw (sym c.self.view_is, c.in-Read.is) c.read.ensures.unknown

pub returns-in-Read-clause-spent : goal.returns-in-Read-clause-spent
returns-in-Read-clause-spent c =
    rw c.in-Read.is (spends_none c.args.self.now (requests.OnArticle c.args.form.now of_article.Read)
    (taken_none c.args.self.now.state.stored c.args.form.now of_article.Read refl) c.read.result)

pub returns-in-Axioms-clause-step : goal.returns-in-Axioms-clause-step
returns-in-Axioms-clause-step c =
    let old = state_of c.self-in-Axioms.inside.store.state (all_plain c.self-in-Axioms.inside.sessions) c.self-in-Axioms.inside.last in
    rw (sym c.self-in-Axioms.view_is, c.in-Axioms.is) (step_of (IsCutOff c.self-in-Axioms.inside.store.budget) old
    (requests.OnArticle c.args.form.now (of_article.Axioms c.in-Axioms.at)) c.axioms.result old c.axioms.ensures.free
    (tells_named (article_named old.stored c.args.form.now) (TellsMeaning c.in-Axioms.at old.stored) old old c.axioms.result c.axioms.ensures.tells refl))

pub returns-in-Axioms-clause-spent : goal.returns-in-Axioms-clause-spent
returns-in-Axioms-clause-spent c =
    rw c.in-Axioms.is (spends_none c.args.self.now (requests.OnArticle c.args.form.now (of_article.Axioms c.in-Axioms.at))
    (taken_none c.args.self.now.state.stored c.args.form.now (of_article.Axioms c.in-Axioms.at) refl) c.axioms.result)

pub returns-in-Open-clause-step : goal.returns-in-Open-clause-step
returns-in-Open-clause-step c = rw c.in-Open.is c.open.ensures.step

pub returns-in-Open-clause-refused : goal.returns-in-Open-clause-refused
returns-in-Open-clause-refused c = rw c.in-Open.is c.open.ensures.refused

pub returns-in-Open-clause-spent : goal.returns-in-Open-clause-spent
returns-in-Open-clause-spent c =
    rw c.in-Open.is (spends_none c.args.self.now (requests.OnArticle c.args.form.now of_article.Open)
    (taken_none c.args.self.now.state.stored c.args.form.now of_article.Open refl) c.open.result)

pub returns-in-Read-clause-refused : goal.returns-in-Read-clause-refused
returns-in-Read-clause-refused c = rw (sym c.self.view_is, c.in-Read.is) c.read.ensures.refused

pub returns-in-Add-clause-refused : goal.returns-in-Add-clause-refused
returns-in-Add-clause-refused c = rw (sym c.self-in-Add.view_is, c.in-Add.is) c.add.ensures.refused

pub returns-in-Edit-clause-refused : goal.returns-in-Edit-clause-refused
returns-in-Edit-clause-refused c = rw (sym c.self-in-Edit.view_is, c.in-Edit.is) c.edit.ensures.refused

pub returns-in-Remove-clause-refused : goal.returns-in-Remove-clause-refused
returns-in-Remove-clause-refused c = rw (sym c.self-in-Remove.view_is, c.in-Remove.is) c.remove.ensures.refused

pub returns-in-Retract-clause-refused : goal.returns-in-Retract-clause-refused
returns-in-Retract-clause-refused c = rw (sym c.self-in-Retract.view_is, c.in-Retract.is) c.retract.ensures.refused

pub returns-in-Reassert-clause-refused : goal.returns-in-Reassert-clause-refused
returns-in-Reassert-clause-refused c = rw (sym c.self-in-Reassert.view_is, c.in-Reassert.is) c.reassert.ensures.refused

pub returns-in-Axioms-clause-refused : goal.returns-in-Axioms-clause-refused
returns-in-Axioms-clause-refused c = rw (sym c.self-in-Axioms.view_is, c.in-Axioms.is) c.axioms.ensures.refused
