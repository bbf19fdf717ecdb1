use Rattle.std.proofs.Common.{◌≡◌, sym, subst}
use Rattle.std.proofs.lemmas.Result.{err_from_is_err_and}
use Rattle.codeco_terms.specs.GrammarParts.{GrammarParts}
use Rattle.plain_wiki.specs.Sessions.{AreRebased}
use Rattle.sessions.specs.Sessions.{all_plain, AreKept, AreOfGrammar}
use Rattle.articles.specs.Articles.{without_article}
use Rattle.wiki_talk.specs.declared.requests.Request.TheVariants as requests
use Rattle.wiki_talk.specs.declared.requests.WordRequest.TheVariants as of_word
use Rattle.wiki_talk.specs.declared.replies.Reply.TheVariants as replies
use Rattle.wiki_parts.specs.Spending.{IsCutOff}
use Rattle.plain_wiki.specs.Step.{Step}
use Rattle.wiki_core.proofs.SessionLemmas.{unword_does}
use Rattle.wiki_parts.specs.Holding as holding
use Rattle.wiki_core.specs.Keeping.{AreHeld}
use Rattle.sessions.proofs.KeepingLaws.{kept_grammar}
use Rattle.wiki_core.proofs.HeldLemmas.{held_ended}
use Rattle.wiki_core.proofs.wiki.Wiki.unword.Goals as goal

pub returns-in_err-gone-clause-refused : goal.returns-in_err-gone-clause-refused
returns-in_err-gone-clause-refused c =
    let p = err_from_is_err_and c.from_residual.result c.from_residual.ensures.1 in
    rw (p.1, p.2) (rw (sym c.self.view_is) c.in_err-gone.ensures.refused)

pub invariant_of-self : goal.invariant_of-self
invariant_of-self c =
    let stored = c.self.inside.store.state in
    let word = c.in_ok-gone.gone.0 in
    let lexicon = c.in_ok-gone.gone.1 in
    let sessions = c.in_ok-sessions.sessions in
    subst (λ (h : holding.Holding). AreHeld h.state c.end_on.new.self c.self.inside.last) (sym c.unworded.ensures)
    (held_ended stored lexicon word c.self.inside.sessions c.end_on.new.self (all_plain sessions) c.self.inside.last c.self.invariant
    (c.end_on.ensures.kept stored.grammar lexicon (subst (λ (g : GrammarParts). AreKept g lexicon sessions) c.grammar.ensures c.in_ok-sessions.ensures.kept))
    (subst (λ (g : GrammarParts). AreRebased g lexicon (all_plain c.self.inside.sessions) (all_plain sessions)) c.grammar.ensures
    c.in_ok-sessions.ensures.rebased)
    c.end_on.ensures.ended)

pub returns-clause-step : goal.returns-clause-step
returns-clause-step c =
    let stored = c.self.inside.store.state in
    let word = c.in_ok-gone.gone.0 in
    let lexicon = c.in_ok-gone.gone.1 in
    let sessions = c.in_ok-sessions.sessions in
    rw (sym c.self.view_is) (subst (λ (h : holding.Holding). Step (IsCutOff c.self.inside.store.budget)
    (record { stored = stored; sessions = all_plain c.self.inside.sessions; last = c.self.inside.last })
    (requests.OnWord c.args.form.now of_word.Unword)
    replies.Unword
    (record { stored = h.state; sessions = all_plain c.end_on.new.self; last = c.self.inside.last })) (sym c.unworded.ensures) (
      c.in_ok-gone.ensures.free,
      unword_does stored (record stored { words = lexicon; articles = without_article stored.articles word }) (all_plain c.self.inside.sessions)
          (all_plain sessions) (all_plain c.end_on.new.self) c.self.inside.last c.args.form.now word c.in_ok-gone.ensures.named c.in_ok-gone.ensures.removes
          (subst (λ (g : GrammarParts). AreRebased g lexicon (all_plain c.self.inside.sessions) (all_plain sessions)) c.grammar.ensures
          c.in_ok-sessions.ensures.rebased)
          c.end_on.ensures.ended,
    ))

pub rebased-requires : goal.rebased-requires
rebased-requires c =
    let stored = c.self.inside.store.state in
    subst (λ (g : GrammarParts). AreOfGrammar g c.self.inside.sessions) (sym c.grammar.ensures)
    (kept_grammar stored.grammar stored.words c.self.inside.sessions c.self.invariant.kept)
