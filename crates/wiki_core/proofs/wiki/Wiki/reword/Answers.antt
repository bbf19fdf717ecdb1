use Rattle.std.proofs.Common.{◌≡◌, refl, sym, subst}
use Rattle.std.proofs.lemmas.Result.{err_from_is_err_and}
use Rattle.codeco_terms.specs.GrammarParts.{GrammarParts}
use Rattle.plain_wiki.specs.Sessions.{AreRebased}
use Rattle.sessions.specs.Sessions.{all_plain, AreKept, AreOfGrammar}
use Rattle.wiki_talk.specs.declared.requests.Request.TheVariants as requests
use Rattle.wiki_talk.specs.declared.requests.WordRequest.TheVariants as of_word
use Rattle.wiki_talk.specs.declared.replies.Reply.TheVariants as replies
use Rattle.wiki_parts.specs.Holding as holding
use Rattle.plain_wiki.specs.Step.{ChangesWords, Step}
use Rattle.plain_wiki.specs.Doing.{RewordsWord}
use Rattle.plain_wiki.specs.Places.{word_with}
use Rattle.wiki_core.proofs.NamedLemmas.{and_so}
use Rattle.wiki_parts.specs.Spending.{IsCutOff}
use Rattle.wiki_core.specs.Keeping.{AreHeld}
use Rattle.sessions.proofs.KeepingLaws.{kept_grammar}
use Rattle.wiki_core.proofs.HeldLemmas.{held_rebased}
use Rattle.wiki_core.proofs.wiki.Wiki.reword.Goals as goal

pub returns-in_err-lexicon-clause-refused : goal.returns-in_err-lexicon-clause-refused
returns-in_err-lexicon-clause-refused c =
    let p = err_from_is_err_and c.from_residual.result c.from_residual.ensures.1 in
    rw (p.1, p.2) (rw (sym c.self.view_is) c.in_err-lexicon.ensures.refused)

pub invariant_of-self : goal.invariant_of-self
invariant_of-self c =
    let stored = c.self.inside.store.state in
    let lexicon = c.in_ok-lexicon.lexicon in
    let sessions = c.in_ok-sessions.sessions in
    subst (λ (h : holding.Holding). AreHeld h.state sessions c.self.inside.last) (sym c.reworded.ensures)
    (held_rebased stored lexicon c.self.inside.sessions sessions c.self.inside.last c.self.invariant
    (subst (λ (g : GrammarParts). AreKept g lexicon sessions) c.grammar.ensures c.in_ok-sessions.ensures.kept)
    (subst (λ (g : GrammarParts). AreRebased g lexicon (all_plain c.self.inside.sessions) (all_plain sessions)) c.grammar.ensures
    c.in_ok-sessions.ensures.rebased))

pub returns-clause-step : goal.returns-clause-step
returns-clause-step c =
    let stored = c.self.inside.store.state in
    let lexicon = c.in_ok-lexicon.lexicon in
    let sessions = c.in_ok-sessions.sessions in
    rw (sym c.self.view_is) (subst (λ (h : holding.Holding). Step (IsCutOff c.self.inside.store.budget)
    (record { stored = stored; sessions = all_plain c.self.inside.sessions; last = c.self.inside.last })
    (requests.OnWord c.args.form.now (of_word.Reword c.args.forms.now))
    replies.Reword
    (record { stored = h.state; sessions = all_plain sessions; last = c.self.inside.last })) (sym c.reworded.ensures) (
      c.in_ok-lexicon.ensures.free,
      and_so (word_with stored c.args.form.now) (λ word. RewordsWord word c.args.forms.now stored replies.Reword (record stored { words = lexicon }))
          (λ word. ChangesWords (RewordsWord word c.args.forms.now)
          (record { stored = stored; sessions = all_plain c.self.inside.sessions; last = c.self.inside.last }) replies.Reword
          (record { stored = record stored { words = lexicon }; sessions = all_plain sessions; last = c.self.inside.last }))
          (λ word rewords. record {
            stored = rewords;
            sessions = subst (λ (g : GrammarParts). AreRebased g lexicon (all_plain c.self.inside.sessions) (all_plain sessions)) c.grammar.ensures
                c.in_ok-sessions.ensures.rebased;
            last = refl;
          })
          c.in_ok-lexicon.ensures.rewords,
    ))

pub rebased-requires : goal.rebased-requires
rebased-requires c =
    let stored = c.self.inside.store.state in
    subst (λ (g : GrammarParts). AreOfGrammar g c.self.inside.sessions) (sym c.grammar.ensures)
    (kept_grammar stored.grammar stored.words c.self.inside.sessions c.self.invariant.kept)
