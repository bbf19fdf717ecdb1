use Rattle.std.proofs.Common.{◌≡◌, ◌∙◌, List, Bool, filter, not, eqb, ap, subst, sym, rules}
use Rattle.std.proofs.lemmas.Fn.{filter_same}
use Rattle.sessions.specs.declared.session.Session.{Session}
use Rattle.plain_wiki.specs.Sessions.{without_article}
use Rattle.sessions.specs.Sessions.{all_plain, AreKept, AreSessions}
use Rattle.sessions.proofs.ChangeLemmas.{filtered_is, filtered_sessions, kept_filtered}
use Rattle.sessions.proofs.sessions.Sessions.end_on.Goals as goal

-- what is kept are the sessions that aren't on the article
pub invariant_of-self : goal.invariant_of-self
invariant_of-self c =
    let stays : Session → Bool = λ session. not (eqb session.article.0 c.args.article.0) in
    let left : c.retain.new.self.items ≡ filter stays c.self.inside.sessions.items =
    filter_same _ stays _ (λ x b f' called. search rules) _ _ c.retain.ensures.filtered in
    subst AreSessions (sym left) (filtered_sessions stays c.self.inside.sessions.items c.self.invariant)

pub returns-clause-ended : goal.returns-clause-ended
returns-clause-ended c =
    let stays : Session → Bool = λ session. not (eqb session.article.0 c.args.article.0) in
    let left : c.retain.new.self.items ≡ filter stays c.self.inside.sessions.items =
    filter_same _ stays _ (λ x b f' called. search rules) _ _ c.retain.ensures.filtered in
    ap all_plain left ∙ filtered_is c.self.inside.sessions.items c.args.article
    ∙ ap (λ (xs : List Session). without_article (all_plain xs) c.args.article) c.self.view_is

pub returns-clause-kept : goal.returns-clause-kept
returns-clause-kept c = λ g l h.
    let stays : Session → Bool = λ session. not (eqb session.article.0 c.args.article.0) in
    let left : c.retain.new.self.items ≡ filter stays c.self.inside.sessions.items =
    filter_same _ stays _ (λ x b f' called. search rules) _ _ c.retain.ensures.filtered in
    subst (AreKept g l) (sym left) (kept_filtered stays c.self.inside.sessions.items g l (subst (AreKept g l) (sym c.self.view_is) h))
