use Rattle.std.proofs.Common.{◌≡◌, List, [], refl, sym, ap, subst, ◌∙◌}
use Rattle.plain_wiki.specs.Sessions.{PlainSession, with_change, with_tokens, with_revision, HasSession}
use Rattle.sessions.specs.Sessions.{all_plain}
use Rattle.wiki_core.proofs.KeyLaws.{changed_twice}
use Rattle.wiki_core.proofs.HeldLemmas.{has_changed}
use Rattle.wiki_core.proofs.committing.begin_again.Goals as goal

pub set_revision-requires : goal.set_revision-requires
set_revision-requires c =
    subst (λ (list : List PlainSession). HasSession list c.args.number) (sym c.clear.ensures.cleared)
    (has_changed (all_plain c.args.sessions.now) c.args.number (with_tokens (λ _. [])) (λ s. refl) c.requires)

pub returns-clause-changed : goal.returns-clause-changed
returns-clause-changed c =
    c.set_revision.ensures.set ∙ ap (λ (list : List PlainSession). with_change list c.args.number (with_revision c.args.revision)) c.clear.ensures.cleared
    ∙ changed_twice (λ (s : PlainSession). s.number.0) c.args.number.0 (with_tokens (λ _. [])) (with_revision c.args.revision) (λ s. refl)
    (all_plain c.args.sessions.now)

pub returns-clause-kept : goal.returns-clause-kept
returns-clause-kept c = λ g words kept. c.set_revision.ensures.kept g words (c.clear.ensures.kept g words kept)
