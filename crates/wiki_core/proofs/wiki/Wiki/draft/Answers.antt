use Rattle.std.proofs.Common.{[], ◌∷◌}
use Rattle.std.proofs.lemmas.Result.{err_from_is_err_and}
use Rattle.sessions.specs.Sessions.{plain}
use Rattle.wiki_talk.specs.declared.refusals.Refusal.TheVariants.{NoSession}
use Rattle.wiki_talk.specs.declared.requests.SessionRequest.TheVariants as of_session
use Rattle.wiki_parts.proofs.FirstLemmas.{fault_first, fault_behind}
use Rattle.plain_wiki.specs.Causes.{has_no_room, is_at_last_revision, is_stale, is_unfinished, on_its_article}
use Rattle.plain_wiki.specs.Against.{against_session}
use Rattle.plain_wiki.specs.Places.{session_numbered}
use Rattle.wiki_core.proofs.NamedLemmas.{fault_named}
use Rattle.wiki_core.proofs.SessionLemmas.{absent_on, commit_free}
use Rattle.wiki_core.proofs.wiki.Wiki.draft.Goals as goal

pub returns-in_err-is_finished-clause-refused : goal.returns-in_err-is_finished-clause-refused
returns-in_err-is_finished-clause-refused c =
    let state = c.args.self.now.state in
    let session = plain c.in_ok-session.session.now in
    let article = c.article_edited-article.result.now in
    let on = c.article_edited-article.ensures.on in
    let last = on_its_article state.stored session is_at_last_revision in
    let stale = on_its_article state.stored session (is_stale session) in
    let unfinished = is_unfinished state.stored session in
    let fault = c.in_err-is_finished.field-0.0 in
    let p = err_from_is_err_and c.from_residual-in_err-is_finished.result c.from_residual-in_err-is_finished.ensures.1 in
    rw (p.1, p.2) (fault_named (session_numbered state c.args.number) (NoSession c.args.number) (against_session state of_session.Commit) session fault
    c.in_ok-session.ensures.found
    (fault_behind (has_no_room state.stored) (last ∷ stale ∷ unfinished ∷ []) fault c.in_ok-has_room_for_sentence.ensures.absent
    (fault_behind last (stale ∷ unfinished ∷ []) fault (absent_on state.stored session article is_at_last_revision on c.in_ok-can_change.ensures.absent)
    (fault_behind stale (unfinished ∷ []) fault (absent_on state.stored session article (is_stale session) on c.in_ok-is_current.ensures.absent)
    (fault_first unfinished [] fault c.in_err-is_finished.ensures.refused)))))

pub returns-clause-free : goal.returns-clause-free
returns-clause-free c =
    commit_free c.args.self.now.state c.args.number (plain c.in_ok-session.session.now) c.article_edited-article.result.now c.in_ok-session.ensures.found
    c.article_edited-article.ensures.on c.in_ok-has_room_for_sentence.ensures.absent c.in_ok-can_change.ensures.absent c.in_ok-is_current.ensures.absent
    c.in_ok-is_finished.ensures.absent
