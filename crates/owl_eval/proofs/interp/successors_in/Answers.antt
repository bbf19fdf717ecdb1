use Rattle.std.proofs.Common.{◌≡◌, ◌==◌, ◌&&◌, filter, ap, ◌∙◌}
use Rattle.std.specs.List.{list_any, list_all}
use Rattle.wiki_base.proofs.ListLaws.{list_any-filter}
use Rattle.logic_terms.specs.Meaning.{implies}
use Rattle.owl_eval.proofs.Filters.{list_all-filter}
use Rattle.owl_eval.proofs.Successors.{straight}
use Rattle.owl_eval.proofs.interp.successors_in.Goals as goal

pub returns-in-Some-2-clause-some : goal.returns-in-Some-2-clause-some
returns-in-Some-2-clause-some c test =
    let run : c.starting_at.result.now ≡ filter (λ p. p.0 == c.args.element) c.in-Some.relation.now.1 = c.starting_at.ensures in
    ap (list_any (λ p. test p.1)) run
    ∙ (list_any-filter (λ p. test p.1) (λ p. p.0 == c.args.element) c.in-Some.relation.now.1
    ∙ ap (list_any (λ p. (p.0 == c.args.element) && test p.1))
    (straight c.args.role c.args.relations.now c.in-Some.relation.now.1 c.if-role.false c.in-Some.ensures))

pub returns-in-Some-2-clause-each : goal.returns-in-Some-2-clause-each
returns-in-Some-2-clause-each c test =
    let run : c.starting_at.result.now ≡ filter (λ p. p.0 == c.args.element) c.in-Some.relation.now.1 = c.starting_at.ensures in
    ap (list_all (λ p. test p.1)) run
    ∙ (list_all-filter (λ p. test p.1) (λ p. p.0 == c.args.element) c.in-Some.relation.now.1
    ∙ ap (list_all (λ p. implies (p.0 == c.args.element) (test p.1)))
    (straight c.args.role c.args.relations.now c.in-Some.relation.now.1 c.if-role.false c.in-Some.ensures))
