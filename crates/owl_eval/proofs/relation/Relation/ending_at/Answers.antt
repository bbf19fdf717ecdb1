use Rattle.std.proofs.Common.{◌≡◌, ◌==◌, ◌&&◌, map, filter, sym, ap, ◌∙◌}
use Rattle.std.proofs.lemmas.List.Sorted.{list_any-IsPermutation}
use Rattle.std.specs.List.{list_any, list_all}
use Rattle.wiki_base.proofs.ListLaws.{list_any-filter}
use Rattle.logic_terms.specs.Meaning.{implies}
use Rattle.owl_eval.specs.Pairs.{swapped}
use Rattle.owl_eval.proofs.Filters.{list_all-filter, list_all-IsPermutation}
use Rattle.owl_eval.proofs.relation.Relation.ending_at.Goals as goal

pub returns-clause-some : goal.returns-clause-some
returns-clause-some c test =
    let run : c.run_of.result.now ≡ filter (λ p. p.0 == c.args.to) c.as_slice.result.now = c.run_of.ensures in
    ap (list_any test) (run ∙ ap (filter (λ p. p.0 == c.args.to)) c.as_slice.ensures.value)
    ∙ (list_any-filter test (λ p. p.0 == c.args.to) c.self.inside.inverse.items
    ∙ (sym (list_any-IsPermutation (λ p. (p.0 == c.args.to) && test p) _ _ c.self.invariant.same)
    ∙ ap (λ v. list_any (λ p. (p.0 == c.args.to) && test p) (map swapped v.1)) c.self.view_is))

pub returns-clause-each : goal.returns-clause-each
returns-clause-each c test =
    let run : c.run_of.result.now ≡ filter (λ p. p.0 == c.args.to) c.as_slice.result.now = c.run_of.ensures in
    ap (list_all test) (run ∙ ap (filter (λ p. p.0 == c.args.to)) c.as_slice.ensures.value)
    ∙ (list_all-filter test (λ p. p.0 == c.args.to) c.self.inside.inverse.items
    ∙ (sym (list_all-IsPermutation (λ p. implies (p.0 == c.args.to) (test p)) _ _ c.self.invariant.same)
    ∙ ap (λ v. list_all (λ p. implies (p.0 == c.args.to) (test p)) (map swapped v.1)) c.self.view_is))
