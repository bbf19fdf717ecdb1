use Rattle.std.proofs.Common.{◌==◌, ◌&&◌, ap, ◌∙◌}
use Rattle.std.specs.List.{list_any, list_all}
use Rattle.logic_terms.specs.Interpretation.{Interpretation, relates}
use Rattle.logic_terms.specs.Meaning.{implies, some_below, each_below}
use Rattle.owl_eval.specs.Pairs.{pairs_along}
use Rattle.owl_eval.proofs.Successors.{some_along, each_along}
use Rattle.owl_eval.proofs.interp.Interp.successors.Goals as goal

pub returns-clause-some : goal.returns-clause-some
returns-clause-some c test =
    let i : Interpretation = record {
      size = c.self.inside.size;
      names = c.self.inside.names.items;
      classes = c.self.inside.classes.items;
      relations = c.self.inside.relations.items;
    } in
    c.successors_in.ensures.some test
    ∙ (ap (λ rs. list_any (λ p. (p.0 == c.args.element) && test p.1) (pairs_along c.args.role rs)) c.as_slice.ensures.value
    ∙ (some_along i c.self.invariant c.args.role c.args.element test
    ∙ ap (λ j. some_below j.size (λ y. relates j c.args.role c.args.element y && test y)) c.self.view_is))

pub returns-clause-each : goal.returns-clause-each
returns-clause-each c test =
    let i : Interpretation = record {
      size = c.self.inside.size;
      names = c.self.inside.names.items;
      classes = c.self.inside.classes.items;
      relations = c.self.inside.relations.items;
    } in
    c.successors_in.ensures.each test
    ∙ (ap (λ rs. list_all (λ p. implies (p.0 == c.args.element) (test p.1)) (pairs_along c.args.role rs)) c.as_slice.ensures.value
    ∙ (each_along i c.self.invariant c.args.role c.args.element test
    ∙ ap (λ j. each_below j.size (λ y. implies (relates j c.args.role c.args.element y) (test y))) c.self.view_is))
