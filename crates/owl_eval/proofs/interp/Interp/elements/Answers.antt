use Rattle.std.proofs.Common.{[], unwrap_or, ap, ◌∙◌}
use Rattle.std.specs.List.{list_all}
use Rattle.std.specs.Map.{lookup}
use Rattle.logic_terms.specs.Interpretation.{Interpretation, is_word, has_element}
use Rattle.logic_terms.specs.Meaning.{implies, each_below}
use Rattle.owl_eval.proofs.Successors.{each_element}
use Rattle.owl_eval.proofs.interp.Interp.elements.Goals as goal

pub returns : goal.returns
returns c test =
    let i : Interpretation = record {
      size = c.self.inside.size;
      names = c.self.inside.names.items;
      classes = c.self.inside.classes.items;
      relations = c.self.inside.relations.items;
    } in
    ap (list_all test) c.elements_in.ensures
    ∙ (ap (λ es. list_all test (unwrap_or (lookup (is_word c.args.word) es) [])) c.as_slice.ensures.value
    ∙ (each_element i c.self.invariant c.args.word test
    ∙ ap (λ j. each_below j.size (λ x. implies (has_element j c.args.word x) (test x))) c.self.view_is))
