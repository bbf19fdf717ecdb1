use Rattle.std.proofs.Common.{[], unwrap_or, ap, ◌∙◌}
use Rattle.std.specs.Map.{lookup}
use Rattle.logic_terms.specs.Concept.{TransitiveProperty}
use Rattle.logic_terms.specs.Interpretation.{Interpretation, is_word}
use Rattle.logic_terms.specs.Meaning.{holds}
use Rattle.owl_eval.specs.Pairs.{leads_on}
use Rattle.owl_eval.proofs.interp.Interp.is_transitive.Goals as goal

pub returns : goal.returns
returns c =
    let i : Interpretation = record {
      size = c.self.inside.size;
      names = c.self.inside.names.items;
      classes = c.self.inside.classes.items;
      relations = c.self.inside.relations.items;
    } in
    c.transitive_in.ensures
    ∙ (ap (λ rs. leads_on (unwrap_or (lookup (is_word c.args.word) rs) [])) c.as_slice.ensures.value
    ∙ ap (λ j. holds j (TransitiveProperty c.args.word)) c.self.view_is)
