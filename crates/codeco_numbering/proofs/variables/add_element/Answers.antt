use Rattle.std.proofs.Common.{sym, ap, ◌∙◌}
use Rattle.std.specs.Prelude.{flat_map}
use Rattle.std.proofs.lemmas.Result.{on_ok_weaker}
use Rattle.codeco_text.specs.declared.written.WrittenElement.{WrittenElement}
use Rattle.codeco_numbering.specs.Numbered.{gathered, category_names, element_names}
use Rattle.codeco_numbering.proofs.Gathers.{gathered_append}
use Rattle.codeco_numbering.proofs.variables.add_element.Goals as goal

pub returns-in_ok-add_categories-in-Back : goal.returns-in_ok-add_categories-in-Back
returns-in_ok-add_categories-in-Back c =
    let names = c.args.names.now in
    let t = c.args.features.now in
    let ps = c.in-Back.positives in
    let ns = c.in-Back.negatives in
    on_ok_weaker c.add_categories-in-Back.result
    (λ e. e
    ∙ ap (λ made. gathered made (flat_map (category_names t) ns)) c.in_ok-add_categories-in-Back.ensures
    ∙ sym (gathered_append names (flat_map (category_names t) ps) (flat_map (category_names t) ns))
    ∙ ap (λ (x : WrittenElement). gathered names (element_names t x)) (sym c.in-Back.is))
    c.add_categories-in-Back.ensures
