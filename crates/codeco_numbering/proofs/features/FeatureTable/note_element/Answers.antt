use Rattle.std.proofs.Common.{sym, ap, ◌∙◌}
use Rattle.std.specs.Prelude.{flat_map}
use Rattle.std.proofs.lemmas.List.Concat.{flat_map-append}
use Rattle.std.proofs.lemmas.Result.{IfOk-weaker}
use Rattle.codeco_text.specs.declared.written.WrittenElement.{WrittenElement}
use Rattle.codeco_numbering.specs.Numbered.{with_undeclared, category_features, element_categories}
use Rattle.codeco_numbering.proofs.Declaring.{noted_append}
use Rattle.codeco_numbering.proofs.features.FeatureTable.note_element.Goals as goal

pub returns-in_ok-table-in-Back : goal.returns-in_ok-table-in-Back
returns-in_ok-table-in-Back c =
    let fs = c.args.self in
    let ps = c.in-Back.positives in
    let ns = c.in-Back.negatives in
    IfOk-weaker c.note_categories-in-Back.result _ _
    (λ table e. e
    ∙ ap (λ made. with_undeclared made (flat_map category_features ns)) c.in_ok-table-in-Back.ensures
    ∙ sym (noted_append fs (flat_map category_features ps) (flat_map category_features ns))
    ∙ ap (with_undeclared fs) (sym (flat_map-append category_features ps ns))
    ∙ ap (λ (x : WrittenElement). with_undeclared fs (flat_map category_features (element_categories x))) (sym c.in-Back.is))
    c.note_categories-in-Back.ensures
