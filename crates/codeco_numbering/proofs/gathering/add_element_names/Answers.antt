use Rattle.std.proofs.Common.{map, sym, ap, ◌∙◌}
use Rattle.std.proofs.lemmas.List.{map-append}
use Rattle.std.proofs.lemmas.Result.{on_ok_weaker}
use Rattle.codeco_text.specs.declared.written.WrittenElement.{WrittenElement}
use Rattle.codeco_numbering.specs.Numbered.{gathered, plain_categories}
use Rattle.codeco_numbering.proofs.Gathers.{gathered_append}
use Rattle.codeco_numbering.proofs.gathering.add_element_names.Goals as goal

pub returns-in_ok-add_names-in-Back : goal.returns-in_ok-add_names-in-Back
returns-in_ok-add_names-in-Back c =
    let names = c.args.names.now in
    let ps = c.in-Back.positives in
    let ns = c.in-Back.negatives in
    on_ok_weaker c.add_names-in-Back.result
    (λ e. e
    ∙ ap (λ made. gathered made (map (λ d. d.name) ns)) c.in_ok-add_names-in-Back.ensures
    ∙ sym (gathered_append names (map (λ d. d.name) ps) (map (λ d. d.name) ns))
    ∙ ap (gathered names) (sym (map-append (λ d. d.name) ps ns))
    ∙ ap (λ (x : WrittenElement). gathered names (map (λ d. d.name) (plain_categories x))) (sym c.in-Back.is))
    c.add_names-in-Back.ensures
