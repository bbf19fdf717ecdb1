use Rattle.std.proofs.Common.{ℕ, Bor, sym, ap, ◌∙◌}
use Rattle.std.specs.Prelude.{flat_map}
use Rattle.std.proofs.lemmas.List.Folds.{flat_map-map}
use Rattle.std.proofs.lemmas.Result.{on_ok_weaker}
use Rattle.codeco_text.specs.declared.written.WrittenTerm.{WrittenTerm}
use Rattle.codeco_numbering.specs.Numbered.{gathered, term_names}
use Rattle.codeco_numbering.proofs.variables.add_category.Goals as goal

pub returns : goal.returns
returns c =
    let names = c.args.names.now in
    let list = c.in_ok-list.list.items in
    let terms = flat_map-map {A = ℕ × Bor WrittenTerm} {B = ℕ × WrittenTerm} (λ f. term_names f.1) (λ f. (f.0, f.1.now)) list in
    on_ok_weaker c.add_terms.result
    (λ e. e ∙ ap (λ fs. gathered names (flat_map (λ f. term_names f.1.now) fs)) c.as_slice.ensures.value
    ∙ ap (gathered names) (sym terms ∙ ap (flat_map {X = ℕ × WrittenTerm} (λ f. term_names f.1)) c.in_ok-list.ensures))
    c.add_terms.ensures
