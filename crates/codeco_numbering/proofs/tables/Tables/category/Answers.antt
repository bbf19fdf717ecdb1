use Rattle.std.proofs.Common.{◌≡◌, ℕ, ◌+◌, map, ap, ◌∙◌}
use Rattle.codeco_text.specs.declared.written.WrittenTerm.{WrittenTerm}
use Rattle.codeco_numbering.specs.Numbered.{Tables, number_of, ordered, plain_feats}
use Rattle.codeco_numbering.proofs.tables.Tables.category.Goals as goal

pub returns : goal.returns
returns c =
    let t = c.args.self.now in
    let category = c.args.category.now in
    let list = c.in_ok-list.ensures ∙ ap (λ (n : Tables). ordered n.features category) c.self.view_is in
    let feats : c.in_ok-plain_feats.field-0 ≡ plain_feats t (ordered t.features category) =
    c.in_ok-plain_feats.ensures ∙ ap (λ fs. plain_feats t (map {B = ℕ × WrittenTerm} (λ f. (f.0, f.1.now)) fs)) c.as_slice.ensures.value
    ∙ ap (plain_feats t) list in
    let name : c.category_name.result ≡ 5 + number_of t.categories category.name = c.category_name.ensures in
    (λ i. record { name = name i; feats = feats i })
