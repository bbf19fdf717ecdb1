use Rattle.std.proofs.Common.{◌<◌, length, refl, sym, subst, not}
use Rattle.codeco_labels.specs.Kinds.{allows}
use Rattle.codeco_labels.specs.Tables.{KindRows, IsWhole, Narrows}
use Rattle.codeco_labels.proofs.TableLemmas.{restricted_written}
use Rattle.codeco_labels.proofs.kind_table.KindTable.restrict.Goals as goal

pub returns : goal.returns
returns c =
    let t : KindRows = record { groups = c.self.inside.groups.items; allowed = c.self.inside.allowed.items } in
    let new : KindRows = record { groups = c.self.inside.groups.items; allowed = _ } in
    let is = c.self.view_is in
    subst (λ r. Narrows r new (not c.is_nothing.result) (λ kinds. allows c.args.to (kinds c.args.category))) is
    (restricted_written t new c.args.category c.index.result.now c.args.to c.index-2.result.now c.meet-allowed.result c.is_nothing.result
    (subst IsWhole (sym is) c.requires.whole) (subst (λ (r : KindRows). c.args.category < length r.groups) (sym is) c.requires.inside)
    c.index.ensures c.index-2.ensures c.meet-allowed.ensures c.is_nothing.ensures refl refl)
