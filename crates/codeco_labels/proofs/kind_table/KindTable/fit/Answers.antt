use Rattle.std.proofs.Common.{◌≡◌, ◌∙◌, sym}
use Rattle.codeco_labels.proofs.TableLemmas.{fit_refused, fit_then}
use Rattle.codeco_labels.proofs.kind_table.KindTable.fit.Goals as goal

pub returns-then-not-restrict : goal.returns-then-not-restrict
returns-then-not-restrict c =
    fit_refused c.args.self.now c.restrict.new.self c.args.row.now c.args.head c.args.shape.now c.of_heads.result c.restrict.result
    (sym c.fits.ensures ∙ c.if-not-fits.false) c.of_heads.ensures c.if-not-restrict.true c.restrict.ensures

pub returns : goal.returns
returns c =
    fit_then c.args.self.now c.restrict.new.self c.fit_children.new.self c.args.row.now c.args.head c.args.shape.now c.of_heads.result c.restrict.result
    c.fit_children.result
    (sym c.fits.ensures ∙ c.if-not-fits.false) c.of_heads.ensures c.if-not-restrict.false c.restrict.ensures c.fit_children.ensures
