use Rattle.std.proofs.Common.{ℕ, map}
use Rattle.codeco_text.specs.declared.written.WrittenTerm.{WrittenTerm}
use Rattle.codeco_numbering.specs.Numbered.{plain_feats}
use Rattle.codeco_numbering.proofs.Splits.{plain_split}
use Rattle.codeco_numbering.proofs.Turns.{turn}
use Rattle.codeco_numbering.proofs.tables.Tables.plain_feats.Goals as goal

pub loop-feature-preserved : goal.loop-feature-preserved
loop-feature-preserved c =
    let t = c.args.self.now in
    turn (λ fs. plain_feats t (map {B = ℕ × WrittenTerm} (λ f. (f.0, f.1.now)) fs))
    (λ f fs. plain_split t (f.0, f.1.now) (map {B = ℕ × WrittenTerm} (λ h. (h.0, h.1.now)) fs)) c.loop-feature.feats c.add_plain.new.feats
    (plain_feats t (map {B = ℕ × WrittenTerm} (λ f. (f.0, f.1.now)) c.args.list.now)) c.args.list.now c.loop-feature.feature-index
    c.loop-feature-item.result c.loop-feature-test.true c.loop-feature-item.is c.loop-feature.invariant c.in_ok-add_plain.ensures
