use Rattle.std.proofs.Common.{ℕ, map}
use Rattle.codeco_text.specs.declared.written.WrittenTerm.{WrittenTerm}
use Rattle.codeco_numbering.specs.Numbered.{taken_feats}
use Rattle.codeco_numbering.proofs.Splits.{taken_split}
use Rattle.codeco_numbering.proofs.Turns.{turn}
use Rattle.codeco_numbering.proofs.tables.Tables.taken_feats.Goals as goal

pub loop-feature-preserved : goal.loop-feature-preserved
loop-feature-preserved c =
    let t = c.args.self.now in
    turn (λ fs. taken_feats t (map {B = ℕ × WrittenTerm} (λ f. (f.0, f.1.now)) fs))
    (λ f fs. taken_split t (f.0, f.1.now) (map {B = ℕ × WrittenTerm} (λ h. (h.0, h.1.now)) fs)) c.loop-feature.takes c.add_taken.new.takes
    (taken_feats t (map {B = ℕ × WrittenTerm} (λ f. (f.0, f.1.now)) c.args.list.now)) c.args.list.now c.loop-feature.feature-index
    c.loop-feature-item.result c.loop-feature-test.true c.loop-feature-item.is c.loop-feature.invariant c.in_ok-add_taken.ensures
