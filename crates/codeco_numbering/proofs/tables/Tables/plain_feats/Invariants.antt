use Rattle.std.proofs.Common.{◌≡◌, ℕ, ◌++◌, drop, map}
use Rattle.codeco_text.specs.declared.written.WrittenTerm.{WrittenTerm}
use Rattle.codeco_numbering.specs.Numbered.{plain_feats}
use Rattle.codeco_numbering.proofs.tables.Tables.plain_feats.Given as goal

abbrev pub invariant-loop-feature : goal.invariant-loop-feature
invariant-loop-feature l = l.feats ++ plain_feats l.self (map {B = ℕ × WrittenTerm} (λ f. (f.0, f.1.now)) (drop l.feature-index l.list))
    ≡ plain_feats l.self (map {B = ℕ × WrittenTerm} (λ f. (f.0, f.1.now)) l.list)
