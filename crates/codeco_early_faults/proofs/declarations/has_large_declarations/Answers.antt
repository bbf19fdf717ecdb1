use Rattle.std.proofs.Common.{ltb, ◌||◌, sym, ap, ◌∙◌}
use Rattle.std.proofs.lemmas.Bool.{lt-ltb, le-ltb}
use Rattle.codeco_checked.specs.Faults.{count_texts}
use Rattle.codeco_early_faults.specs.Early.{declared_names, declared_atoms}
use Rattle.codeco_early_faults.proofs.Numbers.{is_count}
use Rattle.codeco_early_faults.proofs.declarations.has_large_declarations.Goals.{then-len-gt-MOST_FEATURES, else-len-gt-MOST_FEATURES}
use Rattle.codeco_early_faults.proofs.declarations.has_large_declarations.Goals as goal

pub returns : goal.returns
returns c =
    let items = c.args.items.now in
    let names = is_count c.len.result c.in_ok-names.names (declared_names items) c.len.ensures c.in_ok-names.ensures in
    let atoms = ltb 10000 (count_texts (declared_atoms items)) in
    elim c.if-len-gt-MOST_FEATURES.branch [
      | then-len-gt-MOST_FEATURES w ↦
          w.result-is ∙ lt-ltb 1000 c.len.result w.if-len-gt-MOST_FEATURES.true
          ∙ sym (ap (λ b. b || atoms) (ap (ltb 1000) (sym names) ∙ lt-ltb 1000 c.len.result w.if-len-gt-MOST_FEATURES.true))
      | else-len-gt-MOST_FEATURES w ↦
          w.result-is
          ∙ ap (ltb 10000) (is_count w.len-else-len-gt-MOST_FEATURES.result c.in_ok-atoms.atoms (declared_atoms items) w.len-else-len-gt-MOST_FEATURES.ensures
          c.in_ok-atoms.ensures)
          ∙ sym (ap (λ b. b || atoms) (ap (ltb 1000) (sym names) ∙ le-ltb 1000 c.len.result w.if-len-gt-MOST_FEATURES.false))
    ]
