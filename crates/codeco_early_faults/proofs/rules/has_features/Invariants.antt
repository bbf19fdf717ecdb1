use Rattle.std.proofs.Common.{◌≡◌, drop, map}
use Rattle.std.specs.List.{list_all}
use Rattle.codeco_text.specs.Names.{is_among}
use Rattle.codeco_early_faults.proofs.rules.has_features.Given as goal

abbrev pub invariant-loop-feat : goal.invariant-loop-feat
invariant-loop-feat l = list_all (is_among l.names) (map (λ f. f.name) (drop l.feat-index l.feat-items))
    ≡ list_all (is_among l.names) (map (λ f. f.name) l.feat-items)
