use Rattle.std.proofs.Common.{◌++◌, List, ℕ}
use Rattle.std.specs.List.{flat_map}
use Rattle.codeco_terms.specs.declared.categories.Pattern.{Pattern}
use Rattle.codeco_checked.specs.Occurrences.{category_variables}
use Rattle.codeco_checked.specs.Faults.{taken_variables}
use Rattle.codeco_late_faults.proofs.MarkLemmas.{set_both, taken_first, taken_second}
use Rattle.codeco_late_faults.proofs.references.takes_plain.Goals as goal

plain_in : List Pattern → List ℕ
plain_in ps = flat_map (λ p. category_variables p.cat) ps

pub returns-then-takes_any : goal.returns-then-takes_any
unfolding plain_in
returns-then-takes_any c =
    let both = set_both 256 c.mark_patterns.new.plain c.mark_patterns-2.new.plain (plain_in c.args.patterns.now) (plain_in c.args.others.now)
    c.mark_patterns.ensures c.mark_patterns-2.ensures in
    taken_first (λ p. category_variables p.cat) taken_variables c.args.patterns.now c.args.others.now c.takes_any.result
    (c.takes_any.ensures (plain_in c.args.patterns.now ++ plain_in c.args.others.now) both) c.if-takes_any.true

pub returns-else-takes_any : goal.returns-else-takes_any
unfolding plain_in
returns-else-takes_any c =
    let both = set_both 256 c.mark_patterns.new.plain c.mark_patterns-2.new.plain (plain_in c.args.patterns.now) (plain_in c.args.others.now)
    c.mark_patterns.ensures c.mark_patterns-2.ensures in
    taken_second (λ p. category_variables p.cat) taken_variables c.args.patterns.now c.args.others.now c.takes_any-else-takes_any.result c.takes_any.result
    (c.takes_any.ensures (plain_in c.args.patterns.now ++ plain_in c.args.others.now) both) c.if-takes_any.false
    (c.takes_any-else-takes_any.ensures (plain_in c.args.patterns.now ++ plain_in c.args.others.now) both)
