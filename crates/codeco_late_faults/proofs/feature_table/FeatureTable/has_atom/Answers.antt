use Rattle.std.proofs.Common.{◌∙◌, ap, rules}
use Rattle.std.proofs.lemmas.Bool.{le-ltb}
use Rattle.codeco_checked.specs.Numbering.{has, declared_atoms}
use Rattle.codeco_checked.specs.Faults.{values_of}
use Rattle.codeco_late_faults.proofs.TableLemmas.{has_at, has_past}
use Rattle.codeco_late_faults.proofs.feature_table.FeatureTable.has_atom.Goals as goal

pub returns-then-place-len : goal.returns-then-place-len
returns-then-place-len c =
    c.has.ensures ∙ has_at c.self.inside.grammar.now.features c.self.inside.sets.items c.args.feature c.args.atom c.index.result.now c.self.invariant.held
    (search rules) c.index.ensures ∙ ap (λ g. has (declared_atoms (values_of g c.args.feature)) c.args.atom) c.self.view_is

pub returns-else-place-len : goal.returns-else-place-len
returns-else-place-len c =
    le-ltb c.args.feature c.len.result c.if-place-len.false
    ∙ has_past c.self.inside.grammar.now.features c.self.inside.sets.items c.args.feature c.args.atom c.self.invariant.held (search rules)
    ∙ ap (λ g. has (declared_atoms (values_of g c.args.feature)) c.args.atom) c.self.view_is
