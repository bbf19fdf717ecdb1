use Rattle.std.proofs.Common.{◌≡◌, [], ap, ◌∙◌, sym}
use Rattle.std.specs.Prelude.{option_map}
use Rattle.derivation_trees.specs.Stands.{stand_of}
use Rattle.derivation_trees.proofs.StandLemmas.{pass_begins}
use Rattle.derivation_trees.proofs.derive.plain_step.Goals as goal

pub returns-in-Some-clause-grows : goal.returns-in-Some-clause-grows
returns-in-Some-clause-grows c =
    pass_begins c.args.setting.now c.as_slice.result.now c.args.element.now (stand_of [] c.args.stand) (stand_of [] c.in-Some.next) c.requires.plain
    (sym (ap (option_map (stand_of [])) c.in-Some.is) ∙ c.in_ok-pass.ensures [])
