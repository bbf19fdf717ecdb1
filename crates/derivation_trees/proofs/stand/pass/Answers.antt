use Rattle.std.proofs.Common.{◌≡◌, Some, ap, ◌∙◌, sym}
use Rattle.std.proofs.lemmas.Result.{IfOk-weaker}
use Rattle.derivation_trees.specs.Derives as derives
use Rattle.derivation_trees.specs.Stands.{stand_of}
use Rattle.derivation_trees.proofs.stand.pass.Goals as goal

pub returns-in_ok-opened-in-Opener : goal.returns-in_ok-opened-in-Opener
returns-in_ok-opened-in-Opener c = λ children.
    ap Some (c.in_ok-opened-in-Opener.ensures children)
    ∙ ap (λ e. derives.pass c.args.setting.now c.args.values.now e (stand_of children c.args.stand)) (sym c.in-Opener.is)

pub returns-in_ok-introduced-in-Forward : goal.returns-in_ok-introduced-in-Forward
returns-in_ok-introduced-in-Forward c = λ children.
    ap Some (c.in_ok-introduced-in-Forward.ensures children)
    ∙ ap (λ e. derives.pass c.args.setting.now c.args.values.now e (stand_of children c.args.stand)) (sym c.in-Forward.is)

pub returns-in_ok-introduced-in-Strong : goal.returns-in_ok-introduced-in-Strong
returns-in_ok-introduced-in-Strong c = λ children.
    ap Some (c.in_ok-introduced-in-Strong.ensures children)
    ∙ ap (λ e. derives.pass c.args.setting.now c.args.values.now e (stand_of children c.args.stand)) (sym c.in-Strong.is)

pub returns-in-Back : goal.returns-in-Back
returns-in-Back c =
    IfOk-weaker c.refer_back.result _ _ (λ o h children. h children
    ∙ ap (λ e. derives.pass c.args.setting.now c.args.values.now e (stand_of children c.args.stand)) (sym c.in-Back.is)) c.refer_back.ensures
