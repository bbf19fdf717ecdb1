use Rattle.std.proofs.Common.{◌∙◌, ◌++◌, ap, codes}
use Rattle.owl_file.specs.Written.{declaration}
use Rattle.owl_file.proofs.WritingLemmas.{line_more}
use Rattle.owl_file.proofs.writing.put_declarations.Goals as goal

pub loop-place-preserved : goal.loop-place-preserved
loop-place-preserved c =
    c.in_ok-put_declared.ensures
    ∙ ap (λ before. before ++ (declaration c.get.result.now ++ codes "\n")) c.loop-place.invariant
    ∙ line_more declaration c.args.lexicon.now.live c.loop-place.place c.get.result.now c.args.out.now c.get.ensures
