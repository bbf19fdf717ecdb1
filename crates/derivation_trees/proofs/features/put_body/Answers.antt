use Rattle.std.proofs.Common.{◌≡◌, [], ◌∷◌, ◌++◌, ◌∙◌, arith, rules}
use Rattle.std.specs.List.{flat_map}
use Rattle.std.proofs.lemmas.Grind.{flat_map-append}
use Rattle.codeco_checked.specs.Occurrences.{mentions}
use Rattle.derivation_trees.specs.Putting.{features_in}
use Rattle.derivation_trees.proofs.PutLemmas.{put_step}
use Rattle.derivation_trees.proofs.features.put_body.Goals as goal

pub loop-element-preserved : goal.loop-element-preserved
loop-element-preserved c =
    put_step (λ e. flat_map (features_in c.args.name) (mentions e)) (λ es. flat_map (features_in c.args.name) (flat_map mentions es))
    (λ x ys. flat_map-append (features_in c.args.name) (mentions x) (flat_map mentions ys)) c.args.body.now c.loop-element.element-index
    c.element-item.result c.loop-element.features.items c.put_element.new.features.items _ (omega arith) c.element-item.is (search rules)
    c.loop-element.invariant
