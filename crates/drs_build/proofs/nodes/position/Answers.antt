use Rattle.std.proofs.Common.{map, ap, ◌∙◌}
use Rattle.derivation_trees.specs.declared.skeletons.Skeleton.{out-Skeleton}
use Rattle.derivation_trees.specs.Sketches.{body_of}
use Rattle.drs_build.specs.Order.{leads, span_of}
use Rattle.drs_build.proofs.OrderLemmas.{body_leads}
use Rattle.drs_build.proofs.nodes.position.Goals as goal

pub introduced_at-requires : goal.introduced_at-requires
introduced_at-requires c =
    let sk = c.args.skeleton.now in
    ap (λ es. leads es (out-Skeleton sk).start (map span_of c.as_slice.result.now) (out-Skeleton sk).end) c.body_of.ensures
    ∙ ap (λ ks. leads (body_of c.args.grammar.now (out-Skeleton sk).rule) (out-Skeleton sk).start (map span_of ks) (out-Skeleton sk).end) c.as_slice.ensures
    ∙ body_leads c.args.grammar.now c.args.skeleton.now c.requires
