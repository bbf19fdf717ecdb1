use Rattle.std.proofs.Common.{◌≡◌, ◌&&◌, ltb, true, false, sym, ◌∙◌, arith}
use Rattle.std.specs.List.{list_all}
use Rattle.std.proofs.lemmas.Grind.{common_steps}
use Rattle.owl_eval.proofs.Arranged.{list_all-lists_in}
use Rattle.owl_eval.proofs.interp.relations_fit.Goals as goal

pub returns-then-not-pairs_are_below : goal.returns-then-not-pairs_are_below
returns-then-not-pairs_are_below c =
    let each : false ≡ list_all (λ e. list_all (λ p. ltb p.0 c.args.size && ltb p.1 c.args.size) e.1.items) c.args.relations.now =
    grind (arith, common_steps) in
    each ∙ sym (list_all-lists_in (list_all (λ p. ltb p.0 c.args.size && ltb p.1 c.args.size)) c.args.relations.now)

pub returns : goal.returns
returns c =
    let each : true ≡ list_all (λ e. list_all (λ p. ltb p.0 c.args.size && ltb p.1 c.args.size) e.1.items) c.args.relations.now = grind (arith, common_steps) in
    each ∙ sym (list_all-lists_in (list_all (λ p. ltb p.0 c.args.size && ltb p.1 c.args.size)) c.args.relations.now)
