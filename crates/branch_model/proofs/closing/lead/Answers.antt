use Rattle.std.proofs.Common.{ap, sym, ◌∙◌, ◌==◌, ◌&&◌, ◌||◌, get_or}
use Rattle.std.specs.List.{list_any}
use Rattle.owl_eval.specs.Pairs.{is_paired}
use Rattle.branch_model.proofs.Closures.{stays, one_start_more}
use Rattle.branch_model.proofs.closing.lead.Goals as goal

pub returns-then-contains-clause-pairs : goal.returns-then-contains-clause-pairs
returns-then-contains-clause-pairs c a b =
    stays c.args.made.now.items c.args.from c.args.to c.requires.leads
    (sym (c.requires.knows (c.args.from, c.args.to)) ∙ (sym c.contains.ensures ∙ c.if-contains.true)) a b

pub loop-start-preserved : goal.loop-start-preserved
loop-start-preserved c =
    let starts = c.deref-start-items.result.now in
    let i = c.loop-start.start-index in
    let old = c.loop-start.made.items in (
      c.in_ok-join.ensures.knows,
      λ a b. one_start_more starts i 0 a c.loop-start-test.true
          (list_any (λ x. x == b) c.in_ok-ends.ends.items) (is_paired c.args.made.now.items a b) (is_paired old a b)
          (is_paired c.join.new.made.items a b) (c.loop-start.invariant.1 a b)
          (c.in_ok-join.ensures.pairs a b
          ∙ ap (λ xs. is_paired old a b || ((get_or starts i 0 == a) && list_any (λ x. x == b) xs)) c.deref-in-loop-start.ensures.value),
    )
