use Rattle.std.proofs.Common.{◌≤◌, ltb, leb, rules}
use Rattle.std.proofs.lemmas.List.Sorted.{IsPartitionPoint-from_clause, IsPartitionedBy-ltb, IsPartitionedBy-leb}
use Rattle.owl_eval.proofs.Runs.{StartsAt, EndsAt, firsts_rise, starts_first, run_is_filter}
use Rattle.owl_eval.proofs.relation.run_of.Goals as goal
use Rattle.owl_eval.proofs.relation.run_of.Goals.{After-partition_point-end}

start_at : (c : After-partition_point-end) → StartsAt c.args.pairs.now c.args.first c.partition_point-start.result
start_at c =
    IsPartitionPoint-from_clause (λ p. ltb p.0 c.args.first) c.args.pairs.now _ c.partition_point-start.ensures.partitioned
    (IsPartitionedBy-ltb (λ p. p.0) c.args.pairs.now c.args.first (firsts_rise c.args.pairs.now c.requires))
    (λ a r f called. search rules)

end_at : (c : After-partition_point-end) → EndsAt c.args.pairs.now c.args.first c.partition_point-end.result
end_at c =
    IsPartitionPoint-from_clause (λ p. leb p.0 c.args.first) c.args.pairs.now _ c.partition_point-end.ensures.partitioned
    (IsPartitionedBy-leb (λ p. p.0) c.args.pairs.now c.args.first (firsts_rise c.args.pairs.now c.requires))
    (λ a r f called. search rules)

first_before : (c : After-partition_point-end) → c.partition_point-start.result ≤ c.partition_point-end.result
first_before c =
    starts_first c.args.first c.args.pairs.now c.partition_point-start.result c.partition_point-end.result c.partition_point-start.ensures.bound (start_at c)
    (end_at c)

pub slice_bounds-result-count : goal.slice_bounds-result-count
slice_bounds-result-count c = first_before (goal.at.slice_bounds-result-count c).After-partition_point-end

pub slice_bounds-result-start : goal.slice_bounds-result-start
slice_bounds-result-start c = search (rules, first_before (goal.at.slice_bounds-result-start c).After-partition_point-end)

pub returns : goal.returns
returns c =
    let d = (goal.at.returns c).After-partition_point-end in
    run_is_filter c.args.first c.args.pairs.now c.partition_point-start.result c.partition_point-end.result c.partition_point-start.ensures.bound
    c.partition_point-end.ensures.bound (start_at d) (end_at d)
