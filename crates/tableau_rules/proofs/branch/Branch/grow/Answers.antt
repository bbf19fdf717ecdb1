use Rattle.std.proofs.Common.{◌<◌, length, arith}
use Rattle.wiki_base.proofs.OptionLaws.{OnErr_any}
use Rattle.logic_terms.specs.Shown.{concepts_of}
use Rattle.tableau_rules.proofs.Growing.{grows, stays}
use Rattle.tableau_rules.proofs.branch.Branch.grow.Goals as goal

pub returns-in_ok-append-clause-ok : goal.returns-in_ok-append-clause-ok
returns-in_ok-append-clause-ok c =
    let longer = c.in_ok-append.ensures {u = tt} in
    let lt : c.args.node < length c.args.self.now.nodes.items = omega (arith, c.len.ensures, c.if-place-len.true, c.args.self.now.nodes.ok.0) in
    grows c.args.self.now.nodes.items c.args.self.now.edges c.args.node c.index_mut-found.result.now c.append.new.self (concepts_of c.args.more) lt
    c.index_mut-found.ensures.value longer.ok

pub returns-in_err-append-clause-err : goal.returns-in_err-append-clause-err
returns-in_err-append-clause-err c =
    let same = c.in_err-append.ensures {u = tt} in
    OnErr_any c.from_residual.result (stays c.args.self.now.nodes.items c.args.self.now.edges c.args.node c.index_mut-found.result.now c.append.new.self
    c.index_mut-found.ensures.value same.err)
