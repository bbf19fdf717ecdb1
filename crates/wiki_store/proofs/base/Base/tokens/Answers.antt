use Rattle.std.proofs.Common.{◌≡◌, ◌≤◌, ℕ, List, length, ap, subst, ◌∙◌, arith}
use Rattle.derivation_trees.specs.Cutting.{cut_of, IsCut}
use Rattle.derivation_trees.specs.declared.cuts.Cut.{Cut}
use Rattle.wiki_parts.specs.Holding.{Holding}
use Rattle.wiki_store.proofs.base.Base.tokens.Goals as goal

pub returns-in-Tokens-clause-absent : goal.returns-in-Tokens-clause-absent
returns-in-Tokens-clause-absent c refusal full =
    let cut = subst (λ (made : Cut). IsCut (cut_of c.grammar.result.now.terminals c.as_str.result.now) made) c.in-Tokens.is c.in_ok-cut.ensures in
    let same : cut_of c.grammar.result.now.terminals c.as_str.result.now ≡ cut_of c.args.self.now.state.grammar.terminals c.args.text.now =
    ap (λ g. cut_of g.terminals c.as_str.result.now) c.grammar.ensures.grammar
    ∙ ap (λ (h : Holding). cut_of h.state.grammar.terminals c.as_str.result.now) c.self.view_is
    ∙ ap (λ (t : List ℕ). cut_of c.args.self.now.state.grammar.terminals t) c.as_str.ensures.value in
    let few : length (cut_of c.args.self.now.state.grammar.terminals c.args.text.now) ≤ 40 =
    subst (λ (ts : List (List ℕ)). length ts ≤ 40) same cut.1 in
    let many = full.0 in
    absurd (omega (arith, few, many))
