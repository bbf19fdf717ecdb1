use Rattle.std.proofs.Common.{◌≤◌, length, rules}
use Rattle.wiki_base.specs.declared.tokens.TheConstants.{MOST_TOKENS}
use Rattle.editor.proofs.EditingLemmas.{rebased_edited}
use Rattle.editor.proofs.editors.Editor.rebase.Goals as goal

pub invariant_of-result : goal.invariant_of-result
invariant_of-result c =
    let few : length c.as_slice.result.now ≤ MOST_TOKENS = search (rules, c.self.invariant.few) in
    rebased_edited c.args.grammar.now c.args.lexicon.now c.as_slice.result.now _ few c.in_ok-chart.ensures.kept c.in_ok-chart.ensures.tokens

pub returns-clause-edited : goal.returns-clause-edited
returns-clause-edited c =
    let few : length c.as_slice.result.now ≤ MOST_TOKENS = search (rules, c.self.invariant.few) in
    rebased_edited c.args.grammar.now c.args.lexicon.now c.as_slice.result.now _ few c.in_ok-chart.ensures.kept c.in_ok-chart.ensures.tokens
