use Rattle.std.proofs.Common.{◌≡◌, ◌≤◌, length, take, rules, ap, ◌∙◌, subst}
use Rattle.derivation_trees.specs.Partial.{IsTypeable}
use Rattle.derivation_trees.specs.Sentences.{setting_of}
use Rattle.wiki_base.specs.declared.tokens.TheConstants.{MOST_TOKENS}
use Rattle.editor.proofs.EditingLemmas.{rebased_edited, front_by, front_typeable}
use Rattle.editor.proofs.editors.Editor.reread.Goals as goal

pub invariant_of-result : goal.invariant_of-result
invariant_of-result c =
    let few : length c.as_slice.result.now ≤ MOST_TOKENS = search (rules, c.self.invariant.few) in
    rebased_edited c.args.grammar.now c.args.lexicon.now c.as_slice.result.now _ few c.in_ok-chart.ensures.kept c.in_ok-chart.ensures.tokens

pub returns-clause-edited : goal.returns-clause-edited
returns-clause-edited c =
    let few : length c.as_slice.result.now ≤ MOST_TOKENS = search (rules, c.self.invariant.few) in
    rebased_edited c.args.grammar.now c.args.lexicon.now c.as_slice.result.now _ few c.in_ok-chart.ensures.kept c.in_ok-chart.ensures.tokens

pub extended-requires-clause-front : goal.extended-requires-clause-front
extended-requires-clause-front c =
    let tokens : c.self.inside.chart.tokens ≡ c.as_slice.result.now = search rules in
    front_by c.args.grammar.now c.args.lexicon.now c.self.inside.chart c.args.self.now c.in_ok-front.front c.self.view_is c.requires c.in_ok-front.ensures.front
    c.in_ok-front.ensures.kept ∙ ap (λ t. setting_of c.args.grammar.now c.args.lexicon.now (take (length c.in_ok-front.front.tokens) t)) tokens

pub extended-requires-clause-typeable : goal.extended-requires-clause-typeable
extended-requires-clause-typeable c =
    let tokens : c.self.inside.chart.tokens ≡ c.as_slice.result.now = search rules in
    subst (λ t. IsTypeable c.args.grammar.now c.args.lexicon.now (take (length c.in_ok-front.front.tokens) t)) tokens
    (front_typeable c.args.grammar.now c.args.lexicon.now c.self.inside.chart c.args.self.now c.in_ok-front.front c.self.view_is c.self.invariant c.requires
    c.in_ok-front.ensures.front c.in_ok-front.ensures.kept)
