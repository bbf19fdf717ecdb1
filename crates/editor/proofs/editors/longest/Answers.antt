use Rattle.editor.proofs.EditingLemmas.{nothing_front, nothing_first}
use Rattle.editor.proofs.editors.longest.Goals as goal

pub extended-requires-clause-front : goal.extended-requires-clause-front
extended-requires-clause-front c = nothing_front c.args.grammar.now c.args.lexicon.now c.args.tokens.now c.in_ok-chart.chart c.in_ok-chart.ensures

pub extended-requires-clause-typeable : goal.extended-requires-clause-typeable
extended-requires-clause-typeable c = nothing_first c.args.grammar.now c.args.lexicon.now c.args.tokens.now c.in_ok-chart.chart c.grammar.ensures.sound
    c.in_ok-chart.ensures
