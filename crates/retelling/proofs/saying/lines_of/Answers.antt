use Rattle.logic_terms.specs.Shown.{claim_of, claims_of}
use Rattle.retelling.proofs.SayLemmas.{lines_more, no_lines}
use Rattle.retelling.proofs.saying.lines_of.Goals as goal

pub loop-place-init : goal.loop-place-init
loop-place-init c = no_lines _ _ _ c.new-lines.ensures

pub loop-place-preserved : goal.loop-place-preserved
loop-place-preserved c =
    lines_more c.args.grammar.now c.args.words.now (claims_of c.args.axioms.now) c.loop-place.place c.loop-place.lines (claim_of c.get.result.now)
    c.in_ok-text.text c.push_line.new.lines c.loop-place.invariant c.get.ensures c.in_ok-text.ensures c.in_ok-push_line.ensures
