use Rattle.std.proofs.Common.{sym, ap, ◌∙◌, arith}
use Rattle.drs_build.specs.Meanings.{Meaning}
use Rattle.drs_build.proofs.NodeLemmas.{meaning_by, meaning_none, child_meant}
use Rattle.drs_build.proofs.meanings.+referents.Goals as goal

pub referent-returns-in-Some : goal.referent-returns-in-Some
referent-returns-in-Some t c = c.referent_by.ensures
    ∙ sym (ap (λ (m : Meaning). m.referent)
    (meaning_by c.args.text.now.grammar.now c.args.text.now.names.now c.args.node.now c.in-Some.label (sym c.in-Some.ensures)))

pub referent-returns-in-None : goal.referent-returns-in-None
referent-returns-in-None t c = sym (ap (λ (m : Meaning). m.referent)
    (meaning_none c.args.text.now.grammar.now c.args.text.now.names.now c.args.node.now (sym c.in-None.ensures)))

pub child_referent-referent-requires : goal.child_referent-referent-requires
child_referent-referent-requires t c = (omega (arith, c.in-Some.ensures.smaller), c.in-Some.ensures.in_order c.requires)

pub child_referent-returns-in-Some : goal.child_referent-returns-in-Some
child_referent-returns-in-Some t c = c.referent.ensures
    ∙ ap (λ (m : Meaning). m.referent) (child_meant c.args.text.now.grammar.now c.args.text.now.names.now c.args.node.now c.args.number c.in-Some.child.now
    c.in-Some.ensures.is)
