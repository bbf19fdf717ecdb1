use Rattle.std.proofs.Common.{sym, ap, ◌∙◌, arith}
use Rattle.drs_build.specs.Meanings.{Meaning}
use Rattle.drs_build.proofs.NodeLemmas.{meaning_by, meaning_none, child_meant}
use Rattle.drs_build.proofs.meanings.+terms.Goals as goal

pub term-returns-in-Some : goal.term-returns-in-Some
term-returns-in-Some t c = c.term_by.ensures
    ∙ sym (ap (λ (m : Meaning). m.term) (meaning_by c.args.text.now.grammar.now c.args.text.now.names.now c.args.node.now c.in-Some.label
    (sym c.in-Some.ensures)))

pub term-returns-in-None : goal.term-returns-in-None
term-returns-in-None t c = sym (ap (λ (m : Meaning). m.term)
    (meaning_none c.args.text.now.grammar.now c.args.text.now.names.now c.args.node.now (sym c.in-None.ensures)))

pub child_term-term-requires : goal.child_term-term-requires
child_term-term-requires t c = (omega (arith, c.in-Some.ensures.smaller), c.in-Some.ensures.in_order c.requires)

pub child_term-returns-in-Some : goal.child_term-returns-in-Some
child_term-returns-in-Some t c = c.term.ensures
    ∙ ap (λ (m : Meaning). m.term) (child_meant c.args.text.now.grammar.now c.args.text.now.names.now c.args.node.now c.args.number c.in-Some.child.now
    c.in-Some.ensures.is)
