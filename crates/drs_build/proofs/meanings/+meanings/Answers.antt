use Rattle.std.proofs.Common.{◌≡◌, IfOk, sym, ap, subst, ◌∙◌, arith}
use Rattle.drs_build.specs.Meanings.{Meaning}
use Rattle.drs_build.specs.Made.{structure_in}
use Rattle.drs_build.proofs.NodeLemmas.{meaning_by, meaning_none, child_meant}
use Rattle.drs_build.proofs.meanings.+meanings.Goals as goal

pub says-returns-in-Some : goal.says-returns-in-Some
says-returns-in-Some t c =
    let P : Meaning → Type 0 = λ m. IfOk c.says_by.result (λ parts. structure_in parts ≡ m.says) in
    subst P (sym (meaning_by c.args.text.now.grammar.now c.args.text.now.names.now c.args.node.now c.in-Some.label (sym c.in-Some.ensures))) c.says_by.ensures

pub says-returns-in-None : goal.says-returns-in-None
says-returns-in-None t c = c.empty.ensures
    ∙ sym (ap (λ (m : Meaning). m.says) (meaning_none c.args.text.now.grammar.now c.args.text.now.names.now c.args.node.now (sym c.in-None.ensures)))

pub on-returns-in-Some : goal.on-returns-in-Some
on-returns-in-Some t c =
    let P : Meaning → Type 0 = λ m. IfOk c.on_by.result (λ parts. structure_in parts ≡ m.on c.args.term) in
    subst P (sym (meaning_by c.args.text.now.grammar.now c.args.text.now.names.now c.args.node.now c.in-Some.label (sym c.in-Some.ensures))) c.on_by.ensures

pub on-returns-in-None : goal.on-returns-in-None
on-returns-in-None t c = c.empty.ensures
    ∙ sym (ap (λ (m : Meaning). m.on c.args.term) (meaning_none c.args.text.now.grammar.now c.args.text.now.names.now c.args.node.now (sym c.in-None.ensures)))

pub around-returns-in-Some : goal.around-returns-in-Some
around-returns-in-Some t c =
    let P : Meaning → Type 0 = λ m. IfOk c.around_by.result (λ parts. structure_in parts ≡ m.around (structure_in c.args.inner)) in
    subst P (sym (meaning_by c.args.text.now.grammar.now c.args.text.now.names.now c.args.node.now c.in-Some.label (sym c.in-Some.ensures))) c.around_by.ensures

pub around-returns-in-None : goal.around-returns-in-None
around-returns-in-None t c = sym (ap (λ (m : Meaning). m.around (structure_in c.args.inner))
    (meaning_none c.args.text.now.grammar.now c.args.text.now.names.now c.args.node.now (sym c.in-None.ensures)))

pub child_says-says-requires : goal.child_says-says-requires
child_says-says-requires t c = (omega (arith, c.in-Some.ensures.smaller), c.in-Some.ensures.in_order c.requires)

pub child_says-returns-in-Some : goal.child_says-returns-in-Some
child_says-returns-in-Some t c =
    let P : Meaning → Type 0 = λ m. IfOk c.says.result (λ parts. structure_in parts ≡ m.says) in
    subst P (child_meant c.args.text.now.grammar.now c.args.text.now.names.now c.args.node.now c.args.number c.in-Some.child.now c.in-Some.ensures.is)
    c.says.ensures

pub child_on-on-requires : goal.child_on-on-requires
child_on-on-requires t c = (omega (arith, c.in-Some.ensures.smaller), c.in-Some.ensures.in_order c.requires)

pub child_on-returns-in-Some : goal.child_on-returns-in-Some
child_on-returns-in-Some t c =
    let P : Meaning → Type 0 = λ m. IfOk c.on.result (λ parts. structure_in parts ≡ m.on c.args.term) in
    subst P (child_meant c.args.text.now.grammar.now c.args.text.now.names.now c.args.node.now c.args.number c.in-Some.child.now c.in-Some.ensures.is)
    c.on.ensures

pub child_around-around-requires : goal.child_around-around-requires
child_around-around-requires t c = (omega (arith, c.in-Some.ensures.smaller), c.in-Some.ensures.in_order c.requires)

pub child_around-returns-in-Some : goal.child_around-returns-in-Some
child_around-returns-in-Some t c =
    let P : Meaning → Type 0 = λ m. IfOk c.around.result (λ parts. structure_in parts ≡ m.around (structure_in c.args.inner)) in
    subst P (child_meant c.args.text.now.grammar.now c.args.text.now.names.now c.args.node.now c.args.number c.in-Some.child.now c.in-Some.ensures.is)
    c.around.ensures
