use Rattle.std.proofs.Common.{◌≡◌, ◌+◌, ◌++◌, [], take, drop, sym, ap, subst, ◌∙◌, arith}
use Rattle.std.proofs.lemmas.Bool.{false≢true}
use Rattle.std.proofs.lemmas.List.{take-append-drop}
use Rattle.std.proofs.lemmas.List.Elements.{All-append, All-take, All-drop}
use Rattle.logic_terms.specs.Reading.{Holds, IsModel}
use Rattle.wiki_store.specs.Putting.{known_with, known_beside}
use Rattle.wiki_store.proofs.standing.model_without.Goals as goal

pub returns-then-gone-eq0-clause-claims : goal.returns-then-gone-eq0-clause-claims
returns-then-gone-eq0-clause-claims c =
    let known = known_with c.args.stretch.now in
    let gone = c.span_of-gone.result in
    let none : gone.first + gone.count ≡ gone.first = omega (arith, c.if-gone-eq0.true) in
    c.requires.known
    ∙ sym (c.span_of-gone.ensures.around [] ∙ ap (λ n. take gone.first known ++ drop n known) none ∙ take-append-drop gone.first known)

pub unreachable-requires : goal.unreachable-requires
unreachable-requires c =
    let i = c.interp.result.now in
    let known = known_with c.args.stretch.now in
    let gone = c.span_of-gone.result in
    let model = subst (IsModel i) c.requires.known c.interp.ensures.model in
    let fewer : IsModel i (known_beside c.args.stretch.now []) =
    subst (IsModel i) (sym (c.span_of-gone.ensures.around []))
    (All-append (Holds i) (take gone.first known) (drop (gone.first + gone.count) known) (All-take (Holds i) gone.first known model)
    (All-drop (Holds i) (gone.first + gone.count) known model)) in
    absurd (false≢true (c.in-Err.ensures.accepts.1 (rw (c.in_ok-known.ensures, c.new.ensures, c.in_ok-copy.ensures) fewer)))
