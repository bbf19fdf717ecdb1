use Rattle.std.proofs.Common.{◌≡◌, List, ℕ, Some, sym, ap, ◌∙◌}
use Rattle.command_line.specs.Command.{given_by, with_option}
use Rattle.command_line.proofs.OptionLemmas.{options_step}
use Rattle.command_line.proofs.options.Options.from_words.Goals as goal

pub words-preserved : goal.words-preserved
words-preserved c =
    let given = given_by c.words.given in
    let name = c.in-Some.name.now in
    let value = c.in_ok-value.value.now in
    let is : with_option given name value ≡ Some (given_by c.in_ok-given.given) =
    ap (λ (n : List ℕ). with_option given n value) (sym c.as_slice.ensures)
    ∙ ap (λ (v : List ℕ). with_option given c.as_slice.result.now v) (sym c.as_slice-in-Some.ensures)
    ∙ sym c.in_ok-given.ensures in
    options_step given (given_by c.in_ok-given.given) c.words.rest.now c.in-Some.behind.now c.in_ok-value.others.now name value _ c.in-Some.ensures.cases.0
    c.in_ok-value.ensures.cases.0 is c.words.invariant
