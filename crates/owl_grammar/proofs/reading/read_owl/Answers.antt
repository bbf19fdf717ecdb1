-- The tokens of a text are read, and the grammar says what that means.
use Rattle.owl_grammar.proofs.reading.read_owl.Goals as goal
use Rattle.owl_grammar.proofs.Counts.{told}
use Rattle.owl_grammar.proofs.Found.{found}
use Rattle.owl_grammar.proofs.Stops.{fault_told}

pub returns : goal.returns
returns c =
    let reads = c.read_owl.ensures in
    let text = c.args.text.now in
    let result = c.read_owl.result in
    record { ok = found text result reads; only = told text result reads; fault = fault_told text result reads; reading = reads }
