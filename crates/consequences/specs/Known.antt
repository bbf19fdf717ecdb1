-- What a contract sees of consequences.
use Rattle.logic_terms.specs.Known.{theory_of}
use Rattle.logic_terms.specs.Theory.{Theory}
use Rattle.consequences.specs.declared.known.Consequences.{Consequences}

-- the knowledge that they are the consequences of
abbrev pub theory_in : Consequences → Theory
theory_in c = theory_of c.k
