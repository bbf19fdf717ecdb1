use Rattle.std.proofs.Common.{◌≡◌, drop}
use Rattle.owl_reader.specs.Grammar.{construct_among}
use Rattle.owl_reader.proofs.keywords.construct_among.Given as goal

-- what is left decides
abbrev pub invariant-loop-construct : goal.invariant-loop-construct
invariant-loop-construct l = construct_among (drop l.construct-index l.constructs) l.word ≡ construct_among l.constructs l.word
