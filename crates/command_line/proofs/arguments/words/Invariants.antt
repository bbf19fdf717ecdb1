use Rattle.std.proofs.Common.{◌≡◌, IfSome, take}
use Rattle.command_line.proofs.arguments.words.Given as goal

-- the words so far, where the command line tells them
abbrev pub invariant-loop-place : goal.invariant-loop-place
invariant-loop-place g l = IfSome (g.C.CommandLine.words l.line) (λ told. l.words.items ≡ take l.place told)
