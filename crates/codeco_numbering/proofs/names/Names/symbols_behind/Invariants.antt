use Rattle.std.proofs.Common.{◌≡◌, ◌++◌, take, map}
use Rattle.codeco_numbering.proofs.names.Names.symbols_behind.Given as goal

abbrev pub invariant-loop-name : goal.invariant-loop-name
invariant-loop-name l = l.symbols ≡ l.initial.symbols ++ map (λ v. v.items) (take l.name-index l.name-items)
