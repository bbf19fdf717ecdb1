use Rattle.std.proofs.Common.{◌≡◌, ◌+◌, ◌*◌, [], ◌∷◌, ◌++◌, take, map}
use Rattle.derivations.specs.Enumeration as enumeration
use Rattle.derivations.specs.Paths.{path_of, outcome_of}
use Rattle.derivations.proofs.listing.push_ends.Given as goal

abbrev pub invariant-loop-path : goal.invariant-loop-path
invariant-loop-path l =
    map outcome_of l.out ≡ map outcome_of l.initial.out
    ++ map (enumeration.ended_path l.numbered.number l.numbered.rule.now l.values l.begun) (map path_of (take l.path-index l.paths))
