use Rattle.std.specs.Prelude.{◌≡◌, ◌++◌, map, take}
use Rattle.owl_file.specs.Written.{declaration, text_of}
use Rattle.owl_file.proofs.writing.put_declarations.Given as goal

abbrev pub invariant-loop-place : goal.invariant-loop-place
invariant-loop-place l = l.out ≡ l.fn.out ++ text_of (map declaration (take l.place l.lexicon.live))
