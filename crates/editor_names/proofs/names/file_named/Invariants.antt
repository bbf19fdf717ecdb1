use Rattle.std.proofs.Common.{◌≡◌, drop, find}
use Rattle.std.specs.Str.{bytes_eq}
use Rattle.editor_names.specs.Names.{name_of, files}
use Rattle.editor_names.proofs.names.file_named.Given as goal

-- the files that are left decide
abbrev pub invariant-loop-file : goal.invariant-loop-file
invariant-loop-file l = find (λ file. bytes_eq l.name (name_of file)) (drop l.file-index files) ≡ find (λ file. bytes_eq l.name (name_of file)) files
