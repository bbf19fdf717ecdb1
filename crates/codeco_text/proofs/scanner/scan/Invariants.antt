use Rattle.std.proofs.Common.{◌≡◌, drop}
use Rattle.codeco_text.specs.Scanning.{reading, fresh, between}
use Rattle.codeco_text.specs.Scanner.{seen, StartsWithin}
use Rattle.codeco_text.proofs.scanner.scan.Given as goal

abbrev pub invariant-loop-at : goal.invariant-loop-at
invariant-loop-at l = (reading l.builder (seen l.text l.at l.mode) (drop l.at l.text) l.at ≡ reading fresh between l.text 0) × StartsWithin l.at l.mode
