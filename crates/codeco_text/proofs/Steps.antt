-- A step that goes on where a test holds.
use Rattle.std.proofs.Common.{◌≡◌, ℕ, ◌+◌, ◌≤◌, Bool, true, false, eqb, List, Option, Some, Result, Ok, refl, sym, ap, subst, ◌∙◌}
use Rattle.std.proofs.lemmas.Bool.{cond-false}
use Rattle.lists.specs.declared.memory.Memory.{Memory}
use Rattle.codeco_text.specs.declared.mode.Mode.{Mode}
use Rattle.codeco_text.specs.declared.mode.Mode.TheVariants as mode
use Rattle.codeco_text.specs.declared.builder.Builder.{Builder}
use Rattle.codeco_text.specs.Names.{is_terminal_byte}
use Rattle.codeco_text.specs.Building.{push}
use Rattle.codeco_text.specs.Scanning as scanning
use Rattle.codeco_text.specs.Scanner.{seen, StartsWithin, Steps}

guard_steps : (t : Bool) (b : Builder) (text : List ℕ) (next : ℕ) (m : Mode) (sm : scanning.Mode) → sm ≡ seen text next m → StartsWithin next m
    → Steps (scanning.guard t (b, sm)) text next (Ok (scanning.guard t m)) b
guard_steps true b text next m sm e within = (ap (λ (s : scanning.Mode). Some (b, s)) e, within)
guard_steps false b text next m sm e within = refl

-- a byte of a terminal other than its closing bracket
pub terminal_steps : (b : Builder) (text w : List ℕ) (byte start next : ℕ) (t : Bool) (r : Option Mode)
    → eqb byte 93 ≡ false → t ≡ is_terminal_byte byte → r ≡ scanning.guard t (mode.Terminal start)
    → scanning.terminal (push w byte) ≡ seen text next (mode.Terminal start) → start ≤ next
    → Steps (scanning.step b (scanning.terminal w) byte) text next (Ok r) b
terminal_steps b text w byte start next t r other test answer more within =
    let closed : Option (Builder × scanning.Mode) = scanning.if_terminal b w in
    let step : scanning.step b (scanning.terminal w) byte ≡ scanning.guard (is_terminal_byte byte) (b, scanning.terminal (push w byte)) =
    cond-false (eqb byte 93) closed (scanning.guard (is_terminal_byte byte) (b, scanning.terminal (push w byte))) other in
    let shown : r ≡ scanning.guard (is_terminal_byte byte) (mode.Terminal start) = answer ∙ ap (λ (v : Bool). scanning.guard v (mode.Terminal start)) test in
    let whole : Result (Option Mode) Memory = Ok r in
    subst (λ (o : Option (Builder × scanning.Mode)). Steps o text next (Ok r) b) (sym step)
    (subst (λ (v : Option Mode). Steps (scanning.guard (is_terminal_byte byte) (b, scanning.terminal (push w byte))) text next (Ok v) b) (sym shown)
    (guard_steps (is_terminal_byte byte) b text next (mode.Terminal start) (scanning.terminal (push w byte)) more within))
