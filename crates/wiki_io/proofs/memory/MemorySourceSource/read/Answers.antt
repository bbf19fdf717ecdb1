use Rattle.std.proofs.Common.{sym, ◌∙◌, ap, arith, ◌+◌, ◌-◌, ◌≤◌, ◌≡◌, length, take, drop}
use Rattle.wiki_io.specs.Memory.{Held}
use Rattle.wiki_io.proofs.KnownLemmas.{read_part}
use Rattle.wiki_io.proofs.memory.MemorySourceSource.read.Goals as goal

pub returns-clause-bytes : goal.returns-clause-bytes
returns-clause-bytes c =
    let bytes = c.self.inside.bytes.items in
    let at = c.self.inside.at in
    let n = c.min-size.result in
    let size = c.self.inside.bytes.ok.0 in
    let copied : c.copy_from_slice.new.self ≡ take ((at + n) - at) (drop at bytes) =
    c.copy_from_slice.ensures.after ∙ ap (λ l. take ((at + n) - at) (drop at l)) c.deref-2.ensures.value in
    let fits : at + n ≤ length bytes = omega (arith, size) in
    ap (λ (held : Held). held.bytes) (sym c.self.view_is) ∙ (read_part bytes _ _ at n copied fits)
