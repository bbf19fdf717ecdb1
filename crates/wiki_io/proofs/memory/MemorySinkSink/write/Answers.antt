use Rattle.std.proofs.Common.{◌≡◌, ◌∙◌, false, eqb, ap, ℕ, List, sym}
use Rattle.std.proofs.lemmas.Bool.{false≢true}
use Rattle.std.specs.List.{list_any}
use Rattle.wiki_io.specs.Memory.{Held, is_to_fail}
use Rattle.wiki_io.proofs.memory.MemorySinkSink.write.Goals as goal

pub returns-clause-to_fail : goal.returns-clause-to_fail
returns-clause-to_fail c = λ is.
    let number = c.saturating_add-self-inside.result in
    let not_listed : is_to_fail c.args.self.now ≡ false =
    ap (λ (held : Held). is_to_fail held) (sym c.self.view_is)
    ∙ ap (λ (n : ℕ). list_any (λ k. eqb k n) c.self.inside.fails.items) (sym c.saturating_add-self-inside.ensures)
    ∙ ap (λ (numbers : List ℕ). list_any (λ k. eqb k number) numbers) (sym c.deref.ensures.value) ∙ sym c.if-contains.ensures.value in
    absurd (false≢true (sym not_listed ∙ is))
