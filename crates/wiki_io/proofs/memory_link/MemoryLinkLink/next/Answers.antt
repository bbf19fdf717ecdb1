use Rattle.std.proofs.Common.{◌≡◌, ◌∙◌, false, eqb, ap, ℕ, List, sym}
use Rattle.std.proofs.lemmas.Bool.{false≢true}
use Rattle.std.specs.List.{list_any}
use Rattle.wiki_io.specs.MemoryLink.{HeldLink, fails_next}
use Rattle.wiki_io.proofs.memory_link.MemoryLinkLink.next.Goals as goal

pub returns-in-Ok-clause-to_fail : goal.returns-in-Ok-clause-to_fail
returns-in-Ok-clause-to_fail c = λ is.
    let number = c.saturating_add-self-inside.result in
    let not_listed : fails_next c.args.self.now.nexts c.args.self.now.next_fails ≡ false =
    ap (λ (held : HeldLink). fails_next held.nexts held.next_fails) (sym c.self.view_is)
    ∙ ap (λ (n : ℕ). list_any (λ k. eqb k n) c.self.inside.fails.next.items) (sym c.saturating_add-self-inside.ensures)
    ∙ ap (λ (numbers : List ℕ). list_any (λ k. eqb k number) numbers) (sym c.deref.ensures.value) ∙ sym c.if-contains.ensures.value in
    absurd (false≢true (sym not_listed ∙ is))
