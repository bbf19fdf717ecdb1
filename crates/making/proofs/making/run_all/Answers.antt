use Rattle.std.proofs.Common.{subst}
use Rattle.generator.specs.Requests.{word_requests}
use Rattle.making.specs.Making.{AddsUp}
use Rattle.making.proofs.MakingLemmas.{adds_up-append}
use Rattle.making.proofs.making.run_all.Goals as goal

pub returns : goal.returns
returns g c =
    adds_up-append g.W.Machine.Steps _ _ _ _ _ _ _ _
    (subst (λ s. AddsUp g.W.Machine.Steps c.args.machine.now word_requests s c.ask_words.new.machine c.in_ok-words.words) c.new-none.ensures
    c.in_ok-words.ensures)
    (adds_up-append g.W.Machine.Steps _ _ _ _ _ _ _ _ c.in_ok-sentences.ensures c.in_ok-all.ensures)
