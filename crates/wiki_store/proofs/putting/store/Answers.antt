use Rattle.std.proofs.Common.{◌≡◌, ◌<◌, ◌≤◌, ℕ, List, length, set, Option, sym, ap, subst, ◌∙◌, arith}
use Rattle.std.specs.List.{slice_get, insert}
use Rattle.std.specs.Option.{IsSomeAnd}
use Rattle.std.proofs.lemmas.List.Edits.{length-insert}
use Rattle.std.proofs.lemmas.Option.{slice_get_within}
use Rattle.wiki_parts.specs.declared.meanings.Sense.{Sense}
use Rattle.wiki_store.specs.Putting.{spliced}
use Rattle.wiki_store.proofs.InsideLemmas.{item-is, set-there, undone}
use Rattle.wiki_store.proofs.JoiningLemmas.{some-there}
use Rattle.wiki_store.proofs.PutLemmas.{set-spliced, replaced-spliced}
use Rattle.wiki_store.proofs.putting.store.Goals as goal

pub returns-then-change-clause-articles : goal.returns-then-change-clause-articles
returns-then-change-clause-articles c =
    c.replace.ensures.articles
    ∙ replaced-spliced c.args.articles.now c.requires.in_order c.args.change.word c.args.change.from c.args.change.to
    (record { tokens = c.args.change.tokens; status = c.args.status }) (omega (arith, c.if-change.true, c.requires.narrow)) c.requires.place

pub returns-then-change-clause-senses : goal.returns-then-change-clause-senses
returns-then-change-clause-senses c = λ own meant.
    let within : c.args.change.to ≤ length own =
    subst (λ (o : Option (List Sense)). IsSomeAnd o (λ kept. c.args.change.to ≤ length kept)) meant c.requires.own in
    ap (λ (ms : List Sense). set c.args.senses.now.items c.args.place ms)
    (c.set.ensures
    ∙ ap (λ (ms : List Sense). set ms c.args.change.from c.args.change.sense)
    (item-is c.args.senses.now.items c.args.place c.index_mut.result.now own meant c.index_mut.ensures.value)
    ∙ set-spliced own c.args.change.from c.args.change.to c.args.change.sense (omega (arith, c.if-change.true, c.requires.narrow)) within)

pub index_mut-requires-2 : goal.index_mut-requires-2
index_mut-requires-2 c =
    let there = some-there (λ (own : List Sense). c.args.change.to ≤ length own) (slice_get c.args.senses.now.items c.args.place) c.requires.own in
    subst (λ (n : ℕ). c.args.place < n) (sym c.args.senses.now.ok.0) (slice_get_within c.args.senses.now.items c.args.place there.0 there.1)

pub insert-requires : goal.insert-requires
insert-requires c =
    let there = some-there (λ (own : List Sense). c.args.change.to ≤ length own) (slice_get c.args.senses.now.items c.args.place) c.requires.own in
    let long = ap length (item-is c.args.senses.now.items c.args.place c.index_mut-2.result.now there.0 there.1 c.index_mut-2.ensures.value) in
    omega (arith, long, there.2, c.requires.rises)

pub index_mut-requires-in-Err : goal.index_mut-requires-in-Err
index_mut-requires-in-Err c =
    let there = some-there (λ (own : List Sense). c.args.change.to ≤ length own) (slice_get c.args.senses.now.items c.args.place) c.requires.own in
    subst (λ (n : ℕ). c.args.place < n) (sym c.args.senses.now.ok.0) (slice_get_within c.args.senses.now.items c.args.place there.0 there.1)

pub remove-requires : goal.remove-requires
remove-requires c =
    let there = some-there (λ (own : List Sense). c.args.change.to ≤ length own) (slice_get c.args.senses.now.items c.args.place) c.requires.own in
    let whole =
    item-is (set c.args.senses.now.items c.args.place c.insert.new.self) c.args.place c.index_mut-in-Err.result.now c.insert.new.self
    (set-there c.args.senses.now.items c.args.place c.insert.new.self (slice_get_within c.args.senses.now.items c.args.place there.0 there.1))
    c.index_mut-in-Err.ensures.value in
    let same : c.insert.new.self ≡ insert there.0 c.args.change.from c.args.change.sense =
    c.in_ok-insert.ensures.ok
    ∙ ap (λ (ms : List Sense). insert ms c.args.change.from c.args.change.sense)
    (item-is c.args.senses.now.items c.args.place c.index_mut-2.result.now there.0 there.1 c.index_mut-2.ensures.value) in
    let within : c.args.change.from ≤ length there.0 = omega (arith, there.2, c.requires.rises) in
    let long : length c.index_mut-in-Err.result.now ≡ length (insert there.0 c.args.change.from c.args.change.sense) = ap length (whole ∙ same) in
    omega (arith, long, length-insert there.0 c.args.change.from c.args.change.sense within, within)

pub returns-in-Ok-clause-senses : goal.returns-in-Ok-clause-senses
returns-in-Ok-clause-senses c = λ own meant.
    let none : c.args.change.from ≡ c.args.change.to = omega (arith, c.if-change.false, c.requires.rises) in
    ap (λ (ms : List Sense). set c.args.senses.now.items c.args.place ms)
    (c.in_ok-insert.ensures.ok
    ∙ ap (λ (ms : List Sense). insert ms c.args.change.from c.args.change.sense)
    (item-is c.args.senses.now.items c.args.place c.index_mut-2.result.now own meant c.index_mut-2.ensures.value)
    ∙ ap (λ (n : ℕ). spliced own c.args.change.from n c.args.change.sense) none)

pub returns-in-Err-clause-senses_stay : goal.returns-in-Err-clause-senses_stay
returns-in-Err-clause-senses_stay c =
    let there = some-there (λ (own : List Sense). c.args.change.to ≤ length own) (slice_get c.args.senses.now.items c.args.place) c.requires.own in
    undone c.args.senses.now.items c.args.place c.args.change.from there.0 c.index_mut-2.result.now c.insert.new.self c.index_mut-in-Err.result.now
    c.remove.new.self c.args.change.sense there.1 (omega (arith, there.2, c.requires.rises)) c.index_mut-2.ensures.value c.in_ok-insert.ensures.ok
    c.index_mut-in-Err.ensures.value c.remove.ensures.rest
