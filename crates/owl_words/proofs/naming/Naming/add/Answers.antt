use Rattle.std.proofs.Common.{ℕ, List, sym, ap, subst, ◌∙◌}
use Rattle.lexicon.specs.Words.{Listed}
use Rattle.owl_words.specs.Known.{key, AreKnown, IsNoted, Notes}
use Rattle.owl_words.proofs.KnownLemmas.{noted_refused, known_after}
use Rattle.owl_words.proofs.naming.Naming.add.Goals as goal

pub add_free-requires-clause-refused : goal.add_free-requires-clause-refused
add_free-requires-clause-refused c =
    let kind = c.args.kind in
    let counts = c.self.inside.counts in
    let at = c.as_str.ensures.value ∙ (c.in_ok-key.ensures ∙ ap (key kind) (c.deref.ensures.value ∙ sym c.deref-2.ensures.value)) in
    noted_refused c.self.inside.words counts kind c.deref-2.result.now c.noted-known.result c.self.invariant
    (subst (λ (text : List ℕ). IsNoted counts text c.noted-known.result) at c.noted-known.ensures)

-- no word was added
pub invariant_of-self : goal.invariant_of-self
invariant_of-self c = subst (λ (words : Listed). AreKnown words c.self.inside.counts) (sym c.in_err-attempt.ensures.same) c.self.invariant

-- a word was added, and the attempt is noted
pub invariant_of-self-2 : goal.invariant_of-self-2
invariant_of-self-2 c =
    let kind = c.args.kind in
    let counts = c.self.inside.counts in
    let adds = c.in_ok-attempt.ensures.added in
    let at = c.in_ok-key.ensures ∙ ap (key kind) (c.deref.ensures.value ∙ sym c.deref-2.ensures.value) in
    subst (λ (words : Listed). AreKnown words c.note.new.counts) (sym adds.added)
    (known_after c.self.inside.words adds.forms counts c.note.new.counts kind c.deref-2.result.now c.in_ok-attempt.attempt c.self.invariant
    adds.chosen.first (subst (λ (text : List ℕ). Notes counts text c.in_ok-attempt.attempt c.note.new.counts) at c.note.ensures))
