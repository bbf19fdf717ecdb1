use Rattle.std.proofs.Common.{◌≡◌, ℕ, List, length, subst, arith, ◌<◌}
use Rattle.std.specs.Prelude.{min}
use Rattle.lexicon.specs.declared.kinds.Kind.{Kind}
use Rattle.lexicon.specs.declared.words.TheConstants.{MOST_WORDS}
use Rattle.owl_words.specs.Chosen.{AddsWord}
use Rattle.owl_import.specs.Words.{no_words}
use Rattle.owl_import.proofs.WordLemmas.{room_at, adds_at, adds_all}
use Rattle.owl_import.proofs.words.words_of.Goals as goal

pub add-requires : goal.add-requires
add-requires c =
    let es = c.args.entities.now in
    let within : c.loop-place.place < min MOST_WORDS (length es) = omega arith in
    room_at c.args.grammar.now es c.loop-place.place c.loop-place.naming c.loop-place.invariant within

pub loop-place-preserved : goal.loop-place-preserved
loop-place-preserved c =
    let e = c.get-entity.result.now in
    let old = c.loop-place.naming in
    adds_at (no_words c.args.grammar.now) c.args.entities.now c.loop-place.place e old c.add.new.self c.get-entity.ensures c.loop-place.invariant
    (subst (λ (kind : Kind). AddsWord old kind e.iri c.add.new.self) c.word_kind.ensures
    (subst (λ (iri : List ℕ). AddsWord old c.word_kind.result iri c.add.new.self) c.as_slice.ensures c.in_ok-add.ensures))

pub returns : goal.returns
returns c =
    let es = c.args.entities.now in
    let all : c.loop-place.place ≡ min MOST_WORDS (length es) = omega arith in
    adds_all c.args.grammar.now es c.loop-place.place c.loop-place.naming c.loop-place.invariant all
