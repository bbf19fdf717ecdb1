use Rattle.std.proofs.Common.{◌≡◌, ◌+◌, drop, map, sym, ap, ◌∙◌}
use Rattle.logic_terms.specs.Concept.{concepts_from}
use Rattle.logic_terms.specs.Shown.{concept_of}
use Rattle.verbalise.specs.Phrases.{Phrase, ◌⋅◌, the}
use Rattle.verbalise.specs.Said.{basic_phrase, also}
use Rattle.verbalise.proofs.PhraseLemmas.{also-more}
use Rattle.verbalise.proofs.classes.also.Goals as goal

pub loop-class-preserved : goal.loop-class-preserved
loop-class-preserved c =
    let now : c.in_ok-said.said ≡ c.loop-class.said ⋅ (the "and" ⋅ basic_phrase c.args.words.now.live (concept_of c.class-item.result)) =
    c.in_ok-said.ensures ∙ ap (λ (p : Phrase). c.loop-class.said ⋅ p)
    (c.in_ok-then.ensures ∙ (ap (λ (p : Phrase). p ⋅ c.in_ok-next.next) c.in_ok-the.ensures ∙ ap (λ (p : Phrase). the "and" ⋅ p) c.in_ok-next.ensures)) in
    ap (λ (p : Phrase). p ⋅ also c.args.words.now.live (concepts_from (map concept_of (drop (c.loop-class.class-index + 1) c.args.members.now)))) now
    ∙ also-more c.args.words.now.live concept_of c.args.members.now c.loop-class.class-index c.class-item.result c.loop-class.said
    (also c.args.words.now.live (concepts_from (map concept_of c.args.members.now))) c.loop-class-test.true c.class-item.is c.loop-class.invariant
