use Rattle.std.proofs.Common.{◌∙◌, ◌++◌, ap, codes}
use Rattle.lexicon.specs.Words.{canonical_form_of}
use Rattle.logic_terms.specs.Shown.{claim_of, claims_of}
use Rattle.owl_text.specs.Texts.{claim_text}
use Rattle.owl_file.proofs.WritingLemmas.{line_more}
use Rattle.owl_file.proofs.writing.put_axioms.Goals as goal

pub loop-place-preserved : goal.loop-place-preserved
loop-place-preserved c =
    c.in_ok-put_axiom.ensures
    ∙ ap (λ before. before ++ (claim_text (canonical_form_of c.args.lexicon.now.live) (claim_of c.get.result.now) ++ codes "\n")) c.loop-place.invariant
    ∙ line_more (claim_text (canonical_form_of c.args.lexicon.now.live)) (claims_of c.args.axioms.now)
    c.loop-place.place (claim_of c.get.result.now) c.args.out.now c.get.ensures
