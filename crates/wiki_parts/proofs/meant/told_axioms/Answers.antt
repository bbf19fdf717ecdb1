use Rattle.std.proofs.Common.{◌≡◌, ◌++◌, [], ◌∷◌, sym, ◌∙◌}
use Rattle.wiki_base.proofs.ListLaws.{map_take}
use Rattle.lexicon.specs.Words.{canonical_form_of}
use Rattle.logic_terms.specs.Shown.{claims_of, claim_of}
use Rattle.owl_text.specs.Texts.{claim_text}
use Rattle.wiki_parts.proofs.meant.told_axioms.Goals as goal

pub loop-place-preserved : goal.loop-place-preserved
loop-place-preserved c =
    c.in_ok-push.ensures.ok ∙ rw (c.loop-place.invariant, c.in_ok-print_axiom.ensures)
    (sym (map_take (claim_text (canonical_form_of c.args.lexicon.now.live)) (claims_of c.args.axioms.now) c.loop-place.place (claim_of c.get.result.now)
    c.get.ensures))
