use Rattle.std.proofs.Common.{◌≡◌, take, map}
use Rattle.lexicon.specs.Words.{canonical_form_of}
use Rattle.logic_terms.specs.Shown.{claims_of}
use Rattle.owl_text.specs.Texts.{claim_text}
use Rattle.wiki_parts.proofs.meant.told_axioms.Given as goal

-- the texts of the axioms so far
abbrev pub invariant-loop-place : goal.invariant-loop-place
invariant-loop-place l = l.texts ≡ map (claim_text (canonical_form_of l.lexicon.live)) (take l.place (claims_of l.axioms))
