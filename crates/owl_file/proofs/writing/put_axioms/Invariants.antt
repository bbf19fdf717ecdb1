use Rattle.std.specs.Prelude.{◌≡◌, ◌++◌, map, take}
use Rattle.lexicon.specs.Words.{canonical_form_of}
use Rattle.logic_terms.specs.Shown.{claims_of}
use Rattle.owl_text.specs.Texts.{claim_text}
use Rattle.owl_file.specs.Written.{text_of}
use Rattle.owl_file.proofs.writing.put_axioms.Given as goal

abbrev pub invariant-loop-place : goal.invariant-loop-place
invariant-loop-place l = l.out ≡ l.fn.out ++ text_of (map (claim_text (canonical_form_of l.lexicon.live)) (take l.place (claims_of l.axioms)))
