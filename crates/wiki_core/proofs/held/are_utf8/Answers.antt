use Rattle.std.proofs.Common.{◌≡◌, ℕ, ◌+◌, ◌<◌, ◌==◌, Bool, true, false, List, get_or, Some, refl, sym, ap, subst, ◌∙◌, arith}
use Rattle.std.specs.List.{slice_get}
use Rattle.std.specs.Str.{IsUtf8}
use Rattle.std.proofs.lemmas.Option.{get_or_from_slice_get}
use Rattle.std.proofs.lemmas.Bool.{eqb-true, eqb-false}
use Rattle.wiki_core.proofs.held.are_utf8.Goals as goal

-- with one more all so far are in UTF-8
one_more : (texts : List (List ℕ)) (place : ℕ) (text : List ℕ) → ((k : ℕ) (d : List ℕ) → k < place → IsUtf8 (get_or texts k d))
    → slice_get texts place ≡ Some text → IsUtf8 text
    → (k : ℕ) (d : List ℕ) → k < place + 1 → IsUtf8 (get_or texts k d)
one_more texts place text before here is k d within = by_test (k == place) refl
  where
    by_test : (b : Bool) → (k == place) ≡ b → IsUtf8 (get_or texts k d)
    by_test true same =
        let at : get_or texts k d ≡ text = ap (λ (n : ℕ). get_or texts n d) (eqb-true k place same) ∙ get_or_from_slice_get texts place text d here in
        subst IsUtf8 (sym at) is
    by_test false other = let apart = eqb-false k place other in before k d (omega (arith, within, apart))

pub loop-place-preserved : goal.loop-place-preserved
loop-place-preserved c =
    one_more c.args.texts.now c.loop-place.place c.get.result.now c.loop-place.invariant c.get.ensures c.as_bytes.ensures.utf8
