use Rattle.std.proofs.Common.{◌≡◌, ℕ, ◌+◌, ◌<◌, ◌==◌, Bool, true, false, List, get_or, Some, refl, sym, ap, subst, ◌∙◌, arith}
use Rattle.std.specs.List.{slice_get}
use Rattle.std.specs.Str.{IsUtf8}
use Rattle.std.proofs.lemmas.Option.{get_or_from_slice_get}
use Rattle.std.proofs.lemmas.Bool.{eqb-true, eqb-false}
use Rattle.derivation_trees.specs.declared.menus.Group.{Group}
use Rattle.wiki_core.proofs.typing.are_texts.Goals as goal

-- with one more all so far are in UTF-8
one_more : (menu : List (Group × List ℕ)) (place : ℕ) (entry : Group × List ℕ) → ((k : ℕ) (d : Group × List ℕ) → k < place → IsUtf8 (get_or menu k d).1)
    → slice_get menu place ≡ Some entry → IsUtf8 entry.1
    → (k : ℕ) (d : Group × List ℕ) → k < place + 1 → IsUtf8 (get_or menu k d).1
one_more menu place entry before here is k d within = by_test (k == place) refl
  where
    by_test : (b : Bool) → (k == place) ≡ b → IsUtf8 (get_or menu k d).1
    by_test true same =
        let at : get_or menu k d ≡ entry = ap (λ (n : ℕ). get_or menu n d) (eqb-true k place same) ∙ get_or_from_slice_get menu place entry d here in
        subst (λ (e : Group × List ℕ). IsUtf8 e.1) (sym at) is
    by_test false other = let apart = eqb-false k place other in before k d (omega (arith, within, apart))

pub loop-place-preserved : goal.loop-place-preserved
loop-place-preserved c =
    one_more c.args.menu.now c.loop-place.place (c.get.result.0, c.get.result.1.now) c.loop-place.invariant c.get.ensures
    (subst IsUtf8 c.as_bytes.ensures.value c.as_bytes.ensures.utf8)
