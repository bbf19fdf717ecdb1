-- The test of a token and the definition's own test agree.
use Rattle.std.proofs.Common.{◌≡◌, List, [], ◌∷◌, ◌++◌, ℕ, Bool, true, false, refl, sym, ap, ◌∙◌, IsTrue, ◌↔◌}
use Rattle.codeco_terms.specs.GrammarParts.{GrammarParts}
use Rattle.codeco_checked.specs.Sound.{IsSound}
use Rattle.lexicon.specs.Words.{Listed}
use Rattle.derivation_trees.specs.Partial.{IsBeginning}
use Rattle.derivation_trees.specs.declared.menus.Group.{Group}
use Rattle.std.specs.Prelude.{if◌then◌else◌}
use Rattle.derivations.specs.Entries.{goes_on, with_entry, tried}
use Rattle.derivations.proofs.TypingLemmas.{beginning_from_test, test_from_beginning}

pub follows_test : (g : GrammarParts) (l : Listed) (tokens : List (List ℕ)) (e : Group × List ℕ) (b : Bool) → IsSound g
    → IsTrue b ↔ IsBeginning g l (tokens ++ e.1 ∷ []) → b ≡ goes_on g l tokens e
follows_test g l tokens e true sound h = sym (test_from_beginning g l (tokens ++ e.1 ∷ []) sound (h.0 refl))
follows_test g l tokens e false sound h = by_test (goes_on g l tokens e) refl
  where
    by_test : (t : Bool) → goes_on g l tokens e ≡ t → false ≡ t
    by_test true is = h.1 (beginning_from_test g l (tokens ++ e.1 ∷ []) sound is)
    by_test false is = refl

pub put_where : (test : Group × List ℕ → Bool) (e : Group × List ℕ) (entries new : List (Group × List ℕ)) → true ≡ test e → new ≡ with_entry e entries
    → new ≡ tried test e entries
put_where test e entries new h n = n ∙ ap (λ t. if t then with_entry e entries else entries) h

pub left_where : (test : Group × List ℕ → Bool) (e : Group × List ℕ) (entries : List (Group × List ℕ)) → false ≡ test e → entries ≡ tried test e entries
left_where test e entries h = ap (λ t. if t then with_entry e entries else entries) h
