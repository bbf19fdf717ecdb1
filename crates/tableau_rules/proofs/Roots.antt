-- The place of a word among others, and the node of a name.
use Rattle.std.proofs.Common.{◌≡◌, ℕ, suc, ◌<◌, Bool, true, false, List, [], ◌∷◌, length, Option, Some, None, slice_get, subst, refl, sym, ap, arith}
use Rattle.std.specs.Prelude.{if◌then◌else◌}
use Rattle.std.specs.Option.{option_and_then, option_map}
use Rattle.wiki_base.specs.declared.numbers.WordId.{WordId}
use Rattle.logic_terms.specs.Interpretation.{is_word}
use Rattle.logic_terms.specs.Theory.{Theory, representative}
use Rattle.logic_terms.proofs.SameLemmas.{word_equal}
use Rattle.tableau_rules.specs.Neighbours.{roots, place_in, node_of}

-- the place of a word is within the list
pub place_within : (ws : List WordId) (w : WordId) (x : ℕ) → place_in ws w ≡ Some x → x < length ws
place_within [] w x h = cc
place_within (v ∷ vs) w x h = go (λ m. place_within vs w m) (is_word w v) (place_in vs w) refl h
  where
    go : ((m : ℕ) → place_in vs w ≡ Some m → m < length vs) → (b : Bool) (o : Option ℕ) → place_in vs w ≡ o → (if b then Some 0 else option_map suc o) ≡ Some x
        → x < suc (length vs)
    go further true o e k = (let z : 0 ≡ x = cc in omega arith)
    go further false None e k = cc
    go further false (Some m) e k = (let z : suc m ≡ x = cc in let lt : m < length vs = further m e in omega arith)

-- the word stands there
pub place_get : (ws : List WordId) (w : WordId) (x : ℕ) → place_in ws w ≡ Some x → slice_get ws x ≡ Some w
place_get [] w x h = cc
place_get (v ∷ vs) w x h = go (λ m. place_get vs w m) (is_word w v) refl (place_in vs w) refl h
  where
    go : ((m : ℕ) → place_in vs w ≡ Some m → slice_get vs m ≡ Some w) → (b : Bool) → is_word w v ≡ b → (o : Option ℕ) → place_in vs w ≡ o
        → (if b then Some 0 else option_map suc o) ≡ Some x → slice_get (v ∷ vs) x ≡ Some w
    go further true is o e k = (let z : 0 ≡ x = cc in subst (λ n. slice_get (v ∷ vs) n ≡ Some w) z (ap Some (sym (word_equal w v is))))
    go further false is None e k = cc
    go further false is (Some m) e k = (let z : suc m ≡ x = cc in subst (λ n. slice_get (v ∷ vs) n ≡ Some w) z (further m e))

-- a node of a name is one of the roots
pub node_within : (k : Theory) (name : WordId) (x : ℕ) → node_of k name ≡ Some x → x < length (roots k)
node_within k name x h = go (representative k name) h
  where
    go : (o : Option WordId) → option_and_then (place_in (roots k)) o ≡ Some x → x < length (roots k)
    go None e = cc
    go (Some r) e = place_within (roots k) r x e
