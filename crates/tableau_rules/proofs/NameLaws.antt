-- The roots, one name further.
use Rattle.std.proofs.Common.{◌≡◌, ℕ, suc, ◌+◌, ◌<◌, ◌==◌, Bool, true, false, List, ◌∷◌, map, filter, length, drop, get_or, cond, Option, Some, None, refl, sym, ap, ◌∙◌, arith}
use Rattle.std.specs.Prelude.{if◌then◌else◌}
use Rattle.std.specs.Option.{option_map}
use Rattle.std.proofs.lemmas.Bool.{eq-eqb, ne_eqb}
use Rattle.std.proofs.lemmas.List.{drop_more}
use Rattle.wiki_base.specs.declared.numbers.WordId.{WordId}
use Rattle.tableau_rules.specs.Neighbours.{roots_in, place_in}

roots_kept : (b : Bool) (e : WordId × WordId) (es : List (WordId × WordId)) → b ≡ true → map (λ d. d.0) (cond b (e ∷ es) es) ≡ e.0 ∷ map (λ d. d.0) es
roots_kept b e es is = ap (λ z. map (λ d. d.0) (cond z (e ∷ es) es)) is

roots_left : (b : Bool) (e : WordId × WordId) (es : List (WordId × WordId)) → b ≡ false → map (λ d. d.0) (cond b (e ∷ es) es) ≡ map (λ d. d.0) es
roots_left b e es is = ap (λ z. map (λ d. d.0) (cond z (e ∷ es) es)) is

-- a name that represents itself, and one that does not
module _ (es : List (WordId × WordId)) (i : ℕ) (d : WordId × WordId) (lt : i < length es) where
  pub roots_in-own : (get_or es i d).0.0 ≡ (get_or es i d).1.0 → roots_in (drop i es) ≡ (get_or es i d).0 ∷ roots_in (drop (i + 1) es)
  roots_in-own own =
      ap roots_in (drop_more es i d lt)
      ∙ roots_kept ((get_or es i d).0.0 == (get_or es i d).1.0) (get_or es i d) (filter (λ e. e.0.0 == e.1.0) (drop (i + 1) es))
      (eq-eqb (get_or es i d).0.0 (get_or es i d).1.0 own)

  pub roots_in-other : ¬ ((get_or es i d).0.0 ≡ (get_or es i d).1.0) → roots_in (drop i es) ≡ roots_in (drop (i + 1) es)
  roots_in-other other =
      ap roots_in (drop_more es i d lt)
      ∙ roots_left ((get_or es i d).0.0 == (get_or es i d).1.0) (get_or es i d) (filter (λ e. e.0.0 == e.1.0) (drop (i + 1) es))
      (ne_eqb (get_or es i d).0.0 (get_or es i d).1.0 other)

-- the place counted on from a number
abbrev pub place_from : ℕ → List WordId → WordId → Option ℕ
place_from n ws word = option_map (λ m. n + m) (place_in ws word)

pub place_from-here : (n : ℕ) (w : WordId) (ws : List WordId) (word : WordId) → (word.0 == w.0) ≡ true → place_from n (w ∷ ws) word ≡ Some n
place_from-here n w ws word same =
    ap (λ b. option_map (λ m. n + m) (if b then Some 0 else option_map suc (place_in ws word))) same
    ∙ ap Some (omega arith)

onward : (n : ℕ) (o : Option ℕ) → option_map (λ m. n + m) (option_map suc o) ≡ option_map (λ m. (n + 1) + m) o
onward n None = refl
onward n (Some m) = ap Some (omega arith)

pub place_from-on : (n : ℕ) (w : WordId) (ws : List WordId) (word : WordId) → (word.0 == w.0) ≡ false → place_from n (w ∷ ws) word ≡ place_from (n + 1) ws word
place_from-on n w ws word other =
    ap (λ b. option_map (λ m. n + m) (if b then Some 0 else option_map suc (place_in ws word))) other
    ∙ onward n (place_in ws word)

onto : (o : Option ℕ) → o ≡ option_map (λ m. 0 + m) o
onto None = refl
onto (Some m) = ap Some (omega arith)

pub place_from-zero : (ws : List WordId) (word : WordId) → place_in ws word ≡ place_from 0 ws word
place_from-zero ws word = onto (place_in ws word)

-- what is left decides: the place is here, or further on
module _ (es : List (WordId × WordId)) (i : ℕ) (d : WordId × WordId) (lt : i < length es) (word : WordId) (n : ℕ) (r : Option ℕ)
    (now : r ≡ place_from n (roots_in (drop i es)) word) where
  pub place_here : (get_or es i d).0.0 ≡ (get_or es i d).1.0 → word.0 ≡ (get_or es i d).0.0 → Some n ≡ r
  place_here own same =
      sym (now ∙ (ap (λ ws. place_from n ws word) (roots_in-own es i d lt own)
      ∙ place_from-here n (get_or es i d).0 (roots_in (drop (i + 1) es)) word (eq-eqb word.0 (get_or es i d).0.0 same)))

  pub place_on : (get_or es i d).0.0 ≡ (get_or es i d).1.0 → ¬ (word.0 ≡ (get_or es i d).0.0) → r ≡ place_from (n + 1) (roots_in (drop (i + 1) es)) word
  place_on own other =
      now ∙ (ap (λ ws. place_from n ws word) (roots_in-own es i d lt own)
      ∙ place_from-on n (get_or es i d).0 (roots_in (drop (i + 1) es)) word (ne_eqb word.0 (get_or es i d).0.0 other))

  pub place_passed : ¬ ((get_or es i d).0.0 ≡ (get_or es i d).1.0) → r ≡ place_from n (roots_in (drop (i + 1) es)) word
  place_passed other = now ∙ ap (λ ws. place_from n ws word) (roots_in-other es i d lt other)

-- the same for a count
module _ (es : List (WordId × WordId)) (i : ℕ) (d : WordId × WordId) (lt : i < length es) (n total : ℕ) (now : total ≡ n + length (roots_in (drop i es))) where
  pub count_on : (get_or es i d).0.0 ≡ (get_or es i d).1.0 → total ≡ (n + 1) + length (roots_in (drop (i + 1) es))
  count_on own =
      let more : length (roots_in (drop i es)) ≡ suc (length (roots_in (drop (i + 1) es))) = ap length (roots_in-own es i d lt own) in omega arith

  pub count_passed : ¬ ((get_or es i d).0.0 ≡ (get_or es i d).1.0) → total ≡ n + length (roots_in (drop (i + 1) es))
  count_passed other =
      let more : length (roots_in (drop i es)) ≡ length (roots_in (drop (i + 1) es)) = ap length (roots_in-other es i d lt other) in omega arith
