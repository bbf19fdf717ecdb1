-- Where an item is put among words with lists.
use Rattle.std.proofs.Common.{◌≡◌, ℕ, zero, suc, ◌+◌, ◌<◌, ◌≤◌, List, [], ◌∷◌, ◌++◌, length, set, get_or, sym, ap, ◌∙◌, subst, inl, inr, arith}
use Rattle.std.specs.Prelude.{insert}
use Rattle.std.specs.declared.alloc.Global.{Global}
use Rattle.std.specs.declared.vec.Vec.{Vec}
use Rattle.std.proofs.lemmas.Bool.{cases_eq, lt-ltb, le-ltb, eq-eqb, ne_eqb}
use Rattle.wiki_base.specs.declared.numbers.WordId.{WordId}
use Rattle.owl_eval.specs.Given.{lists_in}
use Rattle.branch_model.specs.Entries.{placed}
use Rattle.branch_model.proofs.EntriesLemmas.{placed-less, placed-same, placed-more}

-- the words of the first entries are below a word
abbrev pub AreBefore : {X : Type 0} → WordId → List (WordId × Vec X Global) → ℕ → Type 0
AreBefore {X} word es place = (j : ℕ) (d : WordId × Vec X Global) → j < place → (get_or es j d).0.0 < word.0

module _ {X : Type 0} (word : WordId) (item : X) where
  -- an entry that is read is the one at its place, whatever stands past the end
  pub read_any : (es : List (WordId × Vec X Global)) (place : ℕ) (e d : WordId × Vec X Global) → place < length es → e ≡ get_or es place e
      → get_or es place d ≡ e
  read_any [] place e d lt is = absurd (omega arith)
  read_any (f ∷ es) zero e d lt is = sym is
  read_any (f ∷ es) (suc place) e d lt is = read_any es place e d (omega arith) is

  pub before_more : (es : List (WordId × Vec X Global)) (place : ℕ) (e : WordId × Vec X Global) → AreBefore word es place → place < length es
      → e ≡ get_or es place e → e.0.0 < word.0 → AreBefore word es (place + 1)
  before_more es place e before lt is less j d at = elim (cases_eq j place) [
    | inl same ↦ subst (λ n. (get_or es n d).0.0 < word.0) (sym same) (subst (λ f. f.0.0 < word.0) (sym (read_any es place e d lt is)) less)
    | inr other ↦ before j d (omega arith)
  ]

  pub put_same : (es : List (WordId × Vec X Global)) (place : ℕ) (e : WordId × Vec X Global) (v : Vec X Global) → AreBefore word es place → place < length es
      → e ≡ get_or es place e → e.0.0 ≡ word.0 → v.items ≡ e.1.items ++ item ∷ [] → lists_in (set es place (e.0, v)) ≡ placed word item (lists_in es)
  put_same [] place e v before lt is same items = absurd (omega arith)
  put_same (f ∷ es) zero e v before lt is same items =
      let no_less = le-ltb e.0.0 word.0 (omega arith) in
      (λ j. (e.0, items j) ∷ lists_in es) ∙ sym (placed-same word item (e.0, e.1.items) (lists_in es) no_less (eq-eqb e.0.0 word.0 same))
      ∙ ap (λ g. placed word item ((g.0, g.1.items) ∷ lists_in es)) is
  put_same (f ∷ es) (suc place) e v before lt is same items =
      ap (λ rest. (f.0, f.1.items) ∷ rest) (put_same es place e v (λ j d at. before (suc j) d (omega arith)) (omega arith) is same items)
      ∙ sym (placed-less word item (f.0, f.1.items) (lists_in es) (lt-ltb f.0.0 word.0 (before zero f (omega arith))))

  pub put_new : (es : List (WordId × Vec X Global)) (place : ℕ) (v : Vec X Global) → AreBefore word es place → place ≤ length es
      → ((d : WordId × Vec X Global) → place < length es → word.0 < (get_or es place d).0.0) → v.items ≡ item ∷ []
      → lists_in (insert es place (word, v)) ≡ placed word item (lists_in es)
  put_new [] zero v before le above items = λ j. (word, items j) ∷ []
  put_new [] (suc place) v before le above items = absurd (omega arith)
  put_new (f ∷ es) zero v before le above items =
      let over = above f (omega arith) in
      (λ j. (word, items j) ∷ (f.0, f.1.items) ∷ lists_in es)
      ∙ sym (placed-more word item (f.0, f.1.items) (lists_in es) (le-ltb f.0.0 word.0 (omega arith)) (ne_eqb f.0.0 word.0 (λ same. omega arith)))
  put_new (f ∷ es) (suc place) v before le above items =
      ap (λ rest. (f.0, f.1.items) ∷ rest) (put_new es place v (λ j d at. before (suc j) d (omega arith)) (omega arith) (λ d lt. above d (omega arith)) items)
      ∙ sym (placed-less word item (f.0, f.1.items) (lists_in es) (lt-ltb f.0.0 word.0 (before zero f (omega arith))))
