-- Features in order of number, and marked features among the others.
use Rattle.std.proofs.Common.{◌≡◌, ℕ, ◌<◌, ◌≤◌, true, ltb, leb, List, [], ◌∷◌, ◌++◌, map, refl, sym, ap, ◌∙◌, arith, inl, inr}
use Rattle.std.specs.List.{flat_map}
use Rattle.std.proofs.lemmas.List.{map-append}
use Rattle.std.proofs.lemmas.Bool.{and_parts, and_from, cases_Bool, ltb-true, ltb-false, leb-true, lt-ltb, le-ltb, le-leb, cond-true, cond-false}
use Rattle.codeco_printer.proofs.WriteLaws.{merged_none}
use Rattle.codeco_terms.specs.declared.values.Term.{Term}
use Rattle.codeco_terms.specs.declared.values.Term.TheVariants.{Val, Var}
use Rattle.codeco_terms.specs.GrammarParts.{GrammarParts}
use Rattle.codeco_text.specs.declared.written.WrittenTerm.{WrittenTerm}
use Rattle.codeco_text.specs.declared.written.WrittenTerm.TheVariants as term
use Rattle.codeco_checked.specs.Occurrences.{put_feature, with_taken, term_variables}
use Rattle.codeco_checked.specs.Sound.{ascends}
use Rattle.codeco_printer.specs.Unnumbered.{letter, written_term, plain_terms, taken_terms, below, from, merged}
use Rattle.codeco_numbering.specs.Numbered.{put_in_order, in_order, term_names}
use Rattle.codeco_numbering.proofs.Sound.Order.{rises}

pub in_order_rises : (n : ℕ) (xs : List (ℕ × WrittenTerm)) → rises n xs ≡ true → in_order xs ≡ xs
in_order_rises n [] h = refl
in_order_rises n (x ∷ xs) h =
    let parts = and_parts (leb n x.0) (rises x.0 xs) h in
    ap (put_in_order x) (in_order_rises x.0 xs parts.1) ∙ put_first x xs parts.1
  where
    put_first : (y : ℕ × WrittenTerm) (ys : List (ℕ × WrittenTerm)) → rises y.0 ys ≡ true → put_in_order y ys ≡ y ∷ ys
    put_first y [] e = refl
    put_first y (z ∷ zs) e =
        let here = leb-true y.0 z.0 (and_parts (leb y.0 z.0) (rises z.0 zs) e).0 in
        cond-false (ltb z.0 y.0) (z ∷ put_in_order y zs) (y ∷ z ∷ zs) (le-ltb z.0 y.0 here)

rises_below : (n f : ℕ) (x : ℕ × WrittenTerm) (ts rest : List (ℕ × WrittenTerm)) → f ≡ x.0 → n ≤ f → rises n ts ≡ true → rises x.0 rest ≡ true
    → rises n (below f ts ++ x ∷ rest) ≡ true
rises_below n f x [] rest is le h k = and_from (leb n x.0) (rises x.0 rest) (le-leb n x.0 (omega arith)) k
rises_below n f x (t ∷ ts) rest is le h k =
    let parts = and_parts (leb n t.0) (rises t.0 ts) h in
    elim (cases_Bool (ltb t.0 f)) [
      | inl low ↦
          let lt = ltb-true t.0 f low in
          ap (λ (ys : List (ℕ × WrittenTerm)). rises n (ys ++ x ∷ rest)) (cond-true (ltb t.0 f) (t ∷ below f ts) [] low)
          ∙ and_from (leb n t.0) (rises t.0 (below f ts ++ x ∷ rest)) parts.0 (rises_below t.0 f x ts rest is (omega arith) parts.1 k)
      | inr high ↦
          ap (λ (ys : List (ℕ × WrittenTerm)). rises n (ys ++ x ∷ rest)) (cond-false (ltb t.0 f) (t ∷ below f ts) [] high)
          ∙ and_from (leb n x.0) (rises x.0 rest) (le-leb n x.0 (omega arith)) k
    ]

rises_from : (n f : ℕ) (ts : List (ℕ × WrittenTerm)) → rises n ts ≡ true → rises f (from f ts) ≡ true
rises_from n f [] h = refl
rises_from n f (t ∷ ts) h =
    let parts = and_parts (leb n t.0) (rises t.0 ts) h in
    elim (cases_Bool (ltb t.0 f)) [
      | inl low ↦ ap (rises f) (cond-true (ltb t.0 f) (from f ts) (t ∷ ts) low) ∙ rises_from t.0 f ts parts.1
      | inr high ↦ ap (rises f) (cond-false (ltb t.0 f) (from f ts) (t ∷ ts) high)
          ∙ and_from (leb f t.0) (rises t.0 ts) (le-leb f t.0 (ltb-false t.0 f high)) parts.1
    ]

pub rises_merged : (n : ℕ) (fs ts : List (ℕ × WrittenTerm)) → rises n fs ≡ true → rises n ts ≡ true → rises n (merged fs ts) ≡ true
rises_merged n [] ts h k = k
rises_merged n (f ∷ fs) ts h k =
    let parts = and_parts (leb n f.0) (rises f.0 fs) h in
    rises_below n f.0 f ts (merged fs (from f.0 ts)) refl (leb-true n f.0 parts.0) k (rises_merged f.0 fs (from f.0 ts) parts.1 (rises_from n f.0 ts k))

plain_rises_from : (g : GrammarParts) (n : ℕ) (fs : List (ℕ × Term)) → ascends (n ∷ map (λ f. f.0) fs) ≡ true → rises n (plain_terms g fs) ≡ true
plain_rises_from g n [] h = refl
plain_rises_from g n (f ∷ fs) h =
    let parts = and_parts (leb n f.0) (ascends (f.0 ∷ map (λ x. x.0) fs)) h in
    and_from (leb n f.0) (rises f.0 (plain_terms g fs)) parts.0 (plain_rises_from g f.0 fs parts.1)

pub plain_rises : (g : GrammarParts) (fs : List (ℕ × Term)) → ascends (map (λ f. f.0) fs) ≡ true → rises 0 (plain_terms g fs) ≡ true
plain_rises g [] h = refl
plain_rises g (f ∷ fs) h = and_from (leb 0 f.0) (rises f.0 (plain_terms g fs)) (le-leb 0 f.0 (omega arith)) (plain_rises_from g f.0 fs h)

taken_rises_from : (n : ℕ) (ts : List (ℕ × ℕ)) → ascends (n ∷ map (λ t. t.0) ts) ≡ true → rises n (taken_terms ts) ≡ true
taken_rises_from n [] h = refl
taken_rises_from n (t ∷ ts) h =
    let parts = and_parts (leb n t.0) (ascends (t.0 ∷ map (λ x. x.0) ts)) h in
    and_from (leb n t.0) (rises t.0 (taken_terms ts)) parts.0 (taken_rises_from t.0 ts parts.1)

pub taken_rises : (ts : List (ℕ × ℕ)) → ascends (map (λ t. t.0) ts) ≡ true → rises 0 (taken_terms ts) ≡ true
taken_rises [] h = refl
taken_rises (t ∷ ts) h = and_from (leb 0 t.0) (rises t.0 (taken_terms ts)) (le-leb 0 t.0 (omega arith)) (taken_rises_from t.0 ts h)

-- Variables

abbrev pub names_of : List (ℕ × WrittenTerm) → List (List ℕ)
names_of xs = flat_map (λ f. term_names f.1) xs

abbrev pub variables_in : List (ℕ × Term) → List ℕ
variables_in xs = flat_map (λ f. term_variables f.1) xs

term_letters : (g : GrammarParts) (t : Term) → term_names (written_term g t) ≡ map letter (term_variables t)
term_letters g (Val v) = refl
term_letters g (Var x) = refl

pub plain_letters : (g : GrammarParts) (fs : List (ℕ × Term)) → names_of (plain_terms g fs) ≡ map letter (variables_in fs)
plain_letters g [] = refl
plain_letters g (f ∷ fs) =
    ap (λ (x : List (List ℕ)). x ++ names_of (plain_terms g fs)) (term_letters g f.1)
    ∙ ap (λ (x : List (List ℕ)). map letter (term_variables f.1) ++ x) (plain_letters g fs)
    ∙ sym (map-append letter (term_variables f.1) (variables_in fs))

none_below : (n m : ℕ) (ts : List (ℕ × WrittenTerm)) → rises n ts ≡ true → m ≤ n → below m ts ≡ []
none_below n m [] h le = refl
none_below n m (t ∷ ts) h le =
    let here = leb-true n t.0 (and_parts (leb n t.0) (rises t.0 ts) h).0 in
    cond-false (ltb t.0 m) (t ∷ below m ts) [] (le-ltb t.0 m (omega arith))

all_from : (n m : ℕ) (ts : List (ℕ × WrittenTerm)) → rises n ts ≡ true → m ≤ n → from m ts ≡ ts
all_from n m [] h le = refl
all_from n m (t ∷ ts) h le =
    let here = leb-true n t.0 (and_parts (leb n t.0) (rises t.0 ts) h).0 in
    cond-false (ltb t.0 m) (from m ts) (t ∷ ts) (le-ltb t.0 m (omega arith))

-- where the others begin with a feature that isn't above the marked ones, it comes first
merged_first : (f : ℕ × WrittenTerm) (fs ts : List (ℕ × WrittenTerm)) (n : ℕ) → rises n ts ≡ true → f.0 ≤ n → merged (f ∷ fs) ts ≡ f ∷ merged fs ts
merged_first f fs ts n h le =
    ap (λ (x : List (ℕ × WrittenTerm)). x ++ f ∷ merged fs (from f.0 ts)) (none_below n f.0 ts h le)
    ∙ ap (λ (x : List (ℕ × WrittenTerm)). f ∷ merged fs x) (all_from n f.0 ts h le)

-- a marked feature below the first of the others comes before it
merged_marked : (t f : ℕ × WrittenTerm) (fs ts : List (ℕ × WrittenTerm)) → t.0 < f.0 → merged (f ∷ fs) (t ∷ ts) ≡ t ∷ merged (f ∷ fs) ts
merged_marked t f fs ts lt =
    let low = lt-ltb t.0 f.0 lt in
    ap (λ (x : List (ℕ × WrittenTerm)). x ++ f ∷ merged fs (from f.0 (t ∷ ts))) (cond-true (ltb t.0 f.0) (t ∷ below f.0 ts) [] low)
    ∙ ap (λ (x : List (ℕ × WrittenTerm)). (t ∷ below f.0 ts) ++ f ∷ merged fs x) (cond-true (ltb t.0 f.0) (from f.0 ts) (t ∷ ts) low)

-- a marked feature put among the others has its variable at the same place
put_letters : (g : GrammarParts) (t : ℕ × ℕ) (fs : List (ℕ × Term)) (ts : List (ℕ × ℕ)) → rises t.0 (taken_terms ts) ≡ true
    → names_of (merged (plain_terms g fs) (taken_terms (t ∷ ts))) ≡ names_of (merged (plain_terms g (put_feature (t.0, Var t.1) fs)) (taken_terms ts))
put_letters g t [] ts h = ap names_of (sym (merged_first (t.0, term.Variable (letter t.1)) [] (taken_terms ts) t.0 h (omega arith)))
put_letters g t (f ∷ fs) ts h =
    let pf : ℕ × WrittenTerm = (f.0, written_term g f.1) in
    let mt : ℕ × WrittenTerm = (t.0, term.Taken (letter t.1)) in
    let pt : ℕ × WrittenTerm = (t.0, term.Variable (letter t.1)) in
    let rest = plain_terms g fs in
    let marks = taken_terms ts in
    elim (cases_Bool (ltb t.0 f.0)) [
      | inl low ↦
          ap names_of (merged_marked mt pf rest marks (ltb-true t.0 f.0 low))
          ∙ ap names_of (sym (merged_first pt (pf ∷ rest) marks t.0 h (omega arith)))
          ∙ ap (λ (x : List (ℕ × Term)). names_of (merged (plain_terms g x) marks))
          (sym (cond-true (ltb t.0 f.0) ((t.0, Var t.1) ∷ f ∷ fs) (f ∷ put_feature (t.0, Var t.1) fs) low))
      | inr high ↦
          let le = ltb-false t.0 f.0 high in
          let marked : rises t.0 (mt ∷ marks) ≡ true = and_from (leb t.0 t.0) (rises t.0 marks) (le-leb t.0 t.0 (omega arith)) h in
          ap names_of (merged_first pf rest (mt ∷ marks) t.0 marked le)
          ∙ ap (λ (x : List (List ℕ)). term_names (written_term g f.1) ++ x) (put_letters g t fs ts h)
          ∙ ap names_of (sym (merged_first pf (plain_terms g (put_feature (t.0, Var t.1) fs)) marks t.0 h le))
          ∙ ap (λ (x : List (ℕ × Term)). names_of (merged (plain_terms g x) marks))
          (sym (cond-false (ltb t.0 f.0) ((t.0, Var t.1) ∷ f ∷ fs) (f ∷ put_feature (t.0, Var t.1) fs) high))
    ]

rises_tail : (t : ℕ × ℕ) (ts : List (ℕ × ℕ)) → ascends (map (λ x. x.0) (t ∷ ts)) ≡ true → rises t.0 (taken_terms ts) ≡ true
rises_tail t ts h = taken_rises_from t.0 ts h

ascends_tail : (t : ℕ × ℕ) (ts : List (ℕ × ℕ)) → ascends (map (λ x. x.0) (t ∷ ts)) ≡ true → ascends (map (λ x. x.0) ts) ≡ true
ascends_tail t [] h = refl
ascends_tail t (u ∷ us) h = (and_parts (leb t.0 u.0) (ascends (u.0 ∷ map (λ x. x.0) us)) h).1

-- the variables of a pattern, in order
pub pattern_letters : (g : GrammarParts) (fs : List (ℕ × Term)) (ts : List (ℕ × ℕ)) → ascends (map (λ t. t.0) ts) ≡ true
    → names_of (merged (plain_terms g fs) (taken_terms ts)) ≡ map letter (variables_in (with_taken fs ts))
pattern_letters g fs [] h = ap names_of (merged_none (plain_terms g fs)) ∙ plain_letters g fs
pattern_letters g fs (t ∷ ts) h = put_letters g t fs ts (rises_tail t ts h) ∙ pattern_letters g (put_feature (t.0, Var t.1) fs) ts (ascends_tail t ts h)

pub below_from : (n : ℕ) (ts : List (ℕ × WrittenTerm)) → below n ts ++ from n ts ≡ ts
below_from n [] = refl
below_from n (t ∷ ts) =
    elim (cases_Bool (ltb t.0 n)) [
      | inl low ↦ ap (λ (x : List (ℕ × WrittenTerm)). x ++ from n (t ∷ ts)) (cond-true (ltb t.0 n) (t ∷ below n ts) [] low)
          ∙ ap (λ (x : List (ℕ × WrittenTerm)). (t ∷ below n ts) ++ x) (cond-true (ltb t.0 n) (from n ts) (t ∷ ts) low)
          ∙ ap (λ (x : List (ℕ × WrittenTerm)). t ∷ x) (below_from n ts)
      | inr high ↦ ap (λ (x : List (ℕ × WrittenTerm)). x ++ from n (t ∷ ts)) (cond-false (ltb t.0 n) (t ∷ below n ts) [] high)
          ∙ cond-false (ltb t.0 n) (from n ts) (t ∷ ts) high
    ]
