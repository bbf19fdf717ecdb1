-- The keys of a set of names, as the names that they stand for.
use Rattle.std.proofs.Common.{◌≡◌, ℕ, Bool, true, false, cond, ◌&&◌, ◌||◌, List, [], ◌∷◌, ◌++◌, map, refl, ap, ◌∙◌}
use Rattle.std.specs.Bool.{nat_eq}
use Rattle.std.specs.List.{list_any}
use Rattle.std.specs.Cmp.Lexicographic.{pointwise}
use Rattle.std.proofs.lemmas.List.{map-append}
use Rattle.codeco_numbering.proofs.NameTables.{pointwise_same}
use Rattle.indexmap.specs.IndexSet.{insert_key}
use Rattle.codeco_text.specs.Names.{same_bytes, is_among}
use Rattle.codeco_numbering.specs.Numbered.{gathered}
use Rattle.codeco_early_faults.specs.Pairs.{same_pair, has_pair, gathered_pairs}
use denote.Ref.{Bor}

abbrev pub texts : List (Bor (List ℕ)) → List (List ℕ)
texts ks = map (λ k. k.now) ks

pub among_texts : (w : List ℕ) (ks : List (Bor (List ℕ))) → list_any (λ k. pointwise nat_eq w k.now) ks ≡ is_among (texts ks) w
among_texts w [] = refl
among_texts w (k ∷ ks) = ap (λ b. b || list_any (λ x. pointwise nat_eq w x.now) ks) (pointwise_same w k.now)
    ∙ ap (λ b. same_bytes w k.now || b) (among_texts w ks)

pub put_text : (ks : List (Bor (List ℕ))) (k : Bor (List ℕ)) → texts (insert_key (λ x y. pointwise nat_eq x.now y.now) ks k) ≡ gathered (texts ks) (k.now ∷ [])
put_text ks k = by (is_among (texts ks) k.now) (among_texts k.now ks)
  where
    by : (b : Bool) → list_any (λ x. pointwise nat_eq k.now x.now) ks ≡ b
        → texts (cond (list_any (λ x. pointwise nat_eq k.now x.now) ks) ks (ks ++ k ∷ [])) ≡ cond b (texts ks) (texts ks ++ k.now ∷ [])
    by true e = ap (λ b. texts (cond b ks (ks ++ k ∷ []))) e
    by false e = ap (λ b. texts (cond b ks (ks ++ k ∷ []))) e ∙ map-append (λ x. x.now) ks (k ∷ [])

abbrev pub text_pair : Bor (List ℕ) × Bor (List ℕ) → List ℕ × List ℕ
text_pair p = (p.0.now, p.1.now)

abbrev pub text_pairs : List (Bor (List ℕ) × Bor (List ℕ)) → List (List ℕ × List ℕ)
text_pairs ks = map text_pair ks

pairs_among : (p : Bor (List ℕ) × Bor (List ℕ)) (ks : List (Bor (List ℕ) × Bor (List ℕ)))
    → list_any (λ k. pointwise nat_eq p.0.now k.0.now && pointwise nat_eq p.1.now k.1.now) ks ≡ has_pair (text_pairs ks) (text_pair p)
pairs_among p [] = refl
pairs_among p (k ∷ ks) =
    ap (λ b. (b && pointwise nat_eq p.1.now k.1.now) || list_any (λ x. pointwise nat_eq p.0.now x.0.now && pointwise nat_eq p.1.now x.1.now) ks)
    (pointwise_same p.0.now k.0.now)
    ∙ ap (λ b. (same_bytes p.0.now k.0.now && b) || list_any (λ x. pointwise nat_eq p.0.now x.0.now && pointwise nat_eq p.1.now x.1.now) ks)
    (pointwise_same p.1.now k.1.now)
    ∙ ap (λ b. same_pair (text_pair p) (text_pair k) || b) (pairs_among p ks)

abbrev stands : Bor (List ℕ) × Bor (List ℕ) → List (Bor (List ℕ) × Bor (List ℕ)) → Bool
stands p ks = list_any (λ k. pointwise nat_eq p.0.now k.0.now && pointwise nat_eq p.1.now k.1.now) ks

pub put_pair : (ks : List (Bor (List ℕ) × Bor (List ℕ))) (p : Bor (List ℕ) × Bor (List ℕ))
    → text_pairs (insert_key (λ x y. pointwise nat_eq x.0.now y.0.now && pointwise nat_eq x.1.now y.1.now) ks p)
    ≡ gathered_pairs (text_pairs ks) (text_pair p ∷ [])
put_pair ks p = by (has_pair (text_pairs ks) (text_pair p)) (pairs_among p ks)
  where
    by : (b : Bool) → stands p ks ≡ b → text_pairs (cond (stands p ks) ks (ks ++ p ∷ [])) ≡ cond b (text_pairs ks) (text_pairs ks ++ text_pair p ∷ [])
    by true e = ap (λ b. text_pairs (cond b ks (ks ++ p ∷ []))) e
    by false e = ap (λ b. text_pairs (cond b ks (ks ++ p ∷ []))) e ∙ map-append text_pair ks (p ∷ [])
