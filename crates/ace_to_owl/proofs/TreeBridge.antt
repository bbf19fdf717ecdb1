-- The class at a member, by those on the way to it, is that of the parts which do not speak of them.
use Rattle.std.proofs.Common.{◌≡◌, ℕ, zero, suc, ◌==◌, ◌&&◌, ◌||◌, Bool, true, false, List, [], ◌∷◌, ◌++◌, Some, None, refl, sym, ap, ◌∙◌, inl, inr}
use Rattle.std.specs.Prelude.{not, cond, if◌then◌else◌}
use Rattle.std.specs.List.{list_any, filter_map, cons_option}
use Rattle.std.proofs.lemmas.Bool.{cases_eq, cases_Bool, eq-eqb, ne_eqb}
use Rattle.std.proofs.lemmas.Bool.Decides.{Decides-eqb}
use Rattle.logic_terms.specs.Concept.{Concept, SomeValuesFrom}
use Rattle.ace_to_owl.specs.Parts.{Part, At, Edge, straight, inverse, intersection, leads, part_at, class_at}
use Rattle.std.proofs.lemmas.List.Folds.{list_any-append}
use Rattle.std.proofs.Math.Bool.{or_comm, or-false, and-false}
use Rattle.wiki_base.proofs.NumberLaws.{eqb_comm}
use Rattle.ace_to_owl.proofs.Forest.{speaks, apart, Among, far}
use Rattle.ace_to_owl.proofs.TreeTruth.{gift, tree_class, far_end, among_whole, same_some, none_some}

-- the parts that speak of none of these
abbrev pub clear : List ℕ → List Part → List Part
clear [] ps = ps
clear (a ∷ above) ps = clear above (apart a ps)

clear-append : (above : List ℕ) (v : ℕ) (ps : List Part) → clear (above ++ v ∷ []) ps ≡ apart v (clear above ps)
clear-append [] v ps = refl
clear-append (a ∷ above) v ps = clear-append above v (apart a ps)

-- a way of one member alone
alone_leads : (v n m : ℕ) → leads (v ∷ []) v n m ≡ ((n == v) && not (m == v))
alone_leads v n m = ap (λ b. (n == v) && not b) (or-false (v == m) ∙ eqb_comm v m)

alone_gift : (cl : ℕ → Concept) (v : ℕ) (p : Part) → part_at cl (v ∷ []) v p ≡ gift cl v p
alone_gift cl v (At k c) = refl
alone_gift cl v (Edge word a b) =
    λ j. if alone_leads v a b j then Some (SomeValuesFrom (straight word) (cl b)) else if alone_leads v b a j then Some (SomeValuesFrom (inverse word) (cl a))
    else None

-- one more member on the way
more_leads : (way : List ℕ) (a v n m : ℕ) → (a == m) ≡ false → leads (a ∷ way) v n m ≡ leads way v n m
more_leads way a v n m differs = ap (λ b. (n == v) && not (b || list_any (λ k. k == m) way)) differs

none_leads : (way : List ℕ) (a v n m : ℕ) → ¬ (a ≡ v) → ((n == a) || (m == a)) ≡ true → leads (a ∷ way) v n m ≡ false
none_leads way a v n m ne spoken = elim (cases_eq n a) [
  | inl na ↦ ap (λ b. b && not ((a == m) || list_any (λ k. k == m) way)) (ne_eqb n v (λ nv. ne (sym na ∙ nv)))
  | inr nn ↦ (let ma : (m == a) ≡ true = sym (ap (λ b. b || (m == a)) (ne_eqb n a nn)) ∙ spoken in
      ap (λ b. (n == v) && not (b || list_any (λ k. k == m) way)) (eqb_comm a m ∙ ma) ∙ and-false (n == v))
]

left_false : (a b : Bool) → (a || b) ≡ false → a ≡ false
left_false true b h = h
left_false false b h = refl

part_more : (cl : ℕ → Concept) (way : List ℕ) (a v : ℕ) (p : Part) → speaks a p ≡ false → part_at cl (a ∷ way) v p ≡ part_at cl way v p
part_more cl way a v (At k c) silent = refl
part_more cl way a v (Edge word x y) silent =
    λ j. if more_leads way a v x y (eqb_comm a y ∙ left_false (y == a) (x == a) (or_comm (y == a) (x == a) ∙ silent)) j
    then Some (SomeValuesFrom (straight word) (cl y))
    else if more_leads way a v y x (eqb_comm a x ∙ left_false (x == a) (y == a) silent) j then Some (SomeValuesFrom (inverse word) (cl x)) else None

part_none : (cl : ℕ → Concept) (way : List ℕ) (a v : ℕ) → ¬ (a ≡ v) → (p : Part) → speaks a p ≡ true → part_at cl (a ∷ way) v p ≡ None
part_none cl way a v ne (At k c) spoken = ap (λ b. if b then Some c else None) (ne_eqb k v (λ kv. ne (sym (from k a spoken) ∙ kv)))
  where
    from : (n m : ℕ) → (n == m) ≡ true → n ≡ m
    from n m e = (Decides-eqb n m).0 e
part_none cl way a v ne (Edge word x y) spoken =
    λ j. if none_leads way a v x y ne spoken j then Some (SomeValuesFrom (straight word) (cl y))
    else if none_leads way a v y x ne (or_comm (y == a) (x == a) ∙ spoken) j then Some (SomeValuesFrom (inverse word) (cl x)) else None

-- a member on the way may be taken away with the parts that speak of it
one_away : (cl : ℕ → Concept) (way : List ℕ) (a v : ℕ) → ¬ (a ≡ v) → (ps : List Part)
    → filter_map (part_at cl (a ∷ way) v) ps ≡ filter_map (part_at cl way v) (apart a ps)
one_away cl way a v ne [] = refl
one_away cl way a v ne (p ∷ ps) = elim (cases_Bool (speaks a p)) [
  | inl spoken ↦
      ap (λ o. cons_option o (filter_map (part_at cl (a ∷ way) v) ps)) (part_none cl way a v ne p spoken)
      ∙ one_away cl way a v ne ps
      ∙ ap (λ b. filter_map (part_at cl way v) (cond (not b) (p ∷ apart a ps) (apart a ps))) (sym spoken)
  | inr silent ↦
      (λ j. cons_option (part_more cl way a v p silent j) (one_away cl way a v ne ps j))
      ∙ ap (λ b. filter_map (part_at cl way v) (cond (not b) (p ∷ apart a ps) (apart a ps))) (sym silent)
]

away : (cl : ℕ → Concept) (above : List ℕ) (v : ℕ) → list_any (λ a. a == v) above ≡ false → (ps : List Part)
    → filter_map (part_at cl (above ++ v ∷ []) v) ps ≡ filter_map (gift cl v) (clear above ps)
away cl [] v out ps = ap (λ f. filter_map f ps) (λ j p. alone_gift cl v p j)
away cl (a ∷ above) v out ps =
    one_away cl (above ++ v ∷ []) a v (λ same. differs (a == v) (left_false (a == v) (list_any (λ b. b == v) above) out) (eq-eqb a v same)) ps
    ∙ away cl above v (right_false (a == v) (list_any (λ b. b == v) above) out) (apart a ps)
  where
    differs : (b : Bool) → b ≡ false → b ≡ true → ⊥
    differs b p q = let flip : true ≡ false = sym q ∙ p in cc

    right_false : (x y : Bool) → (x || y) ≡ false → y ≡ false
    right_false true y h = let flip : true ≡ false = h in cc
    right_false false y h = h

-- what a part gives rests on the classes of its far end alone
gift_same : (cl dl : ℕ → Concept) (v : ℕ) (p : Part) → ((b : ℕ) → far v p ≡ Some b → cl b ≡ dl b) → gift cl v p ≡ gift dl v p
gift_same cl dl v (At k c) same = refl
gift_same cl dl v (Edge word a b) same = by (a == v) (b == v) same
  where
    by : (s t : Bool) → ((m : ℕ) → (if s && not t then Some b else if t && not s then Some a else None) ≡ Some m → cl m ≡ dl m)
        → (if s && not t then Some (SomeValuesFrom (straight word) (cl b)) else if t && not s then Some (SomeValuesFrom (inverse word) (cl a)) else None)
        ≡ (if s && not t then Some (SomeValuesFrom (straight word) (dl b)) else if t && not s then Some (SomeValuesFrom (inverse word) (dl a)) else None)
    by true false h = ap (λ c. Some (SomeValuesFrom (straight word) c)) (h b refl)
    by false true h = ap (λ c. Some (SomeValuesFrom (inverse word) c)) (h a refl)
    by true true h = refl
    by false false h = refl

gifts_same : (cl dl : ℕ → Concept) (v : ℕ) (ps : List Part) → ((p : Part) → Among p ps → (b : ℕ) → far v p ≡ Some b → cl b ≡ dl b)
    → filter_map (gift cl v) ps ≡ filter_map (gift dl v) ps
gifts_same cl dl v [] same = refl
gifts_same cl dl v (p ∷ ps) same =
    λ j. cons_option (gift_same cl dl v p (λ b is. same p (inl refl) b is) j) (gifts_same cl dl v ps (λ q among. same q (inr among)) j)

-- the far end of an edge among parts that speak of none of these is none of these
silent_far : (v : ℕ) (p : Part) (b a : ℕ) → far v p ≡ Some b → speaks a p ≡ false → (a == b) ≡ false
silent_far v (At k c) b a is silent = absurd (none_some b is)
silent_far v (Edge word x y) b a is silent = by (x == v) (y == v) is
  where
    by : (s t : Bool) → (if s && not t then Some y else if t && not s then Some x else None) ≡ Some b → (a == b) ≡ false
    by true false h = ap (λ n. a == n) (sym (same_some y b h)) ∙ eqb_comm a y ∙ left_false (y == a) (x == a) (or_comm (y == a) (x == a) ∙ silent)
    by false true h = ap (λ n. a == n) (sym (same_some x b h)) ∙ eqb_comm a x ∙ left_false (x == a) (y == a) silent
    by true true h = absurd (none_some b h)
    by false false h = absurd (none_some b h)

silent_cond : (t : Bool) (a : ℕ) (q p : Part) (qs : List Part) → t ≡ not (speaks a q) → (Among p qs → speaks a p ≡ false) → Among p (cond t (q ∷ qs) qs)
    → speaks a p ≡ false
silent_cond true a q p qs is f among = elim among [ inl same ↦ not_true (speaks a p) (is ∙ ap (λ r. not (speaks a r)) (sym same)) | inr later ↦ f later ]
  where
    not_true : (b : Bool) → true ≡ not b → b ≡ false
    not_true true e = let flip : true ≡ false = e in cc
    not_true false e = refl
silent_cond false a q p qs is f among = f among

far_differs : (v : ℕ) (p : Part) (b : ℕ) → far v p ≡ Some b → (v == b) ≡ false
far_differs v p b is = eqb_comm v b ∙ ne_eqb b v (far_end v p b is).apart_from

apart_silent : (a : ℕ) (p : Part) (ps : List Part) → Among p (apart a ps) → speaks a p ≡ false
apart_silent a p [] among = absurd among
apart_silent a p (q ∷ ps) among = silent_cond (not (speaks a q)) a q p (apart a ps) refl (λ h. apart_silent a p ps h) among

clear_within : (above : List ℕ) (p : Part) (ps : List Part) → Among p (clear above ps) → Among p ps
clear_within [] p ps among = among
clear_within (a ∷ above) p ps among = among_whole a p ps (clear_within above p (apart a ps) among)

clear_far : (above : List ℕ) (v : ℕ) (p : Part) (b : ℕ) (ps : List Part) → Among p (clear above ps) → far v p ≡ Some b → list_any (λ a. a == b) above ≡ false
clear_far [] v p b ps among is = refl
clear_far (a ∷ above) v p b ps among is =
    ap (λ t. t || list_any (λ k. k == b) above) (silent_far v p b a is (apart_silent a p ps (clear_within above p (apart a ps) among)))
    ∙ clear_far above v p b (apart a ps) among is

-- the class at a member
pub class_at-tree : (depth : ℕ) (ps : List Part) (above : List ℕ) (v : ℕ) → list_any (λ a. a == v) above ≡ false
    → class_at depth ps above v ≡ tree_class depth (clear above ps) v
class_at-tree zero ps above v out = refl
class_at-tree (suc depth) ps above v out =
    ap intersection
    (away (class_at depth ps (above ++ v ∷ [])) above v out ps
    ∙ gifts_same (class_at depth ps (above ++ v ∷ [])) (tree_class depth (apart v (clear above ps))) v (clear above ps)
    (λ p among b is.
    class_at-tree depth ps (above ++ v ∷ []) b
    (list_any-append (λ a. a == b) above (v ∷ []) ∙ ap (λ t. t || ((v == b) || false)) (clear_far above v p b ps among is) ∙ or-false (v == b)
    ∙ far_differs v p b is)
    ∙ ap (λ qs. tree_class depth qs b) (clear-append above v ps)))
