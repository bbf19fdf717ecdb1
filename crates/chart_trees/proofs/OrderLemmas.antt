-- Which of two codes is lower.
use Rattle.std.proofs.Common.{◌≡◌, ℕ, zero, suc, ◌+◌, ◌<◌, ◌≤◌, List, [], ◌∷◌, ◌++◌, length, take, get_or, true, false, inl, inr, refl, sym, ap, subst, ◌∙◌, arith, append_assoc, append-nil, nat_lt, cond}
use Rattle.std.specs.Prelude.{◌==◌, slice_get, Some, IsTrue}
use Rattle.std.proofs.lemmas.Grind.{flat_map-append}
use Rattle.std.proofs.lemmas.Bool.Decides.{nat_tests}
use Rattle.std.specs.declared.cmp.Ordering.TheVariants.{Less, Equal, Greater}
use Rattle.std.specs.Ordering.{nat_cmp, ordering_then}
use Rattle.std.specs.Cmp.Lexicographic.{slice_cmp}
use Rattle.std.proofs.lemmas.List.{take_all}
use Rattle.wiki_base.proofs.ListLaws.{take_slice_get}
use Rattle.codeco_terms.specs.declared.values.Value.{Value}
use Rattle.derivation_trees.specs.Trees.{Node, node, nodes_from}
use Rattle.chart_trees.specs.Order.{node_code, nodes_code, codes, Lower, AtMost}

pub lower_append : (xs ys us ws : List ℕ) → Lower xs ys → Lower (xs ++ us) (ys ++ ws)
lower_append [] ys us ws h = absurd h
lower_append (x ∷ xs) [] us ws h = absurd h
lower_append (x ∷ xs) (y ∷ ys) us ws (inl lt) = inl lt
lower_append (x ∷ xs) (y ∷ ys) us ws (inr h) = inr (h.0, lower_append xs ys us ws h.1)

pub lower_front : (xs us ws : List ℕ) → Lower us ws → Lower (xs ++ us) (xs ++ ws)
lower_front [] us ws h = h
lower_front (x ∷ xs) us ws h = inr (refl, lower_front xs us ws h)

pub lower_trans : (xs ys zs : List ℕ) → Lower xs ys → Lower ys zs → Lower xs zs
lower_trans [] ys zs h k = absurd h
lower_trans (x ∷ xs) [] zs h k = absurd h
lower_trans (x ∷ xs) (y ∷ ys) [] h k = absurd k
lower_trans (x ∷ xs) (y ∷ ys) (z ∷ zs) (inl a) (inl b) = inl (omega arith)
lower_trans (x ∷ xs) (y ∷ ys) (z ∷ zs) (inl a) (inr b) = let e = b.0 in inl (omega arith)
lower_trans (x ∷ xs) (y ∷ ys) (z ∷ zs) (inr a) (inl b) = let e = a.0 in inl (omega arith)
lower_trans (x ∷ xs) (y ∷ ys) (z ∷ zs) (inr a) (inr b) = inr (a.0 ∙ b.0, lower_trans xs ys zs a.1 b.1)

pub at_most_trans : (xs ys zs : List ℕ) → AtMost xs ys → AtMost ys zs → AtMost xs zs
at_most_trans xs ys zs (inl e) (inl f) = inl (e ∙ f)
at_most_trans xs ys zs (inl e) (inr k) = inr (subst (λ l. Lower l zs) (sym e) k)
at_most_trans xs ys zs (inr h) (inl f) = inr (subst (Lower xs) f h)
at_most_trans xs ys zs (inr h) (inr k) = inr (lower_trans xs ys zs h k)

pub at_most_append : (xs ys us ws : List ℕ) → AtMost xs ys → AtMost us ws → AtMost (xs ++ us) (ys ++ ws)
at_most_append xs ys us ws (inl e) (inl f) = inl (ap (λ l. l ++ us) e ∙ ap (λ l. ys ++ l) f)
at_most_append xs ys us ws (inl e) (inr k) = inr (subst (λ l. Lower (xs ++ us) (l ++ ws)) e (lower_front xs us ws k))
at_most_append xs ys us ws (inr h) k = inr (lower_append xs ys us ws h)

-- where two first differ

-- the symbols before a place are the same
pub lower_at : (i : ℕ) (xs ys : List ℕ) → take i xs ≡ take i ys → i < length xs → i < length ys → get_or xs i 0 < get_or ys i 0 → Lower xs ys
lower_at i [] ys same lt le less = absurd (omega arith)
lower_at i (a ∷ xs) [] same lt le less = absurd (omega arith)
lower_at zero (a ∷ xs) (b ∷ ys) same lt le less = inl less
lower_at (suc i) (a ∷ xs) (b ∷ ys) same lt le less =
    inr (heads a b (take i xs) (take i ys) same, lower_at i xs ys (tails a b (take i xs) (take i ys) same) (omega arith) (omega arith) less)
  where
    heads : (a b : ℕ) (us ws : List ℕ) → a ∷ us ≡ b ∷ ws → a ≡ b
    heads a b us ws h = cc

    tails : (a b : ℕ) (us ws : List ℕ) → a ∷ us ≡ b ∷ ws → us ≡ ws
    tails a b us ws h = cc

-- as the program tests it
pub lower_tested : (i : ℕ) (xs ys : List ℕ) → take i xs ≡ take i ys → i < length xs → i < length ys → IsTrue (nat_lt (get_or xs i 0) (get_or ys i 0))
    → Lower xs ys
lower_tested i xs ys same lt le t = lower_at i xs ys same lt le (tested (get_or xs i 0) (get_or ys i 0) t)
  where
    tested : (x y : ℕ) → IsTrue (nat_lt x y) → x < y
    tested x y t = grind (arith, nat_tests)

-- lower where the two first differ is less in lexicographic order
pub lower_less : (xs ys : List ℕ) → Lower xs ys → slice_cmp nat_cmp xs ys ≡ Less
lower_less [] ys h = absurd h
lower_less (x ∷ xs) [] h = absurd h
lower_less (x ∷ xs) (y ∷ ys) (inl lt) =
    let t : nat_lt x y ≡ true = grind (arith, nat_tests) in
    ap (λ b. ordering_then (cond b Less (cond (x == y) Equal Greater)) (slice_cmp nat_cmp xs ys)) t
lower_less (x ∷ xs) (y ∷ ys) (inr h) =
    let e = h.0 in
    let f : nat_lt x y ≡ false = grind (arith, nat_tests) in
    let t : (x == y) ≡ true = grind (arith, nat_tests) in
    ap (λ b. ordering_then (cond b Less (cond (x == y) Equal Greater)) (slice_cmp nat_cmp xs ys)) f
    ∙ ap (λ b. ordering_then (cond b Equal Greater) (slice_cmp nat_cmp xs ys)) t ∙ lower_less xs ys h.1

-- the codes of trees

pub nodes_code_from : (ns : List Node) → nodes_code (nodes_from ns) ≡ codes ns
nodes_code_from [] = refl
nodes_code_from (n ∷ ns) = ap (λ l. node_code n ++ l) (nodes_code_from ns)

pub codes_append : (ns ms : List Node) → codes (ns ++ ms) ≡ codes ns ++ codes ms
codes_append ns ms = flat_map-append node_code ns ms

pub codes_push : (ns : List Node) (n : Node) → codes (ns ++ n ∷ []) ≡ codes ns ++ node_code n
codes_push ns n = codes_append ns (n ∷ []) ∙ ap (λ l. codes ns ++ l) (append-nil (node_code n))

-- the codes of one more tree
pub codes_next : (ns : List Node) (i : ℕ) (n : Node) (first before after : List ℕ) → slice_get ns i ≡ Some n → before ≡ first ++ codes (take i ns)
    → after ≡ before ++ node_code n → after ≡ first ++ codes (take (i + 1) ns)
codes_next ns i n first before after at h k =
    k ∙ ap (λ l. l ++ node_code n) h ∙ append_assoc first (codes (take i ns)) (node_code n)
    ∙ ap (λ l. first ++ l) (sym (codes_push (take i ns) n) ∙ ap codes (sym (take_slice_get ns i n at)))

-- the code of a tree, in parts
pub code_whole : (n : Node) (rule : ℕ) (values : List (ℕ × Value)) (found shown : List ℕ) (ns : List Node) (first before middle after : List ℕ)
    → n ≡ node rule values found (nodes_from ns) → shown ≡ found → before ≡ first ++ rule ∷ [] → middle ≡ before ++ shown → after ≡ middle ++ codes ns
    → after ≡ first ++ node_code n
code_whole n rule values found shown ns first before middle after is same a b c =
    c ∙ ap (λ l. l ++ codes ns) (b ∙ ap (λ l. l ++ shown) a ∙ ap (λ l. (first ++ rule ∷ []) ++ l) same) ∙ append_assoc (first ++ rule ∷ []) found (codes ns)
    ∙ append_assoc first (rule ∷ []) (found ++ codes ns) ∙ ap (λ l. first ++ rule ∷ (found ++ l)) (sym (nodes_code_from ns))
    ∙ ap (λ m. first ++ node_code m) (sym is)

pub codes_done : (ns : List Node) (i : ℕ) (first code : List ℕ) → length ns ≤ i → code ≡ first ++ codes (take i ns) → code ≡ first ++ codes ns
codes_done ns i first code le h = h ∙ ap (λ l. first ++ codes l) (take_all i ns le)
