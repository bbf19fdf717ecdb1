-- An element is in the class of a tree where some elements for its members make all parts true.
use Rattle.std.proofs.Common.{◌≡◌, ℕ, zero, suc, ◌≤◌, ◌<◌, ◌==◌, ◌&&◌, ◌||◌, Bool, true, false, List, [], ◌∷◌, ◌++◌, length, Option, Some, None, refl, sym, ap, ◌∙◌, subst, inl, inr, arith}
use Rattle.std.specs.Prelude.{◌⊎◌, not, cond, if◌then◌else◌}
use Rattle.std.specs.List.{filter_map, cons_option, list_all}
use Rattle.std.proofs.lemmas.Bool.{cases_eq, eq-eqb, or_cases, or_right, and_from, eqb-true, both_ways}
use Rattle.std.proofs.Math.Bool.{and-true}
use Rattle.wiki_base.specs.declared.numbers.WordId.{WordId}
use Rattle.wiki_base.proofs.BoolLaws.{and_first, and_second}
use Rattle.logic_terms.specs.Concept.{Concept, Everything, SomeValuesFrom, concepts_from}
use Rattle.logic_terms.specs.Interpretation.{Interpretation, has_pair}
use Rattle.logic_terms.specs.Meaning.{some_below, is_in, is_in_each}
use Rattle.ace_to_owl.specs.Parts.{Part, At, Edge, connected, has_cycle, straight, inverse, intersection}
use Rattle.ace_to_owl.proofs.Forest.{Con, con_refl, con_sym, con_skip, con_along, con_against, speaks, apart, Among, far, cut}

module _ (i : Interpretation) where
  -- a part is true where the members have these elements
  abbrev pub part_true : (ℕ → ℕ) → Part → Bool
  part_true h (At n c) = is_in i c (h n)
  part_true h (Edge word a b) = has_pair i word (h a) (h b)

-- a member that a part speaks of
abbrev pub place : Part → ℕ
place (At k c) = k
place (Edge word a b) = a

-- the class at a member by the parts that do not speak of those above it
abbrev pub gift : (ℕ → Concept) → ℕ → Part → Option Concept
gift class_of v (At k c) = if k == v then Some c else None
gift class_of v (Edge word a b) =
    if (a == v) && not (b == v) then Some (SomeValuesFrom (straight word) (class_of b))
    else if (b == v) && not (a == v) then Some (SomeValuesFrom (inverse word) (class_of a)) else None

abbrev pub tree_class : ℕ → List Part → ℕ → Concept
tree_class zero ps v = Everything
tree_class (suc depth) ps v = intersection (filter_map (gift (tree_class depth (apart v ps)) v) ps)

-- a relation of two elements by an edge, from the member to the far end
abbrev pub linked : Interpretation → ℕ → Part → ℕ → ℕ → Bool
linked i v (At k c) x y = true
linked i v (Edge word a b) x y = if a == v then has_pair i word x y else has_pair i word y x

-- membership in an intersection is membership in each
pub is_in-intersection : (i : Interpretation) (cs : List Concept) (x : ℕ) → is_in i (intersection cs) x ≡ list_all (λ c. is_in i c x) cs
is_in-intersection i [] x = refl
is_in-intersection i (c ∷ []) x = sym (and-true (is_in i c x))
is_in-intersection i (c ∷ d ∷ cs) x = by (c ∷ d ∷ cs)
  where
    by : (es : List Concept) → is_in_each i (concepts_from es) x ≡ list_all (λ e. is_in i e x) es
    by [] = refl
    by (e ∷ es) = ap (λ b. is_in i e x && b) (by es)

-- what a part gives, as a test
abbrev pub passes : Interpretation → Option Concept → ℕ → Bool
passes i (Some c) x = is_in i c x
passes i None x = true

gift_front : (i : Interpretation) (x : ℕ) (o : Option Concept) (cs : List Concept)
    → list_all (λ c. is_in i c x) (cons_option o cs) ≡ (passes i o x && list_all (λ c. is_in i c x) cs)
gift_front i x (Some c) cs = refl
gift_front i x None cs = refl

pub all_gifts : (i : Interpretation) (f : Part → Option Concept) (x : ℕ) (ps : List Part) → list_all (λ c. is_in i c x) (filter_map f ps) ≡ true → (p : Part)
    → Among p ps → passes i (f p) x ≡ true
all_gifts i f x [] h p among = absurd among
all_gifts i f x (q ∷ ps) h p among =
    let two : (passes i (f q) x && list_all (λ c. is_in i c x) (filter_map f ps)) ≡ true = sym (gift_front i x (f q) (filter_map f ps)) ∙ h in
    elim among [
      | inl same ↦ ap (λ r. passes i (f r) x) same ∙ and_first (passes i (f q) x) (list_all (λ c. is_in i c x) (filter_map f ps)) two
      | inr later ↦ all_gifts i f x ps (and_second (passes i (f q) x) (list_all (λ c. is_in i c x) (filter_map f ps)) two) p later
    ]

pub gifts_all : (i : Interpretation) (f : Part → Option Concept) (x : ℕ) (ps : List Part) → ((p : Part) → Among p ps → passes i (f p) x ≡ true)
    → list_all (λ c. is_in i c x) (filter_map f ps) ≡ true
gifts_all i f x [] each = refl
gifts_all i f x (q ∷ ps) each =
    gift_front i x (f q) (filter_map f ps)
    ∙ and_from (passes i (f q) x) (list_all (λ c. is_in i c x) (filter_map f ps)) (each q (inl refl)) (gifts_all i f x ps (λ p among. each p (inr among)))

-- a number below a bound passes where some does
pub some_from : (n : ℕ) (test : ℕ → Bool) → some_below n test ≡ true → (k : ℕ) × (k < n) × (test k ≡ true)
some_from zero test h = let is_not : false ≡ true = h in cc
some_from (suc n) test h = elim (or_cases (test n) (some_below n test) h) [
  | inl here ↦ (n, omega arith, here)
  | inr later ↦ (let w : (k : ℕ) × (k < n) × (test k ≡ true) = some_from n test later in (w.0, omega (arith, w.1), w.2))
]

pub some_to : (n : ℕ) (test : ℕ → Bool) (k : ℕ) → k < n → test k ≡ true → some_below n test ≡ true
some_to zero test k lt h = absurd (omega arith)
some_to (suc n) test k lt h = elim (cases_eq k n) [
  | inl same ↦ ap (λ b. b || some_below n test) (sym (ap test same) ∙ h)
  | inr ne ↦ or_right (test n) (some_below n test) (some_to n test k (omega arith) h)
]

pub same_some : (n m : ℕ) → Some n ≡ Some m → n ≡ m
same_some n m e = ap (λ o. elim o [ Some k ↦ k | None ↦ n ]) e

pub none_some : (n : ℕ) → ◌≡◌ {A = Option ℕ} None (Some n) → ⊥
none_some n e = let flip : true ≡ false = ap (λ o. elim o [ Some k ↦ false | None ↦ true ]) e in cc

not_same : (b v : ℕ) → (b == v) ≡ false → ¬ (b ≡ v)
not_same b v h e = both_ways (b == v) h (eq-eqb b v e)

-- what the far end of an edge is
pub record FarEnd (v : ℕ) (p : Part) (b : ℕ) : Type 0 where
  pub apart_from : ¬ (b ≡ v)
  pub speaks_of : speaks v p ≡ true
  pub gives : (i : Interpretation) (cl : ℕ → Concept) (x : ℕ) → passes i (gift cl v p) x ≡ some_below i.size (λ y. linked i v p x y && is_in i (cl b) y)
  pub reads : (i : Interpretation) (h : ℕ → ℕ) → part_true i h p ≡ linked i v p (h v) (h b)
  pub ends : (place p ≡ v) ⊎ (place p ≡ b)
  pub joins : (ps : List Part) → Con (p ∷ ps) v b
  pub cuts : (before after : List Part) → Con (before ++ after) v b → has_cycle (before ++ p ∷ after) ≡ true

far_end_by : (v : ℕ) (word : WordId) (a c b : ℕ) (s t : Bool) → (a == v) ≡ s → (c == v) ≡ t
    → (if s && not t then Some c else if t && not s then Some a else None) ≡ Some b → FarEnd v (Edge word a c) b
far_end_by v word a c b true false sa tc e =
    let cb : c ≡ b = same_some c b e in
    let av : a ≡ v = eqb-true a v sa in
    record {
      apart_from = λ bv. not_same c v tc (cb ∙ bv);
      speaks_of = ap (λ z. z || (c == v)) sa;
      gives = λ i cl x.
          (λ j. passes i (if sa j && not (tc j) then Some (SomeValuesFrom (straight word) (cl c)) else if tc j && not (sa j)
          then Some (SomeValuesFrom (inverse word) (cl a)) else None) x)
          ∙ ap (λ m. some_below i.size (λ y. has_pair i word x y && is_in i (cl m) y)) cb
          ∙ (λ j. some_below i.size (λ y. (if sym sa j then has_pair i word x y else has_pair i word y x) && is_in i (cl b) y));
      reads = λ i h. (λ j. has_pair i word (h (av j)) (h (cb j))) ∙ (λ j. if sym sa j then has_pair i word (h v) (h b) else has_pair i word (h b) (h v));
      ends = inl av;
      joins = λ ps. con_along word a c ps v b (subst (λ z. Con ps v z) (sym av) (con_refl ps v)) (subst (λ z. Con ps z b) (sym cb) (con_refl ps b));
      cuts = λ before after h. cut before word a c after (subst (λ z. Con (before ++ after) z c) (sym av) (subst (λ z. Con (before ++ after) v z) (sym cb) h));
    }
far_end_by v word a c b false true sa tc e =
    let ab : a ≡ b = same_some a b e in
    let cv : c ≡ v = eqb-true c v tc in
    record {
      apart_from = λ bv. not_same a v sa (ab ∙ bv);
      speaks_of = or_right (a == v) (c == v) tc;
      gives = λ i cl x.
          (λ j. passes i (if sa j && not (tc j) then Some (SomeValuesFrom (straight word) (cl c)) else if tc j && not (sa j)
          then Some (SomeValuesFrom (inverse word) (cl a)) else None) x)
          ∙ ap (λ m. some_below i.size (λ y. has_pair i word y x && is_in i (cl m) y)) ab
          ∙ (λ j. some_below i.size (λ y. (if sym sa j then has_pair i word x y else has_pair i word y x) && is_in i (cl b) y));
      reads = λ i h. (λ j. has_pair i word (h (ab j)) (h (cv j))) ∙ (λ j. if sym sa j then has_pair i word (h v) (h b) else has_pair i word (h b) (h v));
      ends = inr ab;
      joins = λ ps. con_against word a c ps v b (subst (λ z. Con ps v z) (sym cv) (con_refl ps v)) (subst (λ z. Con ps z b) (sym ab) (con_refl ps b));
      cuts = λ before after h. cut before word a c after
          (subst (λ z. Con (before ++ after) z c) (sym ab) (subst (λ z. Con (before ++ after) b z) (sym cv) (con_sym (before ++ after) v b h)));
    }
far_end_by v word a c b true true sa tc e = absurd (none_some b e)
far_end_by v word a c b false false sa tc e = absurd (none_some b e)

pub far_end : (v : ℕ) (p : Part) (b : ℕ) → far v p ≡ Some b → FarEnd v p b
far_end v (At k c) b e = absurd (none_some b e)
far_end v (Edge word a c) b e = far_end_by v word a c b (a == v) (c == v) refl refl e

pub no_gift_by : (i : Interpretation) (v : ℕ) (word : WordId) (a c : ℕ) (cl : ℕ → Concept) (x : ℕ) (s t : Bool)
    → ((if s && not t then Some c else if t && not s then Some a else None) ≡ None)
    → passes i (if s && not t then Some (SomeValuesFrom (straight word) (cl c)) else if t && not s then Some (SomeValuesFrom (inverse word) (cl a)) else None) x
    ≡ true
no_gift_by i v word a c cl x true false e = absurd (none_some c (sym e))
no_gift_by i v word a c cl x false true e = absurd (none_some a (sym e))
no_gift_by i v word a c cl x true true e = refl
no_gift_by i v word a c cl x false false e = refl

-- parts of the others
among_cond : (t : Bool) (q p : Part) (ps : List Part) → Among p ps → Among p (cond t (q ∷ ps) ps)
among_cond true q p ps h = inr h
among_cond false q p ps h = h

pub among_apart : (v : ℕ) (p : Part) (ps : List Part) → Among p ps → speaks v p ≡ false → Among p (apart v ps)
among_apart v p [] among silent = among
among_apart v p (q ∷ ps) among silent = elim among [
  | inl same ↦ by (not (speaks v q)) (ap not (sym (ap (speaks v) same) ∙ silent)) same
  | inr later ↦ among_cond (not (speaks v q)) q p (apart v ps) (among_apart v p ps later silent)
]
  where
    by : (t : Bool) → t ≡ true → p ≡ q → Among p (cond t (q ∷ apart v ps) (apart v ps))
    by true e same = inl same
    by false e same = let is_not : false ≡ true = e in cc

whole_cond : (t : Bool) (q p : Part) (qs ps : List Part) → (Among p qs → Among p ps) → Among p (cond t (q ∷ qs) qs) → Among p (q ∷ ps)
whole_cond true q p qs ps f h = elim h [ inl same ↦ inl same | inr later ↦ inr (f later) ]
whole_cond false q p qs ps f h = inr (f h)

pub among_whole : (v : ℕ) (p : Part) (ps : List Part) → Among p (apart v ps) → Among p ps
among_whole v p [] among = among
among_whole v p (q ∷ ps) among = whole_cond (not (speaks v q)) q p (apart v ps) ps (λ h. among_whole v p ps h) among

within_cond : (t : Bool) (q : Part) (qs : List Part) (n : ℕ) → length qs ≤ n → length (cond t (q ∷ qs) qs) ≤ suc n
within_cond true q qs n h = omega (arith, h)
within_cond false q qs n h = omega (arith, h)

apart_within_length : (v : ℕ) (ps : List Part) → length (apart v ps) ≤ length ps
apart_within_length v [] = omega arith
apart_within_length v (q ∷ ps) = within_cond (not (speaks v q)) q (apart v ps) (length ps) (apart_within_length v ps)

dropped_cond : (t : Bool) (q : Part) (qs : List Part) (n : ℕ) → t ≡ false → length qs ≤ n → suc (length (cond t (q ∷ qs) qs)) ≤ suc n
dropped_cond true q qs n is_not h = let flip : true ≡ false = is_not in cc
dropped_cond false q qs n is_not h = omega (arith, h)

more_cond : (t : Bool) (q : Part) (qs : List Part) (n : ℕ) → suc (length qs) ≤ n → suc (length (cond t (q ∷ qs) qs)) ≤ suc n
more_cond true q qs n h = omega (arith, h)
more_cond false q qs n h = omega (arith, h)

pub apart_shorter : (v : ℕ) (p : Part) (ps : List Part) → Among p ps → speaks v p ≡ true → suc (length (apart v ps)) ≤ length ps
apart_shorter v p [] among spoken = absurd among
apart_shorter v p (q ∷ ps) among spoken = elim among [
  | inl same ↦ dropped_cond (not (speaks v q)) q (apart v ps) (length ps) (ap not (sym (ap (speaks v) same) ∙ spoken)) (apart_within_length v ps)
  | inr later ↦ more_cond (not (speaks v q)) q (apart v ps) (length ps) (apart_shorter v p ps later spoken)
]

-- the members that a part speaks of are in one component
pub joined_far : (v : ℕ) (p : Part) (b : ℕ) (ps : List Part) → Among p ps → FarEnd v p b → Con ps v b
joined_far v p b [] among end = absurd among
joined_far v p b (q ∷ ps) among end = elim among [
  | inl same ↦ subst (λ r. Con (r ∷ ps) v b) same (end.joins ps)
  | inr later ↦ con_skip q ps v b (joined_far v p b ps later end)
]

pub joined_ends : (word : WordId) (a b : ℕ) (ps : List Part) → Among (Edge word a b) ps → Con ps a b
joined_ends word a b [] among = absurd among
joined_ends word a b (q ∷ ps) among = elim among [
  | inl same ↦ subst (λ r. Con (r ∷ ps) a b) same (con_along word a b ps a b (con_refl ps a) (con_refl ps b))
  | inr later ↦ con_skip q ps a b (joined_ends word a b ps later)
]

-- an edge from a member to itself is a cycle
pub loop_cycle : (word : WordId) (a b : ℕ) (ps : List Part) → a ≡ b → Among (Edge word a b) ps → has_cycle ps ≡ true
loop_cycle word a b [] same among = absurd among
loop_cycle word a b (q ∷ ps) same among = elim among [
  | inl is ↦ subst (λ r. has_cycle (r ∷ ps) ≡ true) is (ap (λ z. z || has_cycle ps) (subst (λ z. Con ps a z) same (con_refl ps a)))
  | inr later ↦ later_cycle q (loop_cycle word a b ps same later)
]
  where
    later_cycle : (q : Part) → has_cycle ps ≡ true → has_cycle (q ∷ ps) ≡ true
    later_cycle (At k c) h = h
    later_cycle (Edge w x y) h = or_right (connected ps x y) (has_cycle ps) h
