-- The truth of a tree's parts, put together from those of what hangs on the member.
use Rattle.std.proofs.Common.{◌≡◌, ℕ, zero, suc, ◌≤◌, ◌<◌, ◌==◌, ◌&&◌, ◌||◌, Bool, true, false, List, [], ◌∷◌, ◌++◌, length, Option, Some, None, refl, sym, ap, ◌∙◌, subst, inl, inr, arith, append_assoc}
use Rattle.std.specs.Prelude.{not, cond, if◌then◌else◌}
use Rattle.std.specs.List.{filter_map}
use Rattle.std.proofs.lemmas.Bool.{cases_eq, cases_Bool, eq-eqb, ne_eqb, and_from, eqb-true, both_ways}
use Rattle.wiki_base.proofs.BoolLaws.{and_first, and_second}
use Rattle.logic_terms.specs.Concept.{Concept}
use Rattle.logic_terms.specs.Interpretation.{Interpretation, has_pair}
use Rattle.logic_terms.specs.Meaning.{is_in}
use Rattle.ace_to_owl.specs.Parts.{Part, At, Edge, connected, has_cycle}
use Rattle.ace_to_owl.proofs.Forest.{Con, con_refl, con_sym, con_trans, con_skip, speaks, apart, Among, far, Touched, parted, Within, within_cons, apart_within, apart_cycle, isolated}
use Rattle.ace_to_owl.proofs.TreeTruth.{part_true, place, gift, tree_class, linked, passes, is_in-intersection, all_gifts, gifts_all, some_from, some_to, FarEnd, far_end, among_apart, among_whole, apart_shorter, joined_far, joined_ends, loop_cycle, no_gift_by, same_some, none_some}

-- elements for the members in the component of one, which has this element, with all parts there true
pub record Modelled (i : Interpretation) (ps : List Part) (v x : ℕ) : Type 0 where
  pub h : ℕ → ℕ
  pub at : h v ≡ x
  pub sized : (u : ℕ) → ¬ (u ≡ v) → Con ps v u → h u < i.size
  pub true_parts : (p : Part) → Among p ps → Con ps v (place p) → part_true i h p ≡ true

-- assignments that agree on a component make the same parts of it true
agree : (i : Interpretation) (ps : List Part) (b : ℕ) (f g : ℕ → ℕ) → ((n : ℕ) → Con ps b n → f n ≡ g n) → (p : Part) → Among p ps → Con ps b (place p)
    → part_true i f p ≡ part_true i g p
agree i ps b f g same (At k c) among con = ap (is_in i c) (same k con)
agree i ps b f g same (Edge word a d) among con =
    λ j. has_pair i word (same a con j) (same d (con_trans ps b a d con (joined_ends word a d ps among)) j)

-- what hangs on a member by some of its edges, with elements for it
pub record Glued (i : Interpretation) (v x : ℕ) (qs rs : List Part) : Type 0 where
  pub g : ℕ → ℕ
  pub sized : (e : Part) (b : ℕ) → Among e rs → far v e ≡ Some b → (u : ℕ) → Con qs b u → g u < i.size
  pub true_parts : (e : Part) (b : ℕ) → Among e rs → far v e ≡ Some b → (p : Part) → Among p qs → Con qs b (place p) → part_true i g p ≡ true
  pub links : (e : Part) (b : ℕ) → Among e rs → far v e ≡ Some b → linked i v e x (g b) ≡ true

-- an element for the far end of an edge, with what hangs there
pub record Hanging (i : Interpretation) (v x : ℕ) (qs : List Part) (e : Part) (b : ℕ) : Type 0 where
  pub y : ℕ
  pub within : y < i.size
  pub links : linked i v e x y ≡ true
  pub model : Modelled i qs b y

-- no two far ends are connected
abbrev pub Separate : ℕ → List Part → List Part → Type 0
Separate v qs [] = Unit {0}
Separate v qs (e ∷ rs) = ((b : ℕ) → far v e ≡ Some b → (d : Part) (c : ℕ) → Among d rs → far v d ≡ Some c → ¬ Con qs b c) × Separate v qs rs

-- one more edge with what hangs on it
module _ (i : Interpretation) (v x : ℕ) (qs rs : List Part) (e : Part) (b : ℕ) (is : far v e ≡ Some b) (hang : Hanging i v x qs e b) (rest : Glued i v x qs rs)
    (separate : (d : Part) (c : ℕ) → Among d rs → far v d ≡ Some c → ¬ Con qs b c) where
  unfoldable glue : ℕ → ℕ
  glue u = if connected qs b u then hang.model.h u else rest.g u

  glue_in : (u : ℕ) → Con qs b u → glue u ≡ hang.model.h u
  unfolding glue
  glue_in u con = ap (λ t. if t then hang.model.h u else rest.g u) con

  glue_out : (u : ℕ) → connected qs b u ≡ false → glue u ≡ rest.g u
  unfolding glue
  glue_out u out = ap (λ t. if t then hang.model.h u else rest.g u) out

  in_size : (u : ℕ) → Con qs b u → glue u < i.size
  in_size u con = elim (cases_eq u b) [
    | inl same ↦ subst (λ n. n < i.size) (sym (glue_in u con ∙ ap hang.model.h same ∙ hang.model.at)) hang.within
    | inr ne ↦ subst (λ n. n < i.size) (sym (glue_in u con)) (hang.model.sized u ne con)
  ]

  here_true : (p : Part) → Among p qs → Con qs b (place p) → part_true i glue p ≡ true
  here_true p among con = agree i qs b glue hang.model.h glue_in p among con ∙ hang.model.true_parts p among con

  out_there : (c : ℕ) (u : ℕ) → Con qs c u → connected qs b u ≡ false → (n : ℕ) → Con qs c n → connected qs b n ≡ false
  out_there c u con out n on = elim (cases_Bool (connected qs b n)) [
    | inl is_so ↦ absurd (both_ways (connected qs b u) out (con_trans qs b n u is_so (con_trans qs n c u (con_sym qs c n on) con)))
    | inr is_not ↦ is_not
  ]

  there_true : (d : Part) (c : ℕ) → Among d rs → far v d ≡ Some c → (p : Part) → Among p qs → Con qs c (place p) → part_true i glue p ≡ true
  there_true d c later its p among con = elim (cases_Bool (connected qs b (place p))) [
    | inl is_so ↦ here_true p among is_so
    | inr is_not ↦ agree i qs c glue rest.g (λ n on. glue_out n (out_there c (place p) con is_not n on)) p among con ∙ rest.true_parts d c later its p among con
  ]

  there_size : (d : Part) (c : ℕ) → Among d rs → far v d ≡ Some c → (u : ℕ) → Con qs c u → glue u < i.size
  there_size d c later its u con = elim (cases_Bool (connected qs b u)) [
    | inl is_so ↦ in_size u is_so
    | inr is_not ↦ subst (λ n. n < i.size) (sym (glue_out u is_not)) (rest.sized d c later its u con)
  ]

  here_links : linked i v e x (glue b) ≡ true
  here_links = ap (linked i v e x) (glue_in b (con_refl qs b) ∙ hang.model.at) ∙ hang.links

  there_links : (d : Part) (c : ℕ) → Among d rs → far v d ≡ Some c → linked i v d x (glue c) ≡ true
  there_links d c later its = elim (cases_Bool (connected qs b c)) [
    | inl is_so ↦ absurd (separate d c later its is_so)
    | inr is_not ↦ ap (linked i v d x) (glue_out c is_not) ∙ rest.links d c later its
  ]

  at_b : (d : Part) (c : ℕ) → d ≡ e → far v d ≡ Some c → b ≡ c
  at_b d c same its = same_some b c (sym is ∙ sym (ap (far v) same) ∙ its)

  pub glued_on : Glued i v x qs (e ∷ rs)
  glued_on = record {
    g = glue;
    sized = λ d c among its u con. elim among [
      | inl same ↦ in_size u (subst (λ z. Con qs z u) (sym (at_b d c same its)) con)
      | inr later ↦ there_size d c later its u con
    ];
    true_parts = λ d c among its p on con. elim among [
      | inl same ↦ here_true p on (subst (λ z. Con qs z (place p)) (sym (at_b d c same its)) con)
      | inr later ↦ there_true d c later its p on con
    ];
    links = λ d c among its. elim among [
      | inl same ↦ subst (λ z. linked i v d x (glue z) ≡ true) (at_b d c same its) (ap (λ z. linked i v z x (glue b)) same ∙ here_links)
      | inr later ↦ there_links d c later its
    ];
  }

-- a part that is no edge of the member adds nothing
passed_on : (i : Interpretation) (v x : ℕ) (qs rs : List Part) (e : Part) → far v e ≡ None → Glued i v x qs rs → Glued i v x qs (e ∷ rs)
passed_on i v x qs rs e none rest = record {
  g = rest.g;
  sized = λ d c among its u con. elim among [
    | inl same ↦ absurd (none_some c (sym none ∙ sym (ap (far v) same) ∙ its))
    | inr later ↦ rest.sized d c later its u con
  ];
  true_parts = λ d c among its p on con. elim among [
    | inl same ↦ absurd (none_some c (sym none ∙ sym (ap (far v) same) ∙ its))
    | inr later ↦ rest.true_parts d c later its p on con
  ];
  links = λ d c among its. elim among [
    | inl same ↦ absurd (none_some c (sym none ∙ sym (ap (far v) same) ∙ its))
    | inr later ↦ rest.links d c later its
  ];
}

one_glued : (i : Interpretation) (v x : ℕ) (qs rs : List Part) (e : Part) (o : Option ℕ) → far v e ≡ o → ((b : ℕ) → far v e ≡ Some b → Hanging i v x qs e b)
    → Glued i v x qs rs → ((b : ℕ) → far v e ≡ Some b → (d : Part) (c : ℕ) → Among d rs → far v d ≡ Some c → ¬ Con qs b c) → Glued i v x qs (e ∷ rs)
one_glued i v x qs rs e (Some b) is hang rest separate = glued_on i v x qs rs e b is (hang b is) rest (separate b is)
one_glued i v x qs rs e None is hang rest separate = passed_on i v x qs rs e is rest

pub glued : (i : Interpretation) (v x : ℕ) (qs rs : List Part) → ((e : Part) (b : ℕ) → Among e rs → far v e ≡ Some b → Hanging i v x qs e b) → Separate v qs rs
    → Glued i v x qs rs
glued i v x qs [] hang separate = record {
  g = λ u. x;
  sized = λ e b among its u con. absurd among;
  true_parts = λ e b among its p on con. absurd among;
  links = λ e b among its. absurd among;
}
glued i v x qs (e ∷ rs) hang separate =
    one_glued i v x qs rs e (far v e) refl (λ b is. hang e b (inl refl) is) (glued i v x qs rs (λ d b among its. hang d b (inr among) its) separate.1)
    separate.0

-- without a cycle no two far ends are connected
dropped_within : (t : Bool) (e : Part) (ps qs : List Part) → t ≡ false → Within ps qs → Within (cond t (e ∷ ps) ps) qs
dropped_within true e ps qs is_not w n m h = let flip : true ≡ false = is_not in cc
dropped_within false e ps qs is_not w n m h = w n m h

cond_within : (t : Bool) (e : Part) (ps qs : List Part) → Within ps qs → Within (cond t (e ∷ ps) ps) (e ∷ qs)
cond_within true e ps qs w n m h = within_cons e ps qs w n m h
cond_within false e ps qs w n m h = con_skip e qs n m (w n m h)

apart_middle : (v : ℕ) (e : Part) (before after : List Part) → speaks v e ≡ true → Within (apart v (before ++ e ∷ after)) (before ++ after)
apart_middle v e [] after spoken n m h = dropped_within (not (speaks v e)) e (apart v after) after (ap not spoken) (apart_within v after) n m h
apart_middle v e (q ∷ before) after spoken n m h =
    cond_within (not (speaks v q)) q (apart v (before ++ e ∷ after)) (before ++ after) (apart_middle v e before after spoken) n m h

con_behind : (before ps : List Part) (n m : ℕ) → Con ps n m → Con (before ++ ps) n m
con_behind [] ps n m h = h
con_behind (q ∷ before) ps n m h = con_skip q (before ++ ps) n m (con_behind before ps n m h)

pub separate : (v : ℕ) (ps before rs : List Part) → ps ≡ before ++ rs → has_cycle ps ≡ false → Separate v (apart v ps) rs
separate v ps before [] is forest = tt
separate v ps before (e ∷ rs) is forest = (
  λ b its d c among far_d con.
      let end : FarEnd v e b = far_end v e b its in
      let other : FarEnd v d c = far_end v d c far_d in
      let way : Con (before ++ rs) b c = apart_middle v e before rs end.speaks_of b c (subst (λ qs. Con (apart v qs) b c) is con) in
      let joint : Con (before ++ rs) v c = con_behind before rs v c (joined_far v d c rs among other) in
      let round : has_cycle (before ++ e ∷ rs) ≡ true = end.cuts before rs (con_trans (before ++ rs) v c b joint (con_sym (before ++ rs) b c way)) in
      both_ways (has_cycle ps) forest (ap has_cycle is ∙ round),
  separate v ps (before ++ e ∷ []) rs (is ∙ sym (append_assoc before (e ∷ []) rs)) forest,
)

forest_apart : (v : ℕ) (ps : List Part) → has_cycle ps ≡ false → has_cycle (apart v ps) ≡ false
forest_apart v ps forest = elim (cases_Bool (has_cycle (apart v ps))) [
  | inl is_so ↦ absurd (both_ways (has_cycle ps) forest (apart_cycle v ps is_so))
  | inr is_not ↦ is_not
]

-- elements for all members, where the member itself has this one
module _ (i : Interpretation) (ps : List Part) (v x : ℕ) (forest : has_cycle ps ≡ false)
    (own : (k : ℕ) (c : Concept) → Among (At k c) ps → k ≡ v → is_in i c x ≡ true) (rest : Glued i v x (apart v ps) ps) where
  unfoldable whole : ℕ → ℕ
  whole u = if u == v then x else rest.g u

  whole_here : (u : ℕ) → u ≡ v → whole u ≡ x
  unfolding whole
  whole_here u same = ap (λ t. if t then x else rest.g u) (eq-eqb u v same)

  whole_there : (u : ℕ) → ¬ (u ≡ v) → whole u ≡ rest.g u
  unfolding whole
  whole_there u ne = ap (λ t. if t then x else rest.g u) (ne_eqb u v ne)

  by_edge : (p : Part) (b : ℕ) → Among p ps → far v p ≡ Some b → part_true i whole p ≡ true
  by_edge p b among its =
      let end : FarEnd v p b = far_end v p b its in
      end.reads i whole
      ∙ (λ j. linked i v p (whole_here v refl j) (whole_there b end.apart_from j))
      ∙ rest.links p b among its

  silent_edge : (a b : ℕ) → ¬ (a ≡ v) → ¬ (b ≡ v) → ((a == v) || (b == v)) ≡ false
  silent_edge a b na nb = ap (λ z. z || (b == v)) (ne_eqb a v na) ∙ ne_eqb b v nb

  part_of_whole : (p : Part) → Among p ps → Con ps v (place p) → part_true i whole p ≡ true
  part_of_whole (At k c) among con = elim (cases_eq k v) [
    | inl same ↦ ap (is_in i c) (whole_here k same) ∙ own k c among same
    | inr ne ↦ (let t : Touched v ps k = (parted v ps).one k ne con in
        ap (is_in i c) (whole_there k ne)
        ∙ rest.true_parts t.edge t.end t.among t.is (At k c) (among_apart v (At k c) ps among (ne_eqb k v ne)) t.on)
  ]
  part_of_whole (Edge word a b) among con = elim (cases_eq a v) [
    | inl av ↦ elim (cases_eq b v) [
      | inl bv ↦ absurd (both_ways (has_cycle ps) forest (loop_cycle word a b ps (av ∙ sym bv) among))
      | inr nb ↦ by_edge (Edge word a b) b among
          (λ j. if eq-eqb a v av j && not (ne_eqb b v nb j) then Some b else if (b == v) && not (a == v) then Some a else None)
    ]
    | inr na ↦ elim (cases_eq b v) [
      | inl bv ↦ by_edge (Edge word a b) a among
          (λ j. if ne_eqb a v na j && not (b == v) then Some b else if eq-eqb b v bv j && not (ne_eqb a v na j) then Some a else None)
      | inr nb ↦ (let t : Touched v ps a = (parted v ps).one a na con in
          (λ j. has_pair i word (whole_there a na j) (whole_there b nb j))
          ∙ rest.true_parts t.edge t.end t.among t.is (Edge word a b) (among_apart v (Edge word a b) ps among (silent_edge a b na nb)) t.on)
    ]
  ]

  pub modelled : Modelled i ps v x
  modelled = record {
    h = whole;
    at = whole_here v refl;
    sized = λ u ne con. (let t : Touched v ps u = (parted v ps).one u ne con in
        subst (λ n. n < i.size) (sym (whole_there u ne)) (rest.sized t.edge t.end t.among t.is u t.on));
    true_parts = part_of_whole;
  }

-- an element in the class of a tree has others for the members beside it
pub forth : (i : Interpretation) (depth : ℕ) (ps : List Part) (v x : ℕ) → length ps ≤ depth → has_cycle ps ≡ false → is_in i (tree_class depth ps v) x ≡ true
    → Modelled i ps v x
forth i zero [] v x short forest h = record {
  h = λ u. x;
  at = refl;
  sized = λ u ne con. absurd (ne (sym (eqb-true v u con)));
  true_parts = λ p among con. absurd among;
}
forth i zero (p ∷ ps) v x short forest h = absurd (omega (arith, short))
forth i (suc depth) ps v x short forest h =
    let cl : ℕ → Concept = tree_class depth (apart v ps) in
    let gifts : (p : Part) → Among p ps → passes i (gift cl v p) x ≡ true =
    all_gifts i (gift cl v) x ps (sym (is_in-intersection i (filter_map (gift cl v) ps) x) ∙ h) in
    let hang : (e : Part) (b : ℕ) → Among e ps → far v e ≡ Some b → Hanging i v x (apart v ps) e b =
    λ e b among its.
    (let end : FarEnd v e b = far_end v e b its in
    let w : (y : ℕ) × (y < i.size) × ((linked i v e x y && is_in i (cl b) y) ≡ true) =
    some_from i.size (λ y. linked i v e x y && is_in i (cl b) y) (sym (end.gives i cl x) ∙ gifts e among) in
    let less : suc (length (apart v ps)) ≤ length ps = apart_shorter v e ps among end.speaks_of in
    record {
      y = w.0;
      within = w.1;
      links = and_first (linked i v e x w.0) (is_in i (cl b) w.0) w.2;
      model = forth i depth (apart v ps) b w.0 (omega (arith, less, short)) (forest_apart v ps forest)
          (and_second (linked i v e x w.0) (is_in i (cl b) w.0) w.2);
    }) in
    modelled i ps v x forest
    (λ k c among same. sym (ap (λ t. passes i (if t then Some c else None) x) (eq-eqb k v same)) ∙ gifts (At k c) among)
    (glued i v x (apart v ps) ps hang (separate v ps [] ps refl forest))

-- what each part gives is true of an element that has others beside it
module _ (i : Interpretation) (depth : ℕ) (ps : List Part) (v : ℕ) (h : ℕ → ℕ) (short : length ps ≤ suc depth)
    (sized : (u : ℕ) → ¬ (u ≡ v) → Con ps v u → h u < i.size) (trues : (p : Part) → Among p ps → Con ps v (place p) → part_true i h p ≡ true)
    (ih : (b : ℕ) → length (apart v ps) ≤ depth → ((u : ℕ) → ¬ (u ≡ b) → Con (apart v ps) b u → h u < i.size)
    → ((q : Part) → Among q (apart v ps) → Con (apart v ps) b (place q) → part_true i h q ≡ true) → is_in i (tree_class depth (apart v ps) b) (h b) ≡ true)
  where
    near : (p : Part) (b : ℕ) → Among p ps → FarEnd v p b → Con ps v (place p)
    near p b among end = elim end.ends [
      | inl here ↦ subst (λ z. Con ps v z) (sym here) (con_refl ps v)
      | inr there ↦ subst (λ z. Con ps v z) (sym there) (joined_far v p b ps among end)
    ]

    given_by : (p : Part) (o : Option ℕ) → Among p ps → far v p ≡ o → (o ≡ None → passes i (gift (tree_class depth (apart v ps)) v p) (h v) ≡ true)
        → passes i (gift (tree_class depth (apart v ps)) v p) (h v) ≡ true
    given_by p (Some b) among its none =
        let end : FarEnd v p b = far_end v p b its in
        let joint : Con ps v b = joined_far v p b ps among end in
        let less : suc (length (apart v ps)) ≤ length ps = apart_shorter v p ps among end.speaks_of in
        let child : is_in i (tree_class depth (apart v ps) b) (h b) ≡ true =
        ih b (omega (arith, less, short))
        (λ u ne con. sized u (λ uv. end.apart_from (isolated v ps b (subst (λ z. Con (apart v ps) b z) uv con)))
        (con_trans ps v b u joint (apart_within v ps b u con)))
        (λ q on con. trues q (among_whole v q ps on) (con_trans ps v b (place q) joint (apart_within v ps b (place q) con))) in
        end.gives i (tree_class depth (apart v ps)) (h v)
        ∙ some_to i.size (λ y. linked i v p (h v) y && is_in i (tree_class depth (apart v ps) b) y) (h b) (sized b end.apart_from joint)
        (and_from (linked i v p (h v) (h b)) (is_in i (tree_class depth (apart v ps) b) (h b)) (sym (end.reads i h) ∙ trues p among (near p b among end)) child)
    given_by p None among its none = none refl

    pub given_each : (p : Part) → Among p ps → passes i (gift (tree_class depth (apart v ps)) v p) (h v) ≡ true
    given_each (At k c) among = elim (cases_eq k v) [
      | inl same ↦ ap (λ t. passes i (if t then Some c else None) (h v)) (eq-eqb k v same)
          ∙ (ap (λ n. is_in i c (h n)) (sym same) ∙ trues (At k c) among (subst (λ z. Con ps v z) (sym same) (con_refl ps v)))
      | inr ne ↦ ap (λ t. passes i (if t then Some c else None) (h v)) (ne_eqb k v ne)
    ]
    given_each (Edge word a b) among =
        given_by (Edge word a b) (far v (Edge word a b)) among refl
        (λ none. no_gift_by i v word a b (tree_class depth (apart v ps)) (h v) (a == v) (b == v) none)

-- and an element that has them is in the class
pub back : (i : Interpretation) (depth : ℕ) (ps : List Part) (v : ℕ) (h : ℕ → ℕ) → length ps ≤ depth → ((u : ℕ) → ¬ (u ≡ v) → Con ps v u → h u < i.size)
    → ((p : Part) → Among p ps → Con ps v (place p) → part_true i h p ≡ true) → is_in i (tree_class depth ps v) (h v) ≡ true
back i zero ps v h short sized trues = refl
back i (suc depth) ps v h short sized trues =
    is_in-intersection i (filter_map (gift (tree_class depth (apart v ps)) v) ps) (h v)
    ∙ gifts_all i (gift (tree_class depth (apart v ps)) v) (h v) ps
    (given_each i depth ps v h short sized trues (λ b less s t. back i depth (apart v ps) b h less s t))
