-- What the extents of class words and the pairs of relation words have.
use Rattle.std.proofs.Common.{◌≡◌, ℕ, zero, suc, ◌+◌, ◌<◌, ◌≤◌, ◌&&◌, Bool, true, false, List, [], ◌∷◌, length, Option, Some, None, slice_get, refl, sym, ap, ◌∙◌, subst, inl, inr, arith}
use Rattle.std.specs.Prelude.{◌⊎◌, nat_lt, if◌then◌else◌}
use Rattle.std.specs.List.{list_all}
use Rattle.std.specs.Option.{option_map_or}
use Rattle.std.proofs.lemmas.Bool.{or_cases, or_left, or_right, and_from}
use Rattle.wiki_base.specs.declared.numbers.WordId.{WordId}
use Rattle.logic_terms.proofs.SameLemmas.{same_concept-equal, same_concept-self}
use Rattle.logic_terms.specs.declared.expressions.Role.{Role}
use Rattle.logic_terms.specs.Concept.{Concept, Atomic}
use Rattle.logic_terms.specs.Interpretation.{words_rise}
use Rattle.logic_terms.specs.Parts.{word_part}
use Rattle.logic_terms.specs.Same.{same_role, same_concept, has_concept}
use Rattle.logic_terms.specs.Theory.{Theory}
use Rattle.tableau_rules.specs.declared.branch.Edge.{Edge}
use Rattle.tableau_rules.specs.Graph.{Graph, label_at}
use Rattle.branch_model.specs.Entries.{placed}
use Rattle.branch_model.specs.Extents.{labelled, extents, paired, paired_above, stand_of, linked, links}
use Rattle.branch_model.proofs.EntriesLemmas.{Adds, adds_none, adds_placed, adds_then, adds_as, all_placed}

word_is : (c : Concept) (word : WordId) → word_part c ≡ Some word → c ≡ Atomic word
word_is (Atomic w) word h = let e : w ≡ word = cc in ap Atomic e
word_is _ word h = cc

not_word : (c : Concept) (word : WordId) → word_part c ≡ None → c ≡ Atomic word → ⊥
not_word c word none is = let some : word_part c ≡ Some word = ap word_part is in cc

-- a label puts an element in the extents of its class words
pub adds_labelled : (e : ℕ) (cs : List Concept) (es : List (WordId × List ℕ)) → words_rise es ≡ true
    → Adds es (labelled e cs es) (λ v y. (e ≡ y) × (has_concept cs (Atomic v) ≡ true))
adds_labelled e [] es up = adds_as es es (λ v y. ⊥) (λ v y. (e ≡ y) × (has_concept [] (Atomic v) ≡ true)) (λ v y h. absurd h) (λ v y h. absurd (never h.1))
    (adds_none es up)
  where
    never : false ≡ true → ⊥
    never h = cc
adds_labelled e (c ∷ cs) es up = by_word (word_part c) refl (λ fs rise. adds_labelled e cs fs rise)
  where
    by_word : (o : Option WordId) → word_part c ≡ o
        → ((fs : List (WordId × List ℕ)) → words_rise fs ≡ true → Adds fs (labelled e cs fs) (λ v y. (e ≡ y) × (has_concept cs (Atomic v) ≡ true)))
        → Adds es (labelled e cs (option_map_or (λ word. placed word e es) o es)) (λ v y. (e ≡ y) × (has_concept (c ∷ cs) (Atomic v) ≡ true))
    by_word None at later =
        adds_as es (labelled e cs es) (λ v y. (e ≡ y) × (has_concept cs (Atomic v) ≡ true)) (λ v y. (e ≡ y) × (has_concept (c ∷ cs) (Atomic v) ≡ true))
        (λ v y h. (h.0, or_right (same_concept c (Atomic v)) (has_concept cs (Atomic v)) h.1))
        (λ v y h. elim (or_cases (same_concept c (Atomic v)) (has_concept cs (Atomic v)) h.1) [
          | inl here ↦
              absurd (not_word c v at (same_concept-equal c (Atomic v) here))
          | inr rest ↦ (h.0, rest)
        ])
        (later es up)
    by_word (Some word) at later =
        let first = adds_placed word e es up in
        adds_as es (labelled e cs (placed word e es)) (λ v y. ((v ≡ word) × (e ≡ y)) ⊎ ((e ≡ y) × (has_concept cs (Atomic v) ≡ true)))
        (λ v y. (e ≡ y) × (has_concept (c ∷ cs) (Atomic v) ≡ true))
        (λ v y h. elim h [
          | inl here ↦ (
            here.1,
            or_left (same_concept c (Atomic v)) (has_concept cs (Atomic v))
                (ap (λ d. same_concept d (Atomic v)) (word_is c word at ∙ ap Atomic (sym here.0)) ∙ same_concept-self (Atomic v)),
          )
          | inr rest ↦ (rest.0, or_right (same_concept c (Atomic v)) (has_concept cs (Atomic v)) rest.1)
        ])
        (λ v y h. elim (or_cases (same_concept c (Atomic v)) (has_concept cs (Atomic v)) h.1) [
          | inl here ↦ (let same : Some word ≡ Some v = sym at ∙ ap word_part (same_concept-equal c (Atomic v) here) in let is : v ≡ word = cc in inl (is, h.0))
          | inr rest ↦ inr (h.0, rest)
        ])
        (adds_then es (placed word e es) (labelled e cs (placed word e es)) (λ v y. (v ≡ word) × (e ≡ y)) (λ v y. (e ≡ y) × (has_concept cs (Atomic v) ≡ true))
        first (later (placed word e es) first.rises))

-- each element is in the extents of the class words of its owner's label
abbrev pub Labels : Graph → ℕ → List ℕ → WordId → ℕ → Type 0
Labels g n zs v y = (j : ℕ) × (z : ℕ) × (slice_get zs j ≡ Some z) × (n + j ≡ y) × (has_concept (label_at g z) (Atomic v) ≡ true)

pub adds_extents : (g : Graph) (n : ℕ) (zs : List ℕ) (es : List (WordId × List ℕ)) → words_rise es ≡ true → Adds es (extents g n zs es) (Labels g n zs)
adds_extents g n [] es up = adds_as es es (λ v y. ⊥) (Labels g n []) (λ v y h. absurd h) (λ v y h. absurd (nothing h.0 h.1 h.2)) (adds_none es up)
  where
    nothing : (j z : ℕ) → slice_get {X = ℕ} [] j ≡ Some z → ⊥
    nothing j z h = cc
adds_extents g n (z ∷ zs) es up =
    let first = adds_labelled n (label_at g z) es up in
    adds_as es (extents g n (z ∷ zs) es) (λ v y. ((n ≡ y) × (has_concept (label_at g z) (Atomic v) ≡ true)) ⊎ Labels g (n + 1) zs v y) (Labels g n (z ∷ zs))
    (λ v y h. elim h [
      | inl here ↦ (0, z, refl, (let e = here.0 in omega arith), here.1)
      | inr (j, w, at, sum, has) ↦ (suc j, w, at, omega arith, has)
    ])
    (λ v y h. back v y h.0 h.1 h.2 h.3 h.4)
    (adds_then es (labelled n (label_at g z) es) (extents g (n + 1) zs (labelled n (label_at g z) es))
    (λ v y. (n ≡ y) × (has_concept (label_at g z) (Atomic v) ≡ true)) (Labels g (n + 1) zs) first
    (adds_extents g (n + 1) zs (labelled n (label_at g z) es) first.rises))
  where
    back : (v : WordId) (y j w : ℕ) → slice_get (z ∷ zs) j ≡ Some w → n + j ≡ y → has_concept (label_at g w) (Atomic v) ≡ true
        → ((n ≡ y) × (has_concept (label_at g z) (Atomic v) ≡ true)) ⊎ Labels g (n + 1) zs v y
    back v y zero w at sum has = let is : z ≡ w = cc in inl (omega arith, subst (λ u. has_concept (label_at g u) (Atomic v) ≡ true) (sym is) has)
    back v y (suc j) w at sum has = inr (j, w, at, omega arith, has)

all_labelled : (test : ℕ → Bool) (e : ℕ) (cs : List Concept) (es : List (WordId × List ℕ)) → test e ≡ true → list_all (λ f. list_all test f.1) es ≡ true
    → list_all (λ f. list_all test f.1) (labelled e cs es) ≡ true
all_labelled test e [] es here h = h
all_labelled test e (c ∷ cs) es here h = all_labelled test e cs (option_map_or (λ word. placed word e es) (word_part c) es) here (by_word (word_part c))
  where
    by_word : (o : Option WordId) → list_all (λ f. list_all test f.1) (option_map_or (λ word. placed word e es) o es) ≡ true
    by_word None = h
    by_word (Some word) = all_placed test word e es here h

pub all_extents : (size : ℕ) (g : Graph) (n : ℕ) (zs : List ℕ) (es : List (WordId × List ℕ)) → n + length zs ≤ size
    → list_all (λ f. list_all (λ x. nat_lt x size) f.1) es ≡ true → list_all (λ f. list_all (λ x. nat_lt x size) f.1) (extents g n zs es) ≡ true
all_extents size g n [] es le h = h
all_extents size g n (z ∷ zs) es le h =
    all_extents size g (n + 1) zs (labelled n (label_at g z) es) (omega arith)
    (all_labelled (λ x. nat_lt x size) n (label_at g z) es (Rattle.std.proofs.lemmas.Bool.lt-ltb n size (omega arith)) h)

-- a pair of a role
abbrev pub IsPair : Role → ℕ → ℕ → WordId → ℕ × ℕ → Type 0
IsPair role a b v y = (v ≡ role.id) × ((if role.inverted then (b, a) else (a, b)) ≡ y)

pub adds_paired : (role : Role) (a b : ℕ) (es : List (WordId × List (ℕ × ℕ))) → words_rise es ≡ true → Adds es (paired role a b es) (IsPair role a b)
adds_paired role a b es up = by_turn role.inverted
  where
    by_turn : (t : Bool) → Adds es (if t then placed role.id (b, a) es else placed role.id (a, b) es)
        (λ v y. (v ≡ role.id) × ((if t then (b, a) else (a, b)) ≡ y))
    by_turn true = adds_placed role.id (b, a) es up
    by_turn false = adds_placed role.id (a, b) es up

-- a pair of a role above another
abbrev pub IsPairAbove : List (Role × Role) → Role → ℕ → ℕ → WordId → ℕ × ℕ → Type 0
IsPairAbove ps role a b v y = (j : ℕ) × (p : Role × Role) × (slice_get ps j ≡ Some p) × (same_role p.0 role ≡ true) × IsPair p.1 a b v y

pub adds_above : (ps : List (Role × Role)) (role : Role) (a b : ℕ) (es : List (WordId × List (ℕ × ℕ))) → words_rise es ≡ true
    → Adds es (paired_above ps role a b es) (IsPairAbove ps role a b)
adds_above [] role a b es up = adds_as es es (λ v y. ⊥) (IsPairAbove [] role a b) (λ v y h. absurd h) (λ v y h. absurd (nothing h.0 h.1 h.2)) (adds_none es up)
  where
    nothing : (j : ℕ) (p : Role × Role) → slice_get {X = Role × Role} [] j ≡ Some p → ⊥
    nothing j p h = cc
adds_above (p ∷ ps) role a b es up = by_test (same_role p.0 role) refl (λ fs rise. adds_above ps role a b fs rise)
  where
    back : (v : WordId) (y : ℕ × ℕ) (j : ℕ) (q : Role × Role) → slice_get (p ∷ ps) j ≡ Some q → same_role q.0 role ≡ true → IsPair q.1 a b v y
        → ((same_role p.0 role ≡ true) × IsPair p.1 a b v y) ⊎ IsPairAbove ps role a b v y
    back v y zero q at same pair = let is : p ≡ q = cc in inl (ap (λ r. same_role r.0 role) is ∙ same, subst (λ r. IsPair r.1 a b v y) (sym is) pair)
    back v y (suc j) q at same pair = inr (j, q, at, same, pair)

    by_test : (t : Bool) → same_role p.0 role ≡ t
        → ((fs : List (WordId × List (ℕ × ℕ))) → words_rise fs ≡ true → Adds fs (paired_above ps role a b fs) (IsPairAbove ps role a b))
        → Adds es (paired_above ps role a b (if t then paired p.1 a b es else es)) (IsPairAbove (p ∷ ps) role a b)
    by_test true is later =
        let first = adds_paired p.1 a b es up in
        adds_as es (paired_above ps role a b (paired p.1 a b es)) (λ v y. IsPair p.1 a b v y ⊎ IsPairAbove ps role a b v y) (IsPairAbove (p ∷ ps) role a b)
        (λ v y h. elim h [ inl here ↦ (0, p, refl, is, here) | inr (j, q, at, same, pair) ↦ (suc j, q, at, same, pair) ])
        (λ v y h. elim (back v y h.0 h.1 h.2 h.3 h.4) [ inl here ↦ inl here.1 | inr rest ↦ inr rest ])
        (adds_then es (paired p.1 a b es) (paired_above ps role a b (paired p.1 a b es)) (IsPair p.1 a b) (IsPairAbove ps role a b) first
        (later (paired p.1 a b es) first.rises))
    by_test false is later =
        adds_as es (paired_above ps role a b es) (IsPairAbove ps role a b) (IsPairAbove (p ∷ ps) role a b)
        (λ v y h. (suc h.0, h.1, h.2, h.3, h.4))
        (λ v y h. elim (back v y h.0 h.1 h.2 h.3 h.4) [ inl here ↦ absurd (both here.0 is) | inr rest ↦ rest ])
        (later es up)
      where
        both : {t : Bool} → t ≡ true → t ≡ false → ⊥
        both p q = cc

-- a pair of an edge between nodes with elements, by its role or one above it
abbrev pub IsLink : Theory → List (Option ℕ) → Edge → WordId → ℕ × ℕ → Type 0
IsLink k stands edge v y = (a : ℕ) × (b : ℕ) × (stand_of stands edge.from ≡ Some a) × (stand_of stands edge.to ≡ Some b)
    × (IsPair edge.role a b v y ⊎ IsPairAbove k.hierarchy edge.role a b v y)

pub adds_linked : (k : Theory) (stands : List (Option ℕ)) (edge : Edge) (es : List (WordId × List (ℕ × ℕ))) → words_rise es ≡ true
    → Adds es (linked k stands edge es) (IsLink k stands edge)
adds_linked k stands edge es up = by_ends (stand_of stands edge.from) (stand_of stands edge.to) refl refl
  where
    nothing : ((v : WordId) (y : ℕ × ℕ) → IsLink k stands edge v y → ⊥) → Adds es es (IsLink k stands edge)
    nothing none = adds_as es es (λ v y. ⊥) (IsLink k stands edge) (λ v y h. absurd h) none (adds_none es up)

    by_ends : (f t : Option ℕ) → stand_of stands edge.from ≡ f → stand_of stands edge.to ≡ t
        → Adds es (option_map_or (λ a. option_map_or (λ b. paired_above k.hierarchy edge.role a b (paired edge.role a b es)) t es) f es) (IsLink k stands edge)
    by_ends None t from to = nothing (λ v y h. gone h.0 (sym from ∙ h.2))
      where
        gone : (a : ℕ) → None ≡ Some a → ⊥
        gone a h = cc
    by_ends (Some a) None from to = nothing (λ v y h. gone h.1 (sym to ∙ h.3))
      where
        gone : (a : ℕ) → None ≡ Some a → ⊥
        gone a h = cc
    by_ends (Some a) (Some b) from to =
        let first = adds_paired edge.role a b es up in
        adds_as es (paired_above k.hierarchy edge.role a b (paired edge.role a b es))
        (λ v y. IsPair edge.role a b v y ⊎ IsPairAbove k.hierarchy edge.role a b v y) (IsLink k stands edge)
        (λ v y h. (a, b, from, to, h))
        (λ v y h. subst (λ d. IsPair edge.role a d v y ⊎ IsPairAbove k.hierarchy edge.role a d v y) (same (sym h.3 ∙ to))
        (subst (λ c. IsPair edge.role c h.1 v y ⊎ IsPairAbove k.hierarchy edge.role c h.1 v y) (same (sym h.2 ∙ from)) h.4))
        (adds_then es (paired edge.role a b es) (paired_above k.hierarchy edge.role a b (paired edge.role a b es)) (IsPair edge.role a b)
        (IsPairAbove k.hierarchy edge.role a b) first (adds_above k.hierarchy edge.role a b (paired edge.role a b es) first.rises))
      where
        same : {c d : ℕ} → Some c ≡ Some d → c ≡ d
        same h = cc

abbrev pub AreLinks : Theory → List (Option ℕ) → List Edge → WordId → ℕ × ℕ → Type 0
AreLinks k stands edges v y = (j : ℕ) × (edge : Edge) × (slice_get edges j ≡ Some edge) × IsLink k stands edge v y

pub adds_links : (k : Theory) (stands : List (Option ℕ)) (edges : List Edge) (es : List (WordId × List (ℕ × ℕ))) → words_rise es ≡ true
    → Adds es (links k stands edges es) (AreLinks k stands edges)
adds_links k stands [] es up = adds_as es es (λ v y. ⊥) (AreLinks k stands []) (λ v y h. absurd h) (λ v y h. absurd (nothing h.0 h.1 h.2)) (adds_none es up)
  where
    nothing : (j : ℕ) (e : Edge) → slice_get {X = Edge} [] j ≡ Some e → ⊥
    nothing j e h = cc
adds_links k stands (edge ∷ edges) es up =
    let first = adds_linked k stands edge es up in
    adds_as es (links k stands edges (linked k stands edge es)) (λ v y. IsLink k stands edge v y ⊎ AreLinks k stands edges v y)
    (AreLinks k stands (edge ∷ edges))
    (λ v y h. elim h [ inl here ↦ (0, edge, refl, here) | inr (j, e, at, link) ↦ (suc j, e, at, link) ])
    (λ v y h. back v y h.0 h.1 h.2 h.3)
    (adds_then es (linked k stands edge es) (links k stands edges (linked k stands edge es)) (IsLink k stands edge) (AreLinks k stands edges) first
    (adds_links k stands edges (linked k stands edge es) first.rises))
  where
    back : (v : WordId) (y : ℕ × ℕ) (j : ℕ) (e : Edge) → slice_get (edge ∷ edges) j ≡ Some e → IsLink k stands e v y
        → IsLink k stands edge v y ⊎ AreLinks k stands edges v y
    back v y zero e at link = let is : edge ≡ e = cc in inl (subst (λ f. IsLink k stands f v y) (sym is) link)
    back v y (suc j) e at link = inr (j, e, at, link)

-- pairs of elements below a size
module _ (size : ℕ) where
  abbrev pub fit : List (WordId × List (ℕ × ℕ)) → Bool
  fit es = list_all (λ e. list_all (λ p. nat_lt p.0 size && nat_lt p.1 size) e.1) es

  pub fit_paired : (role : Role) (a b : ℕ) (es : List (WordId × List (ℕ × ℕ))) → a < size → b < size → fit es ≡ true → fit (paired role a b es) ≡ true
  fit_paired role a b es la lb h = by_turn role.inverted
    where
      below : (x y : ℕ) → x < size → y < size → (nat_lt x size && nat_lt y size) ≡ true
      below x y lx ly = and_from (nat_lt x size) (nat_lt y size) (Rattle.std.proofs.lemmas.Bool.lt-ltb x size lx)
          (Rattle.std.proofs.lemmas.Bool.lt-ltb y size ly)

      by_turn : (t : Bool) → fit (if t then placed role.id (b, a) es else placed role.id (a, b) es) ≡ true
      by_turn true = all_placed (λ p. nat_lt p.0 size && nat_lt p.1 size) role.id (b, a) es (below b a lb la) h
      by_turn false = all_placed (λ p. nat_lt p.0 size && nat_lt p.1 size) role.id (a, b) es (below a b la lb) h

  pub fit_above : (ps : List (Role × Role)) (role : Role) (a b : ℕ) (es : List (WordId × List (ℕ × ℕ))) → a < size → b < size → fit es ≡ true
      → fit (paired_above ps role a b es) ≡ true
  fit_above [] role a b es la lb h = h
  fit_above (p ∷ ps) role a b es la lb h = fit_above ps role a b (if same_role p.0 role then paired p.1 a b es else es) la lb (by_test (same_role p.0 role))
    where
      by_test : (t : Bool) → fit (if t then paired p.1 a b es else es) ≡ true
      by_test true = fit_paired p.1 a b es la lb h
      by_test false = h

  pub fit_links : (k : Theory) (stands : List (Option ℕ)) → ((x a : ℕ) → stand_of stands x ≡ Some a → a < size)
      → (edges : List Edge) (es : List (WordId × List (ℕ × ℕ))) → fit es ≡ true → fit (links k stands edges es) ≡ true
  fit_links k stands within [] es h = h
  fit_links k stands within (edge ∷ edges) es h =
      fit_links k stands within edges (linked k stands edge es) (by_ends (stand_of stands edge.from) (stand_of stands edge.to) refl refl)
    where
      by_ends : (f t : Option ℕ) → stand_of stands edge.from ≡ f → stand_of stands edge.to ≡ t
          → fit (option_map_or (λ a. option_map_or (λ b. paired_above k.hierarchy edge.role a b (paired edge.role a b es)) t es) f es) ≡ true
      by_ends None t from to = h
      by_ends (Some a) None from to = h
      by_ends (Some a) (Some b) from to =
          fit_above k.hierarchy edge.role a b (paired edge.role a b es) (within edge.from a from) (within edge.to b to)
          (fit_paired edge.role a b es (within edge.from a from) (within edge.to b to) h)
