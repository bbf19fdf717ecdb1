-- Claims, one condition after another, and what is chosen from conditions that belong together.
use Rattle.std.proofs.Common.{◌≡◌, ℕ, ◌==◌, ◌+◌, Bool, true, false, List, [], ◌∷◌, ◌++◌, Option, Some, None, Result, Ok, Err, map, drop, slice_get, get_or, refl, sym, ap, ◌∙◌, append_assoc}
use Rattle.std.specs.Prelude.{if◌then◌else◌, option_map}
use Rattle.std.specs.List.{filter, list_any, cons_option}
use Rattle.std.proofs.lemmas.List.{append-nil}
use Rattle.wiki_base.specs.declared.numbers.WordId.{WordId}
use Rattle.logic_terms.specs.declared.structures.Thing.{Thing}
use Rattle.logic_terms.specs.declared.structures.Thing.TheVariants.{Ref, Name}
use Rattle.logic_terms.specs.declared.cause.Cause.{Cause}
use Rattle.logic_terms.specs.Concept.{Claim}
use Rattle.logic_terms.specs.Structure.{Condition, Structure, structure, conditions_from, referents_in, conditions_in}
use Rattle.ace_to_owl.specs.declared.fault.Fault.{Fault}
use Rattle.ace_to_owl.specs.declared.fault.Fault.TheVariants.{Outside, Memory}
use Rattle.ace_to_owl.specs.Answers.{Agrees, listed}
use Rattle.ace_to_owl.specs.Outcomes.{next}
use Rattle.ace_to_owl.specs.Groups.{part_with, labelled_together}
use Rattle.ace_to_owl.specs.Parts.{Part}
use Rattle.ace_to_owl.specs.Terms.{first_name, terms_in_all, terms_in_condition}
use Rattle.ace_to_owl.specs.Rolling.{parts, part_of}
use Rattle.ace_to_owl.specs.Moves.{moved_by}
use Rattle.ace_to_owl.specs.Mapping.{own_terms, joined, together, referents_with, claim_at, claims_after, axioms_stated}
use Rattle.ace_to_owl.proofs.TermsLemmas.{structure_by}
use Rattle.logic_terms.proofs.ShownLemmas.{condition_list-conditions_from}
use Rattle.std.proofs.lemmas.Option.{get_or_from_slice_get, slice_get-map}
use Rattle.ace_to_owl.proofs.Passed.{cons_option-listed}
use Rattle.ace_to_owl.proofs.MadeLemmas.{filter_kept, filter_left}
use Rattle.ace_to_owl.proofs.RollingLemmas.{parts_stop, parts_go}

-- what is left decides
module _ (rs : List ℕ) (gs : List (List ℕ)) (all : List Condition) (whole : Result (List Claim) Cause) (before : List (List ℕ)) (now rest : List Condition)
    (c : Condition) (own : List ℕ) (made : List Claim) (is : own ≡ own_terms rs c) (first : now ≡ c ∷ rest)
    (left : next (claims_after rs gs all before now) (λ claims. Ok (made ++ claims)) ≡ whole) where
  here : next (next (claim_at rs gs all before own c)
      (λ claim. next (claims_after rs gs all (before ++ own ∷ []) rest) (λ claims. Ok (cons_option claim claims)))) (λ claims. Ok (made ++ claims)) ≡ whole
  here =
      ap (λ g. next (next (claim_at rs gs all before g c)
      (λ claim. next (claims_after rs gs all (before ++ g ∷ []) rest) (λ claims. Ok (cons_option claim claims)))) (λ claims. Ok (made ++ claims))) is
      ∙ ap (λ ds. next (claims_after rs gs all before ds) (λ claims. Ok (made ++ claims))) (sym first)
      ∙ left

  pub claims_stop : {X Y : Type 0} (shown : X → Option Claim) (show : Y → List Claim) (e : Fault) → Agrees shown (Err e) (claim_at rs gs all before own c)
      → Agrees show (Err e) whole
  claims_stop shown show (Outside cause) agrees =
      sym here ∙ ap (λ w. next (next w (λ claim. next (claims_after rs gs all (before ++ own ∷ []) rest) (λ claims. Ok (cons_option claim claims))))
      (λ claims. Ok (made ++ claims))) agrees
  claims_stop shown show Memory agrees = tt

  more_by : (o : Option Claim) (w : Result (List Claim) Cause)
      → next (next w (λ claims. Ok (cons_option o claims))) (λ claims. Ok (made ++ claims)) ≡ next w (λ claims. Ok ((made ++ listed o) ++ claims))
  more_by o (Ok claims) = ap Ok (ap (λ xs. made ++ xs) (cons_option-listed o claims) ∙ sym (append_assoc made (listed o) claims))
  more_by o (Err cause) = refl

  pub claims_go : (o : Option Claim) (more : List Claim) (after : List (List ℕ)) → claim_at rs gs all before own c ≡ Ok o → more ≡ made ++ listed o
      → after ≡ before ++ own ∷ [] → next (claims_after rs gs all after rest) (λ claims. Ok (more ++ claims)) ≡ whole
  claims_go o more after gives on past =
      (λ j. next (claims_after rs gs all (past j) rest) (λ claims. Ok (on j ++ claims)))
      ∙ sym (more_by o (claims_after rs gs all (before ++ own ∷ []) rest))
      ∙ sym (ap (λ w. next (next w (λ claim. next (claims_after rs gs all (before ++ own ∷ []) rest) (λ claims. Ok (cons_option claim claims))))
      (λ claims. Ok (made ++ claims))) gives)
      ∙ here

-- the first name among terms, and those behind them
pub first_name-append : (xs ys : List Thing) → first_name (xs ++ ys) ≡ (elim (first_name xs) [ Some n ↦ Some n | None ↦ first_name ys ])
first_name-append [] ys = refl
first_name-append (Ref r ∷ xs) ys = first_name-append xs ys
first_name-append (Name n ∷ xs) ys = refl

-- the first name of conditions, by what is chosen at a place
abbrev pub names_of : List Condition → Option WordId
names_of ds = first_name (terms_in_all [] (conditions_from ds))

name_stop_by : (wanted : Bool) (test : Condition → Bool) (cs : List Condition) (k : ℕ) (c : Condition) (n : WordId) → slice_get cs k ≡ Some c → wanted ≡ test c
    → Some n ≡ (if wanted then first_name (terms_in_condition [] c) else None) → names_of (filter test (drop k cs)) ≡ Some n
name_stop_by true test cs k c n at is found =
    ap names_of (filter_kept test cs k c at (sym is))
    ∙ first_name-append (terms_in_condition [] c) (terms_in_all [] (conditions_from (filter test (drop (k + 1) cs))))
    ∙ ap (λ f. elim f [ Some m ↦ Some m | None ↦ names_of (filter test (drop (k + 1) cs)) ]) (sym found)
name_stop_by false test cs k c n at is found = let flip : true ≡ false = ap (λ o. elim o [ Some m ↦ true | None ↦ false ]) found in cc

pub name_go_by : (wanted : Bool) (test : Condition → Bool) (cs : List Condition) (k : ℕ) (c : Condition) → slice_get cs k ≡ Some c → wanted ≡ test c
    → ◌≡◌ {A = Option WordId} None (if wanted then first_name (terms_in_condition [] c) else None)
    → names_of (filter test (drop (k + 1) cs)) ≡ names_of (filter test (drop k cs))
name_go_by true test cs k c at is found =
    sym
    (ap names_of (filter_kept test cs k c at (sym is))
    ∙ first_name-append (terms_in_condition [] c) (terms_in_all [] (conditions_from (filter test (drop (k + 1) cs))))
    ∙ ap (λ f. elim f [ Some m ↦ Some m | None ↦ names_of (filter test (drop (k + 1) cs)) ]) (sym found))
name_go_by false test cs k c at is found = sym (ap names_of (filter_left test cs k c at (sym is)))

pub name_stop : (wanted : Bool) (test : Condition → Bool) (cs : List Condition) (k : ℕ) (c : Condition) (n : WordId) (whole : Option WordId)
    → slice_get cs k ≡ Some c → wanted ≡ test c → Some n ≡ (if wanted then first_name (terms_in_condition [] c) else None)
    → names_of (filter test (drop k cs)) ≡ whole → Some n ≡ whole
name_stop wanted test cs k c n whole at is found left = sym (name_stop_by wanted test cs k c n at is found) ∙ left

-- what the chosen conditions give, by what is chosen at a place
module _ (root : Option Thing) (rs : List ℕ) (whole : Result (List Part) Cause) (test : Condition → Bool) (cs : List Condition) (k : ℕ) (c : Condition)
    (made : List Part) (at : slice_get cs k ≡ Some c) (left : next (parts root rs (conditions_from (filter test (drop k cs)))) (λ ps. Ok (made ++ ps)) ≡ whole)
  where
    err_from : (w : Result Part Cause) (cause : Cause) → next w (λ p. Ok (Some p)) ≡ Err cause → w ≡ Err cause
    err_from (Ok p) cause e = let flip : true ≡ false = ap (λ r. elim r [ Ok o ↦ true | Err d ↦ false ]) e in cc
    err_from (Err d) cause e = ap (λ r. elim r [ Ok o ↦ Err d | Err f ↦ Err f ]) e

    pub with_stop : (wanted : Bool) → wanted ≡ test c → {X Y : Type 0} (shown : X → Option Part) (show : Y → Part) (e : Fault)
        → Agrees shown (Err e) (part_with wanted (part_of root rs c)) → Agrees (λ (ys : List Y). map show ys) (Err e) whole
    with_stop true is shown show (Outside cause) agrees =
        parts_stop root rs whole (filter test (drop k cs)) (filter test (drop (k + 1) cs)) c made (filter_kept test cs k c at (sym is)) left show
        (Outside cause)
        (err_from (part_of root rs c) cause agrees)
    with_stop false is shown show (Outside cause) agrees = let flip : true ≡ false = ap (λ r. elim r [ Ok o ↦ true | Err d ↦ false ]) agrees in cc
    with_stop wanted is shown show Memory agrees = tt

    some_by : (w : Result Part Cause) (o : Option Part) (more : List Part) → w ≡ part_of root rs c → next w (λ p. Ok (Some p)) ≡ Ok o → more ≡ made ++ listed o
        → test c ≡ true → next (parts root rs (conditions_from (filter test (drop (k + 1) cs)))) (λ ps. Ok (more ++ ps)) ≡ whole
    some_by (Ok p) o more is gives on passes =
        let same : Some p ≡ o = ap (λ r. elim r [ Ok q ↦ q | Err d ↦ Some p ]) gives in
        parts_go root rs whole (filter test (drop k cs)) (filter test (drop (k + 1) cs)) c made (filter_kept test cs k c at passes) left p more (sym is)
        (on ∙ ap (λ q. made ++ listed q) (sym same))
    some_by (Err d) o more is gives on passes = let flip : true ≡ false = ap (λ r. elim r [ Ok q ↦ false | Err f ↦ true ]) gives in cc

    pub with_go : (wanted : Bool) → wanted ≡ test c → (o : Option Part) (more : List Part) → part_with wanted (part_of root rs c) ≡ Ok o
        → more ≡ made ++ listed o
        → next (parts root rs (conditions_from (filter test (drop (k + 1) cs)))) (λ ps. Ok (more ++ ps)) ≡ whole
    with_go true is o more gives on = some_by (part_of root rs c) o more refl gives on (sym is)
    with_go false is o more gives on =
        let none : ◌≡◌ {A = Option Part} None o = ap (λ r. elim r [ Ok q ↦ q | Err d ↦ None ]) gives in
        ap (λ m. next (parts root rs (conditions_from (filter test (drop (k + 1) cs)))) (λ ps. Ok (m ++ ps)))
        (on ∙ ap (λ q. made ++ listed q) (sym none) ∙ append-nil made)
        ∙ ap (λ ds. next (parts root rs (conditions_from ds)) (λ ps. Ok (made ++ ps))) (sym (filter_left test cs k c at (sym is)))
        ∙ left

-- the group at a condition's place
pub group_at : {X Y : Type 0} (f : X → Y) (gs : List Y) (xs : List X) (k : ℕ) (x : X) (g : Y) → gs ≡ map f xs → slice_get xs k ≡ Some x → g ≡ get_or gs k g
    → g ≡ f x
group_at f gs xs k x g groups at is =
    is
    ∙ ap (λ ys. get_or ys k g) groups
    ∙ get_or_from_slice_get (map f xs) k (f x) g (slice_get-map f xs k ∙ ap (option_map f) at)

-- labels tell what the groups join
pub labels_with : (moves : List (ℕ × ℕ)) (gs : List (List ℕ)) → ((q p : ℕ) → (moved_by moves q == moved_by moves p) ≡ joined gs q p) → (own other : List ℕ)
    → labelled_together moves own other ≡ together gs own other
labels_with moves gs joins own other = λ j. list_any (λ q. list_any (λ p. joins q p j) other) own

pub labels_before : (moves : List (ℕ × ℕ)) (gs : List (List ℕ)) → ((q p : ℕ) → (moved_by moves q == moved_by moves p) ≡ joined gs q p)
    → (own : List ℕ) (before : List (List ℕ)) → list_any (labelled_together moves own) before ≡ list_any (together gs own) before
labels_before moves gs joins own before = λ j. list_any (λ other. labels_with moves gs joins own other j) before

pub labels_inside : (moves : List (ℕ × ℕ)) (gs : List (List ℕ)) → ((q p : ℕ) → (moved_by moves q == moved_by moves p) ≡ joined gs q p) → (own rs : List ℕ)
    → filter (λ q. list_any (λ r. moved_by moves r == moved_by moves q) own) rs ≡ referents_with gs own rs
labels_inside moves gs joins own rs = λ j. filter (λ q. list_any (λ r. joins r q j) own) rs

-- a statement by its lists
pub stated_by : (k : Structure) (rs : List ℕ) (cs : List Condition) → rs ≡ referents_in k → cs ≡ conditions_in k
    → axioms_stated (structure rs (conditions_from cs)) ≡ axioms_stated k
stated_by k rs cs referents conditions =
    (λ j. axioms_stated (structure (referents j) (conditions_from (conditions j)))) ∙ sym (ap axioms_stated (structure_by k))

-- its groups are those of its conditions
pub stated_groups : (rs : List ℕ) (cs : List Condition) (gs : List (List ℕ)) → gs ≡ map (own_terms rs) cs
    → claims_after rs gs cs [] cs ≡ axioms_stated (structure rs (conditions_from cs))
stated_groups rs cs gs groups =
    ap (λ hs. claims_after rs hs cs [] cs) groups
    ∙ sym (λ j. claims_after rs (map (own_terms rs) (condition_list-conditions_from cs j)) (condition_list-conditions_from cs j) []
    (condition_list-conditions_from cs j))
