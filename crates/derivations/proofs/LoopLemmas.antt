-- One step of a loop.
use Rattle.std.proofs.Common.{◌≡◌, ℕ, zero, suc, ◌+◌, ◌-◌, ◌<◌, List, [], ◌∷◌, ◌++◌, map, length, take, drop, get_or, All, Bool, true, false, ◌&&◌, ◌||◌, Some, None, refl, sym, ap, subst, ◌∙◌, append_assoc, append-nil, arith}
use Rattle.std.proofs.lemmas.List.{take_more, map-append}
use Rattle.std.proofs.lemmas.Grind.{flat_map-append}
use Rattle.std.specs.Prelude.{if◌then◌else◌, ◌==◌, slice_get}
use Rattle.std.proofs.lemmas.Bool.Decides.{nat_tests}
use Rattle.codeco_terms.specs.declared.rules.Rule.{Rule}
use Rattle.codeco_terms.specs.GrammarParts.{GrammarParts}
use Rattle.derivation_trees.specs.Derives.{At, rule_with}
use Rattle.derivation_trees.specs.Stands.{Begins, IsWithin, IsLimited}
use Rattle.derivation_trees.proofs.StandLemmas.{Begins-same}
use Rattle.derivations.proofs.GrowLemmas.{Each, PathBegins, all_grow, trees_grow}
use Rattle.std.specs.List.{flat_map, list_any, range_with_len}
use Rattle.std.proofs.lemmas.Bool.{or_right}
use Rattle.std.proofs.lemmas.Option.{slice_get-get_or}
use Rattle.wiki_base.proofs.ListLaws.{drop_get_or}
use Rattle.codeco_terms.specs.declared.elements.Element.{Element}
use Rattle.scopes.specs.declared.entries.Entry.{Entry}
use Rattle.scopes.specs.declared.agreement.Test.{Test}
use Rattle.codeco_terms.specs.declared.values.Value.{Value}
use Rattle.codeco_terms.specs.declared.values.Value.TheVariants.{Pos}
use Rattle.derivation_trees.specs.Settings.{Setting}
use Rattle.derivation_trees.proofs.InstanceLemmas.{range_more}
use Rattle.derivations.specs.declared.choices.Choice.{Choice}
use Rattle.derivations.specs.declared.paths.Path.{Path}
use Rattle.derivations.specs.declared.paths.Outcome.{Outcome}
use Rattle.derivations.specs.Beginnings.{is_at_end, enters, goes_from, rule_cut, cut_of}
use Rattle.derivations.specs.Enumeration as enumeration
use Rattle.derivations.specs.Choices.{choice_of}
use Rattle.derivations.specs.Paths.{path_of, outcome_of}

pub choices_push : (xs : List Choice) (x : Choice) → map choice_of (xs ++ x ∷ []) ≡ map choice_of xs ++ choice_of x ∷ []
choices_push xs x = map-append choice_of xs (x ∷ [])

pub paths_push : (xs : List Path) (x : Path) → map path_of (xs ++ x ∷ []) ≡ map path_of xs ++ path_of x ∷ []
paths_push xs x = map-append path_of xs (x ∷ [])

pub outcomes_push : (xs : List Outcome) (x : Outcome) → map outcome_of (xs ++ x ∷ []) ≡ map outcome_of xs ++ outcome_of x ∷ []
outcomes_push xs x = map-append outcome_of xs (x ∷ [])

pub positions_more : (n : ℕ) → map (λ p. Pos p) (range_with_len 0 (n + 1)) ≡ map (λ p. Pos p) (range_with_len 0 n) ++ Pos n ∷ []
positions_more n =
    let same : 0 + n ≡ n = omega arith in
    ap (map (λ p. Pos p)) (range_more 0 n) ∙ map-append (λ p. Pos p) (range_with_len 0 n) ((0 + n) ∷ [])
    ∙ ap (λ k. map (λ p. Pos p) (range_with_len 0 n) ++ Pos k ∷ []) same

-- one own variable more
pub own_next : (s : Setting) (done : List (ℕ × List Value)) (number f : ℕ) (fs : List ℕ)
    → (done ++ (number, enumeration.feature_values s f) ∷ []) ++ enumeration.own_choices s (number + 1) fs ≡ done ++ enumeration.own_choices s number (f ∷ fs)
own_next s done number f fs = append_assoc done ((number, enumeration.feature_values s f) ∷ []) (enumeration.own_choices s (number + 1) fs)

-- the rules of a limited grammar

not_zero : (k : ℕ) → (k + 1 == 0) ≡ false
not_zero k = grind (arith, nat_tests)

rule_got : (g : GrammarParts) (k : ℕ) (d : Rule) → k < length g.rules → rule_with g (k + 1) ≡ Some (get_or g.rules k d)
rule_got g k d lt =
    let less : (k + 1) - 1 ≡ k = omega arith in
    ap (λ b. if b then None else slice_get g.rules ((k + 1) - 1)) (not_zero k) ∙ ap (slice_get g.rules) less ∙ slice_get-get_or g.rules k d lt

pub all_limited : (g : GrammarParts) → IsLimited g → All (λ rule. All (IsWithin g) rule.body) g.rules
all_limited g limited k d lt = limited (k + 1) (get_or g.rules k d) (rule_got g k d lt)

-- loops over the listing

pub flat_more : {X : Type 0} (F : X → List enumeration.Outcome) (xs : List X) (i : ℕ) (x : X) (before now next : List enumeration.Outcome) → i < length xs
    → x ≡ get_or xs i x → now ≡ before ++ flat_map F (take i xs) → next ≡ now ++ F x → next ≡ before ++ flat_map F (take (i + 1) xs)
flat_more F xs i x before now next lt is h step =
    let whole : flat_map F (take (i + 1) xs) ≡ flat_map F (take i xs) ++ F x =
    ap (flat_map F) (take_more xs i x lt ∙ ap (λ y. take i xs ++ y ∷ []) (sym is)) ∙ flat_map-append F (take i xs) (x ∷ [])
    ∙ ap (λ ys. flat_map F (take i xs) ++ ys) (append-nil (F x)) in
    step ∙ ap (λ ys. ys ++ F x) h ∙ append_assoc before (flat_map F (take i xs)) (F x) ∙ ap (λ ys. before ++ ys) (sym whole)

pub rules_more : (s : Setting) (trees : Test → At → List enumeration.Outcome) (wanted : Test) (at : At) (rules : List Rule) (i number after : ℕ) (rule : Rule)
    (now next r : List enumeration.Outcome) → i < length rules → rule ≡ get_or rules i rule → after ≡ number + 1
    → next ≡ now ++ enumeration.rule_trees s trees wanted at number rule → now ++ enumeration.rules_trees s trees wanted at number (drop i rules) ≡ r
    → next ++ enumeration.rules_trees s trees wanted at after (drop (i + 1) rules) ≡ r
rules_more s trees wanted at rules i number after rule now next r lt is one step h =
    let later : List enumeration.Outcome = enumeration.rules_trees s trees wanted at (number + 1) (drop (i + 1) rules) in
    ap (λ n. next ++ enumeration.rules_trees s trees wanted at n (drop (i + 1) rules)) one ∙ ap (λ ys. ys ++ later) step
    ∙ append_assoc now (enumeration.rule_trees s trees wanted at number rule) later
    ∙ ap (λ rs. now ++ enumeration.rules_trees s trees wanted at number rs) (sym (drop_get_or rules i rule lt is)) ∙ h

pub steps_more : (s : Setting) (trees : Test → At → List enumeration.Outcome) (values : List (ℕ × Value)) (body : List Element) (i : ℕ) (e : Element)
    (paths next r : List enumeration.Path) → i < length body → e ≡ get_or body i e → next ≡ flat_map (enumeration.steps s trees values e) paths
    → enumeration.all_steps s trees values (drop i body) paths ≡ r → enumeration.all_steps s trees values (drop (i + 1) body) next ≡ r
steps_more s trees values body i e paths next r lt is step h =
    ap (enumeration.all_steps s trees values (drop (i + 1) body)) step
    ∙ ap (λ es. enumeration.all_steps s trees values es paths) (sym (drop_get_or body i e lt is)) ∙ h

each_at : (list : List Entry) (paths : List Path) → Each (PathBegins list) (map path_of paths) → (k : ℕ) (d : Path) → k < length paths
    → Begins list (get_or paths k d).list
each_at list [] h k d lt = absurd (omega (arith, lt))
each_at list (p ∷ ps) h zero d lt = h.0
each_at list (p ∷ ps) h (suc k) d lt = each_at list ps h.1 k d (omega (arith, lt))

pub paths_begin : (s : Setting) (depth : ℕ) (values : List (ℕ × Value)) (body : List Element) (list : List Entry) (start : Path) (paths : List Path)
    → start.list ≡ list → map path_of paths ≡ enumeration.all_steps s (enumeration.trees_of s depth) values body (path_of start ∷ []) → (k : ℕ) (d : Path)
    → k < length paths → Begins list (get_or paths k d).list
paths_begin s depth values body list start paths same h k d lt =
    each_at list paths (subst (Each (PathBegins list)) (sym h)
    (all_grow s (enumeration.trees_of s depth) (trees_grow s depth) values list body (path_of start ∷ []) (Begins-same list start.list same, tt))) k d lt

-- tests of lists, one by one

pub any_hit : {X : Type 0} (p : X → Bool) (xs : List X) (i : ℕ) (x : X) → i < length xs → x ≡ get_or xs i x → p x ≡ true → true ≡ list_any p (drop i xs)
any_hit p xs i x lt is h = sym (ap (list_any p) (drop_get_or xs i x lt is) ∙ ap (λ b. b || list_any p (drop (i + 1) xs)) h)

pub any_miss : {X : Type 0} (p : X → Bool) (xs : List X) (i : ℕ) (x : X) → i < length xs → x ≡ get_or xs i x → p x ≡ false
    → list_any p (drop (i + 1) xs) ≡ list_any p (drop i xs)
any_miss p xs i x lt is h = sym (ap (list_any p) (drop_get_or xs i x lt is) ∙ ap (λ b. b || list_any p (drop (i + 1) xs)) h)

-- going on over elements

pub goes_entered : (s : Setting) (trees : Test → At → List enumeration.Outcome) (cuts : Test → At → Bool) (values : List (ℕ × Value)) (body : List Element)
    (i : ℕ) (e : Element) (paths : List enumeration.Path) → i < length body → e ≡ get_or body i e → list_any (enters cuts values e) paths ≡ true
    → true ≡ goes_from s trees cuts values (drop i body) paths
goes_entered s trees cuts values body i e paths lt is h =
    sym (ap (λ es. goes_from s trees cuts values es paths) (drop_get_or body i e lt is)
    ∙ or_right (list_any (is_at_end s) paths) _
    (ap (λ b. b || goes_from s trees cuts values (drop (i + 1) body) (flat_map (enumeration.steps s trees values e) paths)) h))

pub goes_further : (s : Setting) (trees : Test → At → List enumeration.Outcome) (cuts : Test → At → Bool) (values : List (ℕ × Value)) (body : List Element)
    (i : ℕ) (e : Element) (paths next : List enumeration.Path) → i < length body → e ≡ get_or body i e → list_any (is_at_end s) paths ≡ false
    → list_any (enters cuts values e) paths ≡ false → next ≡ flat_map (enumeration.steps s trees values e) paths
    → goes_from s trees cuts values (drop (i + 1) body) next ≡ goes_from s trees cuts values (drop i body) paths
goes_further s trees cuts values body i e paths next lt is h k step =
    ap (goes_from s trees cuts values (drop (i + 1) body)) step
    ∙ sym (ap (λ es. goes_from s trees cuts values es paths) (drop_get_or body i e lt is)
    ∙ ap (λ b. b || (list_any (enters cuts values e) paths
    || goes_from s trees cuts values (drop (i + 1) body) (flat_map (enumeration.steps s trees values e) paths))) h
    ∙ ap (λ b. b || goes_from s trees cuts values (drop (i + 1) body) (flat_map (enumeration.steps s trees values e) paths)) k)

pub cut_deeper : (s : Setting) (depth : ℕ) (wanted : Test) (at : At) → (depth ≡ 0 → ⊥)
    → list_any (rule_cut s (enumeration.trees_of s (depth - 1)) (cut_of s (depth - 1)) wanted at) s.grammar.rules ≡ cut_of s depth wanted at
cut_deeper s zero wanted at h = absurd (h refl)
cut_deeper s (suc depth) wanted at h =
    let less : suc depth - 1 ≡ depth = omega arith in
    ap (λ d. list_any (rule_cut s (enumeration.trees_of s d) (cut_of s d) wanted at) s.grammar.rules) less

-- where nothing comes to be

pub no_more_where : {X : Type 0} (a b : Bool) (old more : List X) → a ≡ false → old ≡ old ++ (if a && b then more else [])
no_more_where a b old more h = sym (append-nil old) ∙ ap (λ x. old ++ (if x && b then more else [])) (sym h)

pub nothing_ended : {X : Type 0} (b : Bool) (old : List X) (f : enumeration.Path → X) (paths : List Path) → length paths ≡ 0
    → old ≡ old ++ (if b then map f (map path_of paths) else [])
nothing_ended true old f [] h = sym (append-nil old)
nothing_ended false old f [] h = sym (append-nil old)
nothing_ended b old f (p ∷ ps) h = absurd (omega (arith, h))
