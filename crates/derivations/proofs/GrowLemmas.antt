-- Lists only grow along paths.
use Rattle.std.proofs.Common.{◌≡◌, ℕ, zero, suc, ◌+◌, List, [], ◌∷◌, ◌++◌, map, drop, length, Bool, true, false, ◌&&◌, ◌⊎◌, Option, Some, None, refl, sym, ◌∙◌}
use Rattle.std.specs.Prelude.{if◌then◌else◌, ◌==◌}
use Rattle.std.specs.Option.{option_map_or}
use Rattle.std.specs.List.{flat_map}
use Rattle.codeco_terms.specs.declared.values.Value.{Value}
use Rattle.codeco_terms.specs.declared.elements.Element.{Element}
use Rattle.codeco_terms.specs.declared.elements.Element.TheVariants.{Terminal, Preterminal, Sub, Position, Opener, Forward, Strong, Back, NoBack}
use Rattle.codeco_terms.specs.declared.rules.Rule.{Rule}
use Rattle.scopes.specs.declared.entries.Entry.{Entry}
use Rattle.scopes.specs.AccessList.{closed}
use Rattle.scopes.specs.declared.agreement.Test.{Test}
use Rattle.derivation_trees.specs.Settings.{Setting}
use Rattle.derivation_trees.specs.Instances.{under}
use Rattle.derivation_trees.specs.Derives.{At, Stand, pass, list_after}
use Rattle.derivation_trees.specs.Stands.{Begins, is_sub}
use Rattle.derivation_trees.proofs.StandLemmas.{Begins-refl, Begins-trans, pass_begins}
use Rattle.derivation_trees.specs.Starts.{may_start}
use Rattle.derivations.specs.Enumeration.{Path, Outcome, found_at, passed, joined, steps, all_steps, opened, ended_path, instances, may_begin, instance_trees, rule_trees, rules_trees, trees_of}

-- what the members of a list have
abbrev pub Each : {X : Type 0} → (X → Type 0) → List X → Type 0
Each P [] = Unit {0}
Each P (x ∷ xs) = P x × Each P xs

each_both : {X : Type 0} (P : X → Type 0) (xs ys : List X) → Each P xs → Each P ys → Each P (xs ++ ys)
each_both P [] ys h k = k
each_both P (x ∷ xs) ys h k = (h.0, each_both P xs ys h.1 k)

each_flat_map : {X Y : Type 0} (P : X → Type 0) (Q : Y → Type 0) (f : X → List Y) → ((x : X) → P x → Each Q (f x)) → (xs : List X) → Each P xs
    → Each Q (flat_map f xs)
each_flat_map P Q f step [] h = tt
each_flat_map P Q f step (x ∷ xs) h = each_both Q (f x) (flat_map f xs) (step x h.0) (each_flat_map P Q f step xs h.1)

each_map : {X Y : Type 0} (P : X → Type 0) (Q : Y → Type 0) (f : X → Y) → ((x : X) → P x → Q (f x)) → (xs : List X) → Each P xs → Each Q (map f xs)
each_map P Q f step [] h = tt
each_map P Q f step (x ∷ xs) h = (step x h.0, each_map P Q f step xs h.1)

each_anything : {X : Type 0} (xs : List X) → Each (λ x. Unit {0}) xs
each_anything [] = tt
each_anything (x ∷ xs) = (tt, each_anything xs)

-- the path's list begins with the other
abbrev pub PathBegins : List Entry → Path → Type 0
PathBegins list path = Begins list path.at.list

abbrev pub OutcomeBegins : List Entry → Outcome → Type 0
OutcomeBegins list outcome = Begins list outcome.at.list

-- trees for a category only add to the list
abbrev pub Grows : (Test → At → List Outcome) → Type 0
Grows trees = (wanted : Test) (at : At) → Each (OutcomeBegins at.list) (trees wanted at)

passed_grows : (s : Setting) (values : List (ℕ × Value)) (e : Element) (list : List Entry) (path : Path) → is_sub e ≡ false → PathBegins list path
    → Each (PathBegins list) (passed s values e path)
passed_grows s values e list path plain h =
    by (pass s values e (record { at = path.at; found = found_at values e path.at.list; own = path.own; children = [] })) refl
  where
    by : (o : Option Stand) → pass s values e (record { at = path.at; found = found_at values e path.at.list; own = path.own; children = [] }) ≡ o
        → Each (PathBegins list) (option_map_or
        (λ stand. record { found = path.found ++ found_at values e path.at.list; own = stand.own; children = path.children; at = stand.at } ∷ []) o [])
    by None w = tt
    by (Some stand) w = (
      Begins-trans list path.at.list stand.at.list h
          (pass_begins s values e (record { at = path.at; found = found_at values e path.at.list; own = path.own; children = [] }) stand plain (sym w)),
      tt,
    )

child_grows : (trees : Test → At → List Outcome) → Grows trees → (list : List Entry) (path : Path) (asked : Test) → PathBegins list path
    → Each (PathBegins list) (map (joined path) (trees asked path.at))
child_grows trees grows list path asked h =
    each_map (OutcomeBegins path.at.list) (PathBegins list) (joined path) (λ o b. Begins-trans list path.at.list o.at.list h b) (trees asked path.at)
    (grows asked path.at)

step_grows : (s : Setting) (trees : Test → At → List Outcome) → Grows trees → (values : List (ℕ × Value)) (list : List Entry) (e : Element) (path : Path)
    → PathBegins list path → Each (PathBegins list) (steps s trees values e path)
step_grows s trees grows values list (Terminal t) path h = passed_grows s values (Terminal t) list path refl h
step_grows s trees grows values list (Preterminal c) path h = passed_grows s values (Preterminal c) list path refl h
step_grows s trees grows values list (Sub c) path h = child_grows trees grows list path (under values c) h
step_grows s trees grows values list (Position x) path h = passed_grows s values (Position x) list path refl h
step_grows s trees grows values list Opener path h = passed_grows s values Opener list path refl h
step_grows s trees grows values list (Forward c) path h = passed_grows s values (Forward c) list path refl h
step_grows s trees grows values list (Strong c) path h = passed_grows s values (Strong c) list path refl h
step_grows s trees grows values list (Back ps ns) path h = passed_grows s values (Back ps ns) list path refl h
step_grows s trees grows values list (NoBack ps) path h = passed_grows s values (NoBack ps) list path refl h

pub all_grow : (s : Setting) (trees : Test → At → List Outcome) → Grows trees
    → (values : List (ℕ × Value)) (list : List Entry) (es : List Element) (paths : List Path) → Each (PathBegins list) paths
    → Each (PathBegins list) (all_steps s trees values es paths)
all_grow s trees grows values list [] paths h = h
all_grow s trees grows values list (e ∷ es) paths h =
    all_grow s trees grows values list es (flat_map (steps s trees values e) paths)
    (each_flat_map (PathBegins list) (PathBegins list) (steps s trees values e) (step_grows s trees grows values list e) paths h)

after_begins : (closing : Bool) (begun list : List Entry) → Begins begun list → Begins begun (list_after closing begun list)
after_begins true begun list h = record { added = closed (drop (length begun) list); is = refl }
after_begins false begun list h = h

instance_grows : (s : Setting) (trees : Test → At → List Outcome) → Grows trees
    → (wanted : Test) (at : At) (number : ℕ) (rule : Rule) (values : List (ℕ × Value))
    → Each (OutcomeBegins at.list) (instance_trees s trees wanted at number rule values)
instance_grows s trees grows wanted at number rule values = by (may_begin s rule wanted values)
  where
    by : (b : Bool) → Each (OutcomeBegins at.list)
        (if b then map (ended_path number rule values at.list) (all_steps s trees values rule.body (opened rule values at ∷ [])) else [])
    by false = tt
    by true = each_map (PathBegins at.list) (OutcomeBegins at.list) (ended_path number rule values at.list)
        (λ path h. after_begins rule.closing at.list path.at.list h) (all_steps s trees values rule.body (opened rule values at ∷ []))
        (all_grow s trees grows values at.list rule.body (opened rule values at ∷ []) (Begins-refl at.list, tt))

rule_grows : (s : Setting) (trees : Test → At → List Outcome) → Grows trees → (wanted : Test) (at : At) (number : ℕ) (rule : Rule)
    → Each (OutcomeBegins at.list) (rule_trees s trees wanted at number rule)
rule_grows s trees grows wanted at number rule = by ((rule.head.name == wanted.name) && may_start s at.place rule.body)
  where
    by : (b : Bool) → Each (OutcomeBegins at.list) (if b then flat_map (instance_trees s trees wanted at number rule) (instances s rule wanted) else [])
    by false = tt
    by true = each_flat_map (λ values. Unit {0}) (OutcomeBegins at.list) (instance_trees s trees wanted at number rule)
        (λ values h. instance_grows s trees grows wanted at number rule values) (instances s rule wanted) (each_anything (instances s rule wanted))

rules_grow : (s : Setting) (trees : Test → At → List Outcome) → Grows trees → (wanted : Test) (at : At) (number : ℕ) (rules : List Rule)
    → Each (OutcomeBegins at.list) (rules_trees s trees wanted at number rules)
rules_grow s trees grows wanted at number [] = tt
rules_grow s trees grows wanted at number (r ∷ rs) =
    each_both (OutcomeBegins at.list) (rule_trees s trees wanted at number r) (rules_trees s trees wanted at (number + 1) rs)
    (rule_grows s trees grows wanted at number r) (rules_grow s trees grows wanted at (number + 1) rs)

pub trees_grow : (s : Setting) (depth : ℕ) → Grows (trees_of s depth)
trees_grow s zero wanted at = tt
trees_grow s (suc depth) wanted at = rules_grow s (trees_of s depth) (trees_grow s depth) wanted at 1 s.grammar.rules
