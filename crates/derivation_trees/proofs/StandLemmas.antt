-- Where elements and trees lead.
use Rattle.std.proofs.Common.{◌≡◌, ℕ, ◌+◌, ◌<◌, ◌≤◌, List, [], ◌∷◌, ◌++◌, Bool, true, false, ◌&&◌, map, length, take, drop, get_or, Option, Some, None, refl, sym, ap, ◌∙◌, subst, arith, append_assoc, nat_le, suc, zero, add-one}
use Rattle.std.proofs.lemmas.Bool.Decides.{nat_tests}
use Rattle.std.specs.Prelude.{if◌then◌else◌, option_and_then, slice_get, unwrap_or}
use Rattle.std.proofs.lemmas.List.{append-nil, take_at, drop_all}
use Rattle.std.specs.List.{list_any}
use Rattle.wiki_base.proofs.ListLaws.{drop_get_or}
use Rattle.codeco_terms.specs.declared.values.Value.{Value}
use Rattle.codeco_terms.specs.declared.values.Value.TheVariants.{Pos}
use Rattle.codeco_terms.specs.declared.categories.Category.{Category}
use Rattle.codeco_terms.specs.declared.categories.Pattern.{Pattern}
use Rattle.codeco_terms.specs.declared.elements.Element.{Element}
use Rattle.codeco_terms.specs.declared.elements.Element.TheVariants.{Terminal, Preterminal, Sub, Position, Opener, Forward, Strong, Back, NoBack}
use Rattle.codeco_terms.specs.declared.rules.Rule.{Rule}
use Rattle.codeco_terms.specs.Values.{same_value}
use Rattle.scopes.specs.declared.entries.Entry.{Entry}
use Rattle.scopes.specs.declared.agreement.Test.{Test}
use Rattle.scopes.specs.Resolution.{Finding, is_agreeing, closest_finding}
use Rattle.derivation_trees.specs.declared.trees.Tree.{Tree, out-Tree}
use Rattle.derivation_trees.specs.declared.trees.Trees.{Trees}
use Rattle.derivation_trees.specs.declared.trees.Tree.TheFolds.{fold_out-Tree, fold_out-Trees, fold-Trees}
use Rattle.derivation_trees.specs.Trees.{Node, Nodes, node, nodes_from, node_of, nodes_of, tree_layer, trees_layer}
use Rattle.derivation_trees.specs.Settings.{Setting, matches_terminal, matches_preterminal}
use Rattle.derivation_trees.specs.Instances.{value_under, under, tests_under}
use Rattle.derivation_trees.specs.Derives.{At, Stand, Phrase, pass, run, pass_child, begun, ended, phrase, phrase_of, phrases_of, rule_with, is_none_left, is_found, reference_tests}
use Rattle.derivation_trees.specs.Stands.{Begins, children_of, values_in, found_in, is_sub}

pub Begins-refl : (xs : List Entry) → Begins xs xs
Begins-refl xs = record { added = []; is = sym (append-nil xs) }

pub Begins-same : (xs ys : List Entry) → ys ≡ xs → Begins xs ys
Begins-same xs ys h = record { added = []; is = h ∙ sym (append-nil xs) }

pub Begins-trans : (xs ys zs : List Entry) → Begins xs ys → Begins ys zs → Begins xs zs
Begins-trans xs ys zs a b = record {
  added = a.added ++ b.added;
  is = b.is ∙ ap (λ ws. ws ++ b.added) a.is ∙ append_assoc xs a.added b.added;
}

pub Begins-take : (xs ys : List Entry) → Begins xs ys → take (length xs) ys ≡ xs
Begins-take xs ys a = ap (take (length xs)) a.is ∙ take_at xs a.added (length xs) refl

pub not_sub : (e : Element) → ((c : Category) → e ≡ Sub c → ⊥) → is_sub e ≡ false
not_sub (Sub c) h = absurd (h c refl)
not_sub e h = refl

-- what a stand gives, if it is there, has the list or more of it
abbrev Keeps : Stand → Option Stand → Type 0
Keeps stand None = Unit {0}
Keeps stand (Some after) = Begins stand.at.list after.at.list

if_keeps : (b : Bool) (stand after : Stand) → Begins stand.at.list after.at.list → Keeps stand (if b then Some after else None)
if_keeps true stand after h = h
if_keeps false stand after h = tt

finding_keeps : (values : List (ℕ × Value)) (positive : List Pattern) (finding : Option Finding) (found : List ℕ) (stand : Stand)
    → Keeps stand (Rattle.derivation_trees.specs.Derives.pass_finding values positive finding found stand)
finding_keeps values positive finding [] stand = tt
finding_keeps values positive finding (pos ∷ rest) stand =
    if_keeps (is_found values positive pos finding) stand _ (Begins-refl stand.at.list)

pass_keeps : (s : Setting) (values : List (ℕ × Value)) (e : Element) (stand : Stand) → is_sub e ≡ false → Keeps stand (pass s values e stand)
pass_keeps s values (Terminal t) stand h = if_keeps (matches_terminal s t stand.at.place) stand _ (Begins-refl stand.at.list)
pass_keeps s values (Preterminal c) stand h = if_keeps (matches_preterminal s (under values c) stand.at.place) stand _ (Begins-refl stand.at.list)
pass_keeps s values (Sub c) stand h = cc
pass_keeps s values (Position x) stand h = if_keeps (same_value (value_under values x) (Pos stand.at.place)) stand stand (Begins-refl stand.at.list)
pass_keeps s values Opener stand h = record { added = _; is = refl }
pass_keeps s values (Forward c) stand h = record { added = _; is = refl }
pass_keeps s values (Strong c) stand h = record { added = _; is = refl }
pass_keeps s values (Back positive negative) stand h =
    finding_keeps values positive (closest_finding (reference_tests values positive negative) stand.at.list) stand.found stand
pass_keeps s values (NoBack patterns) stand h = no_back_keeps (list_any (is_agreeing (tests_under values patterns)) stand.at.list)
  where
    no_back_keeps : (b : Bool) → Keeps stand (if b then None else Some stand)
    no_back_keeps true = tt
    no_back_keeps false = Begins-refl stand.at.list

-- an element that is no category only adds to the list
pub pass_begins : (s : Setting) (values : List (ℕ × Value)) (e : Element) (stand after : Stand) → is_sub e ≡ false → Some after ≡ pass s values e stand
    → Begins stand.at.list after.at.list
pass_begins s values e stand after h eq = subst (Keeps stand) (sym eq) (pass_keeps s values e stand h)

pub phrases_of-from : (s : Setting) (ns : List Node) → phrases_of s (nodes_from ns) ≡ map (phrase_of s) ns
phrases_of-from s [] = refl
phrases_of-from s (n ∷ ns) = ap (λ ps. phrase_of s n ∷ ps) (phrases_of-from s ns)

fold_children : (ts : Trees) → fold-Trees Node Nodes tree_layer trees_layer ts ≡ nodes_from (nodes_of ts)
fold_children ts = fold_out-Trees Node Nodes tree_layer trees_layer ts

pub node_of_is : (t : Tree) → node_of t ≡ node (out-Tree t).rule (values_in t) (found_in t) (nodes_from (nodes_of (out-Tree t).children))
node_of_is t =
    fold_out-Tree Node Nodes tree_layer trees_layer t ∙ ap (node (out-Tree t).rule (values_in t) (found_in t)) (fold_children (out-Tree t).children)

-- what a tree does, by its parts
pub phrase_of_is : (s : Setting) (t : Tree) (asked : Test) (at : At)
    → phrase_of s (node_of t) asked at ≡ option_and_then (λ r. phrase s r (values_in t) (found_in t) (children_of s t) asked at)
    (rule_with s.grammar (out-Tree t).rule)
phrase_of_is s t asked at =
    ap (λ n. phrase_of s n asked at) (node_of_is t)
    ∙ ap (λ ps. option_and_then (λ r. phrase s r (values_in t) (found_in t) ps asked at) (rule_with s.grammar (out-Tree t).rule))
    (phrases_of-from s (nodes_of (out-Tree t).children))

le_all : (n : ℕ) → true ≡ nat_le 0 n
le_all n = grind (arith, nat_tests)

le_none : (m : ℕ) → false ≡ nat_le (suc m) 0
le_none m = grind (arith, nat_tests)

le_both : (m n : ℕ) → nat_le m n ≡ nat_le (suc m) (suc n)
le_both m n = grind (arith, nat_tests)

pub none_left_at : (xs : List Phrase) (n : ℕ) → is_none_left (drop n xs) ≡ nat_le (length xs) n
none_left_at [] zero = le_all 0
none_left_at [] (suc n) = le_all (suc n)
none_left_at (x ∷ xs) zero = le_none (length xs)
none_left_at (x ∷ xs) (suc n) = none_left_at xs n ∙ le_both (length xs) n

-- a tree fails where the elements of its rule do
pub led_none : (s : Setting) (t : Tree) (asked : Test) (at : At) (rule : Rule) (start : Stand) → Some rule ≡ rule_with s.grammar (out-Tree t).rule
    → Some start ≡ begun s rule (values_in t) (found_in t) (children_of s t) asked at → None ≡ run s (values_in t) rule.body start
    → None ≡ phrase_of s (node_of t) asked at
led_none s t asked at rule start has begins fails =
    ap (option_and_then (ended rule at.list)) fails
    ∙ ap (option_and_then (λ stand. option_and_then (ended rule at.list) (run s (values_in t) rule.body stand))) begins
    ∙ ap (option_and_then (λ r. phrase s r (values_in t) (found_in t) (children_of s t) asked at)) has ∙ sym (phrase_of_is s t asked at)

-- a tree leads to where it ends after the elements of its rule
pub led_some : (s : Setting) (t : Tree) (asked : Test) (at : At) (rule : Rule) (start after : Stand) → Some rule ≡ rule_with s.grammar (out-Tree t).rule
    → Some start ≡ begun s rule (values_in t) (found_in t) (children_of s t) asked at → Some after ≡ run s (values_in t) rule.body start
    → ended rule at.list after ≡ phrase_of s (node_of t) asked at
led_some s t asked at rule start after has begins ran =
    ap (option_and_then (ended rule at.list)) ran
    ∙ ap (option_and_then (λ stand. option_and_then (ended rule at.list) (run s (values_in t) rule.body stand))) begins
    ∙ ap (option_and_then (λ r. phrase s r (values_in t) (found_in t) (children_of s t) asked at)) has ∙ sym (phrase_of_is s t asked at)

next_child : (s : Setting) (ns : List Node) (n : Node) (used : ℕ) → slice_get ns used ≡ Some n
    → drop used (map (phrase_of s) ns) ≡ phrase_of s n ∷ drop (suc used) (map (phrase_of s) ns)
next_child s [] n used h = cc
next_child s (m ∷ ms) n zero h = ap (λ o. phrase_of s (unwrap_or o m) ∷ map (phrase_of s) ms) h
next_child s (m ∷ ms) n (suc used) h = next_child s ms n used h

-- the next child fails as a phrase for the category
pub step_none : (s : Setting) (values : List (ℕ × Value)) (e : Element) (c : Category) (ns : List Node) (n : Node) (used : ℕ) (at : At) (found : List ℕ)
    (own : List (ℕ × Value)) (asked : Test) → e ≡ Sub c → asked ≡ under values c → slice_get ns used ≡ Some n → None ≡ phrase_of s n asked at
    → None ≡ pass s values e (record { at = at; found = found; own = own; children = drop used (map (phrase_of s) ns) })
step_none s values e c ns n used at found own asked is name child fails =
    ap (option_and_then (λ a. Some (record { at = a; found = found; own = own; children = drop (suc used) (map (phrase_of s) ns) }))) fails
    ∙ ap (λ a. pass_child a (phrase_of s n ∷ drop (suc used) (map (phrase_of s) ns))
    (record { at = at; found = found; own = own; children = drop used (map (phrase_of s) ns) })) name
    ∙ ap (λ ps. pass_child (under values c) ps (record { at = at; found = found; own = own; children = drop used (map (phrase_of s) ns) }))
    (sym (next_child s ns n used child))
    ∙ ap (λ x. pass s values x (record { at = at; found = found; own = own; children = drop used (map (phrase_of s) ns) })) (sym is)

-- the next child leads on as a phrase for the category
pub step_some : (s : Setting) (values : List (ℕ × Value)) (e : Element) (c : Category) (ns : List Node) (n : Node) (used : ℕ) (at after : At) (found : List ℕ)
    (own : List (ℕ × Value)) (asked : Test) → e ≡ Sub c → asked ≡ under values c → slice_get ns used ≡ Some n → Some after ≡ phrase_of s n asked at
    → Some (record { at = after; found = found; own = own; children = drop (used + 1) (map (phrase_of s) ns) })
    ≡ pass s values e (record { at = at; found = found; own = own; children = drop used (map (phrase_of s) ns) })
step_some s values e c ns n used at after found own asked is name child leads =
    ap (λ k. Some (record { at = after; found = found; own = own; children = drop k (map (phrase_of s) ns) })) (add-one used)
    ∙ ap (option_and_then (λ a. Some (record { at = a; found = found; own = own; children = drop (suc used) (map (phrase_of s) ns) }))) leads
    ∙ ap (λ a. pass_child a (phrase_of s n ∷ drop (suc used) (map (phrase_of s) ns))
    (record { at = at; found = found; own = own; children = drop used (map (phrase_of s) ns) })) name
    ∙ ap (λ ps. pass_child (under values c) ps (record { at = at; found = found; own = own; children = drop used (map (phrase_of s) ns) }))
    (sym (next_child s ns n used child))
    ∙ ap (λ x. pass s values x (record { at = at; found = found; own = own; children = drop used (map (phrase_of s) ns) })) (sym is)

-- one element of a run
pub run_more : (s : Setting) (values : List (ℕ × Value)) (body : List Element) (i : ℕ) (e : Element) (stand after : Stand) (r : Option Stand) → i < length body
    → e ≡ get_or body i e → Some after ≡ pass s values e stand → run s values (drop i body) stand ≡ r → run s values (drop (i + 1) body) after ≡ r
run_more s values body i e stand after r lt is step rest =
    ap (option_and_then (run s values (drop (i + 1) body))) step ∙ ap (λ es. run s values es stand) (sym (drop_get_or body i e lt is)) ∙ rest

pub run_none : (s : Setting) (values : List (ℕ × Value)) (body : List Element) (i : ℕ) (e : Element) (stand : Stand) (r : Option Stand) → i < length body
    → e ≡ get_or body i e → None ≡ pass s values e stand → run s values (drop i body) stand ≡ r → None ≡ r
run_none s values body i e stand r lt is step rest =
    ap (option_and_then (run s values (drop (i + 1) body))) step ∙ ap (λ es. run s values es stand) (sym (drop_get_or body i e lt is)) ∙ rest

pub run_end : (s : Setting) (values : List (ℕ × Value)) (body : List Element) (i : ℕ) (stand : Stand) (r : Option Stand) → length body ≤ i
    → run s values (drop i body) stand ≡ r → Some stand ≡ r
run_end s values body i stand r le rest = ap (λ es. run s values es stand) (sym (drop_all i body le)) ∙ rest
