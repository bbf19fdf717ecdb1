-- Each run over elements is among the paths.
use Rattle.std.proofs.Common.{◌≡◌, ℕ, ◌+◌, List, [], ◌∷◌, ◌++◌, map, Bool, true, false, ◌&&◌, ◌⊎◌, inl, inr, Option, Some, None, refl, sym, ap, subst, ◌∙◌, append_assoc, append-nil}
use Rattle.std.specs.Prelude.{if◌then◌else◌, ◌==◌, option_and_then, option_map}
use Rattle.std.specs.Option.{option_map_or}
use Rattle.std.specs.List.{flat_map, list_any}
use Rattle.std.proofs.lemmas.Option.{same_Some}
use Rattle.std.proofs.lemmas.Bool.{eqb-true}
use Rattle.wiki_base.proofs.BoolLaws.{and_first}
use Rattle.codeco_terms.specs.declared.values.Value.{Value}
use Rattle.codeco_terms.specs.declared.values.Value.TheVariants.{Pos}
use Rattle.codeco_terms.specs.declared.categories.Pattern.{Pattern}
use Rattle.codeco_terms.specs.declared.elements.Element.{Element}
use Rattle.codeco_terms.specs.declared.elements.Element.TheVariants.{Terminal, Preterminal, Sub, Position, Opener, Forward, Strong, Back, NoBack}
use Rattle.codeco_terms.specs.Values.{same_value}
use Rattle.scopes.specs.declared.agreement.Test.{Test}
use Rattle.scopes.specs.Resolution.{Finding, closest_finding, is_agreeing}
use Rattle.derivation_trees.specs.Trees.{Node}
use Rattle.derivation_trees.specs.Settings.{Setting, matches_terminal, matches_preterminal}
use Rattle.derivation_trees.specs.Instances.{value_under, under, tests_under}
use Rattle.derivation_trees.specs.Derives.{At, Stand, Phrase, pass, pass_token, pass_child, pass_finding, run, phrase_of, reference_tests, is_found}
use Rattle.derivations.specs.Enumeration.{Path, Outcome, found_at, passed, joined, steps, all_steps}
use Rattle.derivations.proofs.Members.{Among, among_map, among_flat_map}

-- where the path stands with what is still to come
abbrev pub stand_of : Setting → Path → List ℕ → List Node → Stand
stand_of s path found nodes = record { at = path.at; found = found; own = path.own; children = map (phrase_of s) nodes }

-- a step from a path with what is to come to another path with what is to come then
pub record Goes (s : Setting) (out : List Path) (path : Path) (found : List ℕ) (nodes : List Node) (after : Stand) : Type 0 where
  pub next : Path
  pub left : List ℕ
  pub rest : List Node
  pub among : Among out next
  pub stands : after ≡ stand_of s next left rest
  pub found_is : next.found ++ left ≡ path.found ++ found
  pub children_is : next.children ++ rest ≡ path.children ++ nodes
  pub later : (n : Node) → Among rest n → Among nodes n

-- the stand with other found positions and children to come
abbrev pub refit : List ℕ → List Phrase → Stand → Stand
refit found children stand = record { at = stand.at; found = found; own = stand.own; children = children }

-- what an element does that has to do with neither found positions nor children
abbrev pub Commutes : Option Stand → Option Stand → List ℕ → List Phrase → Type 0
Commutes whole alone found children = whole ≡ option_map (refit found children) alone

pub token_commutes : (b : Bool) (at : At) (own : List (ℕ × Value)) (found : List ℕ) (children : List Phrase)
    → Commutes (pass_token b (record { at = at; found = found; own = own; children = children }))
    (pass_token b (record { at = at; found = []; own = own; children = [] })) found children
token_commutes true at own found children = refl
token_commutes false at own found children = refl

pub test_commutes : (b : Bool) (at : At) (own : List (ℕ × Value)) (found : List ℕ) (children : List Phrase)
    → Commutes (if b then Some (record { at = at; found = found; own = own; children = children }) else None)
    (if b then Some (record { at = at; found = []; own = own; children = [] }) else None) found children
test_commutes true at own found children = refl
test_commutes false at own found children = refl

pub no_test_commutes : (b : Bool) (at : At) (own : List (ℕ × Value)) (found : List ℕ) (children : List Phrase)
    → Commutes (if b then None else Some (record { at = at; found = found; own = own; children = children }))
    (if b then None else Some (record { at = at; found = []; own = own; children = [] })) found children
no_test_commutes true at own found children = refl
no_test_commutes false at own found children = refl

some_of_map : {A B : Type 0} (f : A → B) (o : Option A) (y : B) → option_map f o ≡ Some y → (x : A) × (o ≡ Some x) × (y ≡ f x)
some_of_map f None y h = cc
some_of_map f (Some x) y h = (x, refl, sym (same_Some (f x) y h))

-- a step over such an element
plain_goes : (s : Setting) (values : List (ℕ × Value)) (e : Element) (path : Path) (found : List ℕ) (nodes : List Node) (after : Stand)
    → found_at values e path.at.list ≡ []
    → Commutes (pass s values e (stand_of s path found nodes)) (pass s values e (record { at = path.at; found = []; own = path.own; children = [] })) found
    (map (phrase_of s) nodes) → pass s values e (stand_of s path found nodes) ≡ Some after → Goes s (passed s values e path) path found nodes after
plain_goes s values e path found nodes after none commutes h =
    let one : (x : Stand) × (pass s values e (record { at = path.at; found = []; own = path.own; children = [] }) ≡ Some x)
    × (after ≡ refit found (map (phrase_of s) nodes) x) =
    some_of_map (refit found (map (phrase_of s) nodes)) (pass s values e (record { at = path.at; found = []; own = path.own; children = [] })) after
    (sym commutes ∙ h) in
    let next : Path = record { found = path.found ++ found_at values e path.at.list; own = (one.0).own; children = path.children; at = (one.0).at } in
    let fits : pass s values e (record { at = path.at; found = found_at values e path.at.list; own = path.own; children = [] }) ≡ Some one.0 =
    ap (λ fs. pass s values e (record { at = path.at; found = fs; own = path.own; children = [] })) none ∙ one.1 in
    record {
      next = next;
      left = found;
      rest = nodes;
      among = subst (λ o. Among (option_map_or
          (λ stand. record { found = path.found ++ found_at values e path.at.list; own = stand.own; children = path.children; at = stand.at } ∷ []) o []) next)
          (sym fits) (inl refl);
      stands = one.2;
      found_is = ap (λ fs. (path.found ++ fs) ++ found) none ∙ ap (λ fs. fs ++ found) (append-nil path.found);
      children_is = refl;
      later = λ n h. h;
    }

-- a step over a category
child_goes : (s : Setting) (trees : Test → At → List Outcome) (asked : Test) (path : Path) (found : List ℕ) (nodes : List Node) (after : Stand)
    → ((n : Node) (at : At) → Among nodes n → phrase_of s n asked path.at ≡ Some at → Among (trees asked path.at) (record { tree = n; at = at }))
    → pass_child asked (map (phrase_of s) nodes) (stand_of s path found nodes) ≡ Some after
    → Goes s (map (joined path) (trees asked path.at)) path found nodes after
child_goes s trees asked path found [] after knows h = cc
child_goes s trees asked path found (n ∷ ns) after knows h = by (phrase_of s n asked path.at) refl h
  where
    by : (o : Option At) → phrase_of s n asked path.at ≡ o
        → option_and_then (λ at. Some (record { at = at; found = found; own = path.own; children = map (phrase_of s) ns })) o ≡ Some after
        → Goes s (map (joined path) (trees asked path.at)) path found (n ∷ ns) after
    by None e k = cc
    by (Some at) e k = record {
      next = joined path (record { tree = n; at = at });
      left = found;
      rest = ns;
      among = among_map (joined path) (trees asked path.at) (record { tree = n; at = at }) (knows n at (inl refl) e);
      stands = sym (same_Some (record { at = at; found = found; own = path.own; children = map (phrase_of s) ns }) after k);
      found_is = refl;
      children_is = append_assoc path.children (n ∷ []) ns;
      later = λ m w. inr w;
    }

-- a step over a backward reference

abbrev bare : Path → List ℕ → List Phrase → Stand
bare path found children = record { at = path.at; found = found; own = path.own; children = children }

abbrev moved_path : Path → List ℕ → Stand → List Path
moved_path path found stand = record { found = path.found ++ found; own = stand.own; children = path.children; at = stand.at } ∷ []

abbrev after_found : Path → ℕ → Path
after_found path pos = record { found = path.found ++ pos ∷ []; own = path.own; children = path.children; at = path.at }

abbrev positions_of : Option Finding → List ℕ
positions_of o = option_map_or (λ f. f.pos ∷ []) o []

found_here : (values : List (ℕ × Value)) (positive : List Pattern) (finding : Finding) (pos : ℕ) (path : Path)
    → is_found values positive pos (Some finding) ≡ true
    → Among (option_map_or (moved_path path (finding.pos ∷ [])) (if is_found values positive finding.pos (Some finding) then Some (bare path [] []) else None)
    []) (after_found path pos)
found_here values positive finding pos path w =
    let same : finding.pos ≡ pos = eqb-true finding.pos pos (and_first (finding.pos == pos) _ w) in
    let here : Among (option_map_or (moved_path path (pos ∷ [])) (if is_found values positive pos (Some finding) then Some (bare path [] []) else None) [])
    (after_found path pos) = subst (λ b. Among (option_map_or (moved_path path (pos ∷ [])) (if b then Some (bare path [] []) else None) [])
    (after_found path pos)) (sym w) (inl refl) in
    subst (λ q. Among (option_map_or (moved_path path (q ∷ [])) (if is_found values positive q (Some finding) then Some (bare path [] []) else None) [])
    (after_found path pos)) (sym same) here

back_goes : (s : Setting) (values : List (ℕ × Value)) (positive negative : List Pattern) (path : Path) (found : List ℕ) (nodes : List Node) (after : Stand)
    → pass s values (Back positive negative) (stand_of s path found nodes) ≡ Some after
    → Goes s (passed s values (Back positive negative) path) path found nodes after
back_goes s values positive negative path [] nodes after h = cc
back_goes s values positive negative path (pos ∷ found) nodes after h =
    by (closest_finding (reference_tests values positive negative) path.at.list) refl h
  where
    at : (finding : Finding) → closest_finding (reference_tests values positive negative) path.at.list ≡ Some finding → (b : Bool)
        → is_found values positive pos (Some finding) ≡ b → (if b then Some (bare path found (map (phrase_of s) nodes)) else None) ≡ Some after
        → Goes s (passed s values (Back positive negative) path) path (pos ∷ found) nodes after
    at finding e false w m = cc
    at finding e true w m = record {
      next = after_found path pos;
      left = found;
      rest = nodes;
      among = subst (λ o. Among (option_map_or (moved_path path (positions_of o))
          (pass_finding values positive o (positions_of o) (bare path (positions_of o) [])) []) (after_found path pos)) (sym e)
          (found_here values positive finding pos path w);
      stands = sym (same_Some (bare path found (map (phrase_of s) nodes)) after m);
      found_is = append_assoc path.found (pos ∷ []) found;
      children_is = refl;
      later = λ n x. x;
    }

    by : (o : Option Finding) → closest_finding (reference_tests values positive negative) path.at.list ≡ o
        → (if is_found values positive pos o then Some (bare path found (map (phrase_of s) nodes)) else None) ≡ Some after
        → Goes s (passed s values (Back positive negative) path) path (pos ∷ found) nodes after
    by None e k = cc
    by (Some finding) e k = at finding e (is_found values positive pos (Some finding)) refl k

-- what is known of the trees for children
abbrev pub Knows : Setting → (Test → At → List Outcome) → List Node → Type 0
Knows s trees nodes = (n : Node) (asked : Test) (start at : At) → Among nodes n → phrase_of s n asked start ≡ Some at
    → Among (trees asked start) (record { tree = n; at = at })

pub step_goes : (s : Setting) (trees : Test → At → List Outcome) (values : List (ℕ × Value)) (e : Element) (path : Path) (found : List ℕ) (nodes : List Node)
    (after : Stand) → Knows s trees nodes → pass s values e (stand_of s path found nodes) ≡ Some after
    → Goes s (steps s trees values e path) path found nodes after
step_goes s trees values (Terminal t) path found nodes after knows h =
    plain_goes s values (Terminal t) path found nodes after refl
    (token_commutes (matches_terminal s t path.at.place) path.at path.own found (map (phrase_of s) nodes)) h
step_goes s trees values (Preterminal c) path found nodes after knows h =
    plain_goes s values (Preterminal c) path found nodes after refl
    (token_commutes (matches_preterminal s (under values c) path.at.place) path.at path.own found (map (phrase_of s) nodes)) h
step_goes s trees values (Sub c) path found nodes after knows h =
    child_goes s trees (under values c) path found nodes after (λ n at m e. knows n (under values c) path.at at m e) h
step_goes s trees values (Position x) path found nodes after knows h =
    plain_goes s values (Position x) path found nodes after refl
    (test_commutes (same_value (value_under values x) (Pos path.at.place)) path.at path.own found (map (phrase_of s) nodes)) h
step_goes s trees values Opener path found nodes after knows h = plain_goes s values Opener path found nodes after refl refl h
step_goes s trees values (Forward c) path found nodes after knows h = plain_goes s values (Forward c) path found nodes after refl refl h
step_goes s trees values (Strong c) path found nodes after knows h = plain_goes s values (Strong c) path found nodes after refl refl h
step_goes s trees values (Back positive negative) path found nodes after knows h = back_goes s values positive negative path found nodes after h
step_goes s trees values (NoBack patterns) path found nodes after knows h =
    plain_goes s values (NoBack patterns) path found nodes after refl
    (no_test_commutes (list_any (is_agreeing (tests_under values patterns)) path.at.list) path.at path.own found (map (phrase_of s) nodes)) h

-- a run over elements
pub all_goes : (s : Setting) (trees : Test → At → List Outcome) (values : List (ℕ × Value)) (es : List Element) (paths : List Path) (path : Path)
    (found : List ℕ) (nodes : List Node) (after : Stand) → Among paths path → Knows s trees nodes → run s values es (stand_of s path found nodes) ≡ Some after
    → Goes s (all_steps s trees values es paths) path found nodes after
all_goes s trees values [] paths path found nodes after m knows h = record {
  next = path;
  left = found;
  rest = nodes;
  among = m;
  stands = sym (same_Some (stand_of s path found nodes) after h);
  found_is = refl;
  children_is = refl;
  later = λ n w. w;
}
all_goes s trees values (e ∷ es) paths path found nodes after m knows h =
    by (λ mid one k. all_goes s trees values es (flat_map (steps s trees values e) paths) one.next one.left one.rest after
    (among_flat_map (steps s trees values e) paths path one.next m one.among) (λ n asked start at a p. knows n asked start at (one.later n a) p)
    (sym (ap (run s values es) one.stands) ∙ k)) (pass s values e (stand_of s path found nodes)) refl h
  where
    both : (mid : Stand) (one : Goes s (steps s trees values e path) path found nodes mid)
        → Goes s (all_steps s trees values es (flat_map (steps s trees values e) paths)) one.next one.left one.rest after
        → Goes s (all_steps s trees values (e ∷ es) paths) path found nodes after
    both mid one two = record {
      next = two.next;
      left = two.left;
      rest = two.rest;
      among = two.among;
      stands = two.stands;
      found_is = two.found_is ∙ one.found_is;
      children_is = two.children_is ∙ one.children_is;
      later = λ n a. one.later n (two.later n a);
    }

    by : ((mid : Stand) (one : Goes s (steps s trees values e path) path found nodes mid) → run s values es mid ≡ Some after
        → Goes s (all_steps s trees values es (flat_map (steps s trees values e) paths)) one.next one.left one.rest after) → (o : Option Stand)
        → pass s values e (stand_of s path found nodes) ≡ o → option_and_then (run s values es) o ≡ Some after
        → Goes s (all_steps s trees values (e ∷ es) paths) path found nodes after
    by rest None w k = cc
    by rest (Some mid) w k =
        let one : Goes s (steps s trees values e path) path found nodes mid = step_goes s trees values e path found nodes mid knows w in
        both mid one (rest mid one k)
