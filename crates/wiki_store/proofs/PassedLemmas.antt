-- The tokens of a derivation: each is a terminal, or has a reading.
use Rattle.std.proofs.Common.{◌≡◌, ℕ, ◌+◌, ◌<◌, ◌≤◌, ◌⊎◌, Bool, true, false, cond, List, [], ◌∷◌, length, Option, Some, None, inl, inr, refl, sym, ap, subst, ◌∙◌, arith}
use Rattle.std.specs.Prelude.{option_and_then}
use Rattle.std.specs.List.{list_any}
use Rattle.std.proofs.lemmas.Bool.{cases_lt}
use Rattle.std.proofs.lemmas.Option.{none-some, same_Some}
use Rattle.codeco_terms.specs.declared.values.Value.{Value}
use Rattle.codeco_terms.specs.declared.values.Value.TheVariants.{Pos}
use Rattle.codeco_terms.specs.declared.categories.Pattern.{Pattern}
use Rattle.codeco_terms.specs.declared.elements.Element.{Element}
use Rattle.codeco_terms.specs.declared.elements.Element.TheVariants.{Terminal, Preterminal, Sub, Position, Opener, Forward, Strong, Back, NoBack}
use Rattle.codeco_terms.specs.declared.rules.Rule.{Rule}
use Rattle.codeco_terms.specs.Values.{same_value}
use Rattle.scopes.specs.declared.agreement.Test.{Test}
use Rattle.scopes.specs.Resolution.{Finding, is_agreeing, closest_finding}
use Rattle.derivation_trees.specs.Trees.{Node, Nodes, node, none, more}
use Rattle.derivation_trees.specs.Settings.{Setting, matches_terminal, matches_preterminal}
use Rattle.derivation_trees.specs.Instances.{value_under, under, tests_under}
use Rattle.derivation_trees.specs.Derives.{At, Stand, moved, pass, pass_token, pass_child, pass_finding, is_found, reference_tests, run, phrase, phrase_of, phrases_of, rule_with, text_category, IsDerivation}
use Rattle.derivation_trees.specs.Skeletons.{start}
use Rattle.derivation_trees.specs.Stands.{is_sub}
use Rattle.derivations.proofs.ListingLemmas.{phrase_parts}

-- the token at the place is a terminal of the grammar, or has a reading
abbrev pub IsPassed : Setting → ℕ → Type 0
IsPassed s k = ((t : ℕ) × (matches_terminal s t k ≡ true)) ⊎ ((asked : Test) × (matches_preterminal s asked k ≡ true))

-- so are all tokens from a place to before another
pub record ArePassed (s : Setting) (from to : ℕ) : Type 0 where
  pub rises : from ≤ to
  pub each : (k : ℕ) → from ≤ k → k < to → IsPassed s k

passed_none : (s : Setting) (i : ℕ) → ArePassed s i i
passed_none s i = record { rises = omega arith; each = λ k low high. absurd (omega (arith, low, high)) }

passed_one : (s : Setting) (i : ℕ) → IsPassed s i → ArePassed s i (i + 1)
passed_one s i here = record { rises = omega arith; each = λ k low high. let same : i ≡ k = omega (arith, low, high) in subst (IsPassed s) same here }

passed_more : (s : Setting) (i j k : ℕ) → ArePassed s i j → ArePassed s j k → ArePassed s i k
passed_more s i j k front back =
    let low = front.rises in
    let high = back.rises in
    record { rises = omega (arith, low, high); each = λ n from to. by_side n from to (cases_lt n j) }
  where
    by_side : (n : ℕ) → i ≤ n → n < k → (n < j) ⊎ (j ≤ n) → IsPassed s n
    by_side n from to (inl below) = front.each n from below
    by_side n from to (inr above) = back.each n above to

-- the next stand has the same children to come, and the tokens up to it are passed
record IsNext (s : Setting) (stand next : Stand) : Type 0 where
  children : next.children ≡ stand.children
  passed : ArePassed s stand.at.place next.at.place

next_some : (s : Setting) (stand one next : Stand) → one.at.place ≡ stand.at.place → one.children ≡ stand.children → Some one ≡ Some next → IsNext s stand next
next_some s stand one next place children h =
    let same = same_Some one next h in
    record {
      children = ap (λ (x : Stand). x.children) (sym same) ∙ children;
      passed = subst (λ (n : ℕ). ArePassed s stand.at.place n) (sym place ∙ ap (λ (x : Stand). x.at.place) same) (passed_none s stand.at.place);
    }

next_token : (s : Setting) (b : Bool) (stand next : Stand) → (b ≡ true → IsPassed s stand.at.place) → pass_token b stand ≡ Some next → IsNext s stand next
next_token s true stand next passes h =
    let same = same_Some (moved stand (stand.at.place + 1) stand.at.list) next h in
    record {
      children = ap (λ (x : Stand). x.children) (sym same);
      passed = subst (λ (n : ℕ). ArePassed s stand.at.place n) (ap (λ (x : Stand). x.at.place) same) (passed_one s stand.at.place (passes refl));
    }
next_token s false stand next passes h = absurd (none-some next h)

next_test : (s : Setting) (b : Bool) (stand one next : Stand) → one.at.place ≡ stand.at.place → one.children ≡ stand.children
    → cond b (Some one) None ≡ Some next → IsNext s stand next
next_test s true stand one next place children h = next_some s stand one next place children h
next_test s false stand one next place children h = absurd (none-some next h)

next_no_test : (s : Setting) (b : Bool) (stand next : Stand) → cond b None (Some stand) ≡ Some next → IsNext s stand next
next_no_test s true stand next h = absurd (none-some next h)
next_no_test s false stand next h = next_some s stand stand next refl refl h

next_finding : (s : Setting) (values : List (ℕ × Value)) (positive : List Pattern) (finding : Option Finding) (positions : List ℕ) (stand next : Stand)
    → pass_finding values positive finding positions stand ≡ Some next → IsNext s stand next
next_finding s values positive finding [] stand next h = absurd (none-some next h)
next_finding s values positive finding (pos ∷ rest) stand next h =
    next_test s (is_found values positive pos finding) stand (record { at = stand.at; found = rest; own = stand.own; children = stand.children }) next refl refl
    h

-- an element that is no category passes its token, if it has one
next_plain : (s : Setting) (values : List (ℕ × Value)) (e : Element) (stand next : Stand) → is_sub e ≡ false → pass s values e stand ≡ Some next
    → IsNext s stand next
next_plain s values (Terminal t) stand next plain h = next_token s (matches_terminal s t stand.at.place) stand next (λ is. inl (t, is)) h
next_plain s values (Preterminal c) stand next plain h =
    next_token s (matches_preterminal s (under values c) stand.at.place) stand next (λ is. inr (under values c, is)) h
next_plain s values (Sub c) stand next plain h = absurd cc
next_plain s values (Position x) stand next plain h = next_test s (same_value (value_under values x) (Pos stand.at.place)) stand stand next refl refl h
next_plain s values Opener stand next plain h = next_some s stand _ next refl refl h
next_plain s values (Forward c) stand next plain h = next_some s stand _ next refl refl h
next_plain s values (Strong c) stand next plain h = next_some s stand _ next refl refl h
next_plain s values (Back ps ns) stand next plain h =
    next_finding s values ps (closest_finding (reference_tests values ps ns) stand.at.list) stand.found stand next h
next_plain s values (NoBack ps) stand next plain h = next_no_test s (list_any (is_agreeing (tests_under values ps)) stand.at.list) stand next h

-- a node that derives passes the tokens between its places
abbrev IsWhole : Setting → Node → Type 0
IsWhole s n = (asked : Test) (at after : At) → phrase_of s n asked at ≡ Some after → ArePassed s at.place after.place

abbrev AreWhole : Setting → Nodes → Type 0
AreWhole s none = Unit {0}
AreWhole s (more n ns) = IsWhole s n × AreWhole s ns

walk : (s : Setting) (values : List (ℕ × Value)) (es : List Element) (ns : Nodes) (stand after : Stand) → AreWhole s ns → stand.children ≡ phrases_of s ns
    → run s values es stand ≡ Some after → ArePassed s stand.at.place after.at.place
walk s values [] ns stand after whole children h =
    subst (λ (x : Stand). ArePassed s stand.at.place x.at.place) (same_Some stand after h) (passed_none s stand.at.place)
walk s values (Sub c ∷ es) none stand after whole children h =
    absurd (none-some after (sym (ap (λ ps. option_and_then (run s values es) (pass_child (under values c) ps stand)) children) ∙ h))
walk s values (Sub c ∷ es) (more n ns) stand after whole children h =
    by (λ next same k. walk s values es ns next after whole.1 same k) (phrase_of s n (under values c) stand.at) refl
    (sym (ap (λ ps. option_and_then (run s values es) (pass_child (under values c) ps stand)) children) ∙ h)
  where
    by : ((next : Stand) → next.children ≡ phrases_of s ns → run s values es next ≡ Some after → ArePassed s next.at.place after.at.place)
        → (o : Option At) → phrase_of s n (under values c) stand.at ≡ o
        → option_and_then (run s values es)
        (option_and_then (λ at. Some (record { at = at; found = stand.found; own = stand.own; children = phrases_of s ns })) o) ≡ Some after
        → ArePassed s stand.at.place after.at.place
    by later None w k = absurd (none-some after k)
    by later (Some at) w k =
        let next : Stand = record { at = at; found = stand.found; own = stand.own; children = phrases_of s ns } in
        passed_more s stand.at.place at.place after.at.place (whole.0 (under values c) stand.at at w) (later next refl k)
walk s values (e ∷ es) ns stand after whole children h = by (λ next same k. walk s values es ns next after whole same k) (pass s values e stand) refl h
  where
    by : ((next : Stand) → next.children ≡ phrases_of s ns → run s values es next ≡ Some after → ArePassed s next.at.place after.at.place)
        → (o : Option Stand) → pass s values e stand ≡ o → option_and_then (run s values es) o ≡ Some after → ArePassed s stand.at.place after.at.place
    by later None w k = absurd (none-some after k)
    by later (Some next) w k =
        let is = next_plain s values e stand next refl w in
        passed_more s stand.at.place next.at.place after.at.place is.passed (later next (is.children ∙ children) k)

node_whole : (s : Setting) (rule : Rule) (values : List (ℕ × Value)) (found : List ℕ) (children : Nodes) (asked : Test) (at after : At) → AreWhole s children
    → phrase s rule values found (phrases_of s children) asked at ≡ Some after → ArePassed s at.place after.place
node_whole s rule values found children asked at after whole h =
    let parts = phrase_parts s rule values found (phrases_of s children) asked at after h in
    subst (λ (x : At). ArePassed s at.place x.place) (sym parts.ends)
    (walk s values rule.body children (start rule values found (phrases_of s children) at) parts.stand whole refl parts.ran)

mutual
  each_whole : (s : Setting) (n : Node) → IsWhole s n
  each_whole s (node number values found children) asked at after h = by (all_whole s children) (rule_with s.grammar number) h
    where
      by : AreWhole s children → (o : Option Rule) → option_and_then (λ r. phrase s r values found (phrases_of s children) asked at) o ≡ Some after
          → ArePassed s at.place after.place
      by whole None k = absurd (none-some after k)
      by whole (Some rule) k = node_whole s rule values found children asked at after whole k

  all_whole : (s : Setting) (ns : Nodes) → AreWhole s ns
  all_whole s none = tt
  all_whole s (more n ns) = (each_whole s n, all_whole s ns)

-- each token of a derivation is a terminal of the grammar, or has a reading
pub derivation_passes : (s : Setting) (tree : Node) → IsDerivation s tree → (k : ℕ) → k < length s.tokens → IsPassed s k
derivation_passes s tree derives k within =
    (each_whole s tree text_category (record { place = 0; list = [] }) (record { place = length s.tokens; list = derives.0 }) derives.1).each k (omega arith)
    within
