-- Elements that are passed could begin at their place.
use Rattle.std.proofs.Common.{◌≡◌, ℕ, ◌+◌, List, [], ◌∷◌, Bool, true, false, ◌&&◌, ◌||◌, Option, Some, None, ◌⊎◌, refl, sym, ap, ◌∙◌}
use Rattle.std.specs.Prelude.{if◌then◌else◌, ◌==◌, option_and_then}
use Rattle.std.specs.List.{list_any}
use Rattle.std.proofs.lemmas.Option.{same_Some}
use Rattle.derivation_trees.proofs.KindLemmas.{kind_there}
use Rattle.codeco_terms.specs.declared.values.Value.{Value}
use Rattle.codeco_terms.specs.declared.values.Value.TheVariants.{Pos}
use Rattle.codeco_terms.specs.declared.categories.Pattern.{Pattern}
use Rattle.codeco_terms.specs.declared.elements.Element.{Element}
use Rattle.codeco_terms.specs.declared.elements.Element.TheVariants.{Terminal, Preterminal, Sub, Position, Opener, Forward, Strong, Back, NoBack}
use Rattle.codeco_terms.specs.Values.{same_value}
use Rattle.scopes.specs.Resolution.{Finding, closest_finding, is_agreeing}
use Rattle.derivation_trees.specs.Settings.{Setting, matches_terminal, matches_preterminal}
use Rattle.derivation_trees.specs.Instances.{value_under, under, tests_under}
use Rattle.derivation_trees.specs.Derives.{Stand, pass, pass_token, pass_finding, run, is_found, reference_tests}
use Rattle.derivation_trees.specs.Starts.{may_start}

token_matched : (b : Bool) (stand mid : Stand) → pass_token b stand ≡ Some mid → b ≡ true
token_matched true stand mid h = refl
token_matched false stand mid h = cc

-- what a special element does to the place
at_some : (stand one mid : Stand) → one.at.place ≡ stand.at.place → Some one ≡ Some mid → mid.at.place ≡ stand.at.place
at_some stand one mid same h = ap (λ x. x.at.place) (sym (same_Some one mid h)) ∙ same

at_test : (b : Bool) (stand one mid : Stand) → one.at.place ≡ stand.at.place → (if b then Some one else None) ≡ Some mid → mid.at.place ≡ stand.at.place
at_test true stand one mid same h = at_some stand one mid same h
at_test false stand one mid same h = cc

at_no_test : (b : Bool) (stand mid : Stand) → (if b then None else Some stand) ≡ Some mid → mid.at.place ≡ stand.at.place
at_no_test true stand mid h = cc
at_no_test false stand mid h = at_some stand stand mid refl h

at_finding : (values : List (ℕ × Value)) (positive : List Pattern) (finding : Option Finding) (found : List ℕ) (stand mid : Stand)
    → pass_finding values positive finding found stand ≡ Some mid → mid.at.place ≡ stand.at.place
at_finding values positive finding [] stand mid h = cc
at_finding values positive finding (pos ∷ rest) stand mid h =
    at_test (is_found values positive pos finding) stand (record { at = stand.at; found = rest; own = stand.own; children = stand.children }) mid refl h

-- the elements behind one that stays at the place
behind : (s : Setting) (values : List (ℕ × Value)) (es : List Element) (stand after : Stand) (o : Option Stand)
    → option_and_then (run s values es) o ≡ Some after → ((mid : Stand) → o ≡ Some mid → mid.at.place ≡ stand.at.place)
    → ((mid : Stand) → run s values es mid ≡ Some after → may_start s mid.at.place es ≡ true) → may_start s stand.at.place es ≡ true
behind s values es stand after None h same later = cc
behind s values es stand after (Some mid) h same later = ap (λ p. may_start s p es) (sym (same mid refl)) ∙ later mid h

passed_first : (s : Setting) (values : List (ℕ × Value)) (es : List Element) (o : Option Stand) (after : Stand)
    → option_and_then (run s values es) o ≡ Some after → (mid : Stand) × (o ≡ Some mid)
passed_first s values es None after h = cc
passed_first s values es (Some mid) after h = (mid, refl)

pub run_starts : (s : Setting) (values : List (ℕ × Value)) (es : List Element) (stand after : Stand) → run s values es stand ≡ Some after
    → may_start s stand.at.place es ≡ true
run_starts s values [] stand after h = refl
run_starts s values (Terminal t ∷ es) stand after h =
    let first : (mid : Stand) × (pass_token (matches_terminal s t stand.at.place) stand ≡ Some mid) =
    passed_first s values es (pass_token (matches_terminal s t stand.at.place) stand) after h in
    token_matched (matches_terminal s t stand.at.place) stand first.0 first.1
run_starts s values (Preterminal c ∷ es) stand after h =
    let first : (mid : Stand) × (pass_token (matches_preterminal s (under values c) stand.at.place) stand ≡ Some mid) =
    passed_first s values es (pass_token (matches_preterminal s (under values c) stand.at.place) stand) after h in
    kind_there s (under values c) stand.at.place (token_matched (matches_preterminal s (under values c) stand.at.place) stand first.0 first.1)
run_starts s values (Sub c ∷ es) stand after h = refl
run_starts s values (Position x ∷ es) stand after h =
    behind s values es stand after (pass s values (Position x) stand) h
    (λ mid k. at_test (same_value (value_under values x) (Pos stand.at.place)) stand stand mid refl k) (λ mid k. run_starts s values es mid after k)
run_starts s values (Opener ∷ es) stand after h =
    behind s values es stand after (pass s values Opener stand) h (λ mid k. at_some stand _ mid refl k) (λ mid k. run_starts s values es mid after k)
run_starts s values (Forward c ∷ es) stand after h =
    behind s values es stand after (pass s values (Forward c) stand) h (λ mid k. at_some stand _ mid refl k) (λ mid k. run_starts s values es mid after k)
run_starts s values (Strong c ∷ es) stand after h =
    behind s values es stand after (pass s values (Strong c) stand) h (λ mid k. at_some stand _ mid refl k) (λ mid k. run_starts s values es mid after k)
run_starts s values (Back positive negative ∷ es) stand after h =
    behind s values es stand after (pass s values (Back positive negative) stand) h
    (λ mid k. at_finding values positive (closest_finding (reference_tests values positive negative) stand.at.list) stand.found stand mid k)
    (λ mid k. run_starts s values es mid after k)
run_starts s values (NoBack patterns ∷ es) stand after h =
    behind s values es stand after (pass s values (NoBack patterns) stand) h
    (λ mid k. at_no_test (list_any (is_agreeing (tests_under values patterns)) stand.at.list) stand mid k) (λ mid k. run_starts s values es mid after k)
