-- Where phrases and elements lead, whatever tree shows it.
use Rattle.std.specs.Prelude.{◌≡◌, ℕ, ◌+◌, true, false, List, [], ◌∷◌, ◌++◌, length, drop, slice_get, Some}
use Rattle.std.specs.List.{list_any}
use Rattle.codeco_terms.specs.declared.values.Value.{Value}
use Rattle.codeco_terms.specs.declared.values.Value.TheVariants.{Pos}
use Rattle.codeco_terms.specs.declared.elements.Element.{Element}
use Rattle.codeco_terms.specs.declared.elements.Element.TheVariants.{Terminal, Preterminal, Sub, Position, Opener, Forward, Strong, Back, NoBack}
use Rattle.scopes.specs.declared.entries.Entry.{Entry}
use Rattle.scopes.specs.declared.entries.Entry.TheVariants as entry
use Rattle.scopes.specs.declared.agreement.Test.{Test}
use Rattle.scopes.specs.AccessList.{introduced}
use Rattle.scopes.specs.Resolution.{Finding, is_agreeing, closest_finding}
use Rattle.derivation_trees.specs.Trees.{Node}
use Rattle.derivation_trees.specs.Settings.{Setting, matches_terminal, matches_preterminal}
use Rattle.derivation_trees.specs.Instances.{value_under, under, tests_under, own_features}
use Rattle.derivation_trees.specs.Derives.{At, phrase_of, referent, takes, reference_tests}

-- some tree leads, as a phrase for the category, from a place and a list to a place and a list
abbrev pub Leads : Setting → Test → At → At → Type 0
Leads s asked at after = (tree : Node) × (phrase_of s tree asked at ≡ Some after)

-- the place and list after a token
abbrev pub moved_on : At → At
moved_on at = record { place = at.place + 1; list = at.list }

-- the place, with one more entry in the list
abbrev pub entered : At → Entry → At
entered at e = record { place = at.place; list = at.list ++ e ∷ [] }

-- the reference finds a referent, and its first agreeing pattern takes its values
abbrev pub Finds : List (ℕ × Value) → Element → Finding → List Entry → Type 0
Finds values (Back positive negative) finding list =
    (closest_finding (reference_tests values positive negative) list ≡ Some finding)
    × (takes values finding.referent (slice_get positive finding.pattern) ≡ true)
Finds values e finding list = (true ≡ false)

-- An element of a rule leads, in an instance, from a place and a list to a place and a list. The own variables that are
-- still to come are given beside the instance.
abbrev pub ElementLeads : Setting → List (ℕ × Value) → List (ℕ × Value) → Element → At → At → Type 0
ElementLeads s values own (Terminal t) at after = (matches_terminal s t at.place ≡ true) × (after ≡ moved_on at)
ElementLeads s values own (Preterminal c) at after = (matches_preterminal s (under values c) at.place ≡ true) × (after ≡ moved_on at)
ElementLeads s values own (Sub c) at after = Leads s (under values c) at after
ElementLeads s values own (Position x) at after = (value_under values x ≡ Pos at.place) × (after ≡ at)
ElementLeads s values own Opener at after = (after ≡ entered at entry.Opener)
ElementLeads s values own (Forward c) at after =
    (after ≡ entered at (introduced (referent s.grammar values c own) at.place false))
ElementLeads s values own (Strong c) at after =
    (after ≡ entered at (introduced (referent s.grammar values c own) at.place true))
ElementLeads s values own (Back positive negative) at after =
    ((finding : Finding) × Finds values (Back positive negative) finding at.list) × (after ≡ at)
ElementLeads s values own (NoBack patterns) at after =
    (list_any (is_agreeing (tests_under values patterns)) at.list ≡ false) × (after ≡ at)

-- the own variables that are to come after an element
abbrev pub own_past : Setting → Element → List (ℕ × Value) → List (ℕ × Value)
own_past s e own = drop (length (own_features s.grammar e)) own

-- elements lead, one after another
abbrev pub Path : Setting → List (ℕ × Value) → List (ℕ × Value) → List Element → At → At → Type 0
Path s values own [] at after = (at ≡ after)
Path s values own (e ∷ es) at after =
    (between : At) × ElementLeads s values own e at between × Path s values (own_past s e own) es between after
