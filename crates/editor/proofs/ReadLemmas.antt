-- Each token that a partial derivation passes is a terminal or has a reading.
use Rattle.std.proofs.Common.{◌≡◌, ℕ, suc, ◌+◌, ◌<◌, ◌≤◌, List, [], ◌∷◌, length, take, true, false, ◌&&◌, ◌||◌, ◌⊎◌, inl, inr, Option, Some, refl, sym, ap, subst, ◌∙◌, arith}
use Rattle.std.specs.Prelude.{option_and_then, slice_get}
use Rattle.std.specs.List.{list_any}
use Rattle.std.specs.Option.{option_map_or}
use Rattle.std.specs.Str.{bytes_eq}
use Rattle.std.proofs.lemmas.Bool.{cases_lt}
use Rattle.std.proofs.lemmas.Option.{option_and_then_some, same_Some}
use Rattle.wiki_base.proofs.ListLaws.{slice_get_mapped}
use Rattle.chart.proofs.OfferLemmas.{one_terminal}
use Rattle.derivation_trees.proofs.TruthLemmas.{true_is_false}
use Rattle.codeco_terms.specs.declared.values.Value.{Value}
use Rattle.codeco_terms.specs.declared.values.Value.TheVariants.{Pos}
use Rattle.codeco_terms.specs.declared.categories.Pattern.{Pattern}
use Rattle.codeco_terms.specs.declared.categories.Ground.{Ground}
use Rattle.codeco_terms.specs.declared.elements.Element.{Element}
use Rattle.codeco_terms.specs.declared.elements.Element.TheVariants.{Terminal, Preterminal, Sub, Position, Opener, Forward, Strong, Back, NoBack}
use Rattle.codeco_terms.specs.declared.rules.Rule.{Rule}
use Rattle.codeco_terms.specs.GrammarParts.{GrammarParts}
use Rattle.codeco_terms.specs.Values.{same_value}
use Rattle.scopes.specs.declared.agreement.Test.{Test}
use Rattle.scopes.specs.Resolution.{Finding, agrees, is_agreeing, closest_finding}
use Rattle.lexicon.specs.Words.{Listed}
use Rattle.lexicon.specs.Readings.{readings_of}
use Rattle.derivation_trees.specs.Trees.{Node, Nodes, node, none, more}
use Rattle.derivation_trees.specs.Settings.{Setting, matches_terminal, matches_preterminal}
use Rattle.derivation_trees.specs.Instances.{value_under, under, tests_under, is_instance}
use Rattle.derivation_trees.specs.Derives.{At, Phrase, Stand, pass, run, pass_child, pass_finding, is_found, reference_tests, is_none_left, ended, fits, begun, phrase, rule_with, phrase_of, phrases_of, text_category}
use Rattle.derivation_trees.specs.Partial.{CutNode, stopped, entered, used_up, front, next_category, front_of, cut_end, IsBeginning}
use Rattle.derivation_trees.specs.Cutting.{is_terminal}
use Rattle.derivation_trees.specs.Sentences.{setting_of}
use Rattle.derivations.proofs.Members.{Among}
use Rattle.chart_table.proofs.PassLemmas.{if_some, unless_some}
use Rattle.chart_table.proofs.AskLemmas.{place_some, all_used}

-- the token at the place is a terminal, or reads as a preterminal
abbrev IsReadAt : Setting → ℕ → Type 0
IsReadAt s k = ((t : ℕ) × (matches_terminal s t k ≡ true)) ⊎ ((asked : Test) × (matches_preterminal s asked k ≡ true))

-- so are the tokens from a place to another
abbrev Read : Setting → ℕ → ℕ → Type 0
Read s i j = (k : ℕ) → i ≤ k → k < j → IsReadAt s k

-- so are the tokens that the phrase passes
abbrev Reads : Setting → Phrase → Type 0
Reads s p = (asked : Test) (at after : At) → p asked at ≡ Some after → Read s at.place after.place

abbrev AllReads : Setting → List Phrase → Type 0
AllReads s [] = Unit {0}
AllReads s (p ∷ ps) = Reads s p × AllReads s ps

record Passed (s : Setting) (stand after : Stand) : Type 0 where
  read : Read s stand.at.place after.at.place
  left : AllReads s after.children

read_none : (s : Setting) (i : ℕ) → Read s i i
read_none s i k le lt = absurd (omega (arith, le, lt))

read_on : (s : Setting) (i m j : ℕ) → Read s i m → Read s m j → Read s i j
read_on s i m j first next k le lt = by (cases_lt k m)
  where
    by : (k < m) ⊎ (m ≤ k) → IsReadAt s k
    by (inl before) = first k le before
    by (inr behind) = next k behind lt

read_one : (s : Setting) (i : ℕ) → IsReadAt s i → Read s i (i + 1)
read_one s i h k le lt = let same : i ≡ k = omega (arith, le, lt) in subst (IsReadAt s) same h

-- an element that passes no token
stays : (s : Setting) (stand next after : Stand) → next ≡ after → next.at.place ≡ stand.at.place → next.children ≡ stand.children → AllReads s stand.children
    → Passed s stand after
stays s stand next after is place children kids =
    subst (Passed s stand) is (record {
      read = subst (Read s stand.at.place) (sym place) (read_none s stand.at.place);
      left = subst (AllReads s) (sym children) kids;
    })

-- an element that passes one token
steps : (s : Setting) (stand next after : Stand) → next ≡ after → next.at.place ≡ stand.at.place + 1 → next.children ≡ stand.children
    → AllReads s stand.children → IsReadAt s stand.at.place → Passed s stand after
steps s stand next after is place children kids here =
    subst (Passed s stand) is (record {
      read = subst (Read s stand.at.place) (sym place) (read_one s stand.at.place here);
      left = subst (AllReads s) (sym children) kids;
    })

child_reads : (s : Setting) (asked : Test) (children : List Phrase) (stand after : Stand) → AllReads s children → pass_child asked children stand ≡ Some after
    → Passed s stand after
child_reads s asked [] stand after kids h = absurd (cc)
child_reads s asked (p ∷ ps) stand after kids h =
    option_and_then_some _ (p asked stand.at) after h (λ at led is.
    subst (Passed s stand) (same_Some _ _ is) (record { read = kids.0 asked stand.at at led; left = kids.1 }))

finding_reads : (s : Setting) (values : List (ℕ × Value)) (positive : List Pattern) (finding : Option Finding) (found : List ℕ) (stand after : Stand)
    → AllReads s stand.children → pass_finding values positive finding found stand ≡ Some after → Passed s stand after
finding_reads s values positive finding [] stand after kids h = absurd (cc)
finding_reads s values positive finding (pos ∷ rest) stand after kids h =
    if_some (is_found values positive pos finding) _ after h (λ b is. stays s stand _ after is refl refl kids)

pass_reads : (s : Setting) (values : List (ℕ × Value)) (e : Element) (stand after : Stand) → AllReads s stand.children → pass s values e stand ≡ Some after
    → Passed s stand after
pass_reads s values (Terminal t) stand after kids h =
    if_some (matches_terminal s t stand.at.place) _ after h (λ b is. steps s stand _ after is refl refl kids (inl (t, b)))
pass_reads s values (Preterminal c) stand after kids h =
    if_some (matches_preterminal s (under values c) stand.at.place) _ after h (λ b is. steps s stand _ after is refl refl kids (inr (under values c, b)))
pass_reads s values (Sub c) stand after kids h = child_reads s (under values c) stand.children stand after kids h
pass_reads s values (Position x) stand after kids h =
    if_some (same_value (value_under values x) (Pos stand.at.place)) _ after h (λ b is. stays s stand _ after is refl refl kids)
pass_reads s values Opener stand after kids h = stays s stand _ after (same_Some _ _ h) refl refl kids
pass_reads s values (Forward c) stand after kids h = stays s stand _ after (same_Some _ _ h) refl refl kids
pass_reads s values (Strong c) stand after kids h = stays s stand _ after (same_Some _ _ h) refl refl kids
pass_reads s values (Back positive negative) stand after kids h =
    finding_reads s values positive (closest_finding (reference_tests values positive negative) stand.at.list) stand.found stand after kids h
pass_reads s values (NoBack patterns) stand after kids h =
    unless_some (list_any (is_agreeing (tests_under values patterns)) stand.at.list) _ after h (λ b is. stays s stand _ after is refl refl kids)

run_reads : (s : Setting) (values : List (ℕ × Value)) (es : List Element) (stand after : Stand) → AllReads s stand.children → run s values es stand ≡ Some after
    → Passed s stand after
run_reads s values [] stand after kids h = stays s stand _ after (same_Some _ _ h) refl refl kids
run_reads s values (e ∷ es) stand after kids h =
    option_and_then_some (run s values es) (pass s values e stand) after h (λ mid first rest.
    let one = pass_reads s values e stand mid kids first in
    let others = run_reads s values es mid after one.left rest in
    record { read = read_on s stand.at.place mid.at.place after.at.place one.read others.read; left = others.left })

-- where a node begins
begins_at : (s : Setting) (rule : Rule) (values : List (ℕ × Value)) (found : List ℕ) (children : List Phrase) (asked : Test) (at : At) (stand : Stand)
    → begun s rule values found children asked at ≡ Some stand → (stand.at ≡ at) × (stand.children ≡ children)
begins_at s rule values found children asked at stand h =
    if_some (fits (under values rule.head) asked && is_instance s rule values) _ stand h (λ b is. (sym (ap (λ st. st.at) is), sym (ap (λ st. st.children) is)))

phrase_reads : (s : Setting) (rule : Rule) (values : List (ℕ × Value)) (found : List ℕ) (children : List Phrase) → AllReads s children
    → Reads s (phrase s rule values found children)
phrase_reads s rule values found children kids asked at after h =
    option_and_then_some _ (begun s rule values found children asked at) after h (λ start starts runs.
    let at_start = begins_at s rule values found children asked at start starts in
    option_and_then_some (ended rule at.list) (run s values rule.body start) after runs (λ last ran ends.
    let passed = run_reads s values rule.body start last (subst (AllReads s) (sym at_start.1) kids) ran in
    if_some (is_none_left last.found && is_none_left last.children) _ after ends (λ b is.
    subst (λ (to : At). Read s at.place to.place) is (subst (λ (from : At). Read s from.place last.at.place) at_start.0 passed.read))))

mutual
  node_reads : (s : Setting) (n : Node) → Reads s (phrase_of s n)
  node_reads s (node number values found ns) asked at after h =
      option_and_then_some _ (rule_with s.grammar number) after h
      (λ rule has leads. phrase_reads s rule values found (phrases_of s ns) (nodes_read s ns) asked at after leads)

  nodes_read : (s : Setting) (ns : Nodes) → AllReads s (phrases_of s ns)
  nodes_read s none = tt
  nodes_read s (more n ns) = (node_reads s n, nodes_read s ns)

-- cut-off nodes

front_reads : (s : Setting) (rule : Rule) (values : List (ℕ × Value)) (found : List ℕ) (children : List Phrase) (count : ℕ) (asked : Test) (at : At)
    (stand : Stand) → AllReads s children → front s rule values found children count asked at ≡ Some stand → Read s at.place stand.at.place
front_reads s rule values found children count asked at stand kids h =
    option_and_then_some _ (begun s rule values found children asked at) stand h (λ start starts runs.
    let at_start = begins_at s rule values found children asked at start starts in
    option_and_then_some used_up (run s values (take count rule.body) start) stand runs (λ last ran used.
    let passed = run_reads s values (take count rule.body) start last (subst (AllReads s) (sym at_start.1) kids) ran in
    subst (λ (to : Stand). Read s at.place to.at.place) (all_used last stand used)
    (subst (λ (from : At). Read s from.place last.at.place) at_start.0 passed.read)))

front_of_reads : (s : Setting) (number : ℕ) (values : List (ℕ × Value)) (found : List ℕ) (ns : Nodes) (count : ℕ) (asked : Test) (at : At) (stand : Stand)
    → front_of s number values found ns count asked at ≡ Some stand → Read s at.place stand.at.place
front_of_reads s number values found ns count asked at stand h =
    option_and_then_some _ (rule_with s.grammar number) stand h
    (λ rule has fronts. front_reads s rule values found (phrases_of s ns) count asked at stand (nodes_read s ns) fronts)

cut_reads : (s : Setting) (cut : CutNode) (asked : Test) (at : At) (n : ℕ) → cut_end s cut asked at ≡ Some n → Read s at.place n
cut_reads s (stopped number values found ns count) asked at n h =
    place_some (λ (stand : Stand). stand.at.place) (front_of s number values found ns count asked at) n h (λ stand is place.
    subst (Read s at.place) place (front_of_reads s number values found ns count asked at stand is))
cut_reads s (entered number values found ns count child) asked at n h =
    option_and_then_some _ (front_of s number values found ns count asked at) n h (λ stand is ends.
    option_and_then_some (λ category. cut_end s child (under values category) stand.at)
    (option_and_then (λ r. next_category r count) (rule_with s.grammar number)) n ends (λ c next deep.
    read_on s at.place stand.at.place n (front_of_reads s number values found ns count asked at stand is) (cut_reads s child (under values c) stand.at n deep)))

-- Tokens

among_place : {X : Type 0} (xs : List X) (x : X) → Among xs x → (k : ℕ) × (k < length xs) × (slice_get xs k ≡ Some x)
among_place [] x h = absurd h
among_place (y ∷ ys) x (inl e) = (0, omega arith, ap Some (sym e))
among_place (y ∷ ys) x (inr h) = let one = among_place ys x h in (suc one.0, omega (arith, one.1), one.2)

-- the token is a terminal of the grammar, or a live word gives it a reading
abbrev pub IsReadable : GrammarParts → Listed → List ℕ → Type 0
IsReadable g l token = (is_terminal g.terminals token ≡ true) ⊎ (readings_of l.live token ≡ [] → ⊥)

-- each token of a list that has a partial derivation is readable
pub beginning_readable : (g : GrammarParts) (l : Listed) (tokens : List (List ℕ)) → IsBeginning g l tokens → (token : List ℕ) → Among tokens token
    → IsReadable g l token
beginning_readable g l tokens h token k =
    let place = among_place tokens token k in
    let s = setting_of g l tokens in
    by place.0 place.2 (cut_reads s h.0 text_category (record { place = 0; list = [] }) (length tokens) h.1 place.0 (omega arith) place.1)
  where
    by : (n : ℕ) → slice_get tokens n ≡ Some token → IsReadAt (setting_of g l tokens) n → IsReadable g l token
    by n at (inl terminal) =
        inl (one_terminal g.terminals terminal.0 token
        (sym (ap (λ o. option_map_or (λ (t : List ℕ). option_map_or (bytes_eq t) (slice_get g.terminals terminal.0) false) o false) at) ∙ terminal.1))
    by n at (inr asked) =
        let reads : list_any (λ reading. agrees reading asked.0) (readings_of l.live token) ≡ true =
        sym (ap (λ o. option_map_or (λ (readings : List Ground). list_any (λ reading. agrees reading asked.0) readings) o false)
        (slice_get_mapped (readings_of l.live) tokens n token at)) ∙ asked.1
        in
        inr (λ empty. true_is_false (sym reads ∙ ap (λ (readings : List Ground). list_any (λ reading. agrees reading asked.0) readings) empty))
