-- The structure of a derived question introduces the referent that is asked for.
use Rattle.std.proofs.Common.{◌≡◌, ℕ, ◌+◌, ◌-◌, ◌<◌, Bool, true, false, List, [], ◌∷◌, ◌++◌, length, get_or, take, map, refl, sym, ap, subst, ◌∙◌, arith, inr, append_assoc, append-nil, Option, Some, None}
use Rattle.std.specs.Prelude.{◌==◌, ◌&&◌, slice_get, Contains, if◌then◌else◌, option_and_then, is_some}
use Rattle.std.specs.Option.{option_map_or}
use Rattle.std.specs.List.{list_all, list_any, count_by}
use Rattle.std.proofs.lemmas.List.{take_all}
use Rattle.std.proofs.lemmas.Option.{slice_get-get_or, slice_get_within, same_Some}
use Rattle.std.proofs.lemmas.Bool.{and_parts, eqb-true}
use Rattle.wiki_base.specs.declared.numbers.WordId.{WordId}
use Rattle.wiki_base.proofs.ListLaws.{all_slice_get}
use Rattle.codeco_terms.specs.declared.values.Value.{Value}
use Rattle.codeco_terms.specs.declared.values.Value.TheVariants.{Pos}
use Rattle.codeco_terms.specs.declared.categories.Pattern.{Pattern}
use Rattle.codeco_terms.specs.declared.elements.Element.{Element}
use Rattle.codeco_terms.specs.declared.elements.Element.TheVariants.{Terminal, Preterminal, Sub, Position, Opener, Forward, Strong, Back, NoBack}
use Rattle.codeco_terms.specs.declared.rules.Label.{Label}
use Rattle.codeco_terms.specs.declared.rules.Label.TheVariants as label
use Rattle.codeco_terms.specs.declared.rules.Rule.{Rule}
use Rattle.codeco_terms.specs.GrammarParts.{GrammarParts}
use Rattle.codeco_terms.specs.Values.{same_value}
use Rattle.codeco_checked.specs.declared.labels.Kind.{Kind}
use Rattle.codeco_checked.specs.declared.fault.GrammarFault.TheVariants.{LabelKind}
use Rattle.codeco_checked.specs.Labels.{label_row, child_kinds, subs, head_fits, children_fit, words_fit, fits_row, fits_label, FitKinds, is_introduction, is_reference, introduces_behind_tokens, one_if}
use Rattle.codeco_checked.specs.Sound.{IsSound, is_labelled}
use Rattle.scopes.specs.declared.agreement.Test.{Test}
use Rattle.scopes.specs.Resolution.{Finding, closest_finding, is_agreeing}
use Rattle.derivation_trees.specs.declared.skeletons.Skeleton.{Skeleton, out-Skeleton}
use Rattle.derivation_trees.specs.declared.skeletons.Skeleton.TheViews.{out-roll-Skeleton}
use Rattle.derivation_trees.specs.Trees.{Node, Nodes, node, none, more}
use Rattle.derivation_trees.specs.Settings.{Setting, matches_terminal, matches_preterminal}
use Rattle.derivation_trees.specs.Instances.{value_under, under, tests_under, own_values}
use Rattle.derivation_trees.specs.Derives.{At, Stand, pass, pass_token, pass_child, pass_finding, run, phrase, phrase_of, phrases_of, rule_with, is_found, reference_tests, same_where_both, text_category}
use Rattle.derivation_trees.specs.Stands.{is_sub}
use Rattle.derivation_trees.specs.Sentences.{setting_of}
use Rattle.derivation_trees.specs.Skeletons.{skeleton}
use Rattle.derivation_trees.specs.Sketches.{Sketch, sketch_on, sketch_over, sketch_from, sketch_of, sketches_of, body_of}
use Rattle.derivations.proofs.ListingLemmas.{Parts, phrase_parts}
use Rattle.derivations.proofs.SkeletonLemmas.{skeleton_of_is}
use Rattle.logic_terms.specs.Structure.{Structure, referents_in}
use Rattle.logic_terms.specs.Free.{is_bound}
use Rattle.drs_build.specs.Built.{IsDerived, is_ask, is_question}
use Rattle.drs_build.specs.Nodes.{label_of, names_of, meaning_of}
use Rattle.drs_build.proofs.GrammarLemmas.{found}
use Rattle.drs_build.proofs.AskedLemmas.{Good, AllGood, node_good, contained}

-- Elements that are no category leave the children

of_one : (stand one mid : Stand) → one.children ≡ stand.children → Some one ≡ Some mid → mid.children ≡ stand.children
of_one stand one mid same h = ap (λ (x : Stand). x.children) (sym (same_Some one mid h)) ∙ same

of_token : (b : Bool) (stand mid : Stand) → pass_token b stand ≡ Some mid → mid.children ≡ stand.children
of_token false stand mid h = cc
of_token true stand mid h = of_one stand
    (record { at = record { place = stand.at.place + 1; list = stand.at.list }; found = stand.found; own = stand.own; children = stand.children }) mid refl h

of_test : (b : Bool) (stand one mid : Stand) → one.children ≡ stand.children → (if b then Some one else None) ≡ Some mid → mid.children ≡ stand.children
of_test true stand one mid same h = of_one stand one mid same h
of_test false stand one mid same h = cc

of_no_test : (b : Bool) (stand mid : Stand) → (if b then None else Some stand) ≡ Some mid → mid.children ≡ stand.children
of_no_test true stand mid h = cc
of_no_test false stand mid h = of_one stand stand mid refl h

of_finding : (values : List (ℕ × Value)) (positive : List Pattern) (finding : Option Finding) (found_at : List ℕ) (stand mid : Stand)
    → pass_finding values positive finding found_at stand ≡ Some mid → mid.children ≡ stand.children
of_finding values positive finding [] stand mid h = cc
of_finding values positive finding (pos ∷ rest) stand mid h =
    of_test (is_found values positive pos finding) stand (record { at = stand.at; found = rest; own = stand.own; children = stand.children }) mid refl h

pub children_kept : (s : Setting) (values : List (ℕ × Value)) (e : Element) (stand mid : Stand) → is_sub e ≡ false → pass s values e stand ≡ Some mid
    → mid.children ≡ stand.children
children_kept s values (Terminal t) stand mid plain h = of_token (matches_terminal s t stand.at.place) stand mid h
children_kept s values (Preterminal c) stand mid plain h = of_token (matches_preterminal s (under values c) stand.at.place) stand mid h
children_kept s values (Sub c) stand mid plain h = cc
children_kept s values (Position x) stand mid plain h = of_test (same_value (value_under values x) (Pos stand.at.place)) stand stand mid refl h
children_kept s values Opener stand mid plain h = of_one stand _ mid refl h
children_kept s values (Forward c) stand mid plain h = of_one stand _ mid refl h
children_kept s values (Strong c) stand mid plain h = of_one stand _ mid refl h
children_kept s values (Back ps ns) stand mid plain h =
    of_finding values ps (closest_finding (reference_tests values ps ns) stand.at.list) stand.found stand mid h
children_kept s values (NoBack ps) stand mid plain h = of_no_test (list_any (is_agreeing (tests_under values ps)) stand.at.list) stand mid h

-- The children of a body, as they are sketched

-- a sketch of these parts
abbrev pub at : ℕ → List WordId → List Skeleton → List (ℕ → Skeleton) → Sketch
at place words children left = record { place = place; words = words; children = children; left = left }

-- the children that are added have the kinds of their categories
record Added (s : Setting) (kinds : ℕ → Kind) (es : List Element) (children : List Skeleton) (after : Sketch) : Type 0 where
  pub more : List Skeleton
  pub added : after.children ≡ children ++ more
  pub good : AllGood s.grammar more (map kinds (subs es))

abbrev pub NodeGood : Setting → (ℕ → Kind) → Node → Type 0
NodeGood s kinds n = (asked : Test) (from after : At) (place : ℕ) → phrase_of s n asked from ≡ Some after
    → Good s.grammar (sketch_of s n place) (kinds asked.name)

abbrev pub NodesGood : Setting → (ℕ → Kind) → Nodes → Type 0
NodesGood s kinds none = Unit {0}
NodesGood s kinds (more n ns) = NodeGood s kinds n × NodesGood s kinds ns

children_good : (s : Setting) (kinds : ℕ → Kind) (values : List (ℕ × Value)) (es : List Element) (ns : Nodes) (stand after : Stand) (place : ℕ)
    (words : List WordId) (children : List Skeleton) → NodesGood s kinds ns → stand.children ≡ phrases_of s ns → run s values es stand ≡ Some after
    → Added s kinds es children (sketch_over s es (at place words children (sketches_of s ns)))
children_good s kinds values [] ns stand after place words children good same h = record { more = []; added = sym (append-nil children); good = tt }
children_good s kinds values (Sub c ∷ es) none stand after place words children good same h =
    let no : None ≡ Some after = sym (ap (λ ps. option_and_then (run s values es) (pass_child (under values c) ps stand)) same) ∙ h in
    absurd cc
children_good s kinds values (Sub c ∷ es) (more n ns) stand after place words children good same h =
    by (λ mid w k. children_good s kinds values es ns (record { at = mid; found = stand.found; own = stand.own; children = phrases_of s ns }) after
    (out-Skeleton (sketch_of s n place)).end words (children ++ sketch_of s n place ∷ []) good.1 refl k) (phrase_of s n (under values c) stand.at) refl
    (sym (ap (λ ps. option_and_then (run s values es) (pass_child (under values c) ps stand)) same) ∙ h)
  where
    by : ((mid : At) → phrase_of s n (under values c) stand.at ≡ Some mid
        → run s values es (record { at = mid; found = stand.found; own = stand.own; children = phrases_of s ns }) ≡ Some after
        → Added s kinds es (children ++ sketch_of s n place ∷ [])
        (sketch_over s es (at (out-Skeleton (sketch_of s n place)).end words (children ++ sketch_of s n place ∷ []) (sketches_of s ns)))) → (o : Option At)
        → phrase_of s n (under values c) stand.at ≡ o
        → option_and_then (run s values es)
        (option_and_then (λ a. Some (record { at = a; found = stand.found; own = stand.own; children = phrases_of s ns })) o) ≡ Some after
        → Added s kinds (Sub c ∷ es) children (sketch_over s (Sub c ∷ es) (at place words children (sketches_of s (more n ns))))
    by later None w k = cc
    by later (Some mid) w k =
        let rest = later mid w k in
        record {
          more = sketch_of s n place ∷ rest.more;
          added = rest.added ∙ append_assoc children (sketch_of s n place ∷ []) rest.more;
          good = (good.0 (under values c) stand.at mid place w, rest.good);
        }
children_good s kinds values (e ∷ es) ns stand after place words children good same h =
    by (λ mid w k. children_good s kinds values es ns mid after (sketch_on s e (at place words children (sketches_of s ns))).place
    (sketch_on s e (at place words children (sketches_of s ns))).words children good (children_kept s values e stand mid refl w ∙ same) k)
    (pass s values e stand) refl h
  where
    by : ((mid : Stand) → pass s values e stand ≡ Some mid → run s values es mid ≡ Some after
        → Added s kinds es children (sketch_over s es
        (at (sketch_on s e (at place words children (sketches_of s ns))).place (sketch_on s e (at place words children (sketches_of s ns))).words children
        (sketches_of s ns)))) → (o : Option Stand) → pass s values e stand ≡ o → option_and_then (run s values es) o ≡ Some after
        → Added s kinds (e ∷ es) children (sketch_over s (e ∷ es) (at place words children (sketches_of s ns)))
    by later None w k = cc
    by later (Some mid) w k = let rest = later mid w k in record { more = rest.more; added = rest.added; good = rest.good }

-- The rules fit the kinds

pub record AllFit (g : GrammarParts) (kinds : ℕ → Kind) : Type 0 where
  pub labelled : is_labelled g ≡ true
  pub fit : list_all (fits_label kinds) g.rules ≡ true

-- a rule's label, and what fits of its row
record Fit (kinds : ℕ → Kind) (r : Rule) : Type 0 where
  pub label : Label
  pub is : r.label ≡ Some label
  pub heads : head_fits (label_row label).heads (kinds r.head.name) ≡ true
  pub children : children_fit (label_row label).children (kinds r.head.name) (child_kinds kinds r.body) ≡ true

rule_fits : (g : GrammarParts) (kinds : ℕ → Kind) (n : ℕ) (r : Rule) → AllFit g kinds → rule_with g n ≡ Some r → Fit kinds r
rule_fits g kinds n r all h = by r.label refl
  where
    there : slice_get g.rules (n - 1) ≡ Some r
    there = (found g n r h).at

    by : (o : Option Label) → r.label ≡ o → Fit kinds r
    by None e = let no : false ≡ true = sym (ap is_some e) ∙ all_slice_get (λ (x : Rule). is_some x.label) g.rules (n - 1) r all.labelled there in absurd cc
    by (Some l) e =
        let row : fits_row kinds (label_row l) r ≡ true =
        ap (λ o. option_map_or (λ x. fits_row kinds (label_row x) r) o true) (sym e) ∙ all_slice_get (fits_label kinds) g.rules (n - 1) r all.fit there in
        let heads = head_fits (label_row l).heads (kinds r.head.name) in
        let children = children_fit (label_row l).children (kinds r.head.name) (child_kinds kinds r.body) in
        let words = words_fit (label_row l).words kinds r.body in
        let once = count_by is_introduction r.body == one_if (label_row l).introduces in
        let refers = count_by is_reference r.body == one_if (label_row l).refers in
        let behind = introduces_behind_tokens false r.body in
        let p = and_parts (heads && children && words && once && refers) behind row in
        let q = and_parts (heads && children && words && once) refers p.0 in
        let s = and_parts (heads && children && words) once q.0 in
        let t = and_parts (heads && children) words s.0 in
        let u = and_parts heads children t.0 in
        record { label = l; is = e; heads = u.0; children = u.1 }

-- Nodes

sketched_good : (s : Setting) (kinds : ℕ → Kind) (number place : ℕ) (found_at : List ℕ) (r : Rule) (after : Sketch) → AllFit s.grammar kinds
    → rule_with s.grammar number ≡ Some r → Added s kinds r.body [] after
    → Good s.grammar (skeleton number place after.place found_at after.words after.children) (kinds r.head.name)
sketched_good s kinds number place found_at r after all h added =
    let out = out-roll-Skeleton (record {
      rule = number;
      start = place;
      end = after.place;
      found = found_at;
      words = after.words;
      children = after.children;
    }) in
    let rule : (out-Skeleton (skeleton number place after.place found_at after.words after.children)).rule ≡ number = ap (λ layer. layer.rule) out in
    let children : added.more ≡ (out-Skeleton (skeleton number place after.place found_at after.words after.children)).children =
    sym (ap (λ layer. layer.children) out ∙ added.added) in
    let fit : Fit kinds r = rule_fits s.grammar kinds number r all h in
    node_good s.grammar (skeleton number place after.place found_at after.words after.children) r fit.label (kinds r.head.name) (map kinds (subs r.body))
    (ap (rule_with s.grammar) rule ∙ h) fit.is fit.heads fit.children (subst (λ ks. AllGood s.grammar ks (map kinds (subs r.body))) children added.good)

one_good : (s : Setting) (kinds : ℕ → Kind) (number : ℕ) (values : List (ℕ × Value)) (found_at : List ℕ) (children : Nodes) (asked : Test) (from after : At)
    (place : ℕ) (r : Rule) → AllFit s.grammar kinds → NodesGood s kinds children → rule_with s.grammar number ≡ Some r
    → phrase s r values found_at (phrases_of s children) asked from ≡ Some after
    → Good s.grammar (sketch_of s (node number values found_at children) place) (kinds asked.name)
one_good s kinds number values found_at children asked from after place r all good h k =
    let parts : Parts s r values found_at (phrases_of s children) asked from after =
    phrase_parts s r values found_at (phrases_of s children) asked from after k in
    let first : Stand = record { at = from; found = found_at; own = own_values r values; children = phrases_of s children } in
    let name : r.head.name ≡ asked.name =
    eqb-true r.head.name asked.name (and_parts (r.head.name == asked.name)
    (list_all (λ p. list_all (same_where_both p) asked.values) (under values r.head).values) parts.fit).0 in
    let added : Added s kinds r.body [] (sketch_over s r.body (sketch_from place (sketches_of s children))) =
    children_good s kinds values r.body children first parts.stand place [] [] good refl parts.ran in
    let body : r.body ≡ body_of s.grammar number = sym (ap (λ o. option_map_or (λ (x : Rule). x.body) o []) h) in
    let here : Good s.grammar (skeleton number place (sketch_over s r.body (sketch_from place (sketches_of s children))).place found_at
    (sketch_over s r.body (sketch_from place (sketches_of s children))).words (sketch_over s r.body (sketch_from place (sketches_of s children))).children)
    (kinds r.head.name) = sketched_good s kinds number place found_at r (sketch_over s r.body (sketch_from place (sketches_of s children))) all h added in
    let P : List Element → Type 0 = λ es. Good s.grammar
    (skeleton number place (sketch_over s es (sketch_from place (sketches_of s children))).place found_at
    (sketch_over s es (sketch_from place (sketches_of s children))).words (sketch_over s es (sketch_from place (sketches_of s children))).children)
    (kinds r.head.name) in
    let Q : ℕ → Type 0 = λ a. Good s.grammar (sketch_of s (node number values found_at children) place) (kinds a) in
    subst Q name (subst P body here)

mutual
  pub node_is_good : (s : Setting) (kinds : ℕ → Kind) → AllFit s.grammar kinds → (n : Node) → NodeGood s kinds n
  node_is_good s kinds all (node number values found_at children) asked from after place h =
      by (nodes_are_good s kinds all children) (rule_with s.grammar number) refl h
    where
      by : NodesGood s kinds children → (o : Option Rule) → rule_with s.grammar number ≡ o
          → option_and_then (λ r. phrase s r values found_at (phrases_of s children) asked from) o ≡ Some after
          → Good s.grammar (sketch_of s (node number values found_at children) place) (kinds asked.name)
      by good None w k = cc
      by good (Some r) w k = one_good s kinds number values found_at children asked from after place r all good w k

  pub nodes_are_good : (s : Setting) (kinds : ℕ → Kind) → AllFit s.grammar kinds → (ns : Nodes) → NodesGood s kinds ns
  nodes_are_good s kinds all none = tt
  nodes_are_good s kinds all (more n ns) = (node_is_good s kinds all n, nodes_are_good s kinds all ns)

-- Questions

ask_only : (l : Label) → is_ask l ≡ true → l ≡ label.Ask
ask_only label.Ask h = refl
ask_only l h = absurd cc

question_label : (g : GrammarParts) (sk : Skeleton) → is_question g sk ≡ true → label_of g (out-Skeleton sk).rule ≡ Some label.Ask
question_label g sk h = by (label_of g (out-Skeleton sk).rule) refl
  where
    by : (o : Option Label) → label_of g (out-Skeleton sk).rule ≡ o → label_of g (out-Skeleton sk).rule ≡ Some label.Ask
    by None e = let no : false ≡ true = sym (ap (λ o. option_map_or is_ask o false) e) ∙ h in absurd cc
    by (Some l) e = e ∙ ap Some (ask_only l (sym (ap (λ o. option_map_or is_ask o false) e) ∙ h))

record Last (g : GrammarParts) : Type 0 where
  pub rule : Rule
  pub positive : 0 < length g.rules
  pub at : slice_get g.rules (length g.rules - 1) ≡ Some rule

-- a grammar that has a rule has a last one
last_rule : (g : GrammarParts) (n : ℕ) → label_of g n ≡ Some label.Ask → Last g
last_rule g n h = by (rule_with g n) refl
  where
    by : (o : Option Rule) → rule_with g n ≡ o → Last g
    by None e = let no : None ≡ Some label.Ask = sym (ap (option_and_then (λ (r : Rule). r.label)) e) ∙ h in absurd cc
    by (Some r) e =
        let below : n - 1 < length g.rules = slice_get_within g.rules (n - 1) r (found g n r e).at in
        let last : length g.rules - 1 < length g.rules = omega arith in
        record { rule = get_or g.rules (length g.rules - 1) r; positive = omega arith; at = slice_get-get_or g.rules (length g.rules - 1) r last }

-- the referent that a derived question asks for is one of its structure's own
pub asked_bound : (g : GrammarParts) (sk : Skeleton) → IsSound g → is_labelled g ≡ true → IsDerived g sk → is_question g sk ≡ true
    → is_bound (referents_in (meaning_of g sk).says) (meaning_of g sk).referent ≡ true
asked_bound g sk sound labelled d q = by (is_bound (referents_in (meaning_of g sk).says) (meaning_of g sk).referent) refl
  where
    is : sketch_of (setting_of g d.lexicon d.tokens) d.tree 0 ≡ sk
    is = sym (d.is ∙ skeleton_of_is (setting_of g d.lexicon d.tokens) d.tree d.derives)

    asks : (kinds : ℕ → Kind) → FitKinds g.rules (length g.rules) kinds → is_bound (referents_in (meaning_of g sk).says) (meaning_of g sk).referent ≡ true
    asks kinds fit =
        let whole : take (length g.rules) g.rules ≡ g.rules = take_all (length g.rules) g.rules (omega arith) in
        let all : AllFit g kinds = record { labelled = labelled; fit = ap (list_all (fits_label kinds)) (sym whole) ∙ fit.fit } in
        let good : Good g sk (kinds text_category.name) =
        subst (λ k. Good g k (kinds text_category.name)) is
        (node_is_good (setting_of g d.lexicon d.tokens) kinds all d.tree text_category (record { place = 0; list = [] })
        (record { place = length d.tokens; list = d.derives.0 }) 0 d.derives.1) in
        good.question (question_label g sk q) (names_of g sk)

    by : (b : Bool) → is_bound (referents_in (meaning_of g sk).says) (meaning_of g sk).referent ≡ b
        → is_bound (referents_in (meaning_of g sk).says) (meaning_of g sk).referent ≡ true
    by true e = e
    by false e =
        let last : Last g = last_rule g (out-Skeleton sk).rule (question_label g sk q) in
        absurd (sound.faultless (LabelKind (length g.rules))
        (last.rule, last.positive, last.at, inr (λ kinds fit. let no : true ≡ false = sym (asks kinds fit) ∙ e in absurd cc)))

pub asked_introduced : (g : GrammarParts) (sk : Skeleton) (k : Structure) (r : ℕ) → IsSound g → is_labelled g ≡ true → IsDerived g sk → is_question g sk ≡ true
    → k ≡ (meaning_of g sk).says → r ≡ (meaning_of g sk).referent → Contains (referents_in k) r
asked_introduced g sk k r sound labelled d q is same =
    contained (referents_in k) r (ap (λ x. is_bound (referents_in x) r) is ∙ ap (is_bound (referents_in (meaning_of g sk).says)) same
    ∙ asked_bound g sk sound labelled d q)
