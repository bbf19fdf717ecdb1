-- Codes determine skeletons, and none is a beginning of another.
use Rattle.std.proofs.Common.{◌≡◌, ℕ, zero, suc, ◌+◌, List, [], ◌∷◌, ◌++◌, length, Bool, true, false, ◌&&◌, Option, Some, None, refl, sym, ap, subst, ◌∙◌, append_assoc, append-nil}
use Rattle.std.specs.Prelude.{if◌then◌else◌, option_and_then, IfSome}
use Rattle.std.specs.Option.{option_map_or}
use Rattle.std.specs.List.{list_any, flat_map}
use Rattle.std.proofs.lemmas.Grind.{flat_map-append}
use Rattle.std.specs.declared.cmp.Ordering.{Ordering}
use Rattle.std.specs.declared.cmp.Ordering.TheVariants.{Less, Equal, Greater}
use Rattle.std.specs.Ordering.{nat_cmp, ordering_reverse, is_eq}
use Rattle.std.specs.Cmp.Lexicographic.{slice_cmp, nat_list_cmp_total, texts_ties, same_text}
use Rattle.std.proofs.lemmas.Option.{same_Some}
use Rattle.derivation_trees.proofs.TruthLemmas.{true_is_false}
use Rattle.codeco_terms.specs.declared.values.Value.{Value}
use Rattle.codeco_terms.specs.declared.values.Value.TheVariants.{Pos}
use Rattle.codeco_terms.specs.declared.categories.Pattern.{Pattern}
use Rattle.codeco_terms.specs.declared.elements.Element.{Element}
use Rattle.codeco_terms.specs.declared.elements.Element.TheVariants.{Terminal, Preterminal, Sub, Position, Opener, Forward, Strong, Back, NoBack}
use Rattle.codeco_terms.specs.declared.rules.Rule.{Rule}
use Rattle.codeco_terms.specs.GrammarParts.{GrammarParts}
use Rattle.codeco_terms.specs.Values.{same_value}
use Rattle.scopes.specs.declared.agreement.Test.{Test}
use Rattle.scopes.specs.Resolution.{Finding, closest_finding, is_agreeing}
use Rattle.lexicon.specs.Words.{Listed}
use Rattle.derivation_trees.specs.declared.skeletons.Skeleton.{Skeleton, out-Skeleton}
use Rattle.derivation_trees.specs.declared.skeletons.Skeleton.TheOpen.{Skeleton-F}
use Rattle.derivation_trees.specs.declared.skeletons.Skeleton.TheViews.{out-roll-Skeleton}
use Rattle.derivation_trees.specs.Trees.{Node, Nodes, node, none, more}
use Rattle.derivation_trees.specs.Settings.{Setting, matches_terminal, matches_preterminal}
use Rattle.derivation_trees.specs.Instances.{value_under, under, tests_under, own_values}
use Rattle.derivation_trees.specs.Stands.{is_sub}
use Rattle.derivation_trees.specs.Derives.{At, Stand, pass, pass_token, pass_child, pass_finding, run, phrase, phrase_of, phrases_of, rule_with, is_found, is_none_left, reference_tests, text_category, IsDerivation}
use Rattle.derivation_trees.specs.Codes.{skeleton_code}
use Rattle.derivation_trees.specs.Sentences.{setting_of}
use Rattle.derivation_trees.specs.Skeletons.{skeleton_of, IsBelow, IsLeast}
use Rattle.derivation_trees.specs.Sketches.{Sketch, sketch_child, sketch_on, sketch_over, sketched, sketch_from, sketch_of, sketches_of, body_of}
use Rattle.derivation_trees.proofs.CodeLemmas.{skeleton_code_is}
use Rattle.derivations.specs.Laws.{CodesTell, IsOnlyLeast}
use Rattle.derivations.proofs.ListingLemmas.{Parts, phrase_parts}
use Rattle.derivations.proofs.SkeletonLemmas.{skeleton_of_is}

-- how many references and categories

abbrev is_back : Element → Bool
is_back (Back positive negative) = true
is_back _ = false

-- how many of the elements pass
abbrev tally : (Element → Bool) → List Element → ℕ
tally p [] = zero
tally p (e ∷ es) = if p e then suc (tally p es) else tally p es

abbrev count_nodes : Nodes → ℕ
count_nodes none = zero
count_nodes (more n ns) = suc (count_nodes ns)

abbrev mutual
  -- a found position for each reference of the rule, and a child for each category, in each node
  pub Formed : GrammarParts → Node → Type 0
  Formed g (node number values found children) =
      (length found ≡ tally is_back (body_of g number)) × (count_nodes children ≡ tally is_sub (body_of g number)) × AllFormed g children

  pub AllFormed : GrammarParts → Nodes → Type 0
  AllFormed g none = Unit {0}
  AllFormed g (more n ns) = Formed g n × AllFormed g ns

abbrev IsFormed : Setting → Node → Type 0
IsFormed s n = (asked : Test) (at after : At) → phrase_of s n asked at ≡ Some after → Formed s.grammar n

abbrev AreFormed : Setting → Nodes → Type 0
AreFormed s none = Unit {0}
AreFormed s (more n ns) = IsFormed s n × AreFormed s ns

-- what an element that is no category takes of what is to come
record Took (e : Element) (stand mid : Stand) : Type 0 where
  pub found : length stand.found ≡ (if is_back e then suc (length mid.found) else length mid.found)
  pub children : mid.children ≡ stand.children

took_some : (e : Element) (stand one mid : Stand) → is_back e ≡ false → one.found ≡ stand.found → one.children ≡ stand.children → Some one ≡ Some mid
    → Took e stand mid
took_some e stand one mid plain found children h = subst (Took e stand) (same_Some one mid h) (record {
  found = ap length (sym found) ∙ ap (λ b. if b then suc (length one.found) else length one.found) (sym plain);
  children = children;
})

took_test : (e : Element) (b : Bool) (stand one mid : Stand) → is_back e ≡ false → one.found ≡ stand.found → one.children ≡ stand.children
    → (if b then Some one else None) ≡ Some mid → Took e stand mid
took_test e true stand one mid plain found children h = took_some e stand one mid plain found children h
took_test e false stand one mid plain found children h = cc

took_no_test : (e : Element) (b : Bool) (stand mid : Stand) → is_back e ≡ false → (if b then None else Some stand) ≡ Some mid → Took e stand mid
took_no_test e true stand mid plain h = cc
took_no_test e false stand mid plain h = took_some e stand stand mid plain refl refl h

took_token : (e : Element) (b : Bool) (stand mid : Stand) → is_back e ≡ false → pass_token b stand ≡ Some mid → Took e stand mid
took_token e true stand mid plain h =
    took_some e stand (record {
      at = record { place = stand.at.place + 1; list = stand.at.list };
      found = stand.found;
      own = stand.own;
      children = stand.children;
    }) mid plain refl refl h
took_token e false stand mid plain h = cc

took_finding : (values : List (ℕ × Value)) (positive negative : List Pattern) (finding : Option Finding) (found : List ℕ) (stand mid : Stand)
    → stand.found ≡ found → pass_finding values positive finding found stand ≡ Some mid → Took (Back positive negative) stand mid
took_finding values positive negative finding [] stand mid is h = cc
took_finding values positive negative finding (pos ∷ rest) stand mid is h = by (is_found values positive pos finding) h
  where
    by : (b : Bool) → (if b then Some (record { at = stand.at; found = rest; own = stand.own; children = stand.children }) else None) ≡ Some mid
        → Took (Back positive negative) stand mid
    by true k = subst (Took (Back positive negative) stand)
        (same_Some (record { at = stand.at; found = rest; own = stand.own; children = stand.children }) mid k)
        (record { found = ap length is; children = refl })
    by false k = cc

took : (s : Setting) (values : List (ℕ × Value)) (e : Element) (stand mid : Stand) → is_sub e ≡ false → pass s values e stand ≡ Some mid → Took e stand mid
took s values (Terminal t) stand mid plain h = took_token (Terminal t) (matches_terminal s t stand.at.place) stand mid refl h
took s values (Preterminal c) stand mid plain h = took_token (Preterminal c) (matches_preterminal s (under values c) stand.at.place) stand mid refl h
took s values (Sub c) stand mid plain h = cc
took s values (Position x) stand mid plain h = took_test (Position x) (same_value (value_under values x) (Pos stand.at.place)) stand stand mid refl refl refl h
took s values Opener stand mid plain h = took_some Opener stand _ mid refl refl refl h
took s values (Forward c) stand mid plain h = took_some (Forward c) stand _ mid refl refl refl h
took s values (Strong c) stand mid plain h = took_some (Strong c) stand _ mid refl refl refl h
took s values (Back positive negative) stand mid plain h =
    took_finding values positive negative (closest_finding (reference_tests values positive negative) stand.at.list) stand.found stand mid refl h
took s values (NoBack patterns) stand mid plain h =
    took_no_test (NoBack patterns) (list_any (is_agreeing (tests_under values patterns)) stand.at.list) stand mid refl h

-- what a run to the end of a node takes
record Counted (s : Setting) (es : List Element) (ns : Nodes) (stand : Stand) : Type 0 where
  pub found : length stand.found ≡ tally is_back es
  pub children : count_nodes ns ≡ tally is_sub es
  pub formed : AllFormed s.grammar ns

none_length : {X : Type 0} (xs : List X) → is_none_left xs ≡ true → length xs ≡ zero
none_length [] h = refl
none_length (x ∷ xs) h = cc

none_counted : (s : Setting) (ns : Nodes) (stand : Stand) → stand.children ≡ phrases_of s ns → is_none_left stand.found ≡ true
    → is_none_left stand.children ≡ true → Counted s [] ns stand
none_counted s none stand children found empty = record { found = none_length stand.found found; children = refl; formed = tt }
none_counted s (more n ns) stand children found empty = true_is_false (sym empty ∙ ap is_none_left children)

counted_step : (s : Setting) (e : Element) (es : List Element) (ns : Nodes) (stand mid : Stand) → is_sub e ≡ false → Took e stand mid → Counted s es ns mid
    → Counted s (e ∷ es) ns stand
counted_step s e es ns stand mid plain one later = record {
  found = one.found ∙ ap (λ n. if is_back e then suc n else n) later.found;
  children = later.children ∙ ap (λ b. if b then suc (tally is_sub es) else tally is_sub es) (sym plain);
  formed = later.formed;
}

counted : (s : Setting) (values : List (ℕ × Value)) (es : List Element) (ns : Nodes) (stand after : Stand) → AreFormed s ns → stand.children ≡ phrases_of s ns
    → run s values es stand ≡ Some after → is_none_left after.found ≡ true → is_none_left after.children ≡ true → Counted s es ns stand
counted s values [] ns stand after formed children h found empty =
    none_counted s ns stand children (ap (λ x. is_none_left x.found) (same_Some stand after h) ∙ found)
    (ap (λ x. is_none_left x.children) (same_Some stand after h) ∙ empty)
counted s values (Sub c ∷ es) none stand after formed children h found empty =
    by (sym (ap (λ ps. option_and_then (run s values es) (pass_child (under values c) ps stand)) children) ∙ h)
  where
    by : None ≡ Some after → Counted s (Sub c ∷ es) none stand
    by w = cc
counted s values (Sub c ∷ es) (more n ns) stand after formed children h found empty =
    by (λ at k. counted s values es ns (record { at = at; found = stand.found; own = stand.own; children = phrases_of s ns }) after formed.1 refl k found empty)
    (phrase_of s n (under values c) stand.at) refl (sym (ap (λ ps. option_and_then (run s values es) (pass_child (under values c) ps stand)) children) ∙ h)
  where
    by : ((at : At) → run s values es (record { at = at; found = stand.found; own = stand.own; children = phrases_of s ns }) ≡ Some after
        → Counted s es ns (record { at = at; found = stand.found; own = stand.own; children = phrases_of s ns })) → (o : Option At)
        → phrase_of s n (under values c) stand.at ≡ o
        → option_and_then (run s values es)
        (option_and_then (λ at. Some (record { at = at; found = stand.found; own = stand.own; children = phrases_of s ns })) o) ≡ Some after
        → Counted s (Sub c ∷ es) (more n ns) stand
    by later None w k = cc
    by later (Some at) w k =
        let one : Counted s es ns (record { at = at; found = stand.found; own = stand.own; children = phrases_of s ns }) = later at k in
        record { found = one.found; children = ap (λ n. suc n) one.children; formed = (formed.0 (under values c) stand.at at w, one.formed) }
counted s values (e ∷ es) ns stand after formed children h found empty =
    by (λ mid same k. counted s values es ns mid after formed same k found empty) (pass s values e stand) refl h
  where
    by : ((mid : Stand) → mid.children ≡ phrases_of s ns → run s values es mid ≡ Some after → Counted s es ns mid) → (o : Option Stand)
        → pass s values e stand ≡ o → option_and_then (run s values es) o ≡ Some after → Counted s (e ∷ es) ns stand
    by later None w k = cc
    by later (Some mid) w k =
        let one : Took e stand mid = took s values e stand mid refl w in
        counted_step s e es ns stand mid refl one (later mid (one.children ∙ children) k)

formed_parts : (s : Setting) (number : ℕ) (values : List (ℕ × Value)) (found : List ℕ) (children : Nodes) (asked : Test) (at after : At) (rule : Rule)
    → AreFormed s children → rule_with s.grammar number ≡ Some rule → phrase s rule values found (phrases_of s children) asked at ≡ Some after
    → Formed s.grammar (node number values found children)
formed_parts s number values found children asked at after rule formed there h =
    let parts : Parts s rule values found (phrases_of s children) asked at after = phrase_parts s rule values found (phrases_of s children) asked at after h in
    let all : Counted s rule.body children (record { at = at; found = found; own = own_values rule values; children = phrases_of s children }) =
    counted s values rule.body children (record { at = at; found = found; own = own_values rule values; children = phrases_of s children }) parts.stand
    formed refl parts.ran parts.no_found parts.no_children in
    let body : body_of s.grammar number ≡ rule.body = ap (λ o. option_map_or (λ r. r.body) o []) there in
    (all.found ∙ ap (tally is_back) (sym body), all.children ∙ ap (tally is_sub) (sym body), all.formed)

mutual
  node_formed : (s : Setting) (n : Node) → IsFormed s n
  node_formed s (node number values found children) asked at after h = by (nodes_formed s children) (rule_with s.grammar number) refl h
    where
      by : AreFormed s children → (o : Option Rule) → rule_with s.grammar number ≡ o
          → option_and_then (λ r. phrase s r values found (phrases_of s children) asked at) o ≡ Some after
          → Formed s.grammar (node number values found children)
      by formed None w k = cc
      by formed (Some rule) w k = formed_parts s number values found children asked at after rule formed w k

  nodes_formed : (s : Setting) (ns : Nodes) → AreFormed s ns
  nodes_formed s none = tt
  nodes_formed s (more n ns) = (node_formed s n, nodes_formed s ns)

-- the code of a node

abbrev mutual
  pub node_code : Node → List ℕ
  node_code (node number values found children) = number ∷ found ++ nodes_code children

  pub nodes_code : Nodes → List ℕ
  nodes_code none = []
  nodes_code (more n ns) = node_code n ++ nodes_code ns

abbrev IsCoded : Setting → Node → Type 0
IsCoded s n = (place : ℕ) → skeleton_code (sketch_of s n place) ≡ node_code n

abbrev AreCoded : Setting → Nodes → Type 0
AreCoded s none = Unit {0}
AreCoded s (more n ns) = IsCoded s n × AreCoded s ns

none_or_more : {X : Type 0} {n : ℕ} → suc n ≡ zero → X
none_or_more w = cc

one_less : {m n : ℕ} → suc m ≡ suc n → m ≡ n
one_less {m} {n} h = ap pred h
  where
    pred : ℕ → ℕ
    pred zero = zero
    pred (suc k) = k

over_code : (s : Setting) (es : List Element) (ns : Nodes) (k : Sketch) → AreCoded s ns → k.left ≡ sketches_of s ns → count_nodes ns ≡ tally is_sub es
    → flat_map skeleton_code (sketch_over s es k).children ≡ flat_map skeleton_code k.children ++ nodes_code ns
over_code s [] none k coded left count = sym (append-nil (flat_map skeleton_code k.children))
over_code s [] (more n ns) k coded left count = none_or_more count
over_code s (Sub c ∷ es) none k coded left count = none_or_more (sym count)
over_code s (Sub c ∷ es) (more n ns) k coded left count =
    let next : Sketch = record {
      place = (out-Skeleton (sketch_of s n k.place)).end;
      words = k.words;
      children = k.children ++ sketch_of s n k.place ∷ [];
      left = sketches_of s ns;
    } in
    let on : sketch_child k.left k ≡ next = ap (λ ls. sketch_child ls k) left in
    let one : flat_map skeleton_code (k.children ++ sketch_of s n k.place ∷ []) ≡ flat_map skeleton_code k.children ++ node_code n =
    flat_map-append skeleton_code k.children (sketch_of s n k.place ∷ [])
    ∙ ap (λ xs. flat_map skeleton_code k.children ++ xs) (append-nil (skeleton_code (sketch_of s n k.place)) ∙ coded.0 k.place) in
    ap (λ x. flat_map skeleton_code (sketch_over s es x).children) on ∙ over_code s es ns next coded.1 refl (one_less count)
    ∙ ap (λ xs. xs ++ nodes_code ns) one ∙ append_assoc (flat_map skeleton_code k.children) (node_code n) (nodes_code ns)
over_code s (Terminal t ∷ es) ns k coded left count = over_code s es ns (sketch_on s (Terminal t) k) coded left count
over_code s (Preterminal c ∷ es) ns k coded left count = over_code s es ns (sketch_on s (Preterminal c) k) coded left count
over_code s (Position x ∷ es) ns k coded left count = over_code s es ns k coded left count
over_code s (Opener ∷ es) ns k coded left count = over_code s es ns k coded left count
over_code s (Forward c ∷ es) ns k coded left count = over_code s es ns k coded left count
over_code s (Strong c ∷ es) ns k coded left count = over_code s es ns k coded left count
over_code s (Back positive negative ∷ es) ns k coded left count = over_code s es ns k coded left count
over_code s (NoBack patterns ∷ es) ns k coded left count = over_code s es ns k coded left count

abbrev layer_code : Skeleton-F Skeleton → List ℕ
layer_code layer = layer.rule ∷ layer.found ++ flat_map skeleton_code layer.children

mutual
  coded_node : (s : Setting) (n : Node) → Formed s.grammar n → IsCoded s n
  coded_node s (node number values found children) formed place =
      let k : Sketch = sketch_over s (body_of s.grammar number) (sketch_from place (sketches_of s children)) in
      skeleton_code_is (sketched number found place k)
      ∙ ap layer_code (out-roll-Skeleton (record { rule = number; start = place; end = k.place; found = found; words = k.words; children = k.children }))
      ∙ ap (λ xs. number ∷ found ++ xs)
      (over_code s (body_of s.grammar number) children (sketch_from place (sketches_of s children)) (coded_nodes s children formed.2) refl formed.1)

  coded_nodes : (s : Setting) (ns : Nodes) → AllFormed s.grammar ns → AreCoded s ns
  coded_nodes s none formed = tt
  coded_nodes s (more n ns) formed = (coded_node s n formed.0, coded_nodes s ns formed.1)

-- codes are read back

first_or : ℕ → List ℕ → ℕ
first_or d [] = d
first_or d (x ∷ xs) = x

rest_of : List ℕ → List ℕ
rest_of [] = []
rest_of (x ∷ xs) = xs

heads_same : (x y : ℕ) (xs ys : List ℕ) → x ∷ xs ≡ y ∷ ys → x ≡ y
unfolding first_or
heads_same x y xs ys h = ap (first_or x) h

tails_same : (x y : ℕ) (xs ys : List ℕ) → x ∷ xs ≡ y ∷ ys → xs ≡ ys
unfolding rest_of
tails_same x y xs ys h = ap rest_of h

fronts_same : (fs gs xs ys : List ℕ) → length fs ≡ length gs → fs ++ xs ≡ gs ++ ys → (fs ≡ gs) × (xs ≡ ys)
fronts_same [] [] xs ys long h = (refl, h)
fronts_same [] (g ∷ gs) xs ys long h = none_or_more (sym long)
fronts_same (f ∷ fs) [] xs ys long h = none_or_more long
fronts_same (f ∷ fs) (g ∷ gs) xs ys long h =
    let later : (fs ≡ gs) × (xs ≡ ys) = fronts_same fs gs xs ys (one_less long) (tails_same f g (fs ++ xs) (gs ++ ys) h) in
    (ap (λ x. x ∷ fs) (heads_same f g (fs ++ xs) (gs ++ ys) h) ∙ ap (λ zs. g ∷ zs) later.0, later.1)

-- the sketch of a node by the number of its rule, its found positions, and its children's sketches
abbrev sketch_by : Setting → ℕ → List ℕ → List (ℕ → Skeleton) → ℕ → Skeleton
sketch_by s number found left place = sketched number found place (sketch_over s (body_of s.grammar number) (sketch_from place left))

mutual
  -- where codes with something behind them are the same, the nodes look the same, and so does what is behind
  pub same_code : (s : Setting) (n m : Node) (xs ys : List ℕ) → Formed s.grammar n → Formed s.grammar m → node_code n ++ xs ≡ node_code m ++ ys
      → (sketch_of s n ≡ sketch_of s m) × (xs ≡ ys)
  same_code s (node a va fa ca) (node b vb fb cb) xs ys formed formed' h =
      let numbers : a ≡ b = heads_same a b ((fa ++ nodes_code ca) ++ xs) ((fb ++ nodes_code cb) ++ ys) h in
      let behind : (fa ++ nodes_code ca) ++ xs ≡ (fb ++ nodes_code cb) ++ ys = tails_same a b ((fa ++ nodes_code ca) ++ xs) ((fb ++ nodes_code cb) ++ ys) h in
      let long : length fa ≡ length fb = formed.0 ∙ ap (λ n. tally is_back (body_of s.grammar n)) numbers ∙ sym formed'.0 in
      let count : count_nodes ca ≡ count_nodes cb = formed.1 ∙ ap (λ n. tally is_sub (body_of s.grammar n)) numbers ∙ sym formed'.1 in
      let fronts : (fa ≡ fb) × (nodes_code ca ++ xs ≡ nodes_code cb ++ ys) =
      fronts_same fa fb (nodes_code ca ++ xs) (nodes_code cb ++ ys) long
      (sym (append_assoc fa (nodes_code ca) xs) ∙ behind ∙ append_assoc fb (nodes_code cb) ys) in
      let children : (sketches_of s ca ≡ sketches_of s cb) × (xs ≡ ys) = same_codes s ca cb xs ys formed.2 formed'.2 count fronts.1 in (
        ap (λ n. sketch_by s n fa (sketches_of s ca)) numbers ∙ ap (λ f. sketch_by s b f (sketches_of s ca)) fronts.0 ∙ ap (λ l. sketch_by s b fb l) children.0,
        children.1,
      )

  pub same_codes : (s : Setting) (ns ms : Nodes) (xs ys : List ℕ) → AllFormed s.grammar ns → AllFormed s.grammar ms → count_nodes ns ≡ count_nodes ms
      → nodes_code ns ++ xs ≡ nodes_code ms ++ ys → (sketches_of s ns ≡ sketches_of s ms) × (xs ≡ ys)
  same_codes s none none xs ys formed formed' count h = (refl, h)
  same_codes s none (more m ms) xs ys formed formed' count h = none_or_more (sym count)
  same_codes s (more n ns) none xs ys formed formed' count h = none_or_more count
  same_codes s (more n ns) (more m ms) xs ys formed formed' count h =
      let one : (sketch_of s n ≡ sketch_of s m) × (nodes_code ns ++ xs ≡ nodes_code ms ++ ys) =
      same_code s n m (nodes_code ns ++ xs) (nodes_code ms ++ ys) formed.0 formed'.0
      (sym (append_assoc (node_code n) (nodes_code ns) xs) ∙ h ∙ append_assoc (node_code m) (nodes_code ms) ys) in
      let later : (sketches_of s ns ≡ sketches_of s ms) × (xs ≡ ys) = same_codes s ns ms xs ys formed.1 formed'.1 (one_less count) one.1 in
      (ap (λ f. f ∷ sketches_of s ns) one.0 ∙ ap (λ l. sketch_of s m ∷ l) later.0, later.1)

-- derivations

formed_derivation : (s : Setting) (tree : Node) → IsDerivation s tree → Formed s.grammar tree
formed_derivation s tree d = node_formed s tree text_category (record { place = 0; list = [] }) (record { place = length s.tokens; list = d.0 }) d.1

pub code_is : (s : Setting) (tree : Node) → IsDerivation s tree → skeleton_code (skeleton_of s tree) ≡ node_code tree
code_is s tree d = ap skeleton_code (skeleton_of_is s tree d) ∙ coded_node s tree (formed_derivation s tree d) 0

pub code_tells : (s : Setting) (one other : Node) → IsDerivation s one → IsDerivation s other
    → skeleton_code (skeleton_of s one) ≡ skeleton_code (skeleton_of s other) → skeleton_of s one ≡ skeleton_of s other
code_tells s one other d e h =
    let codes : node_code one ++ [] ≡ node_code other ++ [] = ap (λ xs. xs ++ []) (sym (code_is s one d) ∙ h ∙ code_is s other e) in
    let same : (sketch_of s one ≡ sketch_of s other) × ([] ≡ []) =
    same_code s one other [] [] (formed_derivation s one d) (formed_derivation s other e) codes in
    skeleton_of_is s one d ∙ ap (λ f. f 0) same.0 ∙ sym (skeleton_of_is s other e)

pub codes_tell : (g : GrammarParts) → CodesTell g
codes_tell g = record {
  skeleton = λ lexicon tokens one other d e h. code_tells (setting_of g lexicon tokens) one other d e h;
  no_beginning = λ lexicon lexicon' tokens tokens' one other rest d e h.
      (same_code (setting_of g lexicon tokens) one other rest [] (formed_derivation (setting_of g lexicon tokens) one d)
      (formed_derivation (setting_of g lexicon' tokens') other e)
      (ap (λ xs. xs ++ rest) (sym (code_is (setting_of g lexicon tokens) one d)) ∙ h ∙ code_is (setting_of g lexicon' tokens') other e
      ∙ sym (append-nil (node_code other)))).1;
  sketch = λ lexicon tokens tree d. skeleton_of_is (setting_of g lexicon tokens) tree d;
}

-- there is one least skeleton
pub least_unique : (s : Setting) (one other : Skeleton) → IsLeast s one → IsLeast s other → other ≡ one
least_unique s one other least least' = by (slice_cmp nat_cmp (skeleton_code one) (skeleton_code other)) refl
  where
    by : (r : Ordering) → slice_cmp nat_cmp (skeleton_code one) (skeleton_code other) ≡ r → other ≡ one
    by Less e = absurd (least'.none_below least.tree least.derives (subst (λ x. IsBelow x other) least.is e))
    by Greater e =
        let back : IsBelow other one = nat_list_cmp_total.antisymm (skeleton_code other) (skeleton_code one) ∙ ap ordering_reverse e in
        absurd (least.none_below least'.tree least'.derives (subst (λ x. IsBelow x one) least'.is back))
    by Equal e =
        let codes : skeleton_code one ≡ skeleton_code other =
        same_text (skeleton_code one) (skeleton_code other) (sym (texts_ties (skeleton_code one) (skeleton_code other) ∙ ap is_eq e)) in
        least'.is ∙ code_tells s least'.tree least.tree least'.derives least.derives (ap skeleton_code (sym least'.is) ∙ sym codes ∙ ap skeleton_code least.is)
        ∙ sym least.is

pub unique_told : (g : GrammarParts) (lexicon : Listed) (tokens : List (List ℕ)) (least : Option Skeleton) (s : Setting) → s ≡ setting_of g lexicon tokens
    → IfSome least (IsLeast s) → IfSome least (IsOnlyLeast g lexicon tokens)
unique_told g lexicon tokens None s e h = tt
unique_told g lexicon tokens (Some one) s e h = λ other least. least_unique (setting_of g lexicon tokens) one other (subst (λ x. IsLeast x one) e h) least
