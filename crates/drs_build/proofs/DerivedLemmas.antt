-- The skeletons of derivations are in order, and what they mean introduces each referent once.
use Rattle.std.proofs.Common.{◌≡◌, ℕ, ◌+◌, ◌≤◌, Bool, true, List, [], ◌∷◌, ◌++◌, map, refl, sym, ap, subst, ◌∙◌, arith, append_assoc, append-nil, eq-eqb}
use Rattle.std.specs.Prelude.{◌&&◌, ◌==◌, nat_le}
use Rattle.std.specs.List.{list_all}
use Rattle.std.proofs.lemmas.Bool.{le-leb, and_from}
use Rattle.wiki_base.specs.declared.numbers.WordId.{WordId}
use Rattle.drs_build.proofs.QuestionLemmas.{at}
use Rattle.codeco_terms.specs.declared.elements.Element.{Element}
use Rattle.codeco_terms.specs.declared.elements.Element.TheVariants.{Terminal, Preterminal, Sub, Position, Opener, Forward, Strong, Back, NoBack}
use Rattle.codeco_terms.specs.GrammarParts.{GrammarParts}
use Rattle.derivation_trees.specs.declared.skeletons.Skeleton.{Skeleton, out-Skeleton}
use Rattle.derivation_trees.specs.declared.skeletons.Skeleton.TheOpen.{Skeleton-F}
use Rattle.derivation_trees.specs.declared.skeletons.Skeleton.TheViews.{out-roll-Skeleton}
use Rattle.derivation_trees.specs.Trees.{Node, Nodes, node, none, more}
use Rattle.derivation_trees.specs.Settings.{Setting}
use Rattle.derivation_trees.specs.Sentences.{setting_of}
use Rattle.derivation_trees.specs.Skeletons.{word_at, skeleton}
use Rattle.derivation_trees.specs.Sketches.{Sketch, sketch_over, sketch_from, sketch_of, sketches_of, body_of}
use Rattle.derivations.proofs.SkeletonLemmas.{skeleton_of_is}
use Rattle.drs_build.specs.Built.{IsDerived}
use Rattle.drs_build.specs.Order.{leads, is_in_order, span_of}
use Rattle.drs_build.proofs.OrderLemmas.{in_order_is, leads_up}
use Rattle.codeco_checked.specs.Sound.{IsSound}
use Rattle.lexicon.specs.Words.{Listed}
use Rattle.logic_terms.specs.Structure.{Structure}
use Rattle.derivation_trees.specs.Skeletons.{IsLeastSkeleton}
use Rattle.logic_terms.specs.Introduced.{introduced_in, IntroducesOnce}
use Rattle.drs_build.specs.Nodes.{names_of, meaning_of}
use Rattle.drs_build.proofs.CountLemmas.{distinct_from_times}
use Rattle.drs_build.proofs.WeightLemmas.{inside_small}
use Rattle.drs_build.proofs.GrammarLemmas.{introducing}
use Rattle.drs_build.proofs.SpanLemmas.{LightIn, AllLight, node_light}

-- what is sketched over elements from a place: more children, in order
record Walked (s : Setting) (es : List Element) (place : ℕ) (children : List Skeleton) (after : Sketch) : Type 0 where
  pub more : List Skeleton
  pub added : after.children ≡ children ++ more
  pub in_order : list_all (is_in_order s.grammar) more ≡ true
  pub leads : leads es place (map span_of more) after.place ≡ true
  pub light : AllLight s.grammar more

pub record Order (s : Setting) (n : Node) (place : ℕ) : Type 0 where
  pub in_order : is_in_order s.grammar (sketch_of s n place) ≡ true
  pub start : (out-Skeleton (sketch_of s n place)).start ≡ place
  pub up : place ≤ (out-Skeleton (sketch_of s n place)).end
  pub light : LightIn s.grammar (sketch_of s n place)

abbrev pub Orders : Setting → Nodes → Type 0
Orders s none = Unit {0}
Orders s (more n ns) = ((place : ℕ) → Order s n place) × Orders s ns

-- without a child nothing is added
record Childless (s : Setting) (es : List Element) (place : ℕ) (children : List Skeleton) (after : Sketch) : Type 0 where
  pub same : after.children ≡ children
  pub leads : leads es place [] after.place ≡ true

childless : (s : Setting) (es : List Element) (place : ℕ) (words : List WordId) (children : List Skeleton)
    → Childless s es place children (sketch_over s es (at place words children []))
childless s [] place words children = record { same = refl; leads = eq-eqb place place refl }
childless s (Terminal t ∷ es) place words children = let later = childless s es (place + 1) (words ++ []) children in
    record { same = later.same; leads = later.leads }
childless s (Preterminal c ∷ es) place words children = let later = childless s es (place + 1) (words ++ word_at s place ∷ []) children in
    record { same = later.same; leads = later.leads }
childless s (Sub c ∷ es) place words children = let later = childless s es place words children in record { same = later.same; leads = later.leads }
childless s (Position x ∷ es) place words children = let later = childless s es place words children in record { same = later.same; leads = later.leads }
childless s (Opener ∷ es) place words children = let later = childless s es place words children in record { same = later.same; leads = later.leads }
childless s (Forward c ∷ es) place words children = let later = childless s es place words children in record { same = later.same; leads = later.leads }
childless s (Strong c ∷ es) place words children = let later = childless s es place words children in record { same = later.same; leads = later.leads }
childless s (Back ps ns ∷ es) place words children = let later = childless s es place words children in record { same = later.same; leads = later.leads }
childless s (NoBack ps ∷ es) place words children = let later = childless s es place words children in record { same = later.same; leads = later.leads }

walk : (s : Setting) (es : List Element) (ns : Nodes) (place : ℕ) (words : List WordId) (children : List Skeleton) → Orders s ns
    → Walked s es place children (sketch_over s es (at place words children (sketches_of s ns)))
walk s [] ns place words children orders = record { more = []; added = sym (append-nil children); in_order = refl; leads = eq-eqb place place refl; light = tt }
walk s (Terminal t ∷ es) ns place words children orders = let later = walk s es ns (place + 1) (words ++ []) children orders in
    record { more = later.more; added = later.added; in_order = later.in_order; leads = later.leads; light = later.light }
walk s (Preterminal c ∷ es) ns place words children orders = let later = walk s es ns (place + 1) (words ++ word_at s place ∷ []) children orders in
    record { more = later.more; added = later.added; in_order = later.in_order; leads = later.leads; light = later.light }
walk s (Sub c ∷ es) none place words children orders = let rest = childless s (Sub c ∷ es) place words children in
    record { more = []; added = rest.same ∙ sym (append-nil children); in_order = refl; leads = rest.leads; light = tt }
walk s (Sub c ∷ es) (more n ns) place words children orders =
    let child = sketch_of s n place in
    let one = orders.0 place in
    let later = walk s es ns (out-Skeleton child).end words (children ++ child ∷ []) orders.1 in
    record {
      more = child ∷ later.more;
      added = later.added ∙ append_assoc children (child ∷ []) later.more;
      in_order = and_from (is_in_order s.grammar child) (list_all (is_in_order s.grammar) later.more) one.in_order later.in_order;
      leads = and_from ((out-Skeleton child).start == place)
          (nat_le (out-Skeleton child).start (out-Skeleton child).end
          && leads es (out-Skeleton child).end (map span_of later.more)
          (sketch_over s es (at (out-Skeleton child).end words (children ++ child ∷ []) (sketches_of s ns))).place)
          (eq-eqb (out-Skeleton child).start place one.start)
          (and_from (nat_le (out-Skeleton child).start (out-Skeleton child).end)
          (leads es (out-Skeleton child).end (map span_of later.more)
          (sketch_over s es (at (out-Skeleton child).end words (children ++ child ∷ []) (sketches_of s ns))).place)
          (ap (λ x. nat_le x (out-Skeleton child).end) one.start ∙ le-leb place (out-Skeleton child).end one.up) later.leads);
      light = (one.light, later.light);
    }
walk s (Position x ∷ es) ns place words children orders = let later = walk s es ns place words children orders in
    record { more = later.more; added = later.added; in_order = later.in_order; leads = later.leads; light = later.light }
walk s (Opener ∷ es) ns place words children orders = let later = walk s es ns place words children orders in
    record { more = later.more; added = later.added; in_order = later.in_order; leads = later.leads; light = later.light }
walk s (Forward c ∷ es) ns place words children orders = let later = walk s es ns place words children orders in
    record { more = later.more; added = later.added; in_order = later.in_order; leads = later.leads; light = later.light }
walk s (Strong c ∷ es) ns place words children orders = let later = walk s es ns place words children orders in
    record { more = later.more; added = later.added; in_order = later.in_order; leads = later.leads; light = later.light }
walk s (Back positive negative ∷ es) ns place words children orders = let later = walk s es ns place words children orders in
    record { more = later.more; added = later.added; in_order = later.in_order; leads = later.leads; light = later.light }
walk s (NoBack patterns ∷ es) ns place words children orders = let later = walk s es ns place words children orders in
    record { more = later.more; added = later.added; in_order = later.in_order; leads = later.leads; light = later.light }

-- the layer is in order
abbrev layer_in_order : GrammarParts → Skeleton-F Skeleton → Bool
layer_in_order g layer = leads (body_of g layer.rule) layer.start (map span_of layer.children) layer.end && list_all (is_in_order g) layer.children

-- a node whose children are sketched in order is sketched in order
node_in_order : (s : Setting) (number place : ℕ) (found : List ℕ) (after : Sketch) → Walked s (body_of s.grammar number) place [] after
    → is_in_order s.grammar (skeleton number place after.place found after.words after.children) ≡ true
node_in_order s number place found after w =
    in_order_is s.grammar (skeleton number place after.place found after.words after.children)
    ∙ ap (layer_in_order s.grammar) (out-roll-Skeleton
    (record { rule = number; start = place; end = after.place; found = found; words = after.words; children = after.children }))
    ∙ ap (λ cs. leads (body_of s.grammar number) place (map span_of cs) after.place && list_all (is_in_order s.grammar) cs) w.added
    ∙ and_from (leads (body_of s.grammar number) place (map span_of w.more) after.place) (list_all (is_in_order s.grammar) w.more) w.leads w.in_order

-- what a node means whose children are sketched
node_sketched : (s : Setting) (number place : ℕ) (found : List ℕ) (after : Sketch) → Walked s (body_of s.grammar number) place [] after
    → LightIn s.grammar (skeleton number place after.place found after.words after.children)
node_sketched s number place found after w =
    let children : w.more ≡ (out-Skeleton (skeleton number place after.place found after.words after.children)).children =
    sym (ap (λ layer. layer.children)
    (out-roll-Skeleton (record { rule = number; start = place; end = after.place; found = found; words = after.words; children = after.children }))
    ∙ w.added) in
    node_light s.grammar (skeleton number place after.place found after.words after.children) (node_in_order s number place found after w)
    (subst (AllLight s.grammar) children w.light)

mutual
  pub sketch_in_order : (s : Setting) (n : Node) (place : ℕ) → Order s n place
  sketch_in_order s (node number values found children) place =
      let after = sketch_over s (body_of s.grammar number) (sketch_from place (sketches_of s children)) in
      let w : Walked s (body_of s.grammar number) place [] after = walk s (body_of s.grammar number) children place [] [] (sketches_in_order s children) in
      let out = out-roll-Skeleton (record { rule = number; start = place; end = after.place; found = found; words = after.words; children = after.children }) in
      let start : (out-Skeleton (skeleton number place after.place found after.words after.children)).start ≡ place = ap (λ layer. layer.start) out in
      let end : (out-Skeleton (skeleton number place after.place found after.words after.children)).end ≡ after.place = ap (λ layer. layer.end) out in
      let up : place ≤ after.place = leads_up (body_of s.grammar number) place (map span_of w.more) after.place w.leads in
      record { in_order = node_in_order s number place found after w; start = start; up = omega arith; light = node_sketched s number place found after w }

  pub sketches_in_order : (s : Setting) (ns : Nodes) → Orders s ns
  sketches_in_order s none = tt
  sketches_in_order s (more n ns) = (sketch_in_order s n, sketches_in_order s ns)

-- the skeleton of a derivation is in order
pub derived_in_order : (g : GrammarParts) (sk : Skeleton) → IsDerived g sk → is_in_order g sk ≡ true
derived_in_order g sk d =
    ap (is_in_order g) (d.is ∙ skeleton_of_is (setting_of g d.lexicon d.tokens) d.tree d.derives)
    ∙ (sketch_in_order (setting_of g d.lexicon d.tokens) d.tree 0).in_order

-- the meaning of a derivation's skeleton introduces each referent once
pub derived_once : (g : GrammarParts) (sk : Skeleton) → IsSound g → IsDerived g sk → IntroducesOnce (meaning_of g sk).says
derived_once g sk sound d =
    let is : sketch_of (setting_of g d.lexicon d.tokens) d.tree 0 ≡ sk = sym (d.is ∙ skeleton_of_is (setting_of g d.lexicon d.tokens) d.tree d.derives) in
    let light : LightIn g sk = subst (LightIn g) is (sketch_in_order (setting_of g d.lexicon d.tokens) d.tree 0).light in
    distinct_from_times (introduced_in (meaning_of g sk).says)
    (λ r. omega (arith, (light (introducing g sound) (names_of g sk)).says r, inside_small (span_of sk) r))

pub built_once : (g : GrammarParts) (sk : Skeleton) (k : Structure) → IsSound g → IsDerived g sk → k ≡ (meaning_of g sk).says → IntroducesOnce k
built_once g sk k sound d is = subst IntroducesOnce (sym is) (derived_once g sk sound d)

-- the least skeleton of tokens is that of a derivation
pub least_derived : (g : GrammarParts) (lexicon : Listed) (tokens : List (List ℕ)) (sk : Skeleton) → IsLeastSkeleton g lexicon tokens sk → IsDerived g sk
least_derived g lexicon tokens sk least = record { lexicon = lexicon; tokens = tokens; tree = least.tree; derives = least.derives; is = least.is }
