-- The sketch of a derivation is its skeleton.
use Rattle.std.proofs.Common.{◌≡◌, ℕ, ◌+◌, List, [], ◌∷◌, ◌++◌, length, Bool, true, false, Option, Some, None, refl, sym, ap, subst, ◌∙◌, append_assoc, append-nil}
use Rattle.std.specs.Prelude.{if◌then◌else◌, option_and_then}
use Rattle.std.specs.Option.{option_map_or}
use Rattle.std.specs.List.{list_any}
use Rattle.std.proofs.lemmas.Option.{same_Some}
use Rattle.codeco_terms.specs.declared.values.Value.{Value}
use Rattle.codeco_terms.specs.declared.values.Value.TheVariants.{Pos}
use Rattle.codeco_terms.specs.declared.categories.Pattern.{Pattern}
use Rattle.codeco_terms.specs.declared.elements.Element.{Element}
use Rattle.codeco_terms.specs.declared.elements.Element.TheVariants.{Terminal, Preterminal, Sub, Position, Opener, Forward, Strong, Back, NoBack}
use Rattle.codeco_terms.specs.declared.rules.Rule.{Rule}
use Rattle.codeco_terms.specs.Values.{same_value}
use Rattle.scopes.specs.declared.agreement.Test.{Test}
use Rattle.scopes.specs.Resolution.{Finding, closest_finding, is_agreeing}
use Rattle.derivation_trees.specs.declared.skeletons.Skeleton.{Skeleton, out-Skeleton}
use Rattle.derivation_trees.specs.declared.skeletons.Skeleton.TheOpen.{Skeleton-F}
use Rattle.derivation_trees.specs.declared.skeletons.Skeleton.TheViews.{out-roll-Skeleton}
use Rattle.derivation_trees.specs.Trees.{Node, Nodes, node, none, more}
use Rattle.derivation_trees.specs.Settings.{Setting, matches_terminal, matches_preterminal}
use Rattle.derivation_trees.specs.Instances.{value_under, under, tests_under, own_values}
use Rattle.derivation_trees.specs.Derives.{At, Stand, pass, pass_token, pass_child, pass_finding, run, phrase, phrase_of, phrases_of, rule_with, is_found, reference_tests, text_category, IsDerivation}
use Rattle.derivation_trees.specs.Skeletons.{word_at, word_here, child_here, met, start, end_place, skeleton, skeleton_at, skeletons_at, skeleton_of}
use Rattle.derivation_trees.specs.Sketches.{Sketch, sketch_child, sketch_on, sketch_over, sketched, sketch_from, sketch_of, sketches_of, body_of}
use Rattle.derivations.proofs.ListingLemmas.{Parts, phrase_parts}

-- what an element that is no category does to places and children
record Kept (e : Element) (k : Sketch) (s : Setting) (stand mid : Stand) : Type 0 where
  pub place : mid.at.place ≡ (sketch_on s e k).place
  pub children : mid.children ≡ stand.children

of_token : (e : Element) (k : Sketch) (s : Setting) (b : Bool) (stand mid : Stand) → (sketch_on s e k).place ≡ stand.at.place + 1
    → pass_token b stand ≡ Some mid → Kept e k s stand mid
of_token e k s false stand mid at h = cc
of_token e k s true stand mid at h =
    subst (Kept e k s stand) (same_Some (record {
      at = record { place = stand.at.place + 1; list = stand.at.list };
      found = stand.found;
      own = stand.own;
      children = stand.children;
    }) mid h) (record { place = sym at; children = refl })

of_some : (e : Element) (k : Sketch) (s : Setting) (stand one mid : Stand) → (sketch_on s e k).place ≡ one.at.place → one.children ≡ stand.children
    → Some one ≡ Some mid → Kept e k s stand mid
of_some e k s stand one mid at same h = subst (Kept e k s stand) (same_Some one mid h) (record { place = sym at; children = same })

of_test : (e : Element) (k : Sketch) (s : Setting) (b : Bool) (stand one mid : Stand) → (sketch_on s e k).place ≡ one.at.place → one.children ≡ stand.children
    → (if b then Some one else None) ≡ Some mid → Kept e k s stand mid
of_test e k s true stand one mid at same h = of_some e k s stand one mid at same h
of_test e k s false stand one mid at same h = cc

of_no_test : (e : Element) (k : Sketch) (s : Setting) (b : Bool) (stand mid : Stand) → (sketch_on s e k).place ≡ stand.at.place
    → (if b then None else Some stand) ≡ Some mid → Kept e k s stand mid
of_no_test e k s true stand mid at h = cc
of_no_test e k s false stand mid at h = of_some e k s stand stand mid at refl h

of_finding : (e : Element) (k : Sketch) (s : Setting) (values : List (ℕ × Value)) (positive : List Pattern) (finding : Option Finding) (found : List ℕ)
    (stand mid : Stand) → (sketch_on s e k).place ≡ stand.at.place → pass_finding values positive finding found stand ≡ Some mid → Kept e k s stand mid
of_finding e k s values positive finding [] stand mid at h = cc
of_finding e k s values positive finding (pos ∷ rest) stand mid at h =
    of_test e k s (is_found values positive pos finding) stand (record { at = stand.at; found = rest; own = stand.own; children = stand.children }) mid at refl
    h

-- the way over elements, sketched
record Sketched (s : Setting) (values : List (ℕ × Value)) (es : List Element) (ns : Nodes) (stand after : Stand) (k : Sketch) : Type 0 where
  pub place : (sketch_over s es k).place ≡ after.at.place
  pub words : (sketch_over s es k).words ≡ k.words ++ met (word_here s) s values es stand
  pub children : (sketch_over s es k).children ≡ k.children ++ skeletons_at s ns (met child_here s values es stand)

pub record Same (s : Setting) (n : Node) (at after : At) : Type 0 where
  pub skeletons : skeleton_at s n at ≡ sketch_of s n at.place
  pub end : (out-Skeleton (sketch_of s n at.place)).end ≡ after.place

abbrev pub SameNode : Setting → Node → Type 0
SameNode s n = (asked : Test) (at after : At) → phrase_of s n asked at ≡ Some after → Same s n at after

abbrev pub SameNodes : Setting → Nodes → Type 0
SameNodes s none = Unit {0}
SameNodes s (more n ns) = SameNode s n × SameNodes s ns

none_at : (s : Setting) (ns : Nodes) → skeletons_at s ns [] ≡ []
none_at s none = refl
none_at s (more n ns) = refl

-- one more element that is no category
kept_on : (s : Setting) (values : List (ℕ × Value)) (e : Element) (es : List Element) (ns : Nodes) (stand mid after : Stand) (k : Sketch)
    → pass s values e stand ≡ Some mid → (sketch_on s e k).words ≡ k.words ++ word_here s e stand.at → (sketch_on s e k).children ≡ k.children
    → child_here e stand.at ≡ [] → Sketched s values es ns mid after (sketch_on s e k) → Sketched s values (e ∷ es) ns stand after k
kept_on s values e es ns stand mid after k h words children here next = record {
  place = next.place;
  words = next.words ∙ ap (λ ws. ws ++ met (word_here s) s values es mid) words
      ∙ append_assoc k.words (word_here s e stand.at) (met (word_here s) s values es mid)
      ∙ ap (λ o. k.words ++ (word_here s e stand.at ++ option_map_or (met (word_here s) s values es) o [])) (sym h);
  children = next.children ∙ ap (λ cs. cs ++ skeletons_at s ns (met child_here s values es mid)) children
      ∙ ap (λ o. k.children ++ skeletons_at s ns (option_map_or (met child_here s values es) o [])) (sym h)
      ∙ ap (λ ats. k.children ++ skeletons_at s ns (ats ++ option_map_or (met child_here s values es) (pass s values e stand) [])) (sym here);
}

-- one more child
child_on : (s : Setting) (values : List (ℕ × Value)) (e : Element) (es : List Element) (n : Node) (ns : Nodes) (stand mid after : Stand) (k next : Sketch)
    → pass s values e stand ≡ Some mid → word_here s e stand.at ≡ [] → child_here e stand.at ≡ stand.at ∷ [] → sketch_on s e k ≡ next → next.words ≡ k.words
    → next.children ≡ k.children ++ skeleton_at s n stand.at ∷ [] → Sketched s values es ns mid after next
    → Sketched s values (e ∷ es) (more n ns) stand after k
child_on s values e es n ns stand mid after k next h none_here one_here on words children later =
    let ats : List At = met child_here s values es mid in
    record {
      place = ap (λ x. (sketch_over s es x).place) on ∙ later.place;
      words = ap (λ x. (sketch_over s es x).words) on ∙ later.words ∙ ap (λ ws. ws ++ met (word_here s) s values es mid) words
          ∙ ap (λ o. k.words ++ option_map_or (met (word_here s) s values es) o []) (sym h)
          ∙ ap (λ ws. k.words ++ (ws ++ option_map_or (met (word_here s) s values es) (pass s values e stand) [])) (sym none_here);
      children = ap (λ x. (sketch_over s es x).children) on ∙ later.children ∙ ap (λ cs. cs ++ skeletons_at s ns ats) children
          ∙ append_assoc k.children (skeleton_at s n stand.at ∷ []) (skeletons_at s ns ats)
          ∙ ap (λ o. k.children ++ skeletons_at s (more n ns) (stand.at ∷ option_map_or (met child_here s values es) o [])) (sym h)
          ∙ ap (λ xs. k.children ++ skeletons_at s (more n ns) (xs ++ option_map_or (met child_here s values es) (pass s values e stand) [])) (sym one_here);
    }

-- an element that is no category, by its kind
plain_kept : (s : Setting) (values : List (ℕ × Value)) (e : Element) (stand mid : Stand) (k : Sketch) → k.place ≡ stand.at.place
    → Rattle.derivation_trees.specs.Stands.is_sub e ≡ false → pass s values e stand ≡ Some mid → Kept e k s stand mid
plain_kept s values (Terminal t) stand mid k p plain h = of_token (Terminal t) k s (matches_terminal s t stand.at.place) stand mid (ap (λ x. x + 1) p) h
plain_kept s values (Preterminal c) stand mid k p plain h =
    of_token (Preterminal c) k s (matches_preterminal s (under values c) stand.at.place) stand mid (ap (λ x. x + 1) p) h
plain_kept s values (Sub c) stand mid k p plain h = cc
plain_kept s values (Position x) stand mid k p plain h =
    of_test (Position x) k s (same_value (value_under values x) (Pos stand.at.place)) stand stand mid p refl h
plain_kept s values Opener stand mid k p plain h = of_some Opener k s stand _ mid p refl h
plain_kept s values (Forward c) stand mid k p plain h = of_some (Forward c) k s stand _ mid p refl h
plain_kept s values (Strong c) stand mid k p plain h = of_some (Strong c) k s stand _ mid p refl h
plain_kept s values (Back ps ns) stand mid k p plain h =
    of_finding (Back ps ns) k s values ps (closest_finding (reference_tests values ps ns) stand.at.list) stand.found stand mid p h
plain_kept s values (NoBack ps) stand mid k p plain h = of_no_test (NoBack ps) k s (list_any (is_agreeing (tests_under values ps)) stand.at.list) stand mid p h

record Plain (s : Setting) (e : Element) (at : At) (k : Sketch) : Type 0 where
  pub words : (sketch_on s e k).words ≡ k.words ++ word_here s e at
  pub children : (sketch_on s e k).children ≡ k.children
  pub here : child_here e at ≡ []
  pub left : (sketch_on s e k).left ≡ k.left

plain_parts : (s : Setting) (e : Element) (at : At) (k : Sketch) → k.place ≡ at.place → Rattle.derivation_trees.specs.Stands.is_sub e ≡ false → Plain s e at k
plain_parts s (Terminal t) at k p plain = record { words = refl; children = refl; here = refl; left = refl }
plain_parts s (Preterminal c) at k p plain = record { words = ap (λ x. k.words ++ word_at s x ∷ []) p; children = refl; here = refl; left = refl }
plain_parts s (Sub c) at k p plain = cc
plain_parts s e at k p plain = record { words = sym (append-nil k.words); children = refl; here = refl; left = refl }

walk_sketch : (s : Setting) (values : List (ℕ × Value)) (es : List Element) (ns : Nodes) (stand after : Stand) (k : Sketch) → SameNodes s ns
    → stand.children ≡ phrases_of s ns → k.place ≡ stand.at.place → k.left ≡ sketches_of s ns → run s values es stand ≡ Some after
    → Sketched s values es ns stand after k
walk_sketch s values [] ns stand after k same children p left h = record {
  place = p ∙ ap (λ x. x.at.place) (same_Some stand after h);
  words = sym (append-nil k.words);
  children = sym (append-nil k.children) ∙ ap (λ cs. k.children ++ cs) (sym (none_at s ns));
}
walk_sketch s values (Sub c ∷ es) none stand after k same children p left h =
    by (sym (ap (λ ps. option_and_then (run s values es) (pass_child (under values c) ps stand)) children) ∙ h)
  where
    by : None ≡ Some after → Sketched s values (Sub c ∷ es) none stand after k
    by w = cc
walk_sketch s values (Sub c ∷ es) (more n ns) stand after k same children p left h =
    by (λ at w k'. walk_sketch s values es ns (record { at = at; found = stand.found; own = stand.own; children = phrases_of s ns }) after
    (record {
      place = (out-Skeleton (sketch_of s n k.place)).end;
      words = k.words;
      children = k.children ++ sketch_of s n k.place ∷ [];
      left = sketches_of s ns;
    }) same.1 refl (ap (λ x. (out-Skeleton (sketch_of s n x)).end) p ∙ (same.0 (under values c) stand.at at w).end) refl k')
    (phrase_of s n (under values c) stand.at) refl (sym (ap (λ ps. option_and_then (run s values es) (pass_child (under values c) ps stand)) children) ∙ h)
  where
    by : ((at : At) → phrase_of s n (under values c) stand.at ≡ Some at
        → run s values es (record { at = at; found = stand.found; own = stand.own; children = phrases_of s ns }) ≡ Some after
        → Sketched s values es ns (record { at = at; found = stand.found; own = stand.own; children = phrases_of s ns }) after
        (record {
          place = (out-Skeleton (sketch_of s n k.place)).end;
          words = k.words;
          children = k.children ++ sketch_of s n k.place ∷ [];
          left = sketches_of s ns;
        })) → (o : Option At) → phrase_of s n (under values c) stand.at ≡ o
        → option_and_then (run s values es)
        (option_and_then (λ at. Some (record { at = at; found = stand.found; own = stand.own; children = phrases_of s ns })) o) ≡ Some after
        → Sketched s values (Sub c ∷ es) (more n ns) stand after k
    by later None w m = cc
    by later (Some at) w m =
        let mid : Stand = record { at = at; found = stand.found; own = stand.own; children = phrases_of s ns } in
        let one : Same s n stand.at at = same.0 (under values c) stand.at at w in
        let passes : pass s values (Sub c) stand ≡ Some mid =
        ap (λ ps. pass_child (under values c) ps stand) children
        ∙ ap (option_and_then (λ a. Some (record { at = a; found = stand.found; own = stand.own; children = phrases_of s ns }))) w in
        let child : sketch_of s n k.place ≡ skeleton_at s n stand.at = ap (sketch_of s n) p ∙ sym one.skeletons in
        child_on s values (Sub c) es n ns stand mid after k
        (record {
          place = (out-Skeleton (sketch_of s n k.place)).end;
          words = k.words;
          children = k.children ++ sketch_of s n k.place ∷ [];
          left = sketches_of s ns;
        }) passes refl refl (ap (λ ls. sketch_child ls k) left) refl (ap (λ x. k.children ++ x ∷ []) child) (later at w m)
walk_sketch s values (e ∷ es) ns stand after k same children p left h =
    by (λ mid kept k'. walk_sketch s values es ns mid after (sketch_on s e k) same (kept.children ∙ children) (sym kept.place)
    ((plain_parts s e stand.at k p refl).left ∙ left) k') (pass s values e stand) refl h
  where
    by : ((mid : Stand) → Kept e k s stand mid → run s values es mid ≡ Some after → Sketched s values es ns mid after (sketch_on s e k)) → (o : Option Stand)
        → pass s values e stand ≡ o → option_and_then (run s values es) o ≡ Some after → Sketched s values (e ∷ es) ns stand after k
    by later None w m = cc
    by later (Some mid) w m =
        let parts : Plain s e stand.at k = plain_parts s e stand.at k p refl in
        kept_on s values e es ns stand mid after k w parts.words parts.children parts.here (later mid (plain_kept s values e stand mid k p refl w) m)

abbrev end_in : Skeleton-F Skeleton → ℕ
end_in layer = layer.end

-- the parts of a node, one after another
node_same : (s : Setting) (number : ℕ) (values : List (ℕ × Value)) (found : List ℕ) (children : Nodes) (asked : Test) (at after : At) (rule : Rule)
    → SameNodes s children → rule_with s.grammar number ≡ Some rule → phrase s rule values found (phrases_of s children) asked at ≡ Some after
    → Same s (node number values found children) at after
node_same s number values found children asked at after rule same h k =
    let parts : Parts s rule values found (phrases_of s children) asked at after = phrase_parts s rule values found (phrases_of s children) asked at after k in
    let first : Stand = record { at = at; found = found; own = own_values rule values; children = phrases_of s children } in
    let from : Sketch = sketch_from at.place (sketches_of s children) in
    let walked : Sketched s values rule.body children first parts.stand from =
    walk_sketch s values rule.body children first parts.stand from same refl refl refl parts.ran in
    let body : body_of s.grammar number ≡ rule.body = ap (λ o. option_map_or (λ r. r.body) o []) h in
    let ends : end_place s rule values first ≡ parts.stand.at.place = ap (λ o. option_map_or (λ x. x.at.place) o at.place) parts.ran in
    record {
      skeletons = ap (λ o. option_map_or
          (λ r. skeleton number at.place (end_place s r values (start r values found (phrases_of s children) at)) found
          (met (word_here s) s values r.body (start r values found (phrases_of s children) at))
          (skeletons_at s children (met child_here s values r.body (start r values found (phrases_of s children) at)))) o
          (skeleton number at.place at.place found [] [])) h
          ∙ ap (λ e. skeleton number at.place e found (met (word_here s) s values rule.body first)
          (skeletons_at s children (met child_here s values rule.body first))) (ends ∙ sym walked.place)
          ∙ ap (λ ws. skeleton number at.place (sketch_over s rule.body from).place found ws
          (skeletons_at s children (met child_here s values rule.body first))) (sym walked.words)
          ∙ ap (λ cs. skeleton number at.place (sketch_over s rule.body from).place found (sketch_over s rule.body from).words cs) (sym walked.children)
          ∙ ap (λ es. sketched number found at.place (sketch_over s es from)) (sym body);
      end = ap end_in (out-roll-Skeleton
          (record {
            rule = number;
            start = at.place;
            end = (sketch_over s (body_of s.grammar number) from).place;
            found = found;
            words = (sketch_over s (body_of s.grammar number) from).words;
            children = (sketch_over s (body_of s.grammar number) from).children;
          }))
          ∙ ap (λ es. (sketch_over s es from).place) body ∙ walked.place ∙ ap (λ a. a.place) (sym parts.ends);
    }

mutual
  pub same_node : (s : Setting) (n : Node) → SameNode s n
  same_node s (node number values found children) asked at after h = by (same_nodes s children) (rule_with s.grammar number) refl h
    where
      by : SameNodes s children → (o : Option Rule) → rule_with s.grammar number ≡ o
          → option_and_then (λ r. phrase s r values found (phrases_of s children) asked at) o ≡ Some after → Same s (node number values found children) at after
      by same None w k = cc
      by same (Some rule) w k = node_same s number values found children asked at after rule same w k

  pub same_nodes : (s : Setting) (ns : Nodes) → SameNodes s ns
  same_nodes s none = tt
  same_nodes s (more n ns) = (same_node s n, same_nodes s ns)

-- the sketch of a derivation is its skeleton
pub skeleton_of_is : (s : Setting) (tree : Node) → IsDerivation s tree → skeleton_of s tree ≡ sketch_of s tree 0
skeleton_of_is s tree h =
    (same_node s tree text_category (record { place = 0; list = [] }) (record { place = length s.tokens; list = h.0 }) h.1).skeletons
