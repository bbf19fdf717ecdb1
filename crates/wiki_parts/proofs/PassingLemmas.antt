-- The names in what a skeleton means are those of the skeleton: each name in its structure passes a test that each of its names passes.
use Rattle.std.proofs.Common.{◌≡◌, ℕ, zero, suc, ◌&&◌, Bool, true, false, cond, List, [], ◌∷◌, ◌++◌, Option, Some, None, refl, sym, ap, subst, ◌∙◌}
use Rattle.std.specs.Prelude.{◌==◌, filter, flat_map, slice_get, slice_index, slice_index_or}
use Rattle.std.specs.Option.{option_map_or}
use Rattle.std.specs.List.{list_all}
use Rattle.std.proofs.lemmas.List.Folds.{list_all-append}
use Rattle.std.proofs.lemmas.Bool.{and_from}
use Rattle.wiki_base.specs.declared.numbers.WordId.{WordId}
use Rattle.wiki_base.proofs.BoolLaws.{and_first, and_second}
use Rattle.codeco_terms.specs.declared.rules.Label.{Label}
use Rattle.codeco_terms.specs.declared.rules.Label.TheVariants as label
use Rattle.codeco_terms.specs.GrammarParts.{GrammarParts}
use Rattle.logic_terms.specs.declared.structures.Thing.{Thing}
use Rattle.logic_terms.specs.declared.structures.Thing.TheVariants.{Ref, Name}
use Rattle.logic_terms.specs.Structure.{Conditions, Structure, IsA, AreRelated, AreSame, Negation, Implication, Disjunction, no_condition, also_condition, structure}
use Rattle.codeco_terms.specs.declared.elements.Element.{Element}
use Rattle.codeco_terms.specs.declared.elements.Element.TheVariants.{Terminal, Preterminal, Sub, Position, Opener, Forward, Strong, Back, NoBack}
use Rattle.derivation_trees.specs.declared.skeletons.Skeleton.{Skeleton, out-Skeleton}
use Rattle.derivation_trees.specs.declared.skeletons.Skeleton.TheViews.{out-roll-Skeleton}
use Rattle.derivation_trees.specs.Trees.{Node, Nodes, node, none, more}
use Rattle.derivation_trees.specs.Settings.{Setting}
use Rattle.derivation_trees.specs.Sentences.{setting_of}
use Rattle.derivation_trees.specs.Skeletons.{skeleton}
use Rattle.derivation_trees.specs.Sketches.{Sketch, sketch_on, sketch_child, sketch_over, sketch_from, sketch_of, sketches_of, body_of}
use Rattle.derivations.proofs.SkeletonLemmas.{skeleton_of_is}
use Rattle.drs_build.specs.Built.{IsDerived}
use Rattle.drs_build.specs.Joining.{◌⊕◌, empty, only, introduced}
use Rattle.drs_build.specs.Joining as joining
use Rattle.drs_build.specs.Meanings.{Meaning, nothing, saying, bar, verb_phrase, noun_phrase, Made, meaning}
use Rattle.drs_build.specs.Nodes.{label_of, is_meant, is_naming, names_of, own_name_in, no_word, term_at, meaning_in, meaning_of, made_in, position_in}
use Rattle.drs_build.proofs.NodeLemmas.{meaning_by, meaning_none, names_of_is}
use Rattle.wiki_parts.proofs.Mentions.{thing_passes, names_pass, names_pass_all, names_pass_in}

module _ (test : WordId → Bool) where
  -- what a phrase means says nothing of a name that doesn't pass, where what it is said of passes
  pub record Passing (m : Meaning) : Type 0 where
    pub says : names_pass test m.says ≡ true
    pub on : (x : Thing) → thing_passes test x ≡ true → names_pass test (m.on x) ≡ true
    pub term : thing_passes test m.term ≡ true
    pub around : (k : Structure) → names_pass test k ≡ true → names_pass test (m.around k) ≡ true

  alone : (b : Bool) → b ≡ true → (b && true) ≡ true
  alone b h = and_from b true h refl

  conditions_pass : (cs ds : Conditions) → names_pass_all test cs ≡ true → names_pass_all test ds ≡ true → names_pass_all test (joining.both cs ds) ≡ true
  conditions_pass no_condition ds h g = g
  conditions_pass (also_condition c cs) ds h g =
      and_from (names_pass_in test c) (names_pass_all test (joining.both cs ds)) (and_first (names_pass_in test c) (names_pass_all test cs) h)
      (conditions_pass cs ds (and_second (names_pass_in test c) (names_pass_all test cs) h) g)

  joined : (j k : Structure) → names_pass test j ≡ true → names_pass test k ≡ true → names_pass test (j ⊕ k) ≡ true
  joined (structure rs cs) (structure qs ds) h g = conditions_pass cs ds h g

  -- one condition alone
  isa : (noun : WordId) (t : Thing) → thing_passes test t ≡ true → names_pass test (only (IsA noun t)) ≡ true
  isa noun t h = alone (thing_passes test t) h

  related : (word : WordId) (t u : Thing) → thing_passes test t ≡ true → thing_passes test u ≡ true → names_pass test (only (AreRelated word t u)) ≡ true
  related word t u h g = alone (thing_passes test t && thing_passes test u) (and_from (thing_passes test t) (thing_passes test u) h g)

  same : (t u : Thing) → thing_passes test t ≡ true → thing_passes test u ≡ true → names_pass test (only (AreSame t u)) ≡ true
  same t u h g = alone (thing_passes test t && thing_passes test u) (and_from (thing_passes test t) (thing_passes test u) h g)

  negation : (k : Structure) → names_pass test k ≡ true → names_pass test (only (Negation k)) ≡ true
  negation k h = alone (names_pass test k) h

  implication : (k l : Structure) → names_pass test k ≡ true → names_pass test l ≡ true → names_pass test (only (Implication k l)) ≡ true
  implication k l h g = alone (names_pass test k && names_pass test l) (and_from (names_pass test k) (names_pass test l) h g)

  disjunction : (k l : Structure) → names_pass test k ≡ true → names_pass test l ≡ true → names_pass test (only (Disjunction k l)) ≡ true
  disjunction k l h g = alone (names_pass test k && names_pass test l) (and_from (names_pass test k) (names_pass test l) h g)

  -- meanings of each kind
  passing_nothing : Passing nothing
  passing_nothing = record { says = refl; on = λ x h. refl; term = refl; around = λ k h. h }

  passing_saying : (k : Structure) → names_pass test k ≡ true → Passing (saying k)
  passing_saying k h = record { says = h; on = λ x g. refl; term = refl; around = λ l g. g }

  passing_bar : (p : ℕ) (k : Structure) → names_pass test k ≡ true → Passing (bar p k)
  passing_bar p k h = record { says = h; on = λ x g. refl; term = refl; around = λ l g. g }

  passing_verb : (on : Thing → Structure) → ((x : Thing) → thing_passes test x ≡ true → names_pass test (on x) ≡ true) → Passing (verb_phrase on)
  passing_verb on h = record { says = refl; on = h; term = refl; around = λ l g. g }

  passing_noun : (t : Thing) (around : Structure → Structure) → thing_passes test t ≡ true
      → ((k : Structure) → names_pass test k ≡ true → names_pass test (around k) ≡ true) → Passing (noun_phrase t around)
  passing_noun t around h g = record { says = refl; on = λ x e. refl; term = h; around = g }

  -- the meaning of each label, where its parts' meanings pass, its word where that is a name, and what it refers to
  module _ (m : Made) (f : Passing m.first) (s : Passing m.second) (found : thing_passes test m.found ≡ true) where
    thing : names_pass test (introduced m.here ⊕ m.first.on (Ref m.here)) ≡ true
    thing = joined (introduced m.here) (m.first.on (Ref m.here)) refl (f.on (Ref m.here) refl)

    pub label_passes : (l : Label) → (is_naming (Some l) ≡ true → test m.word ≡ true) → Passing (meaning l m)
    label_passes label.Statement named = f
    label_passes label.Ask named = f
    label_passes label.If named = passing_saying (only (Implication m.first.says m.second.says)) (implication m.first.says m.second.says f.says s.says)
    label_passes label.Say named = passing_saying (m.first.around (m.second.on m.first.term)) (f.around (m.second.on m.first.term) (s.on m.first.term f.term))
    label_passes label.And named = record {
      says = joined m.first.says m.second.says f.says s.says;
      on = λ x h. joined (m.first.on x) (m.second.on x) (f.on x h) (s.on x h);
      term = refl;
      around = λ k h. h;
    }
    label_passes label.Or named = record {
      says = disjunction m.first.says m.second.says f.says s.says;
      on = λ x h. disjunction (m.first.on x) (m.second.on x) (f.on x h) (s.on x h);
      term = refl;
      around = λ k h. h;
    }
    label_passes label.Pass named = f
    label_passes label.Not named = passing_verb (λ x. only (Negation (m.first.on x))) (λ x h. negation (m.first.on x) (f.on x h))
    label_passes label.Does named = passing_verb (λ x. m.first.around (only (AreRelated m.word x m.first.term)))
        (λ x h. f.around (only (AreRelated m.word x m.first.term)) (related m.word x m.first.term h f.term))
    label_passes label.Done named = passing_verb (λ x. m.first.around (only (AreRelated m.word m.first.term x)))
        (λ x h. f.around (only (AreRelated m.word m.first.term x)) (related m.word m.first.term x f.term h))
    label_passes label.Class named = passing_verb (λ x. only (IsA m.word x) ⊕ m.first.on x)
        (λ x h. joined (only (IsA m.word x)) (m.first.on x) (isa m.word x h) (f.on x h))
    label_passes label.Top named = passing_verb (λ x. empty) (λ x h. refl)
    label_passes label.Same named = passing_verb (λ x. m.first.around (only (AreSame x m.first.term)))
        (λ x h. f.around (only (AreSame x m.first.term)) (same x m.first.term h f.term))
    label_passes label.Only named =
        passing_verb (λ x. only (Implication (introduced m.here ⊕ only (AreRelated m.word x (Ref m.here))) (only (IsA m.other_word (Ref m.here)))))
        (λ x h. implication (introduced m.here ⊕ only (AreRelated m.word x (Ref m.here))) (only (IsA m.other_word (Ref m.here)))
        (joined (introduced m.here) (only (AreRelated m.word x (Ref m.here))) refl (related m.word x (Ref m.here) h refl)) refl)
    label_passes label.Gap named = passing_verb (λ x. m.first.around (only (AreRelated m.word m.first.term x)))
        (λ x h. f.around (only (AreRelated m.word m.first.term x)) (related m.word m.first.term x f.term h))
    label_passes label.Name named = passing_noun (Name m.word) (λ k. k) (named refl) (λ k h. h)
    label_passes label.Refer named = passing_noun m.found (λ k. k) found (λ k h. h)
    label_passes label.Var named = passing_noun (Ref m.here) (λ k. introduced m.here ⊕ k) refl (λ k h. joined (introduced m.here) k refl h)
    label_passes label.Noun named =
        passing_bar m.here ((introduced m.here ⊕ only (IsA m.word (Ref m.here))) ⊕ m.first.on (Ref m.here))
        (joined (introduced m.here ⊕ only (IsA m.word (Ref m.here))) (m.first.on (Ref m.here)) refl (f.on (Ref m.here) refl))
    label_passes label.Part named =
        passing_bar m.here (introduced m.here ⊕ m.first.around (only (AreRelated m.word (Ref m.here) m.first.term)))
        (joined (introduced m.here) (m.first.around (only (AreRelated m.word (Ref m.here) m.first.term))) refl
        (f.around (only (AreRelated m.word (Ref m.here) m.first.term)) (related m.word (Ref m.here) m.first.term refl f.term)))
    label_passes label.Some named = passing_noun (Ref m.first.referent) (λ k. m.first.says ⊕ k) refl (λ k h. joined m.first.says k f.says h)
    label_passes label.Every named = passing_noun (Ref m.first.referent) (λ k. only (Implication m.first.says k)) refl
        (λ k h. implication m.first.says k f.says h)
    label_passes label.No named = passing_noun (Ref m.first.referent) (λ k. only (Implication m.first.says (only (Negation k)))) refl
        (λ k h. implication m.first.says (only (Negation k)) f.says (negation k h))
    label_passes label.Something named =
        passing_noun (Ref m.here) (λ k. (introduced m.here ⊕ m.first.on (Ref m.here)) ⊕ k) refl
        (λ k h. joined (introduced m.here ⊕ m.first.on (Ref m.here)) k thing h)
    label_passes label.Everything named =
        passing_noun (Ref m.here) (λ k. only (Implication (introduced m.here ⊕ m.first.on (Ref m.here)) k)) refl
        (λ k h. implication (introduced m.here ⊕ m.first.on (Ref m.here)) k thing h)
    label_passes label.Nothing named =
        passing_noun (Ref m.here) (λ k. only (Implication (introduced m.here ⊕ m.first.on (Ref m.here)) (only (Negation k)))) refl
        (λ k h. implication (introduced m.here ⊕ m.first.on (Ref m.here)) (only (Negation k)) thing (negation k h))
    label_passes label.What named = passing_bar m.here (introduced m.here ⊕ m.first.on (Ref m.here)) thing
    label_passes label.Which named =
        passing_bar m.first.referent (m.first.says ⊕ m.second.on (Ref m.first.referent))
        (joined m.first.says (m.second.on (Ref m.first.referent)) f.says (s.on (Ref m.first.referent) refl))
    label_passes label.Whichobj named =
        passing_bar m.first.referent (m.first.says ⊕ m.second.around (only (AreRelated m.word m.second.term (Ref m.first.referent))))
        (joined m.first.says (m.second.around (only (AreRelated m.word m.second.term (Ref m.first.referent)))) f.says
        (s.around (only (AreRelated m.word m.second.term (Ref m.first.referent))) (related m.word m.second.term (Ref m.first.referent) s.term refl)))
    label_passes label.Mark named = passing_nothing

  -- Names with their positions

  abbrev pub words_pass : List (ℕ × WordId) → Bool
  words_pass names = list_all (λ n. test n.1) names

  term_passes : (names : List (ℕ × WordId)) (p : ℕ) → words_pass names ≡ true → thing_passes test (term_at names p) ≡ true
  term_passes [] p h = refl
  term_passes (n ∷ ns) p h = by (n.0 == p) (term_passes ns p (and_second (test n.1) (words_pass ns) h))
    where
      by : (b : Bool) → thing_passes test (term_at ns p) ≡ true → thing_passes test (cond b (Name n.1) (term_at ns p)) ≡ true
      by true later = and_first (test n.1) (words_pass ns) h
      by false later = later

  first_passes : (xs ys : List (ℕ × WordId)) → words_pass (xs ++ ys) ≡ true → words_pass xs ≡ true
  first_passes xs ys h = and_first (words_pass xs) (words_pass ys) (sym (list_all-append (λ n. test n.1) xs ys) ∙ h)

  second_passes : (xs ys : List (ℕ × WordId)) → words_pass (xs ++ ys) ≡ true → words_pass ys ≡ true
  second_passes xs ys h = and_second (words_pass xs) (words_pass ys) (sym (list_all-append (λ n. test n.1) xs ys) ∙ h)

  -- Skeletons

  module _ (g : GrammarParts) (names : List (ℕ × WordId)) (all : words_pass names ≡ true) where
    abbrev pub PassesIn : Skeleton → Type 0
    PassesIn sk = words_pass (names_of g sk) ≡ true → Passing (meaning_in g names sk)

    abbrev pub EachPasses : List Skeleton → Type 0
    EachPasses [] = Unit {0}
    EachPasses (sk ∷ sks) = PassesIn sk × EachPasses sks

    -- the children that are no marks, whose names pass
    nth_passes : (sks : List Skeleton) (i : ℕ) → EachPasses sks → words_pass (flat_map (names_of g) sks) ≡ true
        → Passing (option_map_or (meaning_in g names) (slice_get (filter (λ c. is_meant g (out-Skeleton c).rule) sks) i) nothing)
    nth_passes [] i each h = passing_nothing
    nth_passes (sk ∷ sks) i each h = by (λ j. nth_passes sks j each.1 (second_passes (names_of g sk) (flat_map (names_of g) sks) h))
        (is_meant g (out-Skeleton sk).rule) i
      where
        by : ((j : ℕ) → Passing (option_map_or (meaning_in g names) (slice_get (filter (λ c. is_meant g (out-Skeleton c).rule) sks) j) nothing))
            → (b : Bool) (i : ℕ) → Passing
            (option_map_or (meaning_in g names)
            (slice_get (cond b (sk ∷ filter (λ c. is_meant g (out-Skeleton c).rule) sks) (filter (λ c. is_meant g (out-Skeleton c).rule) sks)) i) nothing)
        by later true zero = each.0 (first_passes (names_of g sk) (flat_map (names_of g) sks) h)
        by later true (suc i) = later i
        by later false i = later i

    -- a skeleton whose children pass does so
    pub node_passes : (sk : Skeleton) → EachPasses (out-Skeleton sk).children → PassesIn sk
    node_passes sk each h = by (label_of g (out-Skeleton sk).rule) refl
      where
        parts : words_pass (own_name_in g sk ++ flat_map (names_of g) (out-Skeleton sk).children) ≡ true
        parts = ap words_pass (sym (names_of_is g sk)) ∙ h

        children : words_pass (flat_map (names_of g) (out-Skeleton sk).children) ≡ true
        children = second_passes (own_name_in g sk) (flat_map (names_of g) (out-Skeleton sk).children) parts

        own : words_pass (own_name_in g sk) ≡ true
        own = first_passes (own_name_in g sk) (flat_map (names_of g) (out-Skeleton sk).children) parts

        here : (o : Option Label) → is_naming o ≡ true
            → words_pass (cond (is_naming o) ((position_in g sk, slice_index_or (out-Skeleton sk).words 0 no_word) ∷ []) []) ≡ true
            → test (slice_index_or (out-Skeleton sk).words 0 no_word) ≡ true
        here o e w = and_first (test (slice_index_or (out-Skeleton sk).words 0 no_word)) true
            (ap (λ b. words_pass (cond b ((position_in g sk, slice_index_or (out-Skeleton sk).words 0 no_word) ∷ []) [])) (sym e) ∙ w)

        by : (o : Option Label) → label_of g (out-Skeleton sk).rule ≡ o → Passing (meaning_in g names sk)
        by None e = subst Passing (sym (meaning_none g names sk e)) passing_nothing
        by (Some l) e =
            subst Passing (sym (meaning_by g names sk l e))
            (label_passes (made_in g names sk) (nth_passes (out-Skeleton sk).children 0 each children) (nth_passes (out-Skeleton sk).children 1 each children)
            (term_passes names (slice_index (out-Skeleton sk).found 0) all) l
            (λ named. here (Some l) named
            (ap (λ o. words_pass (cond (is_naming o) ((position_in g sk, slice_index_or (out-Skeleton sk).words 0 no_word) ∷ []) [])) (sym e) ∙ own)))

  -- The skeleton of a tree passes: each node does, where its children do.

  module _ (s : Setting) (names : List (ℕ × WordId)) (all : words_pass names ≡ true) where
    abbrev Passes : Skeleton → Type 0
    Passes sk = PassesIn s.grammar names all sk

    abbrev Each : List Skeleton → Type 0
    Each sks = EachPasses s.grammar names all sks

    abbrev Later : List (ℕ → Skeleton) → Type 0
    Later [] = Unit {0}
    Later (child ∷ left) = ((place : ℕ) → Passes (child place)) × Later left

    appended : (sks : List Skeleton) (sk : Skeleton) → Each sks → Passes sk → Each (sks ++ sk ∷ [])
    appended [] sk each one = (one, tt)
    appended (x ∷ xs) sk each one = (each.0, appended xs sk each.1 one)

    over : (es : List Element) (k : Sketch) → Each k.children → Later k.left → Each (sketch_over s es k).children
    over [] k each later = each
    over (Terminal t ∷ es) k each later = over es (sketch_on s (Terminal t) k) each later
    over (Preterminal c ∷ es) k each later = over es (sketch_on s (Preterminal c) k) each later
    over (Sub c ∷ es) k each later = by (λ (k : Sketch) (e : Each k.children) (l : Later k.left). over es k e l) k.left later
      where
        by : ((k : Sketch) → Each k.children → Later k.left → Each (sketch_over s es k).children)
            → (left : List (ℕ → Skeleton)) → Later left → Each (sketch_over s es (sketch_child left k)).children
        by on [] unit = on k each later
        by on (child ∷ left) rest =
            on (record { place = (out-Skeleton (child k.place)).end; words = k.words; children = k.children ++ child k.place ∷ []; left = left })
            (appended k.children (child k.place) each (rest.0 k.place)) rest.1
    over (Position x ∷ es) k each later = over es k each later
    over (Opener ∷ es) k each later = over es k each later
    over (Forward c ∷ es) k each later = over es k each later
    over (Strong c ∷ es) k each later = over es k each later
    over (Back ps ns ∷ es) k each later = over es k each later
    over (NoBack ps ∷ es) k each later = over es k each later

    mutual
      pub sketch_passes : (n : Node) (place : ℕ) → Passes (sketch_of s n place)
      sketch_passes (node number values found children) place =
          let after = sketch_over s (body_of s.grammar number) (sketch_from place (sketches_of s children)) in
          let out = out-roll-Skeleton (record {
            rule = number;
            start = place;
            end = after.place;
            found = found;
            words = after.words;
            children = after.children;
          }) in
          node_passes s.grammar names all (skeleton number place after.place found after.words after.children)
          (subst Each (sym (ap (λ layer. layer.children) out))
          (over (body_of s.grammar number) (sketch_from place (sketches_of s children)) tt (sketches_pass children)))

      sketches_pass : (ns : Nodes) → Later (sketches_of s ns)
      sketches_pass none = tt
      sketches_pass (more n ns) = (sketch_passes n, sketches_pass ns)

  -- what a derivation's skeleton means has no names but those of the skeleton
  pub meaning_passes : (g : GrammarParts) (sk : Skeleton) → IsDerived g sk → words_pass (names_of g sk) ≡ true → names_pass test (meaning_of g sk).says ≡ true
  meaning_passes g sk d h =
      let is : sketch_of (setting_of g d.lexicon d.tokens) d.tree 0 ≡ sk = sym (d.is ∙ skeleton_of_is (setting_of g d.lexicon d.tokens) d.tree d.derives) in
      let passing : PassesIn g (names_of g sk) h sk =
      subst (PassesIn g (names_of g sk) h) is (sketch_passes (setting_of g d.lexicon d.tokens) (names_of g sk) h d.tree 0) in
      (passing h).says
