-- What the grammar spells is read so.
use Rattle.std.proofs.Common.{◌≡◌, ℕ, ◌+◌, ◌-◌, ◌<◌, ◌≤◌, Bool, true, false, cond, ◌&&◌, eqb, eq-eqb, ltb, List, [], ◌∷◌, ◌++◌, map, length, Option, Some, None, Ok, Err, refl, sym, ap, subst, ◌∙◌, append_assoc, append-nil, arith}
use Rattle.std.specs.Prelude.{Result, codes}
use Rattle.std.specs.List.{flat_map, AllByRecursion}
use Rattle.std.proofs.lemmas.Bool.{and_parts, eqb-true, ltb-true}
use Rattle.std.proofs.Math.Bool.{and-false}
use Rattle.wiki_base.specs.declared.numbers.WordId.{WordId}
use Rattle.logic_terms.specs.declared.expressions.Role.{Role}
use Rattle.logic_terms.specs.Concept.{Concept, Everything, Atomic, ComplementOf, Claim}
use Rattle.owl_tokens.specs.declared.tokens.TokenKind.{TokenKind}
use Rattle.owl_tokens.specs.declared.tokens.TokenKind.TheVariants as token
use Rattle.owl_reader.specs.declared.faults.Trouble.{Trouble}
use Rattle.owl_reader.specs.declared.faults.Trouble.TheVariants as trouble
use Rattle.owl_reader.specs.declared.kinds.Construct.{Construct}
use Rattle.owl_reader.specs.declared.kinds.Construct.TheVariants as construct
use Rattle.owl_reader.specs.declared.kinds.EntityKind.TheVariants as kind
use Rattle.owl_reader.specs.declared.kinds.Entity.{Entity}
use Rattle.owl_reader.specs.declared.kinds.Sort.{Sort}
use Rattle.owl_reader.specs.declared.kinds.Sort.TheVariants as sort
use Rattle.owl_reader.specs.declared.kinds.Makes.{Makes}
use Rattle.owl_reader.specs.declared.kinds.Makes.TheVariants as makes
use Rattle.owl_reader.specs.declared.stand.Stand.{Stand}
use Rattle.owl_reader.specs.declared.stand.Stand.TheVariants as stand
use Rattle.owl_reader.specs.Grammar.{same_bytes, keyword, construct_among, item_constructs, sorts, repeats, makes_of, takes_annotations}
use Rattle.owl_reader.specs.Names.{colon_at, Declared, declare, iri_of, is_thing, is_nothing, is_bottom_property, word_of, first_prefixes}
use Rattle.owl_reader.specs.Claims.{claims_by}
use Rattle.owl_reader.specs.Reading.{State, Frame}
use Rattle.owl_reader.specs.Reading as machine
use Rattle.owl_grammar.specs.Files.{Piece, word, iri_piece, sign, Name, Tree, Named, Built, Trees, no_tree, also_tree, Item, Note, Statement, Line, File, between, name_text, spelled, spelled_all, spelled_note, spelled_item, spelled_line, spelled_file, is_open, is_close, are_matched, is_prefix, is_in_profile_with, is_name, full_iri, takes_names, constructs_of, IsOneOf, Fits, Fill, AreMatched, IsItem, declared_by, AreLines, IsFile, entity, named_entity, mentioned, mentioned_in, mentioned_by, each_once, entities_of, Parts, no_part, one_class, one_role, one_name, named_role, named_part, built_part, part, parts_in, claims_with, claims_in, claims_of_file}
use Rattle.owl_grammar.proofs.Machine.{free, free_by, onward, runs, chain, step_on, at}
use Rattle.owl_grammar.proofs.Numbers.{Fronts, fronts_before, once_append, number_stays}
use Rattle.owl_grammar.proofs.Words.{named_word, NameFacts, name_facts, prefix_parts, profile_parts, keyword_has_no_colon, PartFacts, part_facts, makes_a_part, item_facts, annotation_has_no_colon}

abbrev pub ok : State → Result State Trouble
ok s = Ok s

abbrev pub err : Trouble → Result State Trouble
err x = Err x

pub other_number : (a b : ℕ) → b < a → eqb a b ≡ false
other_number a b lt = by (eqb a b) refl
  where
    by : (t : Bool) → eqb a b ≡ t → eqb a b ≡ false
    by true h = let e : a ≡ b = eqb-true a b h in absurd (let none : ⊥ = omega arith in none)
    by false h = h

-- Frames

abbrev pub frame : Construct → Bool → List Sort → List Concept → List Role → List WordId → Frame
frame c fresh wanted classes roles names = record { construct = c; fresh = fresh; wanted = wanted; classes = classes; roles = roles; names = names }

-- a frame with one more part
abbrev pub grown : Parts → Frame → Frame
grown p f = frame f.construct false (machine.behind f.wanted) (f.classes ++ p.classes) (f.roles ++ p.roles) (f.names ++ p.names)

class_grows : (c : Concept) (f : Frame) → machine.with_class c f ≡ grown (one_class c) f
class_grows c f = λ i. frame f.construct false (machine.behind f.wanted) (f.classes ++ c ∷ []) (sym (append-nil f.roles) i) (sym (append-nil f.names) i)

role_grows : (r : Role) (f : Frame) → machine.with_role r f ≡ grown (one_role r) f
role_grows r f = λ i. frame f.construct false (machine.behind f.wanted) (sym (append-nil f.classes) i) (f.roles ++ r ∷ []) (sym (append-nil f.names) i)

name_grows : (a : WordId) (f : Frame) → machine.with_name a f ≡ grown (one_name a) f
name_grows a f = λ i. frame f.construct false (machine.behind f.wanted) (sym (append-nil f.classes) i) (sym (append-nil f.roles) i) (f.names ++ a ∷ [])

any_grows : (f : Frame) → machine.with_any f ≡ grown no_part f
any_grows f = λ i. frame f.construct false (machine.behind f.wanted) (sym (append-nil f.classes) i) (sym (append-nil f.roles) i) (sym (append-nil f.names) i)

-- a frame is fresh until a part stands in it
abbrev still : Bool → Trees → Bool
still fresh no_tree = fresh
still fresh (also_tree t ts) = still false ts

-- the ontology's frame
abbrev pub bottom : Frame
bottom = frame construct.Ontology true [] [] [] []

-- Names

-- a name whose prefix is declared, where parts may stand
name_found : (here : State) (m : Name) → NameFacts here.prefixes m → machine.is_prefix_name here.stand ≡ false → machine.is_inside here.stand ≡ true
    → machine.name here m.prefix m.local ≡ machine.name_by (machine.top_sort here.frames) here (full_iri here.prefixes m)
name_found here m facts no_line inside =
    let iri : List ℕ = facts.front ++ m.local in
    ap (λ b. cond b (err trouble.Unsupported) (machine.name_with (iri_of here.prefixes m.prefix) here m.prefix m.local)) facts.no_blank
    ∙ (ap (λ o. machine.name_with o here m.prefix m.local) facts.found
    ∙ (ap (λ b. cond b (err trouble.Unsupported) (cond (is_bottom_property iri) (err trouble.Unsupported) (machine.name_in_place here m.prefix m.local iri)))
    facts.no_top
    ∙ (ap (λ b. cond b (err trouble.Unsupported) (machine.name_in_place here m.prefix m.local iri)) facts.no_bottom
    ∙ (ap (λ b. cond b (machine.prefix_named here m.prefix m.local)
    (cond (machine.is_inside here.stand) (machine.name_by (machine.top_sort here.frames) here iri) (err trouble.Syntax))) no_line
    ∙ (ap (λ b. cond b (machine.name_by (machine.top_sort here.frames) here iri) (err trouble.Syntax)) inside
    ∙ ap (λ i. machine.name_by (machine.top_sort here.frames) here i) (sym facts.full))))))

-- numbers that are told early are those of the whole file
named_numbers : (s : Sort) (es all : List Entity) (text : List ℕ) → Fronts (each_once es (named_entity s text)) all
    → named_part (word_of es) s text ≡ named_part (word_of all) s text
named_numbers sort.Class es all text fronts = by (is_thing text) (is_nothing text) fronts
  where
    by : (a b : Bool) → Fronts (each_once es (cond a [] (cond b [] (entity kind.Class text ∷ [])))) all
        → one_class (cond a Everything (cond b (ComplementOf Everything) (Atomic (word_of es (entity kind.Class text)))))
        ≡ one_class (cond a Everything (cond b (ComplementOf Everything) (Atomic (word_of all (entity kind.Class text)))))
    by true b f = refl
    by false true f = refl
    by false false f = ap (λ w. one_class (Atomic w)) (number_stays es all (entity kind.Class text) f)
named_numbers sort.Property es all text fronts =
    ap (λ (w : WordId). one_role (record { id = w; inverted = false })) (number_stays es all (entity kind.Property text) fronts)
named_numbers sort.PropertyName es all text fronts =
    ap (λ (w : WordId). one_role (record { id = w; inverted = false })) (number_stays es all (entity kind.Property text) fronts)
named_numbers sort.Individual es all text fronts = ap one_name (number_stays es all (entity kind.Individual text) fronts)
named_numbers (sort.Name k) es all text fronts = refl
named_numbers sort.AnnotationName es all text fronts = refl
named_numbers sort.Item es all text fronts = refl
named_numbers sort.Declared es all text fronts = refl

module _ (declared : Declared) (prefix iri : List ℕ) (claims : List Claim) where
  -- a state within these frames
  abbrev within : List Entity → List Frame → ℕ → State
  within es fs n = at declared prefix iri es claims fs stand.Within n

  -- a name is taken where something of the sort is wanted
  name_taken : (s : Sort) (f : Frame) (fs : List Frame) (es : List Entity) (n : ℕ) (text : List ℕ) → takes_names s ≡ true
      → machine.name_by (Some s) (within es (f ∷ fs) n) text
      ≡ ok (within (each_once es (named_entity s text)) (grown (named_part (word_of es) s text) f ∷ fs) n)
  name_taken sort.Class f fs es n text h = by (is_thing text) (is_nothing text)
    where
      by : (a b : Bool)
          → cond a (machine.given (within es (f ∷ fs) n) (machine.with_class Everything))
          (cond b (machine.given (within es (f ∷ fs) n) (machine.with_class (ComplementOf Everything)))
          (machine.given (machine.enter (within es (f ∷ fs) n) (entity kind.Class text))
          (machine.with_class (Atomic (word_of es (entity kind.Class text))))))
          ≡ ok (within (each_once es (cond a [] (cond b [] (entity kind.Class text ∷ []))))
          (grown (one_class (cond a Everything (cond b (ComplementOf Everything) (Atomic (word_of es (entity kind.Class text)))))) f ∷ fs) n)
      by true b = ap (λ g. ok (within es (g ∷ fs) n)) (class_grows Everything f)
      by false true = ap (λ g. ok (within es (g ∷ fs) n)) (class_grows (ComplementOf Everything) f)
      by false false =
          ap (λ g. ok (within (each_once es (entity kind.Class text ∷ [])) (g ∷ fs) n)) (class_grows (Atomic (word_of es (entity kind.Class text))) f)
  name_taken sort.Property f fs es n text h =
      ap (λ g. ok (within (each_once es (entity kind.Property text ∷ [])) (g ∷ fs) n)) (role_grows (named_role (word_of es) text) f)
  name_taken sort.PropertyName f fs es n text h =
      ap (λ g. ok (within (each_once es (entity kind.Property text ∷ [])) (g ∷ fs) n)) (role_grows (named_role (word_of es) text) f)
  name_taken sort.Individual f fs es n text h =
      ap (λ g. ok (within (each_once es (entity kind.Individual text ∷ [])) (g ∷ fs) n)) (name_grows (word_of es (entity kind.Individual text)) f)
  name_taken (sort.Name k) f fs es n text h = ap (λ g. ok (within (each_once es (entity k text ∷ [])) (g ∷ fs) n)) (any_grows f)
  name_taken sort.AnnotationName f fs es n text h = ap (λ g. ok (within es (g ∷ fs) n)) (any_grows f)
  name_taken sort.Item f fs es n text h = cc
  name_taken sort.Declared f fs es n text h = cc

  named_runs : (s : Sort) (f : Frame) (fs : List Frame) (es all : List Entity) (n : ℕ) (m : Name) → takes_names s ≡ true → is_name declared m ≡ true
      → machine.next_sort f ≡ Some s → Fronts (each_once es (named_entity s (full_iri declared m))) all
      → free (within es (f ∷ fs) n) (word (name_text m))
      ≡ ok (within (each_once es (named_entity s (full_iri declared m))) (grown (named_part (word_of all) s (full_iri declared m)) f ∷ fs) n)
  named_runs s f fs es all n m takes is wants fronts =
      let facts = name_facts declared m is in
      let here : State = within es (f ∷ fs) n in
      let full : List ℕ = full_iri declared m in
      named_word here m.prefix m.local facts.no_colon
      ∙ (name_found here m facts refl refl
      ∙ (ap (λ o. machine.name_by o here full) wants
      ∙ (name_taken s f fs es n full takes
      ∙ ap (λ p. ok (within (each_once es (named_entity s full)) (grown p f ∷ fs) n)) (named_numbers s es all full fronts))))

  -- a keyword begins its construct
  begins : (s : Sort) (here : State) (c : Construct) → IsOneOf (constructs_of s) c
      → machine.keyword_by (Some s) here (keyword c) ≡ ok (machine.moved here (stand.Opening c))
  begins sort.Class here c is = ap (λ o. machine.begin here o) is
  begins sort.Property here c is = ap (λ o. machine.begin here o) is
  begins sort.Declared here c is = ap (λ o. machine.begin here o) is
  begins sort.Item here c is = cc
  begins sort.Individual here c is = cc
  begins (sort.Name k) here c is = cc
  begins sort.PropertyName here c is = cc
  begins sort.AnnotationName here c is = cc

  keyword_runs : (s : Sort) (f : Frame) (fs : List Frame) (es : List Entity) (n : ℕ) (c : Construct) → machine.next_sort f ≡ Some s
      → IsOneOf (constructs_of s) c
      → PartFacts c → free (within es (f ∷ fs) n) (word (keyword c)) ≡ ok (at declared prefix iri es claims (f ∷ fs) (stand.Opening c) n)
  keyword_runs s f fs es n c wants is facts =
      let here : State = within es (f ∷ fs) n in
      let annotates : Bool = machine.may_annotate (f ∷ fs) in
      ap (λ o. machine.word_by o here (keyword c)) (keyword_has_no_colon c)
      ∙ (ap (λ b. cond (annotates && b) (ok (machine.moved here stand.AnnotationOpening)) (machine.keyword_by (machine.next_sort f) here (keyword c)))
      facts.no_annotation
      ∙ (ap (λ b. cond b (ok (machine.moved here stand.AnnotationOpening)) (machine.keyword_by (machine.next_sort f) here (keyword c))) (and-false annotates)
      ∙ (ap (λ o. machine.keyword_by o here (keyword c)) wants
      ∙ begins s here c is)))

  -- a construct that is a part is given to the frame around it
  finished_part : (m : Makes) (c : Construct) (fresh : Bool) (p : Parts) (f : Frame) (fs : List Frame) (es : List Entity) (n : ℕ) → makes_a_part m ≡ true
      → machine.finished m (within es (f ∷ fs) n) (frame c fresh [] p.classes p.roles p.names) ≡ ok (within es (grown (built_part m c p) f ∷ fs) n)
  finished_part makes.Class c fresh p f fs es n h =
      ap (λ g. ok (within es (g ∷ fs) n)) (class_grows (Rattle.owl_reader.specs.Claims.class_by c p.classes p.roles p.names) f)
  finished_part makes.Property c fresh p f fs es n h =
      ap (λ g. ok (within es (g ∷ fs) n)) (role_grows (Rattle.logic_terms.specs.Same.inverse (Rattle.owl_reader.specs.Claims.first_role p.roles)) f)
  finished_part makes.Declared c fresh p f fs es n h = ap (λ g. ok (within es (g ∷ fs) n)) (any_grows f)
  finished_part makes.Axioms c fresh p f fs es n h = cc
  finished_part makes.End c fresh p f fs es n h = cc

  -- one more part, and then the others
  one_more : (ws later : List Sort) (c : Construct) (fresh : Bool) (cs : List Concept) (rs : List Role) (ns : List WordId) (fs : List Frame) (es : List Entity)
      (n : ℕ) (t : Tree) (ts : Trees) (p q : Parts) (ms others : List Entity)
      → runs (within es (frame c fresh ws cs rs ns ∷ fs) n) (spelled t)
      ≡ ok (within (each_once es ms) (frame c false later (cs ++ p.classes) (rs ++ p.roles) (ns ++ p.names) ∷ fs) n)
      → runs (within (each_once es ms) (frame c false later (cs ++ p.classes) (rs ++ p.roles) (ns ++ p.names) ∷ fs) n) (spelled_all ts)
      ≡ ok (within (each_once (each_once es ms) others)
      (frame c (still false ts) [] ((cs ++ p.classes) ++ q.classes) ((rs ++ p.roles) ++ q.roles) ((ns ++ p.names) ++ q.names) ∷ fs) n)
      → runs (within es (frame c fresh ws cs rs ns ∷ fs) n) (spelled t ++ spelled_all ts)
      ≡ ok (within (each_once es (ms ++ others))
      (frame c (still false ts) [] (cs ++ (p.classes ++ q.classes)) (rs ++ (p.roles ++ q.roles)) (ns ++ (p.names ++ q.names)) ∷ fs) n)
  one_more ws later c fresh cs rs ns fs es n t ts p q ms others first rest =
      chain (within es (frame c fresh ws cs rs ns ∷ fs) n)
      (within (each_once es ms) (frame c false later (cs ++ p.classes) (rs ++ p.roles) (ns ++ p.names) ∷ fs) n)
      (within (each_once (each_once es ms) others)
      (frame c (still false ts) [] ((cs ++ p.classes) ++ q.classes) ((rs ++ p.roles) ++ q.roles) ((ns ++ p.names) ++ q.names) ∷ fs) n)
      (spelled t) (spelled_all ts) first rest
      ∙ (λ i. ok (within (sym (once_append es ms others) i)
      (frame c (still false ts) [] (append_assoc cs p.classes q.classes i) (append_assoc rs p.roles q.roles i) (append_assoc ns p.names q.names i) ∷ fs) n))

  -- the fronts of two stretches
  fronts_two : (es ms others all : List Entity) → Fronts (each_once es (ms ++ others)) all → Fronts (each_once (each_once es ms) others) all
  fronts_two es ms others all f = subst (λ xs. Fronts xs all) (once_append es ms others) f

  mutual
    tree_runs : (t : Tree) (s : Sort) (f : Frame) (fs : List Frame) (es all : List Entity) (n : ℕ) → Fits declared s t → machine.next_sort f ≡ Some s
        → Fronts (each_once es (mentioned declared s t)) all
        → runs (within es (f ∷ fs) n) (spelled t) ≡ ok (within (each_once es (mentioned declared s t)) (grown (part declared (word_of all) s t) f ∷ fs) n)
    tree_runs (Named m) s f fs es all n fits wants fronts =
        let full : List ℕ = full_iri declared m in
        let next : State = within (each_once es (named_entity s full)) (grown (named_part (word_of all) s full) f ∷ fs) n in
        step_on (within es (f ∷ fs) n) next next (word (name_text m)) [] (named_runs s f fs es all n m fits.0 fits.1 wants fronts) refl
    tree_runs (Built c ts) s f fs es all n fits wants fronts =
        let facts = part_facts s c (keyword c) fits.0 in
        let p : Parts = parts_in declared (word_of all) (sorts c) (repeats c) ts in
        let later : List Entity = each_once es (mentioned_in declared (sorts c) (repeats c) ts) in
        let back : n + 1 - 1 ≡ n = omega arith in
        let inside = trees_runs ts (sorts c) (repeats c) c true [] [] [] (f ∷ fs) es all (n + 1) refl fits.1 fronts in
        let start : State = within es (f ∷ fs) n in
        let behind : State = at declared prefix iri es claims (f ∷ fs) (stand.Opening c) n in
        let opened : State = within es (machine.new_frame c ∷ f ∷ fs) (n + 1) in
        let filled : State = within later (frame c (still true ts) [] p.classes p.roles p.names ∷ f ∷ fs) (n + 1) in
        let end : State = within later (grown (built_part (makes_of c) c p) f ∷ fs) n in
        let last : List Piece = sign token.CloseParen ∷ [] in
        step_on start behind end (word (keyword c)) (sign token.OpenParen ∷ spelled_all ts ++ last) (keyword_runs s f fs es n c wants fits.0 facts)
        (step_on behind opened end (sign token.OpenParen) (spelled_all ts ++ last)
        (ap (λ st. ok (at declared prefix iri es claims (machine.new_frame c ∷ f ∷ fs) st (n + 1))) facts.begun)
        (chain opened filled end (spelled_all ts) last inside
        (step_on filled end end (sign token.CloseParen) []
        (finished_part (makes_of c) c (still true ts) p f fs later (n + 1 - 1) facts.makes
        ∙ ap (λ k. ok (within later (grown (built_part (makes_of c) c p) f ∷ fs) k)) back)
        refl)))

    trees_runs : (ts : Trees) (ws : List Sort) (more : Option Sort) (c : Construct) (fresh : Bool) (cs : List Concept) (rs : List Role) (ns : List WordId)
        (fs : List Frame) (es all : List Entity) (n : ℕ) → repeats c ≡ more → Fill declared ws more ts
        → Fronts (each_once es (mentioned_in declared ws more ts)) all
        → runs (within es (frame c fresh ws cs rs ns ∷ fs) n) (spelled_all ts)
        ≡ ok (within (each_once es (mentioned_in declared ws more ts))
        (frame c (still fresh ts) [] (cs ++ (parts_in declared (word_of all) ws more ts).classes) (rs ++ (parts_in declared (word_of all) ws more ts).roles)
        (ns ++ (parts_in declared (word_of all) ws more ts).names) ∷ fs) n)
    trees_runs no_tree [] more c fresh cs rs ns fs es all n eq fill fronts =
        λ i. ok (within es (frame c fresh [] (sym (append-nil cs) i) (sym (append-nil rs) i) (sym (append-nil ns) i) ∷ fs) n)
    trees_runs no_tree (s ∷ ss) more c fresh cs rs ns fs es all n eq fill fronts = absurd fill
    trees_runs (also_tree t ts) (s ∷ ss) more c fresh cs rs ns fs es all n eq fill fronts =
        let p : Parts = part declared (word_of all) s t in
        let ms : List Entity = mentioned declared s t in
        let others : List Entity = mentioned_in declared ss more ts in
        let both = fronts_two es ms others all fronts in
        one_more (s ∷ ss) ss c fresh cs rs ns fs es n t ts p (parts_in declared (word_of all) ss more ts) ms others
        (tree_runs t s (frame c fresh (s ∷ ss) cs rs ns) fs es all n fill.0 refl (fronts_before (each_once es ms) others all both))
        (trees_runs ts ss more c false (cs ++ p.classes) (rs ++ p.roles) (ns ++ p.names) fs (each_once es ms) all n eq fill.1 both)
    trees_runs (also_tree t ts) [] (Some s) c fresh cs rs ns fs es all n eq fill fronts =
        let p : Parts = part declared (word_of all) s t in
        let ms : List Entity = mentioned declared s t in
        let others : List Entity = mentioned_in declared [] (Some s) ts in
        let both = fronts_two es ms others all fronts in
        one_more [] [] c fresh cs rs ns fs es n t ts p (parts_in declared (word_of all) [] (Some s) ts) ms others
        (tree_runs t s (frame c fresh [] cs rs ns) fs es all n fill.0 eq (fronts_before (each_once es ms) others all both))
        (trees_runs ts [] (Some s) c false (cs ++ p.classes) (rs ++ p.roles) (ns ++ p.names) fs (each_once es ms) all n eq fill.1 both)
    trees_runs (also_tree t ts) [] None c fresh cs rs ns fs es all n eq fill fronts = absurd fill

  -- Annotations

  -- what stands between an annotation's parentheses, and the last of these
  pub passing_runs : (inside : List Piece) (depth base n : ℕ) (fs : List Frame) (es : List Entity) → n ≡ base + 1 + depth → are_matched depth inside ≡ true
      → runs (at declared prefix iri es claims fs (stand.Passing base) n) (inside ++ sign token.CloseParen ∷ []) ≡ ok (within es fs base)
  passing_runs [] depth base n fs es is match =
      let zero_depth : depth ≡ 0 = eqb-true depth 0 match in
      let back : n - 1 ≡ base = omega arith in
      ap (λ k. ok (at declared prefix iri es claims fs (cond (eqb k base) stand.Within (stand.Passing base)) k)) back
      ∙ ap (λ b. ok (at declared prefix iri es claims fs (cond b stand.Within (stand.Passing base)) base)) (eq-eqb base base refl)
  passing_runs (p ∷ ps) depth base n fs es is match =
      by p.kind (λ d k eq m. passing_runs ps d base k fs es eq m) match
    where
      by : (k : TokenKind)
          → ((d m : ℕ) → m ≡ base + 1 + d → are_matched d ps ≡ true
          → runs (at declared prefix iri es claims fs (stand.Passing base) m) (ps ++ sign token.CloseParen ∷ []) ≡ ok (within es fs base))
          → cond (is_open k) (are_matched (depth + 1) ps) (cond (is_close k) (ltb 0 depth && are_matched (depth - 1) ps) (are_matched depth ps)) ≡ true
          → onward (free_by k (at declared prefix iri es claims fs (stand.Passing base) n) p.text) (λ m. runs m (ps ++ sign token.CloseParen ∷ []))
          ≡ ok (within es fs base)
      by token.OpenParen later h = later (depth + 1) (n + 1) (omega arith) h
      by token.CloseParen later h =
          let both = and_parts (ltb 0 depth) (are_matched (depth - 1) ps) h in
          let some : 0 < depth = ltb-true 0 depth both.0 in
          ap (λ b. runs (at declared prefix iri es claims fs (cond b stand.Within (stand.Passing base)) (n - 1)) (ps ++ sign token.CloseParen ∷ []))
          (other_number (n - 1) base (omega arith))
          ∙ later (depth - 1) (n - 1) (omega arith) both.1
      by token.Equals later h = later depth n is h
      by token.Iri later h = later depth n is h
      by token.Quoted later h = later depth n is h
      by token.Word later h = later depth n is h

  note_runs : (inside : List Piece) (c : Construct) (ws : List Sort) (fs : List Frame) (es : List Entity) (n : ℕ) → makes_of c ≡ makes.Axioms
      → AreMatched inside
      → runs (within es (frame c true ws [] [] [] ∷ fs) n) (spelled_note inside) ≡ ok (within es (frame c true ws [] [] [] ∷ fs) n)
  note_runs inside c ws fs es n makes match =
      let here : List Frame = frame c true ws [] [] [] ∷ fs in
      let text : List ℕ = codes "Annotation" in
      let start : State = within es here n in
      let behind : State = at declared prefix iri es claims here stand.AnnotationOpening n in
      let opened : State = at declared prefix iri es claims here (stand.Passing n) (n + 1) in
      let rest : List Piece = inside ++ sign token.CloseParen ∷ [] in
      step_on start behind start (word text) (sign token.OpenParen ∷ rest)
      (ap (λ m. cond (takes_annotations m && true) (ok behind) (machine.keyword_by (machine.top_sort here) start text)) makes)
      (step_on behind opened start (sign token.OpenParen) rest refl (passing_runs inside 0 n (n + 1) here es (omega arith) match))

  notes_runs : (notes : List (List Piece)) (c : Construct) (ws : List Sort) (fs : List Frame) (es : List Entity) (n : ℕ) → makes_of c ≡ makes.Axioms
      → AllByRecursion AreMatched notes
      → runs (within es (frame c true ws [] [] [] ∷ fs) n) (flat_map spelled_note notes) ≡ ok (within es (frame c true ws [] [] [] ∷ fs) n)
  notes_runs [] c ws fs es n makes all = refl
  notes_runs (x ∷ xs) c ws fs es n makes all =
      let here : State = within es (frame c true ws [] [] [] ∷ fs) n in
      chain here here here (spelled_note x) (flat_map spelled_note xs) (note_runs x c ws fs es n makes all.0) (notes_runs xs c ws fs es n makes all.1)

  -- Items

  -- behind the ontology's first parenthesis so many IRIs may come, or an item stood there
  abbrev pub standing : Option ℕ → Stand
  standing None = stand.Within
  standing (Some k) = stand.Heading k

  item_word : (h : Option ℕ) (text : List ℕ) (es : List Entity) → colon_at 0 text ≡ None
      → free (at declared prefix iri es claims (bottom ∷ []) (standing h) 1) (word text)
      ≡ machine.keyword_by (Some sort.Item) (at declared prefix iri es claims (bottom ∷ []) (standing h) 1) text
  item_word None text es plain = ap (λ o. machine.word_by o (at declared prefix iri es claims (bottom ∷ []) stand.Within 1) text) plain
  item_word (Some k) text es plain = ap (λ o. machine.word_by o (at declared prefix iri es claims (bottom ∷ []) (stand.Heading k) 1) text) plain

  pub item_runs : (item : Item) (h : Option ℕ) (es all : List Entity) → IsItem declared item → Fronts (each_once es (mentioned_by declared item)) all
      → runs (at declared prefix iri es claims (bottom ∷ []) (standing h) 1) (spelled_item item)
      ≡ ok (at declared prefix iri (each_once es (mentioned_by declared item)) (claims ++ claims_in declared (word_of all) item) (bottom ∷ []) stand.Within 1)
  item_runs (Note text inside) h es all is fronts =
      let here : State = at declared prefix iri es claims (bottom ∷ []) (standing h) 1 in
      let behind : State = machine.moved here stand.AnnotationOpening in
      let opened : State = at declared prefix iri es claims (bottom ∷ []) (stand.Passing 1) 2 in
      let end : State = within es (bottom ∷ []) 1 in
      let rest : List Piece = inside ++ sign token.CloseParen ∷ [] in
      step_on here behind end (word text) (sign token.OpenParen ∷ rest)
      (item_word h text es (annotation_has_no_colon text is.0)
      ∙ ap (λ b. cond b (ok behind) (machine.begin here (construct_among item_constructs text))) is.0)
      (step_on behind opened end (sign token.OpenParen) rest refl (passing_runs inside 0 1 2 (bottom ∷ []) es refl is.1))
      ∙ (λ i. ok (at declared prefix iri es (sym (append-nil claims) i) (bottom ∷ []) stand.Within 1))
  item_runs (Statement c notes ts) h es all is fronts =
      let here : State = at declared prefix iri es claims (bottom ∷ []) (standing h) 1 in
      let facts = item_facts c (keyword c) is.0 in
      let p : Parts = parts_in declared (word_of all) (sorts c) (repeats c) ts in
      let later : List Entity = each_once es (mentioned_in declared (sorts c) (repeats c) ts) in
      let behind : State = machine.moved here (stand.Opening c) in
      let opened : State = within es (machine.new_frame c ∷ bottom ∷ []) 2 in
      let filled : State = within later (frame c (still true ts) [] p.classes p.roles p.names ∷ bottom ∷ []) 2 in
      let end : State = at declared prefix iri later (claims ++ claims_with c p) (bottom ∷ []) stand.Within 1 in
      let notes_in : List Piece = flat_map spelled_note notes in
      let last : List Piece = sign token.CloseParen ∷ [] in
      let inside : List Piece = notes_in ++ spelled_all ts in
      step_on here behind end (word (keyword c)) (sign token.OpenParen ∷ inside ++ last)
      (item_word h (keyword c) es (keyword_has_no_colon c)
      ∙ (ap (λ b. cond b (ok (machine.moved here stand.AnnotationOpening)) (machine.begin here (construct_among item_constructs (keyword c))))
      facts.no_annotation
      ∙ ap (λ o. machine.begin here o) is.0))
      (step_on behind opened end (sign token.OpenParen) (inside ++ last)
      (ap (λ st. ok (at declared prefix iri es claims (machine.new_frame c ∷ bottom ∷ []) st 2)) facts.begun)
      (chain opened filled end inside last
      (chain opened opened filled notes_in (spelled_all ts) (notes_runs notes c (sorts c) (bottom ∷ []) es 2 facts.makes is.1)
      (trees_runs ts (sorts c) (repeats c) c true [] [] [] (bottom ∷ []) es all 2 refl is.2 fronts))
      (step_on filled end end (sign token.CloseParen) []
      (ap (λ m. machine.finished m (within later (bottom ∷ []) 1) (frame c (still true ts) [] p.classes p.roles p.names)) facts.makes)
      refl)))

-- items, and the last parenthesis
items_run : (declared : Declared) (prefix iri : List ℕ) (claims : List Claim) (items : List Item) (h : Option ℕ) (es all : List Entity)
    → AllByRecursion (IsItem declared) items → Fronts (each_once es (flat_map (mentioned_by declared) items)) all
    → runs (at declared prefix iri es claims (bottom ∷ []) (standing declared prefix iri claims h) 1)
    (flat_map spelled_item items ++ sign token.CloseParen ∷ [])
    ≡ ok (at declared prefix iri (each_once es (flat_map (mentioned_by declared) items)) (claims ++ flat_map (claims_in declared (word_of all)) items) []
    stand.Closed 0)
items_run declared prefix iri claims [] None es all are fronts = λ i. ok (at declared prefix iri es (sym (append-nil claims) i) [] stand.Closed 0)
items_run declared prefix iri claims [] (Some k) es all are fronts = λ i. ok (at declared prefix iri es (sym (append-nil claims) i) [] stand.Closed 0)
items_run declared prefix iri claims (x ∷ xs) h es all are fronts =
    let one : List Claim = claims_in declared (word_of all) x in
    let ms : List Entity = mentioned_by declared x in
    let others : List Entity = flat_map (mentioned_by declared) xs in
    let both : Fronts (each_once (each_once es ms) others) all = subst (λ es. Fronts es all) (once_append es ms others) fronts in
    ap (λ ps. runs (at declared prefix iri es claims (bottom ∷ []) (standing declared prefix iri claims h) 1) ps)
    (append_assoc (spelled_item x) (flat_map spelled_item xs) (sign token.CloseParen ∷ []))
    ∙ (chain (at declared prefix iri es claims (bottom ∷ []) (standing declared prefix iri claims h) 1)
    (at declared prefix iri (each_once es ms) (claims ++ one) (bottom ∷ []) stand.Within 1)
    (at declared prefix iri (each_once (each_once es ms) others) ((claims ++ one) ++ flat_map (claims_in declared (word_of all)) xs) [] stand.Closed 0)
    (spelled_item x) (flat_map spelled_item xs ++ sign token.CloseParen ∷ [])
    (item_runs declared prefix iri claims x h es all are.0 (fronts_before (each_once es ms) others all both))
    (items_run declared prefix iri (claims ++ one) xs None (each_once es ms) all are.1 both)
    ∙ (λ i. ok (at declared prefix iri (sym (once_append es ms others) i) (append_assoc claims one (flat_map (claims_in declared (word_of all)) xs) i) []
    stand.Closed 0)))

-- Lines

abbrev pub between_lines : Declared → List ℕ → List ℕ → State
between_lines declared prefix iri = at declared prefix iri [] [] [] stand.Lines 0

-- the name of a prefix that is to be declared
prefix_found : (here : State) (p : List ℕ) → machine.is_prefix_name here.stand ≡ true → same_bytes p (codes "_") ≡ false
    → is_in_profile_with (iri_of here.prefixes p) [] true ≡ true
    → machine.name here p [] ≡ ok (record here { stand = stand.PrefixEquals; prefix = p })
prefix_found here p line plain fits =
    ap (λ b. cond b (err trouble.Unsupported) (machine.name_with (iri_of here.prefixes p) here p [])) plain ∙ by (iri_of here.prefixes p) fits
  where
    by : (o : Option (List ℕ)) → is_in_profile_with o [] true ≡ true
        → machine.name_with o here p [] ≡ ok (record here { stand = stand.PrefixEquals; prefix = p })
    by None fits = ap (λ b. cond b (machine.prefix_named here p []) (err trouble.Prefix)) line
    by (Some front) fits =
        let q = profile_parts (front ++ []) fits in
        let full : List ℕ = front ++ [] in
        ap (λ b. cond b (err trouble.Unsupported) (cond (is_bottom_property full) (err trouble.Unsupported) (machine.name_in_place here p [] full))) q.0
        ∙ (ap (λ b. cond b (err trouble.Unsupported) (machine.name_in_place here p [] full)) q.1
        ∙ ap (λ b. cond b (machine.prefix_named here p [])
        (cond (machine.is_inside here.stand) (machine.name_by (machine.top_sort here.frames) here full) (err trouble.Syntax))) line)

line_runs : (declared : Declared) (prefix iri : List ℕ) (l : Line) → is_prefix l.prefix ≡ true → is_in_profile_with (iri_of declared l.prefix) [] true ≡ true
    → runs (between_lines declared prefix iri) (spelled_line l) ≡ ok (between_lines (declare declared l.prefix l.iri) l.prefix l.iri)
line_runs declared prefix iri l plain fits =
    let parts = prefix_parts l.prefix plain in
    let here : State = at declared prefix iri [] [] [] stand.PrefixName 1 in
    let start : State = between_lines declared prefix iri in
    let behind : State = at declared prefix iri [] [] [] stand.PrefixOpening 0 in
    let named : State = at declared l.prefix iri [] [] [] stand.PrefixEquals 1 in
    let end : State = between_lines (declare declared l.prefix l.iri) l.prefix l.iri in
    let rest : List Piece = sign token.Equals ∷ iri_piece l.iri ∷ sign token.CloseParen ∷ [] in
    step_on start behind end (word (codes "Prefix")) (sign token.OpenParen ∷ word (l.prefix ++ 58 ∷ []) ∷ rest) refl
    (step_on behind here end (sign token.OpenParen) (word (l.prefix ++ 58 ∷ []) ∷ rest) refl
    (step_on here named end (word (l.prefix ++ 58 ∷ [])) rest (named_word here l.prefix [] parts.0 ∙ prefix_found here l.prefix refl parts.1 fits) refl))

abbrev last_prefix : List ℕ → List Line → List ℕ
last_prefix prefix [] = prefix
last_prefix prefix (l ∷ ls) = last_prefix l.prefix ls

abbrev last_iri : List ℕ → List Line → List ℕ
last_iri iri [] = iri
last_iri iri (l ∷ ls) = last_iri l.iri ls

pub lines_run : (ls : List Line) (declared : Declared) (prefix iri : List ℕ) → AreLines declared ls
    → runs (between_lines declared prefix iri) (flat_map spelled_line ls)
    ≡ ok (between_lines (declared_by declared ls) (last_prefix prefix ls) (last_iri iri ls))
lines_run [] declared prefix iri are = refl
lines_run (l ∷ ls) declared prefix iri are =
    let next : Declared = declare declared l.prefix l.iri in
    chain (between_lines declared prefix iri) (between_lines next l.prefix l.iri)
    (between_lines (declared_by next ls) (last_prefix l.prefix ls) (last_iri l.iri ls))
    (spelled_line l) (flat_map spelled_line ls) (line_runs declared prefix iri l are.0 are.1) (lines_run ls next l.prefix l.iri are.2)

-- The whole file

-- the ontology's IRIs, and what is behind them
iris_run : (declared : Declared) (prefix iri : List ℕ) (iris : List (List ℕ)) → length iris ≤ 2
    → (h : Option ℕ) × (runs (at declared prefix iri [] [] (bottom ∷ []) (stand.Heading 2) 1) (map iri_piece iris)
    ≡ ok (at declared prefix iri [] [] (bottom ∷ []) (standing declared prefix iri [] h) 1))
iris_run declared prefix iri [] few = (Some 2, refl)
iris_run declared prefix iri (a ∷ []) few = (Some 1, refl)
iris_run declared prefix iri (a ∷ b ∷ []) few = (Some 0, refl)
iris_run declared prefix iri (a ∷ b ∷ c ∷ cs) few = absurd (let none : ⊥ = omega arith in none)

-- a file's spelling is read to its end, with what the file says
pub record FileRuns (f : File) : Type 0 where
  pub end : State
  pub run : runs machine.fresh_state (spelled_file f) ≡ Ok end
  pub closed : machine.is_closed end.stand ≡ true
  pub entities : end.entities ≡ entities_of f
  pub claims : end.claims ≡ claims_of_file f

pub file_runs : (f : File) → IsFile f → FileRuns f
file_runs f is =
    let declared : Declared = declared_by first_prefixes f.lines in
    let prefix : List ℕ = last_prefix [] f.lines in
    let iri : List ℕ = last_iri [] f.lines in
    let all : List Entity = entities_of f in
    let heads = iris_run declared prefix iri f.iris is.iris in
    let items = items_run declared prefix iri [] f.items heads.0 [] all is.items (record { more = []; is = sym (append-nil all) }) in
    let lined : State = between_lines declared prefix iri in
    let behind : State = at declared prefix iri [] [] [] (stand.Opening construct.Ontology) 0 in
    let opened : State = at declared prefix iri [] [] (bottom ∷ []) (stand.Heading 2) 1 in
    let headed : State = at declared prefix iri [] [] (bottom ∷ []) (standing declared prefix iri [] heads.0) 1 in
    let end : State = at declared prefix iri all (claims_of_file f) [] stand.Closed 0 in
    let last : List Piece = sign token.CloseParen ∷ [] in
    let iris : List Piece = map iri_piece f.iris in
    let inside : List Piece = flat_map spelled_item f.items in
    record {
      end = end;
      run = chain machine.fresh_state lined end (flat_map spelled_line f.lines) (between (codes "Ontology") (iris ++ inside))
          (lines_run f.lines first_prefixes [] [] is.lines)
          (step_on lined behind end (word (codes "Ontology")) (sign token.OpenParen ∷ (iris ++ inside) ++ last) refl
          (step_on behind opened end (sign token.OpenParen) ((iris ++ inside) ++ last) refl
          (ap (λ ps. runs opened ps) (append_assoc iris inside last) ∙ chain opened headed end iris (inside ++ last) heads.1 items)));
      closed = refl;
      entities = refl;
      claims = refl;
    }
