-- What is written of words and axioms is the spelling of a file.
use Rattle.std.proofs.Common.{◌≡◌, ℕ, Bool, true, false, if◌then◌else◌, List, [], ◌∷◌, ◌++◌, map, Option, unwrap_or, refl, sym, ap, ◌∙◌, append_assoc, codes}
use Rattle.std.specs.List.{list_all, flat_map, AllByRecursion}
use Rattle.std.proofs.lemmas.Grind.{flat_map-append}
use Rattle.std.proofs.lemmas.List.Folds.{flat_map-map}
use Rattle.wiki_base.specs.declared.numbers.WordId.{WordId}
use Rattle.logic_terms.specs.declared.expressions.Role.{Role}
use Rattle.logic_terms.specs.Concept.{Concept, Concepts, Everything, Atomic, ComplementOf, IntersectionOf, UnionOf, SomeValuesFrom, AllValuesFrom, HasValue, no_concept, also_concept, Claim, SubPropertyOf, PropertyAssertion, NegativePropertyAssertion, TransitiveProperty}
use Rattle.logic_terms.specs.Concept as claim
use Rattle.lexicon.specs.declared.kinds.Kind.{Kind}
use Rattle.lexicon.specs.declared.words.Word.{Word}
use Rattle.lexicon.specs.Words.{Listed, canonical_form_of}
use Rattle.owl_text.specs.Texts.{word_text, role_text, class_text, classes_text, more_text, claim_text}
use Rattle.owl_tokens.specs.declared.tokens.TokenKind.TheVariants as token
use Rattle.owl_tokens.specs.Tokens.{is_word_byte}
use Rattle.owl_reader.specs.declared.kinds.Construct.{Construct}
use Rattle.owl_reader.specs.declared.kinds.Construct.TheVariants as construct
use Rattle.owl_grammar.specs.Files.{Piece, Tree, Trees, Named, Built, no_tree, also_tree, Item, Statement, Line, File, word, iri_piece, sign, between, spelled, spelled_all, spelled_item, spelled_line, spelled_file}
use Rattle.owl_file.specs.Written.{canonical_text, entity_kind, entity, declaration, text_of, file_text}
use Rattle.owl_file.specs.ReadBack.{kind_of}
use Rattle.owl_file.proofs.TokenLemmas.{Lexes, lexes_as, lexes_end, lexes_space, lexes_open, lexes_close, lexes_equals, lexes_iri, lexes_word, Stops, Writes, is_key, writes_word, writes_between, writes_alone, writes_as, writes_spaced, writes_line}

-- ---- what is written, as a tree

abbrev pub one : Tree → Trees
one t = also_tree t no_tree

abbrev pub two : Tree → Tree → Trees
two t u = also_tree t (one u)

abbrev pub three : Tree → Tree → Tree → Trees
three t u v = also_tree t (two u v)

-- a name in the wiki's namespace
abbrev pub local_tree : List ℕ → Tree
local_tree text = Named (record { prefix = []; local = text })

abbrev pub word_tree : (WordId → Option (List ℕ)) → WordId → Tree
word_tree form word = local_tree (unwrap_or (form word) [])

abbrev pub role_tree : (WordId → Option (List ℕ)) → Role → Tree
role_tree form role = if role.inverted then Built construct.ObjectInverseOf (one (word_tree form role.id)) else word_tree form role.id

abbrev mutual
  pub class_tree : (WordId → Option (List ℕ)) → Concept → Tree
  class_tree form Everything = Named (record { prefix = codes "owl"; local = codes "Thing" })
  class_tree form (Atomic a) = word_tree form a
  class_tree form (ComplementOf c) = Built construct.ObjectComplementOf (one (class_tree form c))
  class_tree form (IntersectionOf cs) = Built construct.ObjectIntersectionOf (class_trees form cs)
  class_tree form (UnionOf cs) = Built construct.ObjectUnionOf (class_trees form cs)
  class_tree form (SomeValuesFrom role c) = Built construct.ObjectSomeValuesFrom (two (role_tree form role) (class_tree form c))
  class_tree form (AllValuesFrom role c) = Built construct.ObjectAllValuesFrom (two (role_tree form role) (class_tree form c))
  class_tree form (HasValue role name) = Built construct.ObjectHasValue (two (role_tree form role) (word_tree form name))

  pub class_trees : (WordId → Option (List ℕ)) → Concepts → Trees
  class_trees form no_concept = no_tree
  class_trees form (also_concept c cs) = also_tree (class_tree form c) (class_trees form cs)

abbrev stated : Construct → Trees → Item
stated c parts = Statement c [] parts

abbrev pub claim_item : (WordId → Option (List ℕ)) → Claim → Item
claim_item form (claim.SubClassOf c d) = stated construct.SubClassOf (two (class_tree form c) (class_tree form d))
claim_item form (SubPropertyOf r s) = stated construct.SubObjectPropertyOf (two (role_tree form r) (role_tree form s))
claim_item form (claim.ClassAssertion c name) = stated construct.ClassAssertion (two (class_tree form c) (word_tree form name))
claim_item form (PropertyAssertion r from to) =
    stated construct.ObjectPropertyAssertion (three (role_tree form r) (word_tree form from) (word_tree form to))
claim_item form (NegativePropertyAssertion r from to) =
    stated construct.NegativeObjectPropertyAssertion (three (role_tree form r) (word_tree form from) (word_tree form to))
claim_item form (claim.SameIndividual one other) = stated construct.SameIndividual (two (word_tree form one) (word_tree form other))
claim_item form (claim.DifferentIndividuals one other) = stated construct.DifferentIndividuals (two (word_tree form one) (word_tree form other))
claim_item form (TransitiveProperty a) = stated construct.TransitiveObjectProperty (one (word_tree form a))

abbrev pub entity_tree : Word → Tree
entity_tree word = Built (construct.Entity (kind_of word.forms.kind)) (one (local_tree (canonical_text word)))

abbrev pub word_item : Word → Item
word_item word = stated construct.Declaration (one (entity_tree word))

abbrev pub only_line : Line
only_line = record { prefix = []; iri = codes "urn:acewiki:" }

abbrev pub written_items : Listed → List Claim → List Item
written_items words claims = map word_item words.live ++ map (claim_item (canonical_form_of words.live)) claims

abbrev pub written_file : Listed → List Claim → File
written_file words claims = record { lines = only_line ∷ []; iris = codes "urn:acewiki" ∷ []; items = written_items words claims }

-- ---- constructs with their parts

pub writes_one : (k a : List ℕ) (t : Tree) → is_key k ≡ true → Writes a (spelled t) → Writes (k ++ 40 ∷ (a ++ 41 ∷ [])) (between k (spelled_all (one t)))
writes_one k a t h w = writes_between k a (spelled_all (one t)) h (writes_alone a (spelled t) w)

pub writes_two : (k a b : List ℕ) (t u : Tree) → is_key k ≡ true → Writes a (spelled t) → Writes b (spelled u)
    → Writes (k ++ 40 ∷ (a ++ 32 ∷ (b ++ 41 ∷ []))) (between k (spelled_all (two t u)))
writes_two k a b t u h w v =
    writes_as (k ++ 40 ∷ ((a ++ 32 ∷ b) ++ 41 ∷ [])) (k ++ 40 ∷ (a ++ 32 ∷ (b ++ 41 ∷ []))) (between k (spelled_all (two t u)))
    (ap (λ (l : List ℕ). k ++ 40 ∷ l) (append_assoc a (32 ∷ b) (41 ∷ [])))
    (writes_between k (a ++ 32 ∷ b) (spelled_all (two t u)) h (writes_spaced a b (spelled t) (spelled_all (one u)) w (writes_alone b (spelled u) v)))

pub writes_three : (k a b c : List ℕ) (t u v : Tree) → is_key k ≡ true → Writes a (spelled t) → Writes b (spelled u) → Writes c (spelled v)
    → Writes (k ++ 40 ∷ (a ++ 32 ∷ (b ++ 32 ∷ (c ++ 41 ∷ [])))) (between k (spelled_all (three t u v)))
writes_three k a b c t u v h w x y =
    writes_as (k ++ 40 ∷ ((a ++ 32 ∷ (b ++ 32 ∷ c)) ++ 41 ∷ [])) (k ++ 40 ∷ (a ++ 32 ∷ (b ++ 32 ∷ (c ++ 41 ∷ [])))) (between k (spelled_all (three t u v)))
    (ap (λ (l : List ℕ). k ++ 40 ∷ l)
    (append_assoc a (32 ∷ (b ++ 32 ∷ c)) (41 ∷ []) ∙ ap (λ (l : List ℕ). a ++ 32 ∷ l) (append_assoc b (32 ∷ c) (41 ∷ []))))
    (writes_between k (a ++ 32 ∷ (b ++ 32 ∷ c)) (spelled_all (three t u v)) h
    (writes_spaced a (b ++ 32 ∷ c) (spelled t) (spelled_all (two u v)) w
    (writes_spaced b c (spelled u) (spelled_all (one v)) x (writes_alone c (spelled v) y))))

-- ---- classes and axioms

module _ (form : WordId → Option (List ℕ)) (plain : (word : WordId) → list_all is_word_byte (unwrap_or (form word) []) ≡ true) where
  word_writes : (word : WordId) → Writes (word_text form word) (spelled (word_tree form word))
  word_writes word = writes_word 58 (unwrap_or (form word) []) (plain word)

  role_writes : (role : Role) → Writes (role_text form role) (spelled (role_tree form role))
  role_writes role = by role.inverted
    where
      inverted : Tree
      inverted = Built construct.ObjectInverseOf (one (word_tree form role.id))

      by : (b : Bool) → Writes (if b then codes "ObjectInverseOf(" ++ (word_text form role.id ++ codes ")") else word_text form role.id)
          (spelled (if b then inverted else word_tree form role.id))
      by true = writes_one (codes "ObjectInverseOf") (word_text form role.id) (word_tree form role.id) refl (word_writes role.id)
      by false = word_writes role.id

  -- a class, and what may follow it among members
  also_writes : (a b : List ℕ) (ps qs : List Piece) → Writes a ps → Writes b qs → ((rest : List ℕ) → Stops rest → Stops (b ++ rest))
      → Writes (a ++ b) (ps ++ qs)
  also_writes a b ps qs w v ends rest rs stops l =
      lexes_as (a ++ (b ++ rest)) ((a ++ b) ++ rest) (ps ++ (qs ++ rs)) ((ps ++ qs) ++ rs) (sym (append_assoc a b rest)) (sym (append_assoc ps qs rs))
      (w (b ++ rest) (qs ++ rs) (ends rest stops) (v rest rs stops l))

  more_stops : (cs : Concepts) (rest : List ℕ) → Stops rest → Stops (more_text form cs ++ rest)
  more_stops no_concept rest stops = stops
  more_stops (also_concept c cs) rest stops = refl

  space_writes : (a : List ℕ) (ps : List Piece) → Writes a ps → Writes (32 ∷ a) ps
  space_writes a ps w rest qs stops l = lexes_space 32 (a ++ rest) (ps ++ qs) refl refl refl (w rest qs stops l)

  mutual
    class_writes : (c : Concept) → Writes (class_text form c) (spelled (class_tree form c))
    class_writes Everything = writes_word 111 (codes "wl:Thing") refl
    class_writes (Atomic a) = word_writes a
    class_writes (ComplementOf c) = writes_one (codes "ObjectComplementOf") (class_text form c) (class_tree form c) refl (class_writes c)
    class_writes (IntersectionOf cs) =
        writes_between (codes "ObjectIntersectionOf") (classes_text form cs) (spelled_all (class_trees form cs)) refl (classes_write cs)
    class_writes (UnionOf cs) =
        writes_between (codes "ObjectUnionOf") (classes_text form cs) (spelled_all (class_trees form cs)) refl (classes_write cs)
    class_writes (SomeValuesFrom role c) =
        writes_two (codes "ObjectSomeValuesFrom") (role_text form role) (class_text form c) (role_tree form role) (class_tree form c) refl (role_writes role)
        (class_writes c)
    class_writes (AllValuesFrom role c) =
        writes_two (codes "ObjectAllValuesFrom") (role_text form role) (class_text form c) (role_tree form role) (class_tree form c) refl (role_writes role)
        (class_writes c)
    class_writes (HasValue role name) =
        writes_two (codes "ObjectHasValue") (role_text form role) (word_text form name) (role_tree form role) (word_tree form name) refl (role_writes role)
        (word_writes name)

    classes_write : (cs : Concepts) → Writes (classes_text form cs) (spelled_all (class_trees form cs))
    classes_write no_concept = λ rest qs stops l. l
    classes_write (also_concept c cs) =
        also_writes (class_text form c) (more_text form cs) (spelled (class_tree form c)) (spelled_all (class_trees form cs)) (class_writes c) (more_write cs)
        (more_stops cs)

    more_write : (cs : Concepts) → Writes (more_text form cs) (spelled_all (class_trees form cs))
    more_write no_concept = λ rest qs stops l. l
    more_write (also_concept c cs) =
        space_writes (class_text form c ++ more_text form cs) (spelled (class_tree form c) ++ spelled_all (class_trees form cs))
        (also_writes (class_text form c) (more_text form cs) (spelled (class_tree form c)) (spelled_all (class_trees form cs)) (class_writes c) (more_write cs)
        (more_stops cs))

  names_write : (k : List ℕ) (a b : WordId) → is_key k ≡ true
      → Writes (k ++ 40 ∷ (word_text form a ++ 32 ∷ (word_text form b ++ 41 ∷ []))) (between k (spelled_all (two (word_tree form a) (word_tree form b))))
  names_write k a b h = writes_two k (word_text form a) (word_text form b) (word_tree form a) (word_tree form b) h (word_writes a) (word_writes b)

  related_writes : (k : List ℕ) (r : Role) (from to : WordId) → is_key k ≡ true
      → Writes (k ++ 40 ∷ (role_text form r ++ 32 ∷ (word_text form from ++ 32 ∷ (word_text form to ++ 41 ∷ []))))
      (between k (spelled_all (three (role_tree form r) (word_tree form from) (word_tree form to))))
  related_writes k r a b h =
      writes_three k (role_text form r) (word_text form a) (word_text form b) (role_tree form r) (word_tree form a) (word_tree form b) h (role_writes r)
      (word_writes a) (word_writes b)

  pub claim_writes : (stated : Claim) → Writes (claim_text form stated) (spelled_item (claim_item form stated))
  claim_writes (claim.SubClassOf c d) =
      writes_two (codes "SubClassOf") (class_text form c) (class_text form d) (class_tree form c) (class_tree form d) refl (class_writes c) (class_writes d)
  claim_writes (SubPropertyOf r s) =
      writes_two (codes "SubObjectPropertyOf") (role_text form r) (role_text form s) (role_tree form r) (role_tree form s) refl (role_writes r) (role_writes s)
  claim_writes (claim.ClassAssertion c name) =
      writes_two (codes "ClassAssertion") (class_text form c) (word_text form name) (class_tree form c) (word_tree form name) refl (class_writes c)
      (word_writes name)
  claim_writes (PropertyAssertion r from to) = related_writes (codes "ObjectPropertyAssertion") r from to refl
  claim_writes (NegativePropertyAssertion r from to) = related_writes (codes "NegativeObjectPropertyAssertion") r from to refl
  claim_writes (claim.SameIndividual a b) = names_write (codes "SameIndividual") a b refl
  claim_writes (claim.DifferentIndividuals a b) = names_write (codes "DifferentIndividuals") a b refl
  claim_writes (TransitiveProperty a) = writes_one (codes "TransitiveObjectProperty") (word_text form a) (word_tree form a) refl (word_writes a)

-- ---- words

entity_writes : (k : Kind) (text : List ℕ) → list_all is_word_byte text ≡ true
    → Writes (entity_kind k ++ (codes "(:" ++ (text ++ codes ")"))) (spelled (Built (construct.Entity (kind_of k)) (one (local_tree text))))
entity_writes k text h = by k
  where
    name : Writes (58 ∷ text) (spelled (local_tree text))
    name = writes_word 58 text h

    by : (k : Kind) → Writes (entity_kind k ++ (codes "(:" ++ (text ++ codes ")"))) (spelled (Built (construct.Entity (kind_of k)) (one (local_tree text))))
    by Kind.Noun = writes_one (codes "Class") (58 ∷ text) (local_tree text) refl name
    by Kind.Name = writes_one (codes "NamedIndividual") (58 ∷ text) (local_tree text) refl name
    by Kind.Of = writes_one (codes "ObjectProperty") (58 ∷ text) (local_tree text) refl name
    by Kind.Verb = writes_one (codes "ObjectProperty") (58 ∷ text) (local_tree text) refl name
    by Kind.Adjective = writes_one (codes "ObjectProperty") (58 ∷ text) (local_tree text) refl name

declaration_writes : (word : Word) → list_all is_word_byte (canonical_text word) ≡ true → Writes (declaration word) (spelled_item (word_item word))
declaration_writes word h =
    writes_one (codes "Declaration") (entity word) (entity_tree word) refl (entity_writes word.forms.kind (canonical_text word) h)

-- ---- the file

lines_lex : {X : Type 0} (f : X → List ℕ) (g : X → List Piece) (rest : List ℕ) (qs : List Piece) (xs : List X)
    → AllByRecursion (λ x. Writes (f x) (g x)) xs → Lexes rest qs → Lexes (text_of (map f xs) ++ rest) (flat_map g xs ++ qs)
lines_lex f g rest qs [] all l = l
lines_lex f g rest qs (x ∷ xs) all l =
    lexes_as ((f x ++ codes "\n") ++ (text_of (map f xs) ++ rest)) (text_of (map f (x ∷ xs)) ++ rest) (g x ++ (flat_map g xs ++ qs))
    (flat_map g (x ∷ xs) ++ qs) (sym (append_assoc (f x ++ codes "\n") (text_of (map f xs)) rest)) (sym (append_assoc (g x) (flat_map g xs) qs))
    (writes_line (f x) (text_of (map f xs) ++ rest) (g x) (flat_map g xs ++ qs) all.0 (lines_lex f g rest qs xs all.1 l))

-- the lines that begin the file
head_lex : (rest : List ℕ) (qs : List Piece) → Lexes rest qs
    → Lexes ((codes "Prefix(:=<urn:acewiki:>)" ++ codes "\n") ++ ((codes "Ontology(<urn:acewiki>" ++ codes "\n") ++ rest))
    (spelled_line only_line ++ word (codes "Ontology") ∷ sign token.OpenParen ∷ iri_piece (codes "urn:acewiki") ∷ qs)
head_lex rest qs l =
    let prefix : List ℕ = codes "urn:acewiki:" in
    let iri : List ℕ = codes "urn:acewiki" in
    let rest1 : List ℕ = 60 ∷ iri ++ 62 ∷ 10 ∷ rest in
    let qs1 : List Piece = iri_piece iri ∷ qs in
    let l1 : Lexes rest1 qs1 = lexes_iri iri (10 ∷ rest) qs refl (lexes_space 10 rest qs refl refl refl l) in
    let rest2 : List ℕ = codes "Ontology" ++ 40 ∷ rest1 in
    let qs2 : List Piece = word (codes "Ontology") ∷ sign token.OpenParen ∷ qs1 in
    let l2 : Lexes rest2 qs2 = lexes_word 79 (codes "ntology") (40 ∷ rest1) (sign token.OpenParen ∷ qs1) refl refl (lexes_open rest1 qs1 l1) in
    let rest3 : List ℕ = 60 ∷ prefix ++ 62 ∷ 41 ∷ 10 ∷ rest2 in
    let qs3 : List Piece = iri_piece prefix ∷ sign token.CloseParen ∷ qs2 in
    let l3 : Lexes rest3 qs3 =
    lexes_iri prefix (41 ∷ 10 ∷ rest2) (sign token.CloseParen ∷ qs2) refl (lexes_close (10 ∷ rest2) qs2 (lexes_space 10 rest2 qs2 refl refl refl l2)) in
    let rest4 : List ℕ = 58 ∷ 61 ∷ rest3 in
    let qs4 : List Piece = word (58 ∷ []) ∷ sign token.Equals ∷ qs3 in
    let l4 : Lexes rest4 qs4 = lexes_word 58 [] (61 ∷ rest3) (sign token.Equals ∷ qs3) refl refl (lexes_equals rest3 qs3 l3) in
    lexes_word 80 (codes "refix") (40 ∷ rest4) (sign token.OpenParen ∷ qs4) refl refl (lexes_open rest4 qs4 l4)

each_writes : {X : Type 0} (f : X → List ℕ) (g : X → List Piece) → ((x : X) → Writes (f x) (g x)) → (xs : List X) → AllByRecursion (λ x. Writes (f x) (g x)) xs
each_writes f g all [] = tt
each_writes f g all (x ∷ xs) = (all x, each_writes f g all xs)

words_write : (live : List Word) → AllByRecursion (λ w. list_all is_word_byte (canonical_text w) ≡ true) live
    → AllByRecursion (λ w. Writes (declaration w) (spelled_item (word_item w))) live
words_write [] all = tt
words_write (w ∷ ws) all = (declaration_writes w all.0, words_write ws all.1)

module _ (words : Listed) (claims : List Claim) where
  abbrev pub form : WordId → Option (List ℕ)
  form = canonical_form_of words.live

  abbrev declared : List Piece
  declared = flat_map (λ w. spelled_item (word_item w)) words.live

  abbrev said : List Piece
  said = flat_map (λ c. spelled_item (claim_item form c)) claims

  -- the items, one behind the other
  items_spelled : flat_map spelled_item (written_items words claims) ≡ declared ++ said
  items_spelled =
      flat_map-append spelled_item (map word_item words.live) (map (claim_item form) claims)
      ∙ (λ i. flat_map-map spelled_item word_item words.live i ++ flat_map-map spelled_item (claim_item form) claims i)

  -- the lines of the words and of the axioms, and the last
  abbrev pub lines : List (List ℕ)
  lines = map declaration words.live ++ map (claim_text form) claims ++ codes ")" ∷ []

  pub lines_text : text_of lines ≡ text_of (map declaration words.live) ++ (text_of (map (claim_text form) claims) ++ codes ")\n")
  lines_text =
      flat_map-append (λ l. l ++ codes "\n") (map declaration words.live ++ map (claim_text form) claims) (codes ")" ∷ [])
      ∙ ap (λ (l : List ℕ). l ++ codes ")\n")
      (flat_map-append (λ l. l ++ codes "\n") (map declaration words.live) (map (claim_text form) claims))
      ∙ append_assoc (text_of (map declaration words.live)) (text_of (map (claim_text form) claims)) (codes ")\n")

  pub file_lexes : ((w : WordId) → list_all is_word_byte (unwrap_or (canonical_form_of words.live w) []) ≡ true)
      → AllByRecursion (λ w. list_all is_word_byte (canonical_text w) ≡ true) words.live
      → Lexes (file_text words claims) (spelled_file (written_file words claims))
  file_lexes plain all =
      let last : Lexes (codes ")\n") (sign token.CloseParen ∷ []) = lexes_close (10 ∷ []) [] (lexes_space 10 [] [] refl refl refl lexes_end) in
      let axioms : Lexes (text_of (map (claim_text form) claims) ++ codes ")\n") (said ++ sign token.CloseParen ∷ []) =
      lines_lex (claim_text form) (λ c. spelled_item (claim_item form c)) (codes ")\n") (sign token.CloseParen ∷ []) claims
      (each_writes (claim_text form) (λ c. spelled_item (claim_item form c)) (claim_writes form plain) claims) last in
      let all_lines =
      lines_lex declaration (λ w. spelled_item (word_item w)) (text_of (map (claim_text form) claims) ++ codes ")\n") (said ++ sign token.CloseParen ∷ [])
      words.live (words_write words.live all) axioms in
      head_lex (text_of lines) (flat_map spelled_item (written_items words claims) ++ sign token.CloseParen ∷ [])
      (lexes_as (text_of (map declaration words.live) ++ (text_of (map (claim_text form) claims) ++ codes ")\n")) (text_of lines)
      (declared ++ (said ++ sign token.CloseParen ∷ [])) (flat_map spelled_item (written_items words claims) ++ sign token.CloseParen ∷ [])
      (sym lines_text)
      (sym (ap (λ (l : List Piece). l ++ sign token.CloseParen ∷ []) items_spelled ∙ append_assoc declared said (sign token.CloseParen ∷ []))) all_lines)

  -- the file, line behind line
  pub lines_written : (t0 t1 t2 t3 t4 t5 : List ℕ) → t0 ≡ [] → t1 ≡ t0 ++ (codes "Prefix(:=<urn:acewiki:>)" ++ codes "\n")
      → t2 ≡ t1 ++ (codes "Ontology(<urn:acewiki>" ++ codes "\n") → t3 ≡ t2 ++ text_of (map declaration words.live)
      → t4 ≡ t3 ++ text_of (map (claim_text form) claims) → t5 ≡ t4 ++ (codes ")" ++ codes "\n") → t5 ≡ file_text words claims
  lines_written t0 t1 t2 t3 t4 t5 e0 e1 e2 e3 e4 e5 =
      let first : List ℕ = codes "Prefix(:=<urn:acewiki:>)\n" in
      let second : List ℕ = codes "Ontology(<urn:acewiki>\n" in
      let named : List ℕ = text_of (map declaration words.live) in
      let told : List ℕ = text_of (map (claim_text form) claims) in
      let last : List ℕ = codes ")\n" in
      let s1 : t1 ≡ first = e1 ∙ ap (λ (t : List ℕ). t ++ first) e0 in
      let s2 : t2 ≡ first ++ second = e2 ∙ ap (λ (t : List ℕ). t ++ second) s1 in
      let s3 : t3 ≡ (first ++ second) ++ named = e3 ∙ ap (λ (t : List ℕ). t ++ named) s2 in
      let s4 : t4 ≡ ((first ++ second) ++ named) ++ told = e4 ∙ ap (λ (t : List ℕ). t ++ told) s3 in
      e5 ∙ ap (λ (t : List ℕ). t ++ last) s4 ∙ append_assoc ((first ++ second) ++ named) told last ∙ append_assoc (first ++ second) named (told ++ last)
      ∙ ap (λ (t : List ℕ). (first ++ second) ++ t) (sym lines_text)
