-- The names in pieces are those in the axioms, and their classes are plain where those in the axioms are.
use Rattle.std.proofs.Common.{◌≡◌, ◌&&◌, ◌||◌, Bool, true, List, [], ◌∷◌, ◌++◌, map, Option, Some, None, refl, sym, ap, ◌∙◌}
use Rattle.std.specs.List.{list_any, list_all}
use Rattle.std.specs.Option.{option_map_or}
use Rattle.std.proofs.lemmas.Bool.{and_parts, and_from}
use Rattle.std.proofs.lemmas.List.Folds.{list_all-append}
use Rattle.wiki_base.specs.declared.numbers.WordId.{WordId}
use Rattle.logic_terms.specs.Interpretation.{is_word}
use Rattle.logic_terms.specs.Concept.{Concept, Concepts, Everything, Atomic, ComplementOf, IntersectionOf, UnionOf, SomeValuesFrom, AllValuesFrom, HasValue, no_concept, also_concept, Claim, SubClassOf, SubPropertyOf, ClassAssertion, PropertyAssertion, NegativePropertyAssertion, SameIndividual, DifferentIndividuals, TransitiveProperty}
use Rattle.logic_terms.specs.Complement.{complement, normal_form, complements, normal_forms, is_normal, is_wide, each_wide, has_two}
use Rattle.logic_terms.specs.Plain.{is_plain, is_plain_claim, are_plain}
use Rattle.logic_terms.specs.Same.{inverse}
use Rattle.logic_terms.specs.Theory.{Theory, is_given, names_given, each_names_given}
use Rattle.logic_terms.proofs.ComplementLemmas.{is_normal-complement, is_wide-complement}
use Rattle.logic_terms.specs.Parts.{word_part}
use Rattle.absorb.specs.Mentioned.{names_in, names_in_each, names_in_claim, is_among, are_over}
use Rattle.absorb.specs.Pieces.{Piece, Equality, Assertion, Related, Difference, Transitivity, Unfolding, General, either, first_word, without_first_word, together, general, guarded, inclusion, inclusions, pieces_of, all_pieces}
use Rattle.absorb.proofs.PieceClaims.{claim_in}

-- the complement has the same names
mutual
  names_in-normal_form : (c : Concept) → names_in (normal_form c) ≡ names_in c
  names_in-normal_form Everything = refl
  names_in-normal_form (Atomic word) = refl
  names_in-normal_form (ComplementOf c) = names_in-complement c
  names_in-normal_form (IntersectionOf cs) = names_in-normal_forms cs
  names_in-normal_form (UnionOf cs) = names_in-normal_forms cs
  names_in-normal_form (SomeValuesFrom role c) = names_in-normal_form c
  names_in-normal_form (AllValuesFrom role c) = names_in-normal_form c
  names_in-normal_form (HasValue role name) = refl

  pub names_in-complement : (c : Concept) → names_in (complement c) ≡ names_in c
  names_in-complement Everything = refl
  names_in-complement (Atomic word) = refl
  names_in-complement (ComplementOf c) = names_in-normal_form c
  names_in-complement (IntersectionOf cs) = names_in-complements cs
  names_in-complement (UnionOf cs) = names_in-complements cs
  names_in-complement (SomeValuesFrom role c) = names_in-complement c
  names_in-complement (AllValuesFrom role c) = names_in-complement c
  names_in-complement (HasValue role name) = refl

  names_in-normal_forms : (cs : Concepts) → names_in_each (normal_forms cs) ≡ names_in_each cs
  names_in-normal_forms no_concept = refl
  names_in-normal_forms (also_concept c cs) = λ j. names_in-normal_form c j ++ names_in-normal_forms cs j

  names_in-complements : (cs : Concepts) → names_in_each (complements cs) ≡ names_in_each cs
  names_in-complements no_concept = refl
  names_in-complements (also_concept c cs) = λ j. names_in-complement c j ++ names_in-complements cs j

module _ (names : List WordId) where
  -- whether each of these names is among the given ones
  abbrev pub over : List WordId → Bool
  over ns = list_all (is_among names) ns

  both : (ns ms : List WordId) → over ns ≡ true → over ms ≡ true → over (ns ++ ms) ≡ true
  both ns ms p q = list_all-append (is_among names) ns ms ∙ and_from (over ns) (over ms) p q

  parts : (ns ms : List WordId) → over (ns ++ ms) ≡ true → (over ns ≡ true) × (over ms ≡ true)
  parts ns ms h = and_parts (over ns) (over ms) (sym (list_all-append (is_among names) ns ms) ∙ h)

  over-either : (c d : Concept) → over (names_in c) ≡ true → over (names_in d) ≡ true → over (names_in (either c d)) ≡ true
  over-either c d p q = both (names_in c) (names_in d ++ []) p (both (names_in d) [] q refl)

  over-complement : (c : Concept) → over (names_in c) ≡ true → over (names_in (complement c)) ≡ true
  over-complement c p = ap over (names_in-complement c) ∙ p

  over-without : (cs : Concepts) → over (names_in_each cs) ≡ true → over (names_in_each (without_first_word cs)) ≡ true
  over-without no_concept p = refl
  over-without (also_concept c cs) p = by_word (over-without cs (parts (names_in c) (names_in_each cs) p).1) (word_part c)
    where
      by_word : over (names_in_each (without_first_word cs)) ≡ true → (o : Option WordId)
          → over (names_in_each (option_map_or (λ w. cs) o (also_concept c (without_first_word cs)))) ≡ true
      by_word later None = both (names_in c) (names_in_each (without_first_word cs)) (parts (names_in c) (names_in_each cs) p).0 later
      by_word later (Some w) = (parts (names_in c) (names_in_each cs) p).1

  over-together : (cs : Concepts) → over (names_in_each cs) ≡ true → over (names_in (together cs)) ≡ true
  over-together no_concept p = refl
  over-together (also_concept c no_concept) p = (parts (names_in c) [] p).0
  over-together (also_concept c (also_concept d cs)) p = p

  -- whether each name in a piece is among the given ones
  abbrev pub piece_over : Piece → Bool
  piece_over p = over (names_in_claim (claim_in p))

  one_piece : (p : Piece) → piece_over p ≡ true → list_all piece_over (p ∷ []) ≡ true
  one_piece p h = and_from (piece_over p) true h refl

  mutual
    over-inclusion : (c d : Concept) → over (names_in c) ≡ true → over (names_in d) ≡ true → list_all piece_over (inclusion c d) ≡ true
    over-inclusion Everything d p q = one_piece (General d) q
    over-inclusion (Atomic word) d p q = one_piece (Unfolding word d) q
    over-inclusion (ComplementOf c) d p q =
        one_piece (general (ComplementOf c) d) (over-either (complement (ComplementOf c)) d (over-complement (ComplementOf c) p) q)
    over-inclusion (IntersectionOf cs) d p q = by_word (first_word cs)
      where
        by_word : (o : Option WordId) → list_all piece_over (option_map_or (guarded cs d) o (general (IntersectionOf cs) d) ∷ []) ≡ true
        by_word None = one_piece (general (IntersectionOf cs) d) (over-either (complement (IntersectionOf cs)) d (over-complement (IntersectionOf cs) p) q)
        by_word (Some word) = one_piece (guarded cs d word)
            (over-either (complement (together (without_first_word cs))) d
            (over-complement (together (without_first_word cs)) (over-together (without_first_word cs) (over-without cs p))) q)
    over-inclusion (UnionOf cs) d p q = over-inclusions cs d p q
    over-inclusion (SomeValuesFrom role c) d p q = over-inclusion c (AllValuesFrom (inverse role) d) p q
    over-inclusion (AllValuesFrom role c) d p q =
        one_piece (general (AllValuesFrom role c) d) (over-either (complement (AllValuesFrom role c)) d (over-complement (AllValuesFrom role c) p) q)
    over-inclusion (HasValue role name) d p q =
        one_piece (Assertion name (AllValuesFrom (inverse role) d))
        (and_from (is_among names name) (over (names_in d)) (and_parts (is_among names name) true p).0 q)

    over-inclusions : (cs : Concepts) (d : Concept) → over (names_in_each cs) ≡ true → over (names_in d) ≡ true → list_all piece_over (inclusions cs d) ≡ true
    over-inclusions no_concept d p q = refl
    over-inclusions (also_concept c cs) d p q =
        list_all-append piece_over (inclusion c d) (inclusions cs d)
        ∙ and_from (list_all piece_over (inclusion c d)) (list_all piece_over (inclusions cs d))
        (over-inclusion c d (parts (names_in c) (names_in_each cs) p).0 q) (over-inclusions cs d (parts (names_in c) (names_in_each cs) p).1 q)

  over-pieces_of : (claim : Claim) → over (names_in_claim claim) ≡ true → list_all piece_over (pieces_of claim) ≡ true
  over-pieces_of (SubClassOf c d) h = over-inclusion c d (parts (names_in c) (names_in d) h).0 (parts (names_in c) (names_in d) h).1
  over-pieces_of (SubPropertyOf r s) h = refl
  over-pieces_of (ClassAssertion c name) h = one_piece (Assertion name c) h
  over-pieces_of (PropertyAssertion r from to) h = one_piece (Related r from to) h
  over-pieces_of (NegativePropertyAssertion r from to) h = one_piece (Assertion from (ComplementOf (HasValue r to))) h
  over-pieces_of (SameIndividual one other) h = one_piece (Equality one other) h
  over-pieces_of (DifferentIndividuals one other) h = one_piece (Difference one other) h
  over-pieces_of (TransitiveProperty word) h = one_piece (Transitivity word) h

  pub over-all_pieces : (claims : List Claim) → are_over names claims ≡ true → list_all piece_over (all_pieces claims) ≡ true
  over-all_pieces [] h = refl
  over-all_pieces (claim ∷ claims) h =
      let two = and_parts (over (names_in_claim claim)) (are_over names claims) h in
      list_all-append piece_over (pieces_of claim) (all_pieces claims)
      ∙ and_from (list_all piece_over (pieces_of claim)) (list_all piece_over (all_pieces claims)) (over-pieces_of claim two.0) (over-all_pieces claims two.1)

-- the given names of knowledge are those of its entries
pub is_given-among : (k : Theory) (name : WordId) → is_given k name ≡ is_among (map (λ (e : WordId × WordId). e.0) k.names) name
is_given-among k name = go k.names
  where
    go : (es : List (WordId × WordId)) → list_any (λ e. is_word name e.0) es ≡ is_among (map (λ (e : WordId × WordId). e.0) es) name
    go [] = refl
    go (e ∷ es) = ap (λ b. is_word name e.0 || b) (go es)

mutual
  pub names_given-over : (k : Theory) (c : Concept) → over (map (λ (e : WordId × WordId). e.0) k.names) (names_in c) ≡ true → names_given k c ≡ true
  names_given-over k Everything h = refl
  names_given-over k (Atomic word) h = refl
  names_given-over k (ComplementOf c) h = names_given-over k c h
  names_given-over k (IntersectionOf cs) h = each_names_given-over k cs h
  names_given-over k (UnionOf cs) h = each_names_given-over k cs h
  names_given-over k (SomeValuesFrom role c) h = names_given-over k c h
  names_given-over k (AllValuesFrom role c) h = names_given-over k c h
  names_given-over k (HasValue role name) h = is_given-among k name ∙ (and_parts (is_among (map (λ (e : WordId × WordId). e.0) k.names) name) true h).0

  each_names_given-over : (k : Theory) (cs : Concepts) → over (map (λ (e : WordId × WordId). e.0) k.names) (names_in_each cs) ≡ true
      → each_names_given k cs ≡ true
  each_names_given-over k no_concept h = refl
  each_names_given-over k (also_concept c cs) h =
      let two = parts (map (λ (e : WordId × WordId). e.0) k.names) (names_in c) (names_in_each cs) h in
      and_from (names_given k c) (each_names_given k cs) (names_given-over k c two.0) (each_names_given-over k cs two.1)

-- whether the class of a piece is plain
abbrev pub piece_plain : Piece → Bool
piece_plain p = is_plain_claim (claim_in p)

plain_from : (c : Concept) → is_normal c ≡ true → is_wide c ≡ true → is_plain c ≡ true
plain_from c n w = and_from (is_normal c) (is_wide c) n w

plain_parts : (c : Concept) → is_plain c ≡ true → (is_normal c ≡ true) × (is_wide c ≡ true)
plain_parts c h = and_parts (is_normal c) (is_wide c) h

plain-complement : (c : Concept) → is_wide c ≡ true → is_plain (complement c) ≡ true
plain-complement c w = plain_from (complement c) (is_normal-complement c) (is_wide-complement c ∙ w)

plain-either : (c d : Concept) → is_plain c ≡ true → is_plain d ≡ true → is_plain (either c d) ≡ true
plain-either c d p q =
    let a = plain_parts c p in
    let b = plain_parts d q in
    plain_from (either c d)
    (and_from (is_normal c) (is_normal d && true) a.0 (and_from (is_normal d) true b.0 refl))
    (and_from (is_wide c) (is_wide d && true) a.1 (and_from (is_wide d) true b.1 refl))

plain-general : (c d : Concept) → is_wide c ≡ true → is_plain d ≡ true → list_all piece_plain (General (either (complement c) d) ∷ []) ≡ true
plain-general c d w q =
    and_from (is_plain Everything && is_plain (either (complement c) d)) true
    (and_from (is_plain Everything) (is_plain (either (complement c) d)) refl (plain-either (complement c) d (plain-complement c w) q)) refl

wide-without : (cs : Concepts) → each_wide cs ≡ true → each_wide (without_first_word cs) ≡ true
wide-without no_concept h = refl
wide-without (also_concept c cs) h = by_word (wide-without cs (and_parts (is_wide c) (each_wide cs) h).1) (word_part c)
  where
    by_word : each_wide (without_first_word cs) ≡ true → (o : Option WordId)
        → each_wide (option_map_or (λ w. cs) o (also_concept c (without_first_word cs))) ≡ true
    by_word later None = and_from (is_wide c) (each_wide (without_first_word cs)) (and_parts (is_wide c) (each_wide cs) h).0 later
    by_word later (Some w) = (and_parts (is_wide c) (each_wide cs) h).1

wide-together : (cs : Concepts) → each_wide cs ≡ true → is_wide (together cs) ≡ true
wide-together no_concept h = refl
wide-together (also_concept c no_concept) h = (and_parts (is_wide c) true h).0
wide-together (also_concept c (also_concept d cs)) h = h

unfolds : (word : WordId) (d : Concept) → is_plain d ≡ true → list_all piece_plain (Unfolding word d ∷ []) ≡ true
unfolds word d q = and_from (is_plain (Atomic word) && is_plain d) true (and_from (is_plain (Atomic word)) (is_plain d) refl q) refl

mutual
  plain-inclusion : (c d : Concept) → is_wide c ≡ true → is_plain d ≡ true → list_all piece_plain (inclusion c d) ≡ true
  plain-inclusion Everything d w q = and_from (is_plain Everything && is_plain d) true (and_from (is_plain Everything) (is_plain d) refl q) refl
  plain-inclusion (Atomic word) d w q = unfolds word d q
  plain-inclusion (ComplementOf c) d w q = plain-general (ComplementOf c) d w q
  plain-inclusion (IntersectionOf cs) d w q = by_word (first_word cs)
    where
      by_word : (o : Option WordId) → list_all piece_plain (option_map_or (guarded cs d) o (general (IntersectionOf cs) d) ∷ []) ≡ true
      by_word None = plain-general (IntersectionOf cs) d w q
      by_word (Some word) =
          unfolds word (either (complement (together (without_first_word cs))) d)
          (plain-either (complement (together (without_first_word cs))) d
          (plain-complement (together (without_first_word cs))
          (wide-together (without_first_word cs) (wide-without cs (and_parts (has_two cs) (each_wide cs) w).1))) q)
  plain-inclusion (UnionOf cs) d w q = plain-inclusions cs d (and_parts (has_two cs) (each_wide cs) w).1 q
  plain-inclusion (SomeValuesFrom role c) d w q = plain-inclusion c (AllValuesFrom (inverse role) d) w q
  plain-inclusion (AllValuesFrom role c) d w q = plain-general (AllValuesFrom role c) d w q
  plain-inclusion (HasValue role name) d w q = and_from (is_plain d) true q refl

  plain-inclusions : (cs : Concepts) (d : Concept) → each_wide cs ≡ true → is_plain d ≡ true → list_all piece_plain (inclusions cs d) ≡ true
  plain-inclusions no_concept d w q = refl
  plain-inclusions (also_concept c cs) d w q =
      list_all-append piece_plain (inclusion c d) (inclusions cs d)
      ∙ and_from (list_all piece_plain (inclusion c d)) (list_all piece_plain (inclusions cs d))
      (plain-inclusion c d (and_parts (is_wide c) (each_wide cs) w).0 q) (plain-inclusions cs d (and_parts (is_wide c) (each_wide cs) w).1 q)

plain-pieces_of : (claim : Claim) → is_plain_claim claim ≡ true → list_all piece_plain (pieces_of claim) ≡ true
plain-pieces_of (SubClassOf c d) h = plain-inclusion c d (plain_parts c (and_parts (is_plain c) (is_plain d) h).0).1 (and_parts (is_plain c) (is_plain d) h).1
plain-pieces_of (SubPropertyOf r s) h = refl
plain-pieces_of (ClassAssertion c name) h = and_from (is_plain c) true h refl
plain-pieces_of (PropertyAssertion r from to) h = refl
plain-pieces_of (NegativePropertyAssertion r from to) h = refl
plain-pieces_of (SameIndividual one other) h = refl
plain-pieces_of (DifferentIndividuals one other) h = refl
plain-pieces_of (TransitiveProperty word) h = refl

pub plain-all_pieces : (claims : List Claim) → are_plain claims ≡ true → list_all piece_plain (all_pieces claims) ≡ true
plain-all_pieces [] h = refl
plain-all_pieces (claim ∷ claims) h =
    let two = and_parts (is_plain_claim claim) (are_plain claims) h in
    list_all-append piece_plain (pieces_of claim) (all_pieces claims)
    ∙ and_from (list_all piece_plain (pieces_of claim)) (list_all piece_plain (all_pieces claims)) (plain-pieces_of claim two.0) (plain-all_pieces claims two.1)
