-- The meaning of a node by its label and its children.
use Rattle.std.proofs.Common.{◌≡◌, ℕ, zero, suc, ◌<◌, Bool, true, false, cond, List, [], ◌∷◌, ◌++◌, length, get_or, drop, take, map, refl, sym, ap, ◌∙◌, append_assoc, append-nil, add-one, ◌+◌, Some, None}
use Rattle.std.specs.Prelude.{filter, flat_map, slice_get, slice_index, slice_index_or}
use Rattle.std.specs.Option.{option_map_or}
use Rattle.wiki_base.specs.declared.numbers.WordId.{WordId}
use Rattle.wiki_base.proofs.ListLaws.{slice_get_at}
use Rattle.codeco_terms.specs.declared.rules.Label.{Label}
use Rattle.codeco_terms.specs.GrammarParts.{GrammarParts}
use Rattle.derivation_trees.specs.declared.skeletons.Skeleton.{Skeleton, out-Skeleton}
use Rattle.derivation_trees.specs.declared.skeletons.Skeleton.TheFolds.{fold_out-Skeleton}
use Rattle.derivation_trees.specs.Sketches.{body_of}
use Rattle.drs_build.proofs.FreeLemmas.{drop_next}
use Rattle.drs_build.specs.Meanings.{Meaning, nothing, Made, meaning}
use Rattle.drs_build.specs.Nodes.{Named, named, named_layer, names_of, own_name, Phrase, phrase_in, phrase_layer, meaning_in, meant, is_meant, made, made_in, label_of, introduced_at, ends_of, meant_children, child_meaning, no_word, term_at}

-- Names

named_is : (g : GrammarParts) (sk : Skeleton)
    → named g sk ≡ named_layer g (record {
      rule = (out-Skeleton sk).rule;
      start = (out-Skeleton sk).start;
      end = (out-Skeleton sk).end;
      found = (out-Skeleton sk).found;
      words = (out-Skeleton sk).words;
      children = map (named g) (out-Skeleton sk).children;
    })
unfolding named
named_is g sk = fold_out-Skeleton Named (named_layer g) sk

named_end : (g : GrammarParts) (sk : Skeleton) → (named g sk).end ≡ (out-Skeleton sk).end
named_end g sk = ap (λ n. n.end) (named_is g sk)

named_ends : (g : GrammarParts) (sks : List Skeleton) → map (λ c. c.end) (map (named g) sks) ≡ ends_of sks
named_ends g [] = refl
named_ends g (sk ∷ sks) = ap (λ e. e ∷ map (λ c. c.end) (map (named g) sks)) (named_end g sk) ∙ ap (λ es. (out-Skeleton sk).end ∷ es) (named_ends g sks)

names_in_all : (g : GrammarParts) (sks : List Skeleton) → flat_map (λ c. c.names) (map (named g) sks) ≡ flat_map (names_of g) sks
names_in_all g [] = refl
names_in_all g (sk ∷ sks) = ap (λ ns. names_of g sk ++ ns) (names_in_all g sks)

-- the names of a skeleton: its own, and those of its children
pub names_of_is : (g : GrammarParts) (sk : Skeleton)
    → names_of g sk ≡ own_name g (out-Skeleton sk).rule (out-Skeleton sk).start (out-Skeleton sk).words (ends_of (out-Skeleton sk).children)
    ++ flat_map (names_of g) (out-Skeleton sk).children
names_of_is g sk =
    ap (λ n. n.names) (named_is g sk)
    ∙ ap (λ es. own_name g (out-Skeleton sk).rule (out-Skeleton sk).start (out-Skeleton sk).words es
    ++ flat_map (λ c. c.names) (map (named g) (out-Skeleton sk).children)) (named_ends g (out-Skeleton sk).children)
    ∙ ap (λ ns. own_name g (out-Skeleton sk).rule (out-Skeleton sk).start (out-Skeleton sk).words (ends_of (out-Skeleton sk).children) ++ ns)
    (names_in_all g (out-Skeleton sk).children)

-- the names of a skeleton, put after others in parts
pub names_whole : (g : GrammarParts) (sk : Skeleton) (before all : List (ℕ × WordId))
    → all ≡ (before ++ own_name g (out-Skeleton sk).rule (out-Skeleton sk).start (out-Skeleton sk).words (ends_of (out-Skeleton sk).children))
    ++ flat_map (names_of g) (out-Skeleton sk).children → all ≡ before ++ names_of g sk
names_whole g sk before all h =
    h
    ∙ append_assoc before (own_name g (out-Skeleton sk).rule (out-Skeleton sk).start (out-Skeleton sk).words (ends_of (out-Skeleton sk).children))
    (flat_map (names_of g) (out-Skeleton sk).children)
    ∙ ap (λ ns. before ++ ns) (sym (names_of_is g sk))

taken_more : (g : GrammarParts) (ks : List Skeleton) (n : ℕ) (child : Skeleton) → slice_get ks n ≡ Some child
    → flat_map (names_of g) (take (suc n) ks) ≡ flat_map (names_of g) (take n ks) ++ names_of g child
taken_more g [] n child h = absurd cc
taken_more g (k ∷ ks) zero child h = let same : k ≡ child = cc in ap (λ x. names_of g x ++ []) same ∙ append-nil (names_of g child)
taken_more g (k ∷ ks) (suc n) child h = ap (λ ns. names_of g k ++ ns) (taken_more g ks n child h)
    ∙ sym (append_assoc (names_of g k) (flat_map (names_of g) (take n ks)) (names_of g child))

-- the names of one child more
pub names_more : (g : GrammarParts) (kids : List Skeleton) (place : ℕ) (child : Skeleton) (before some all : List (ℕ × WordId))
    → slice_get kids place ≡ Some child → some ≡ before ++ flat_map (names_of g) (take place kids) → all ≡ some ++ names_of g child
    → all ≡ before ++ flat_map (names_of g) (take (place + 1) kids)
names_more g kids place child before some all at are more =
    more
    ∙ ap (λ ns. ns ++ names_of g child) are
    ∙ append_assoc before (flat_map (names_of g) (take place kids)) (names_of g child)
    ∙ ap (λ ns. before ++ ns) (sym (taken_more g kids place child at) ∙ ap (λ n. flat_map (names_of g) (take n kids)) (sym (add-one place)))

-- Meanings

module _ (g : GrammarParts) (names : List (ℕ × WordId)) where
  phrase_is : (sk : Skeleton) → phrase_in g names sk
      ≡ phrase_layer g names (record {
        rule = (out-Skeleton sk).rule;
        start = (out-Skeleton sk).start;
        end = (out-Skeleton sk).end;
        found = (out-Skeleton sk).found;
        words = (out-Skeleton sk).words;
        children = map (phrase_in g names) (out-Skeleton sk).children;
      })
  unfolding phrase_in
  phrase_is sk = fold_out-Skeleton Phrase (phrase_layer g names) sk

  phrase_ends : (sks : List Skeleton) → map (λ c. c.end) (map (phrase_in g names) sks) ≡ ends_of sks
  phrase_ends [] = refl
  phrase_ends (sk ∷ sks) = ap (λ e. e ∷ map (λ c. c.end) (map (phrase_in g names) sks)) (ap (λ p. p.end) (phrase_is sk))
      ∙ ap (λ es. (out-Skeleton sk).end ∷ es) (phrase_ends sks)

  meant_are : (sks : List Skeleton) → meant (map (phrase_in g names) sks) ≡ map (meaning_in g names) (filter (λ c. is_meant g (out-Skeleton c).rule) sks)
  meant_are [] = refl
  meant_are (sk ∷ sks) =
      ap (λ b. cond b (meaning_in g names sk ∷ meant (map (phrase_in g names) sks)) (meant (map (phrase_in g names) sks))) (ap (λ p. p.is_meant) (phrase_is sk))
      ∙ ap (λ ms. cond (is_meant g (out-Skeleton sk).rule) (meaning_in g names sk ∷ ms) ms) (meant_are sks) ∙ out (is_meant g (out-Skeleton sk).rule)
    where
      out : (b : Bool) → cond b (meaning_in g names sk ∷ map (meaning_in g names) (filter (λ c. is_meant g (out-Skeleton c).rule) sks))
          (map (meaning_in g names) (filter (λ c. is_meant g (out-Skeleton c).rule) sks))
          ≡ map (meaning_in g names) (cond b (sk ∷ filter (λ c. is_meant g (out-Skeleton c).rule) sks) (filter (λ c. is_meant g (out-Skeleton c).rule) sks))
      out true = refl
      out false = refl

  nth_meant : (sks : List Skeleton) (n : ℕ)
      → slice_index_or (map (meaning_in g names) sks) n nothing ≡ option_map_or (meaning_in g names) (slice_get sks n) nothing
  nth_meant [] n = refl
  nth_meant (sk ∷ sks) zero = refl
  nth_meant (sk ∷ sks) (suc n) = nth_meant sks n

  made_is : (sk : Skeleton) → made g names (out-Skeleton sk).rule (out-Skeleton sk).start (out-Skeleton sk).found (out-Skeleton sk).words
      (map (phrase_in g names) (out-Skeleton sk).children) ≡ made_in g names sk
  made_is sk =
      let child : (n : ℕ) → slice_index_or (meant (map (phrase_in g names) (out-Skeleton sk).children)) n nothing ≡ child_meaning g names sk n =
      λ n. ap (λ ms. slice_index_or ms n nothing) (meant_are (out-Skeleton sk).children) ∙ nth_meant (meant_children g sk) n in
      let with : Meaning → Meaning → List ℕ → Made = λ a b es. record {
        first = a;
        second = b;
        word = slice_index_or (out-Skeleton sk).words 0 no_word;
        other_word = slice_index_or (out-Skeleton sk).words 1 no_word;
        here = introduced_at (body_of g (out-Skeleton sk).rule) (out-Skeleton sk).start es;
        found = term_at names (slice_index (out-Skeleton sk).found 0);
      } in
      let second = slice_index_or (meant (map (phrase_in g names) (out-Skeleton sk).children)) 1 nothing in
      let ends = map (λ c. c.end) (map (phrase_in g names) (out-Skeleton sk).children) in
      ap (λ a. with a second ends) (child 0) ∙ ap (λ b. with (child_meaning g names sk 0) b ends) (child 1)
      ∙ ap (with (child_meaning g names sk 0) (child_meaning g names sk 1)) (phrase_ends (out-Skeleton sk).children)

  -- the meaning of a node, by its label
  pub meaning_is : (sk : Skeleton) → meaning_in g names sk ≡ option_map_or (λ l. meaning l (made_in g names sk)) (label_of g (out-Skeleton sk).rule) nothing
  meaning_is sk =
      ap (λ p. p.meaning) (phrase_is sk) ∙ ap (λ m. option_map_or (λ l. meaning l m) (label_of g (out-Skeleton sk).rule) nothing) (made_is sk)

  pub meaning_by : (sk : Skeleton) (l : Label) → label_of g (out-Skeleton sk).rule ≡ Some l → meaning_in g names sk ≡ meaning l (made_in g names sk)
  meaning_by sk l e = meaning_is sk ∙ ap (λ o. option_map_or (λ x. meaning x (made_in g names sk)) o nothing) e

  pub meaning_none : (sk : Skeleton) → label_of g (out-Skeleton sk).rule ≡ None → meaning_in g names sk ≡ nothing
  meaning_none sk e = meaning_is sk ∙ ap (λ o. option_map_or (λ x. meaning x (made_in g names sk)) o nothing) e

-- A child that is found among the children.

pub child_meant : (g : GrammarParts) (names : List (ℕ × WordId)) (sk : Skeleton) (n : ℕ) (child : Skeleton) → slice_get (meant_children g sk) n ≡ Some child
    → meaning_in g names child ≡ child_meaning g names sk n
child_meant g names sk n child is = sym (ap (λ o. option_map_or (meaning_in g names) o nothing) is)

pub here_meant : (p : Skeleton → Bool) (kids : List Skeleton) (place : ℕ) (child : Skeleton) → place < length kids → child ≡ get_or kids place child
    → p child ≡ true → slice_get (filter p (drop place kids)) 0 ≡ slice_get kids place
here_meant p kids place child below read is =
    let at : slice_get kids place ≡ Some child = slice_get_at kids place child below read in
    ap (λ ks. slice_get (filter p ks) 0) (drop_next kids place child at)
    ∙ ap (λ b. slice_get (cond b (child ∷ filter p (drop (suc place) kids)) (filter p (drop (suc place) kids))) 0) is ∙ sym at
