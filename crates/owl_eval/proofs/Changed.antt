-- Words that are noted where two interpretations don't give them the same.
use Rattle.std.proofs.Common.{◌≡◌, ◌==◌, ℕ, ◌+◌, Bool, true, false, List, [], ◌∷◌, ◌++◌, map, take, Option, Some, None, All, cond, unwrap_or, slice_get, IsPermutation, refl, sym, ap, ◌∙◌, subst, inl, inr}
use Rattle.std.specs.Prelude.{◌⊎◌}
use Rattle.std.specs.Map.{lookup}
use Rattle.std.specs.Option.{option_map}
use Rattle.std.proofs.lemmas.Bool.{or_parts, eq-eqb, false≢true}
use Rattle.std.proofs.lemmas.Option.{slice_get-map, slice_get_within, get_or_from_slice_get, same_Some}
use Rattle.std.proofs.lemmas.List.Elements.{All-more, All-weaker, All-head, All-tail}
use Rattle.std.proofs.lemmas.List.Folds.{list_any-append}
use Rattle.std.proofs.lemmas.List.Sorted.{list_any-IsPermutation}
use Rattle.wiki_base.specs.declared.numbers.WordId.{WordId}
use Rattle.logic_terms.specs.Interpretation.{Interpretation, is_interpretation, is_word, words_rise}
use Rattle.logic_terms.proofs.SameLemmas.{word_equal}
use Rattle.owl_eval.specs.declared.changes.Kind.{Kind}
use Rattle.owl_eval.specs.declared.changes.Kind.TheVariants.{Names, Classes, Relations}
use Rattle.owl_eval.specs.Changes.{is_listed, words_of, GiveSame, AreSameAt, IsPartOf, DifferOnlyAt}
use Rattle.owl_eval.proofs.Lookups.{at_place}
use Rattle.owl_eval.proofs.Successors.{parts_of}

pub part_push : (ns : List ℕ) (n : ℕ) → IsPartOf ns (ns ++ n ∷ [])
part_push ns n w h =
    (or_parts (is_listed ns w) (is_listed (n ∷ []) w) (sym (list_any-append (λ m. m == w.0) ns (n ∷ [])) ∙ h)).0

listed_last : (ns : List ℕ) (w : WordId) → is_listed (ns ++ w.0 ∷ []) w ≡ false → ⊥
listed_last ns w h =
    let last = (or_parts (is_listed ns w) (is_listed (w.0 ∷ []) w) (sym (list_any-append (λ m. m == w.0) ns (w.0 ∷ [])) ∙ h)).1 in
    false≢true (sym (or_parts (w.0 == w.0) false last).0 ∙ eq-eqb w.0 w.0 refl)

-- each of some words is listed, or P is true of it
abbrev pub AreNoted : List ℕ → (WordId → Type 0) → List WordId → Type 0
AreNoted ns P ws = All (λ w. is_listed ns w ≡ false → P w) ws

pub noted_kept : (ns ms : List ℕ) (P : WordId → Type 0) (ws : List WordId) → IsPartOf ns ms → AreNoted ns P ws → AreNoted ms P ws
noted_kept ns ms P ws part noted =
    All-weaker (λ w. is_listed ns w ≡ false → P w) (λ w. is_listed ms w ≡ false → P w) (λ w f h. f (part w h)) ws noted

-- one word more: it is one of which P is true, or it is listed now
module _ (ns : List ℕ) (P : WordId → Type 0) (ws : List WordId) (k : ℕ) (w : WordId) (at : slice_get ws k ≡ Some w) (noted : AreNoted ns P (take k ws)) where
  pub noted_same : P w → AreNoted ns P (take (k + 1) ws)
  noted_same here =
      All-more (λ v. is_listed ns v ≡ false → P v) ws k w (slice_get_within ws k w at) noted
      (λ h. subst P (sym (get_or_from_slice_get ws k w w at)) here)

  pub noted_push : AreNoted (ns ++ w.0 ∷ []) P (take (k + 1) ws)
  noted_push =
      let ms = ns ++ w.0 ∷ [] in
      All-more (λ v. is_listed ms v ≡ false → P v) ws k w (slice_get_within ws k w at) (noted_kept ns ms P (take k ws) (part_push ns w.0) noted)
      (λ h. absurd (listed_last ns w (subst (λ v. is_listed ms v ≡ false) (get_or_from_slice_get ws k w w at) h)))

module _ {V : Type 0} where
  at_get : (es : List (WordId × V)) → words_rise es ≡ true → (k : ℕ) (e : WordId × V) → slice_get es k ≡ Some e → lookup (is_word e.0) es ≡ Some e.1
  at_get es rise k e at =
      let is = get_or_from_slice_get es k e e at in
      at_place es rise e.0 k e (slice_get_within es k e at) (ap (λ f. f.0.0) is) ∙ ap (λ f. Some f.1) is

  -- two lists that have the same entry at two places give its word the same
  looked_up : (es fs : List (WordId × V)) → words_rise es ≡ true → words_rise fs ≡ true → (k m : ℕ) (w : WordId)
      → slice_get (map (λ e. e.0) es) k ≡ Some w → slice_get es k ≡ slice_get fs m → lookup (is_word w) es ≡ lookup (is_word w) fs
  looked_up es fs rise rises k m w at same = by (slice_get es k) refl (sym same) (sym (slice_get-map (λ (e : WordId × V). e.0) es k) ∙ at)
    where
      by : (o : Option (WordId × V)) → slice_get es k ≡ o → slice_get fs m ≡ o → option_map (λ e. e.0) o ≡ Some w
          → lookup (is_word w) es ≡ lookup (is_word w) fs
      by None here there h = absurd (cc)
      by (Some e) here there h =
          subst (λ v. lookup (is_word v) es ≡ lookup (is_word v) fs) (same_Some e.0 w h) (at_get es rise k e here ∙ sym (at_get fs rises m e there))

  -- a word is one of a list's, or the list has nothing for it
  stands_or_none : (P : WordId → Type 0) (es : List (WordId × V)) (w : WordId) → All P (map (λ e. e.0) es) → P w ⊎ (lookup (is_word w) es ≡ None)
  stands_or_none P [] w all = inr refl
  stands_or_none P (e ∷ es) w all =
      by (is_word w e.0) refl (stands_or_none P es w (All-tail P e.0 (map (λ f. f.0) es) all))
    where
      behind : is_word w e.0 ≡ false → P w ⊎ (lookup (is_word w) es ≡ None) → P w ⊎ (lookup (is_word w) (e ∷ es) ≡ None)
      behind h (inl p) = inl p
      behind h (inr none) = inr (ap (λ b. cond b (Some e.1) (lookup (is_word w) es)) h ∙ none)

      by : (b : Bool) → is_word w e.0 ≡ b → P w ⊎ (lookup (is_word w) es ≡ None) → P w ⊎ (lookup (is_word w) (e ∷ es) ≡ None)
      by true h rest = inl (subst P (sym (word_equal w e.0 h)) (All-head P e.0 (map (λ f. f.0) es) all))
      by false h rest = behind h rest

  abbrev Finds : V → List (WordId × V) → WordId → V
  Finds d es w = unwrap_or (lookup (is_word w) es) d

  -- two lists give a word the same if each of them gives its own words what the other does
  given_same : (d : V) (es fs : List (WordId × V)) (ns : List ℕ) → AreNoted ns (λ w. Finds d es w ≡ Finds d fs w) (map (λ e. e.0) es)
      → AreNoted ns (λ w. Finds d fs w ≡ Finds d es w) (map (λ f. f.0) fs) → (w : WordId) → is_listed ns w ≡ false → Finds d es w ≡ Finds d fs w
  given_same d es fs ns one other w h =
      by (stands_or_none (λ v. is_listed ns v ≡ false → Finds d es v ≡ Finds d fs v) es w one)
      (stands_or_none (λ v. is_listed ns v ≡ false → Finds d fs v ≡ Finds d es v) fs w other)
    where
      by : (is_listed ns w ≡ false → Finds d es w ≡ Finds d fs w) ⊎ (lookup (is_word w) es ≡ None)
          → (is_listed ns w ≡ false → Finds d fs w ≡ Finds d es w) ⊎ (lookup (is_word w) fs ≡ None) → Finds d es w ≡ Finds d fs w
      by (inl p) q = p h
      by (inr none) (inl q) = sym (q h)
      by (inr none) (inr nothing) = ap (λ o. unwrap_or o d) (none ∙ sym nothing)

-- the word at a place is given the same by an interpretation that has the same at one of its places
pub same_given : (kind : Kind) (i j : Interpretation) → is_interpretation i ≡ true → is_interpretation j ≡ true → (k m : ℕ) (w : WordId)
    → slice_get (words_of kind i) k ≡ Some w → AreSameAt kind i j k m → GiveSame kind i j w
same_given Names i j sound sounds k m w at same =
    ap (λ o. unwrap_or o 0) (looked_up i.names j.names (parts_of i sound).1 (parts_of j sounds).1 k m w at same)
same_given Classes i j sound sounds k m w at same =
    ap (λ o. unwrap_or o []) (looked_up i.classes j.classes (parts_of i sound).2 (parts_of j sounds).2 k m w at same)
same_given Relations i j sound sounds k m w at same =
    ap (λ o. unwrap_or o []) (looked_up i.relations j.relations (parts_of i sound).3 (parts_of j sounds).3 k m w at same)

pub noted_all : (kind : Kind) (i j : Interpretation) (ns : List ℕ) → AreNoted ns (GiveSame kind i j) (words_of kind i)
    → AreNoted ns (GiveSame kind j i) (words_of kind j) → (w : WordId) → is_listed ns w ≡ false → GiveSame kind i j w
noted_all Names i j ns one other = given_same 0 i.names j.names ns one other
noted_all Classes i j ns one other = given_same [] i.classes j.classes ns one other
noted_all Relations i j ns one other = given_same [] i.relations j.relations ns one other

-- every changed word is listed, once the words of each kind are noted and the list is put in order
module _ (i j : Interpretation) (first second third ordered : List ℕ) where
  pub differ_at : (a b : Interpretation) → i ≡ a → j ≡ b → a.size ≡ b.size → ((w : WordId) → is_listed first w ≡ false → GiveSame Names i j w)
      → IsPartOf first second → ((w : WordId) → is_listed second w ≡ false → GiveSame Classes i j w) → IsPartOf second third
      → ((w : WordId) → is_listed third w ≡ false → GiveSame Relations i j w) → IsPermutation third ordered → DifferOnlyAt ordered a b
  differ_at a b one other size names two classes three relations same =
      let before : (w : WordId) → is_listed ordered w ≡ false → is_listed third w ≡ false =
      λ w h. list_any-IsPermutation (λ n. n == w.0) third ordered same ∙ h in
      let moved : (kind : Kind) (w : WordId) → GiveSame kind i j w → GiveSame kind a b w =
      λ kind w g. subst (λ d. GiveSame kind a d w) other (subst (λ e. GiveSame kind e j w) one g) in
      record {
        size = size;
        names = λ w h. moved Names w (names w (two w (three w (before w h))));
        classes = λ w h. moved Classes w (classes w (three w (before w h)));
        relations = λ w h. moved Relations w (relations w (before w h));
      }
