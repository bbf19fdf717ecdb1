-- Axioms that are sorted one after another.
use Rattle.std.proofs.Common.{◌≡◌, ℕ, suc, ◌+◌, ◌<◌, ◌≤◌, ◌⊎◌, List, [], ◌∷◌, ◌++◌, length, take, Some, refl, sym, ap, subst, ◌∙◌, arith, append-nil, append_assoc}
use Rattle.std.specs.Prelude.{slice_get}
use Rattle.std.specs.List.{flat_map}
use Rattle.std.proofs.lemmas.Grind.{flat_map-append}
use Rattle.std.proofs.lemmas.List.{take_more, length-take-le}
use Rattle.std.proofs.lemmas.Option.{slice_get_within, get_or_from_slice_get}
use Rattle.codeco_terms.specs.GrammarParts.{GrammarParts}
use Rattle.lexicon.specs.Words.{Listed}
use Rattle.logic_terms.specs.Concept.{Claim}
use Rattle.wiki_talk.specs.declared.limits.TheConstants.{MOST_SENTENCES}
use Rattle.owl_import.specs.Sentences.{IsSentenceOf, HasNoSentence, Fate, added, left_out, added_count, IsFateAt, IsFate, AreFates, add_line, left_line}
use Rattle.owl_import.specs.Steps.{AddsLine, Written, with_fates, SortsOne, SortsAll}

-- one fate more
fates_more : (g : GrammarParts) (words : Listed) (before : List Fate) (claims : List Claim) (fates : List Fate) (claim : Claim) (fate : Fate)
    → AreFates g words before claims fates → IsFate g words (before ++ fates) claim fate
    → AreFates g words before (claims ++ claim ∷ []) (fates ++ fate ∷ [])
fates_more g words before [] [] claim fate so_far is = (subst (λ (fs : List Fate). IsFate g words fs claim fate) (append-nil before) is, tt)
fates_more g words before (c ∷ cs) (f ∷ fs) claim fate so_far is = (
  so_far.0,
  fates_more g words (before ++ f ∷ []) cs fs claim fate so_far.1
      (subst (λ (those : List Fate). IsFate g words those claim fate) (sym (append_assoc before (f ∷ []) fs)) is),
)
fates_more g words before [] (f ∷ fs) claim fate so_far is = absurd so_far
fates_more g words before (c ∷ cs) [] claim fate so_far is = absurd so_far

fates_length : (g : GrammarParts) (words : Listed) (before : List Fate) (claims : List Claim) (fates : List Fate) → AreFates g words before claims fates
    → length fates ≡ length claims
fates_length g words before [] [] each = refl
fates_length g words before (c ∷ cs) (f ∷ fs) each = ap suc (fates_length g words (before ++ f ∷ []) cs fs each.1)
fates_length g words before [] (f ∷ fs) each = absurd each
fates_length g words before (c ∷ cs) [] each = absurd each

added_count-append : (one other : List Fate) → added_count (one ++ other) ≡ added_count one + added_count other
added_count-append [] other =
    let same : added_count other ≡ 0 + added_count other = omega arith in
    same
added_count-append (added article tokens ∷ fates) other =
    let same : suc (added_count fates + added_count other) ≡ suc (added_count fates) + added_count other = omega arith in
    ap suc (added_count-append fates other) ∙ same
added_count-append (left_out n claim ∷ fates) other = added_count-append fates other

-- lines with fates behind them, and more fates behind these
with_more : (g : GrammarParts) (words : Listed) (iris : List (List ℕ)) (old : Written) (one other : List Fate)
    → with_fates g words iris (with_fates g words iris old one) other ≡ with_fates g words iris old (one ++ other)
with_more g words iris old one other =
    let told_then = (old.left_out ++ flat_map (left_line words iris) one) ++ flat_map (left_line words iris) other in
    let count_then = (old.count + added_count one) + added_count other in
    let requests = old.requests ++ flat_map (add_line g) (one ++ other) in
    let told = old.left_out ++ flat_map (left_line words iris) (one ++ other) in
    ap (λ (x : List ℕ). record { requests = x; left_out = told_then; count = count_then }) (regrouped (add_line g) old.requests one other)
    ∙ ap (λ (x : List ℕ). record { requests = requests; left_out = x; count = count_then }) (regrouped (left_line words iris) old.left_out one other)
    ∙ ap (λ (x : ℕ). record { requests = requests; left_out = told; count = x }) (recounted old.count one other)
  where
    regrouped : (line : Fate → List ℕ) (start : List ℕ) (these those : List Fate)
        → (start ++ flat_map line these) ++ flat_map line those ≡ start ++ flat_map line (these ++ those)
    regrouped line start these those =
        append_assoc start (flat_map line these) (flat_map line those) ∙ ap (λ (l : List ℕ). start ++ l) (sym (flat_map-append line these those))

    recounted : (n : ℕ) (these those : List Fate) → (n + added_count these) + added_count those ≡ n + added_count (these ++ those)
    recounted n these those = omega (arith, added_count-append these those)

before_end : (k n : ℕ) → k < n → k ≤ n
before_end k n within = omega arith

zero_more : (n : ℕ) → 0 + n ≡ n
zero_more n = omega arith

no_more : (n : ℕ) → n ≡ n + 0
no_more n = omega arith

one_more : (n : ℕ) → n + 1 ≡ n + suc 0
one_more n = omega arith

-- lines by their parts
written_as : (new : Written) (requests told : List ℕ) (count : ℕ) → new.requests ≡ requests → new.left_out ≡ told → new.count ≡ count
    → new ≡ record { requests = requests; left_out = told; count = count }
written_as new requests told count first second third =
    ap (λ (x : List ℕ). record { requests = x; left_out = new.left_out; count = new.count }) first
    ∙ ap (λ (x : List ℕ). record { requests = requests; left_out = x; count = new.count }) second
    ∙ ap (λ (x : ℕ). record { requests = requests; left_out = told; count = x }) third

module _ (g : GrammarParts) (words : Listed) (iris : List (List ℕ)) where
  -- none was sorted
  pub sorts_none : (old : Written) → SortsAll g words iris [] old old
  sorts_none old =
      let zero_more : old.count + 0 ≡ old.count = omega arith in
      record {
        fates = [];
        each = tt;
        written = sym (
            ap (λ (x : List ℕ). record { requests = x; left_out = old.left_out ++ []; count = old.count + 0 }) (append-nil old.requests)
            ∙ ap (λ (x : List ℕ). record { requests = old.requests; left_out = x; count = old.count + 0 }) (append-nil old.left_out)
            ∙ ap (λ (x : ℕ). record { requests = old.requests; left_out = old.left_out; count = x }) zero_more);
      }

  -- one more was sorted
  pub sorts_more : (claims : List Claim) (k : ℕ) (claim : Claim) (first mid new : Written) → first.count ≡ 0 → slice_get claims k ≡ Some claim
      → SortsAll g words iris (take k claims) first mid → SortsOne g words iris (k + 1) claim mid new → SortsAll g words iris (take (k + 1) claims) first new
  sorts_more claims k claim first mid new none at so_far one = record {
    fates = so_far.fates ++ one.fate ∷ [];
    each = subst (λ (cs : List Claim). AreFates g words [] cs (so_far.fates ++ one.fate ∷ [])) (sym longer)
        (fates_more g words [] (take k claims) so_far.fates claim one.fate so_far.each here);
    written = one.written ∙ ap (λ (w : Written). with_fates g words iris w (one.fate ∷ [])) so_far.written
        ∙ with_more g words iris first so_far.fates (one.fate ∷ []);
  }
    where
      within : k < length claims
      within = slice_get_within claims k claim at

      longer : take (k + 1) claims ≡ take k claims ++ claim ∷ []
      longer = take_more claims k claim within ∙ ap (λ (c : Claim). take k claims ++ c ∷ []) (get_or_from_slice_get claims k claim claim at)

      number : k + 1 ≡ length so_far.fates + 1
      number = omega (arith, fates_length g words [] (take k claims) so_far.fates so_far.each, length-take-le k claims (before_end k (length claims) within))

      count : mid.count ≡ added_count so_far.fates
      count = ap (λ (w : Written). w.count) so_far.written ∙ ap (λ (n : ℕ). n + added_count so_far.fates) none ∙ zero_more (added_count so_far.fates)

      here : IsFate g words so_far.fates claim one.fate
      here = subst (λ (n : ℕ). IsFateAt g words n (added_count so_far.fates) claim one.fate) number
          (subst (λ (n : ℕ). IsFateAt g words (k + 1) n claim one.fate) count one.is)

  -- an axiom is left out
  pub sorts_left : (number : ℕ) (claim : Claim) (old new : Written) → (MOST_SENTENCES ≤ old.count) ⊎ HasNoSentence g words claim
      → new.requests ≡ old.requests → new.left_out ≡ old.left_out ++ left_line words iris (left_out number claim) → new.count ≡ old.count
      → SortsOne g words iris number claim old new
  sorts_left number claim old new cause requests told count = record {
    fate = left_out number claim;
    is = (refl, refl, cause);
    written = written_as new (old.requests ++ []) (old.left_out ++ (left_line words iris (left_out number claim) ++ [])) (old.count + 0)
        (requests ∙ sym (append-nil old.requests))
        (told ∙ sym (ap (λ (l : List ℕ). old.left_out ++ l) (append-nil (left_line words iris (left_out number claim))))) (count ∙ no_more old.count);
  }

  -- an axiom is added
  pub sorts_added : (number : ℕ) (claim : Claim) (tokens : List (List ℕ)) (old new : Written) → old.count < MOST_SENTENCES
      → IsSentenceOf g words claim tokens → AddsLine g words tokens old.requests new.requests → new.left_out ≡ old.left_out
      → new.count ≡ old.count + 1 → SortsOne g words iris number claim old new
  sorts_added number claim tokens old new few sentence adds told count = record {
    fate = added adds.article tokens;
    is = (few, record { sentence = sentence; names = adds.names; again = adds.again });
    written = written_as new (old.requests ++ (add_line g (added adds.article tokens) ++ [])) (old.left_out ++ []) (old.count + suc 0)
        (adds.written ∙ sym (ap (λ (l : List ℕ). old.requests ++ l) (append-nil (add_line g (added adds.article tokens)))))
        (told ∙ sym (append-nil old.left_out)) (count ∙ one_more old.count);
  }
