-- The words of individuals, entity by entity.
use Rattle.std.proofs.Common.{◌≡◌, ℕ, ◌+◌, ◌<◌, Bool, true, false, if◌then◌else◌, List, [], ◌∷◌, ◌++◌, length, take, Some, All, append-nil, sym, ap, subst, ◌∙◌, arith}
use Rattle.std.specs.List.{slice_get}
use Rattle.std.proofs.lemmas.List.{length-take}
use Rattle.std.proofs.lemmas.List.Elements.{All-nil, All-cons}
use Rattle.wiki_base.specs.declared.numbers.WordId.{WordId}
use Rattle.wiki_base.proofs.ListLaws.{take_slice_get}
use Rattle.owl_reader.specs.declared.kinds.Entity.{Entity}
use Rattle.owl_intake.specs.Checked.{is_individual, individuals_from, individuals}

abbrev word_with : ℕ → WordId
word_with n = record { 0 = n }

-- the word of an entity, if it is an individual
abbrev own : Entity → ℕ → List WordId
own e n = if is_individual e.kind then word_with n ∷ [] else []

-- one entity more
individuals_push : (n : ℕ) (es : List Entity) (e : Entity) → individuals_from n (es ++ e ∷ []) ≡ individuals_from n es ++ own e (n + length es)
individuals_push n [] e = let same : n ≡ n + 0 = omega arith in ap (own e) same
individuals_push n (x ∷ xs) e =
    let same : n + 1 + length xs ≡ n + length (x ∷ xs) = omega arith in
    by (is_individual x.kind) (individuals_push (n + 1) xs e ∙ ap (λ (k : ℕ). individuals_from (n + 1) xs ++ own e k) same)
  where
    by : (b : Bool) → individuals_from (n + 1) (xs ++ e ∷ []) ≡ individuals_from (n + 1) xs ++ own e (n + length (x ∷ xs))
        → (if b then word_with n ∷ individuals_from (n + 1) (xs ++ e ∷ []) else individuals_from (n + 1) (xs ++ e ∷ []))
        ≡ (if b then word_with n ∷ individuals_from (n + 1) xs else individuals_from (n + 1) xs) ++ own e (n + length (x ∷ xs))
    by true later = ap (λ (ws : List WordId). word_with n ∷ ws) later
    by false later = later

individuals_below : (n : ℕ) (es : List Entity) → All (λ (a : WordId). a.0 < n + length es) (individuals_from n es)
individuals_below n [] = All-nil (λ (a : WordId). a.0 < n + 0)
individuals_below n (x ∷ xs) =
    let same : n + 1 + length xs ≡ n + length (x ∷ xs) = omega arith in
    let first : n < n + length (x ∷ xs) = omega arith in
    by (is_individual x.kind) first (subst (λ (m : ℕ). All (λ (a : WordId). a.0 < m) (individuals_from (n + 1) xs)) same (individuals_below (n + 1) xs))
  where
    by : (b : Bool) → n < n + length (x ∷ xs) → All (λ (a : WordId). a.0 < n + length (x ∷ xs)) (individuals_from (n + 1) xs)
        → All (λ (a : WordId). a.0 < n + length (x ∷ xs)) (if b then word_with n ∷ individuals_from (n + 1) xs else individuals_from (n + 1) xs)
    by true first later = All-cons (λ (a : WordId). a.0 < n + length (x ∷ xs)) (word_with n) (individuals_from (n + 1) xs) first later
    by false first later = later

module _ (es : List Entity) (k : ℕ) (names : List WordId) (so_far : names ≡ individuals (take k es)) where
  -- the next word is above the words so far
  pub below_next : (word : WordId) → k < length es → word ≡ word_with (k + 1) → All (λ n. n.0 < word.0) names
  below_next word within is =
      let bound : 1 + length (take k es) ≡ word.0 = (let lengths : 1 + length (take k es) ≡ k + 1 = omega (arith, length-take k es) in
      lengths ∙ sym (ap (λ (w : WordId). w.0) is)) in
      subst (λ (ns : List WordId). All (λ (n : WordId). n.0 < word.0) ns) (sym so_far)
      (subst (λ (m : ℕ). All (λ (n : WordId). n.0 < m) (individuals (take k es))) bound (individuals_below 1 (take k es)))

  module _ (e : Entity) (within : k < length es) (at : slice_get es k ≡ Some e) where
    next : individuals (take k es) ++ own e (k + 1) ≡ individuals (take (k + 1) es)
    next =
        let lengths : k + 1 ≡ 1 + length (take k es) = omega (arith, length-take k es) in
        ap (λ (m : ℕ). individuals (take k es) ++ own e m) lengths ∙ sym (individuals_push 1 (take k es) e) ∙ ap individuals (sym (take_slice_get es k e at))

    -- an individual is one more, and another entity isn't
    pub names_next : (word : WordId) (after : List WordId) → is_individual e.kind ≡ true → word ≡ word_with (k + 1) → after ≡ names ++ word ∷ []
        → after ≡ individuals (take (k + 1) es)
    names_next word after individual is added =
        added ∙ ap (λ (ns : List WordId). ns ++ word ∷ []) so_far ∙ ap (λ (w : WordId). individuals (take k es) ++ w ∷ []) is
        ∙ ap (λ (b : Bool). individuals (take k es) ++ (if b then word_with (k + 1) ∷ [] else [])) (sym individual) ∙ next

    pub names_same : is_individual e.kind ≡ false → names ≡ individuals (take (k + 1) es)
    names_same other =
        so_far ∙ sym (append-nil (individuals (take k es)))
        ∙ ap (λ (b : Bool). individuals (take k es) ++ (if b then word_with (k + 1) ∷ [] else [])) (sym other) ∙ next
