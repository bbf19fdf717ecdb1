-- Tokens that are typeable as they are kept, as they come and go.
use Rattle.std.proofs.Common.{◌≡◌, ℕ, zero, suc, ◌+◌, ◌-◌, ◌<◌, ◌≤◌, List, [], ◌∷◌, ◌++◌, Bool, true, false, length, take, get_or, length-append, ◌⊎◌, inl, inr, refl, sym, ap, subst, ◌∙◌, arith, IsTrue, ◌↔◌, Result, Ok, Err, OnOk, OnErr}
use Rattle.std.proofs.lemmas.List.{take_more, length-take-le, length-map, take-append-le, take-take, take_all}
use Rattle.std.proofs.lemmas.Bool.{cases_lt}
use Rattle.wiki_base.specs.declared.tokens.TheConstants.{MOST_TOKENS}
use Rattle.chart.proofs.DropLemmas.{first_set}
use Rattle.derivation_trees.proofs.TruthLemmas.{true_is_false}
use Rattle.codeco_terms.specs.declared.categories.Ground.{Ground}
use Rattle.codeco_terms.specs.GrammarParts.{GrammarParts}
use Rattle.codeco_checked.specs.Sound.{IsSound}
use Rattle.lexicon.specs.Words.{Listed}
use Rattle.lexicon.specs.Readings.{readings_of}
use Rattle.derivation_trees.specs.Settings.{Setting}
use Rattle.derivation_trees.specs.Partial.{CutNode, IsPartialDerivation, IsBeginning, IsTypeable}
use Rattle.derivation_trees.specs.Sentences.{setting_of}
use Rattle.chart.specs.Charts.{first_of}
use Rattle.editor.specs.Editing.{IsTypeableAsKept, IsEdited, IsInMenu}
use Rattle.editor.specs.Rebasing.{IsRebased}
use Rattle.editor.proofs.NothingLemmas.{begins_with_nothing}

abbrev HasBeginning : Setting → Type 0
HasBeginning s = (cut : CutNode) × IsPartialDerivation s cut

abbrev setting : GrammarParts → List (List ℕ) → List (List Ground) → Setting
setting g tokens readings = record { grammar = g; tokens = tokens; readings = readings }

-- Fronts of lists

take_short : {X : Type 0} (n : ℕ) (xs : List X) → length (take n xs) ≤ length xs
take_short zero xs = omega arith
take_short (suc n) [] = omega arith
take_short (suc n) (x ∷ xs) = let rest = take_short n xs in omega (arith, rest)

-- Settings

-- what is kept by a grammar and a lexicon is so by its own tokens
pub kept_on : (g : GrammarParts) (l : Listed) (s : Setting) (tokens : List (List ℕ)) → s ≡ setting_of g l tokens → s ≡ setting_of g l s.tokens
kept_on g l s tokens e = e ∙ ap (setting_of g l) (sym (ap (λ x. x.tokens) e))

-- Typeable tokens

pub typeable_from_kept : (g : GrammarParts) (l : Listed) (tokens : List (List ℕ)) → IsTypeableAsKept (setting_of g l tokens) → IsTypeable g l tokens
typeable_from_kept g l tokens h = λ count le. subst HasBeginning (first_set g l tokens count) (h count le)

pub typeable_as_kept : (g : GrammarParts) (l : Listed) (tokens : List (List ℕ)) → IsTypeable g l tokens → IsTypeableAsKept (setting_of g l tokens)
typeable_as_kept g l tokens h = λ count le. subst HasBeginning (sym (first_set g l tokens count)) (h count le)

-- tokens that are kept by a grammar and a lexicon are typeable by these
pub typeable_by : (g : GrammarParts) (l : Listed) (s : Setting) → s ≡ setting_of g l s.tokens → IsTypeableAsKept s → IsTypeable g l s.tokens
typeable_by g l s kept h = typeable_from_kept g l s.tokens (subst IsTypeableAsKept kept h)

-- typeable tokens have a partial derivation
pub whole_begins : (g : GrammarParts) (l : Listed) (tokens : List (List ℕ)) → IsTypeable g l tokens → IsBeginning g l tokens
whole_begins g l tokens h = subst (IsBeginning g l) (take_all (length tokens) tokens (omega arith)) (h (length tokens) (omega arith))

pub nothing_typeable : (g : GrammarParts) (l : Listed) → IsSound g → IsTypeable g l []
nothing_typeable g l sound zero le = begins_with_nothing g l sound
nothing_typeable g l sound (suc count) le = absurd (omega arith)

no_lexicon : Listed
no_lexicon = record { live = []; terminals = []; last = 0 }

pub nothing_edited : (g : GrammarParts) (s : Setting) → IsSound g → s ≡ record { grammar = g; tokens = []; readings = [] } → IsEdited s
nothing_edited g s sound e =
    subst IsEdited (sym e) (record { few = omega arith; read = refl; typeable = typeable_as_kept g no_lexicon [] (nothing_typeable g no_lexicon sound) })

-- one more token
pub one_typeable_more : (g : GrammarParts) (l : Listed) (tokens : List (List ℕ)) (token : List ℕ) → IsTypeable g l tokens
    → IsBeginning g l (tokens ++ token ∷ []) → IsTypeable g l (tokens ++ token ∷ [])
one_typeable_more g l tokens token h begins count le = by (cases_lt (length tokens) count)
  where
    by : (length tokens < count) ⊎ (count ≤ length tokens) → IsBeginning g l (take count (tokens ++ token ∷ []))
    by (inl lt) =
        let all : take count (tokens ++ token ∷ []) ≡ tokens ++ token ∷ [] =
        take_all count (tokens ++ token ∷ []) (omega (arith, length-append tokens (token ∷ []))) in
        subst (IsBeginning g l) (sym all) begins
    by (inr within) = subst (IsBeginning g l) (sym (take-append-le count tokens (token ∷ []) within)) (h count within)

pub edited_more : (g : GrammarParts) (l : Listed) (old new : Setting) (token : List ℕ) → old ≡ setting_of g l old.tokens → length old.tokens < MOST_TOKENS
    → IsEdited old
    → new ≡ setting_of g l (old.tokens ++ token ∷ []) → IsBeginning g l (old.tokens ++ token ∷ []) → IsEdited new
edited_more g l old new token kept room edited e begins =
    subst IsEdited (sym e) (record {
      few = omega (arith, length-append old.tokens (token ∷ []));
      read = length-map (old.tokens ++ token ∷ []) (readings_of l.live);
      typeable = typeable_as_kept g l (old.tokens ++ token ∷ []) (one_typeable_more g l old.tokens token (typeable_by g l old kept edited.typeable) begins);
    })

-- fewer tokens
pub typeable_less : (s : Setting) (n : ℕ) → IsTypeableAsKept s → IsTypeableAsKept (first_of s n)
typeable_less s n h count le =
    let less : count ≤ n = let short = take_at_most n s.tokens in omega (arith, le, short) in
    let within : count ≤ length s.tokens = let short = take_short n s.tokens in omega (arith, le, short) in
    subst HasBeginning (sym (ap (λ t. setting s.grammar t (take count (take n s.readings))) (take-take count n s.tokens less)
    ∙ ap (setting s.grammar (take count s.tokens)) (take-take count n s.readings less))) (h count within)
  where
    take_at_most : {X : Type 0} (m : ℕ) (xs : List X) → length (take m xs) ≤ m
    take_at_most zero xs = omega arith
    take_at_most (suc m) [] = omega arith
    take_at_most (suc m) (x ∷ xs) = let rest = take_at_most m xs in omega (arith, rest)

pub edited_less : (old new : Setting) (n : ℕ) → IsEdited old → new ≡ first_of old n → IsEdited new
edited_less old new n edited e =
    subst IsEdited (sym e) (record {
      few = let few = edited.few in let short = take_short n old.tokens in omega (arith, few, short);
      read = take_as_long n old.readings old.tokens edited.read;
      typeable = typeable_less old n edited.typeable;
    })
  where
    take_as_long : {X Y : Type 0} (m : ℕ) (xs : List X) (ys : List Y) → length xs ≡ length ys → length (take m xs) ≡ length (take m ys)
    take_as_long zero xs ys same = refl
    take_as_long (suc m) [] [] same = refl
    take_as_long (suc m) [] (y ∷ ys) same = absurd (omega (arith, same))
    take_as_long (suc m) (x ∷ xs) [] same = absurd (omega (arith, same))
    take_as_long (suc m) (x ∷ xs) (y ∷ ys) same = let rest = take_as_long m xs ys (omega (arith, same)) in omega (arith, rest)

-- the last token is dropped, if there is one
pub edited_back : (old new : Setting) (dropped : Bool) → IsEdited old → (dropped ≡ false → (old.tokens ≡ []) × (new ≡ old))
    → (dropped ≡ true → (0 < length old.tokens) × (new ≡ first_of old (length old.tokens - 1))) → IsEdited new
edited_back old new true edited none last = edited_less old new (length old.tokens - 1) edited (last refl).1
edited_back old new false edited none last = subst IsEdited (sym (none refl).1) edited

-- The tokens that are left are the first of those that there were.
pub record IsFront (old new : Setting) : Type 0 where
  pub is : new ≡ first_of old (length new.tokens)
  pub within : length new.tokens ≤ length old.tokens

pub front_all : (s : Setting) → length s.readings ≡ length s.tokens → IsFront s s
front_all s read = record {
  is = sym (ap (λ t. setting s.grammar t (take (length s.tokens) s.readings)) (take_all (length s.tokens) s.tokens (omega arith))
      ∙ ap (setting s.grammar s.tokens) (take_all (length s.tokens) s.readings (omega (arith, read))));
  within = omega arith;
}

pub front_less : (old mid new : Setting) → IsFront old mid → 0 < length mid.tokens → new ≡ first_of mid (length mid.tokens - 1)
    → IsFront old new × (length new.tokens < length mid.tokens)
front_less old mid new front some e =
    let n = length mid.tokens in
    let long : length (take (n - 1) mid.tokens) ≡ n - 1 = length-take-le (n - 1) mid.tokens (omega arith) in
    let count : length new.tokens ≡ n - 1 = ap (λ x. length x.tokens) e ∙ long in
    let less : n - 1 ≤ n = omega arith in
    let first : first_of (first_of old n) (n - 1) ≡ first_of old (n - 1) =
    ap (λ t. setting old.grammar t (take (n - 1) (take n old.readings))) (take-take (n - 1) n old.tokens less)
    ∙ ap (setting old.grammar (take (n - 1) old.tokens)) (take-take (n - 1) n old.readings less)
    in
    let within = front.within in (
      record {
        is = e ∙ ap (λ s. first_of s (n - 1)) front.is ∙ first ∙ ap (first_of old) (sym count);
        within = omega (arith, count, within);
      },
      omega (arith, count, some),
    )

pub front_none : (old new : Setting) → IsFront old new → new.tokens ≡ [] → new ≡ record { grammar = old.grammar; tokens = []; readings = [] }
front_none old new front none = front.is ∙ ap (λ (t : List (List ℕ)). first_of old (length t)) none

-- a token that is added and dropped again
pub dropped_again : (g : GrammarParts) (l : Listed) (old added new : Setting) (token : List ℕ) → old ≡ setting_of g l old.tokens
    → added ≡ setting_of g l (old.tokens ++ token ∷ []) → new ≡ first_of added (length added.tokens - 1) → new ≡ old
dropped_again g l old added new token kept more e =
    let tokens_are : added.tokens ≡ old.tokens ++ token ∷ [] = ap (λ x. x.tokens) more in
    let count : length added.tokens - 1 ≡ length old.tokens =
    ap (λ t. length t - 1) tokens_are ∙ (let long = length-append old.tokens (token ∷ []) in omega (arith, long)) in
    e ∙ ap (first_of added) count ∙ ap (λ s. first_of s (length old.tokens)) more ∙ first_set g l (old.tokens ++ token ∷ []) (length old.tokens)
    ∙ ap (setting_of g l) (take-append-le (length old.tokens) old.tokens (token ∷ []) (omega arith) ∙ take_all (length old.tokens) old.tokens (omega arith))
    ∙ sym kept

-- a list with one more token isn't empty
pub not_empty : (g : GrammarParts) (l : Listed) (tokens : List (List ℕ)) (token : List ℕ) (added : Setting) → added ≡ setting_of g l (tokens ++ token ∷ [])
    → added.tokens ≡ [] → ⊥
not_empty g l tokens token added more none =
    let long = length-append tokens (token ∷ []) in
    let same : length (tokens ++ token ∷ []) ≡ 0 = ap length (sym (ap (λ x. x.tokens) more) ∙ none) in
    absurd (omega (arith, long, same))

-- a token that is added and then dropped, as far as it is dropped
pub undone : (g : GrammarParts) (l : Listed) (old added new : Setting) (token : List ℕ) (dropped : Bool) → old ≡ setting_of g l old.tokens
    → added ≡ setting_of g l (old.tokens ++ token ∷ [])
    → (dropped ≡ false → (added.tokens ≡ []) × (new ≡ added)) → (dropped ≡ true → (0 < length added.tokens) × (new ≡ first_of added (length added.tokens - 1)))
    → new ≡ old
undone g l old added new token true kept more none last = dropped_again g l old added new token kept more (last refl).1
undone g l old added new token false kept more none last = absurd (not_empty g l old.tokens token added more (none refl).0)

-- What is kept

-- the first tokens are kept by what the tokens are kept by
pub front_kept : (g : GrammarParts) (l : Listed) (old new : Setting) (n : ℕ) → old ≡ setting_of g l old.tokens → new ≡ first_of old n
    → new ≡ setting_of g l new.tokens
front_kept g l old new n kept e = kept_on g l new (take n old.tokens) (e ∙ ap (λ s. first_of s n) kept ∙ first_set g l old.tokens n)

-- and so are no tokens
pub nothing_kept : (g : GrammarParts) (l : Listed) (old new : Setting) → old ≡ setting_of g l old.tokens
    → new ≡ record { grammar = old.grammar; tokens = []; readings = [] } → new ≡ setting_of g l new.tokens
nothing_kept g l old new kept e = front_kept g l old new 0 kept e

-- Rebased tokens

-- the tokens before the first that doesn't go on
pub rebased_before : (g : GrammarParts) (l : Listed) (tokens rebased : List (List ℕ)) (k : ℕ) → k < length tokens → rebased ≡ take k tokens
    → IsTypeable g l (take k tokens) → (IsBeginning g l (take (k + 1) tokens) → ⊥) → IsRebased g l tokens rebased
rebased_before g l tokens rebased k lt e typeable stops =
    let long : length (take k tokens) ≡ k = length-take-le k tokens (omega (arith, lt)) in
    subst (IsRebased g l tokens) (sym e) (record {
      prefix = ap (λ n. take n tokens) long;
      typeable = typeable;
      longest = λ count le h. by count le h long (cases_lt k count);
    })
  where
    by : (count : ℕ) → count ≤ length tokens → IsTypeable g l (take count tokens) → length (take k tokens) ≡ k → (k < count) ⊎ (count ≤ k)
        → count ≤ length (take k tokens)
    by count le h long (inl more) =
        let whole : length (take count tokens) ≡ count = length-take-le count tokens le in
        absurd (stops (subst (IsBeginning g l) (take-take (k + 1) count tokens (omega (arith, more))) (h (k + 1) (omega (arith, more, whole)))))
    by count le h long (inr less) = omega (arith, less, long)

pub rebased_all : (g : GrammarParts) (l : Listed) (tokens rebased : List (List ℕ)) (k : ℕ) → length tokens ≤ k → rebased ≡ take k tokens
    → IsTypeable g l (take k tokens) → IsRebased g l tokens rebased
rebased_all g l tokens rebased k all e typeable =
    let same : rebased ≡ tokens = e ∙ take_all k tokens all in
    subst (IsRebased g l tokens) (sym same) (record {
      prefix = take_all (length tokens) tokens (omega arith);
      typeable = subst (IsTypeable g l) (take_all k tokens all) typeable;
      longest = λ count le h. le;
    })

pub rebased_short : (g : GrammarParts) (l : Listed) (tokens rebased : List (List ℕ)) → IsRebased g l tokens rebased → length rebased ≤ length tokens
rebased_short g l tokens rebased h =
    let short = take_short (length rebased) tokens in
    let same = ap length h.prefix in
    omega (arith, short, same)

pub rebased_edited : (g : GrammarParts) (l : Listed) (tokens : List (List ℕ)) (s : Setting) → length tokens ≤ MOST_TOKENS → s ≡ setting_of g l s.tokens
    → IsRebased g l tokens s.tokens → IsEdited s
rebased_edited g l tokens s few kept h =
    let short = rebased_short g l tokens s.tokens h in
    record {
      few = omega (arith, few, short);
      read = ap (λ x. length x.readings) kept ∙ length-map s.tokens (readings_of l.live);
      typeable = subst IsTypeableAsKept (sym kept) (typeable_as_kept g l s.tokens h.typeable);
    }

-- The tokens that are taken one after another

step_is : (g : GrammarParts) (l : Listed) (tokens : List (List ℕ)) (i : ℕ) (chart : Setting) (token : List ℕ) → i < length tokens
    → token ≡ get_or tokens i token → chart ≡ setting_of g l (take i tokens) → chart.tokens ++ token ∷ [] ≡ take (i + 1) tokens
step_is g l tokens i chart token lt at e =
    ap (λ x. x.tokens ++ token ∷ []) e ∙ ap (λ (t : List ℕ). take i tokens ++ t ∷ []) at ∙ sym (take_more tokens i token lt)

-- one more of them goes on
pub longest_more : (g : GrammarParts) (l : Listed) (tokens : List (List ℕ)) (i : ℕ) (chart new : Setting) (token : List ℕ) (goes_on : Bool) → i < length tokens
    → token ≡ get_or tokens i token → chart ≡ setting_of g l (take i tokens) → IsTypeable g l (take i tokens)
    → new ≡ setting_of g l (chart.tokens ++ token ∷ []) → IsTrue goes_on ↔ IsBeginning g l (chart.tokens ++ token ∷ []) → goes_on ≡ true
    → (new ≡ setting_of g l (take (i + 1) tokens)) × IsTypeable g l (take (i + 1) tokens)
longest_more g l tokens i chart new token goes_on lt at e typeable more begins is =
    let step = step_is g l tokens i chart token lt at e in
    let own : take i tokens ++ token ∷ [] ≡ chart.tokens ++ token ∷ [] = ap (λ x. x.tokens ++ token ∷ []) (sym e) in (
      more ∙ ap (setting_of g l) step,
      subst (IsTypeable g l) (own ∙ step)
          (one_typeable_more g l (take i tokens) token typeable (subst (IsBeginning g l) (sym own) (begins.0 is))),
    )

-- or it doesn't, and is dropped again
pub longest_stops : (g : GrammarParts) (l : Listed) (tokens : List (List ℕ)) (i : ℕ) (chart added new : Setting) (token : List ℕ) (goes_on dropped : Bool)
    → i < length tokens → token ≡ get_or tokens i token → chart ≡ setting_of g l (take i tokens) → IsTypeable g l (take i tokens)
    → added ≡ setting_of g l (chart.tokens ++ token ∷ []) → IsTrue goes_on ↔ IsBeginning g l (chart.tokens ++ token ∷ []) → goes_on ≡ false
    → (dropped ≡ false → (added.tokens ≡ []) × (new ≡ added)) → (dropped ≡ true → (0 < length added.tokens) × (new ≡ first_of added (length added.tokens - 1)))
    → IsRebased g l tokens new.tokens
longest_stops g l tokens i chart added new token goes_on dropped lt at e typeable more begins is none last =
    let back : new ≡ chart = undone g l chart added new token dropped (kept_on g l chart (take i tokens) e) more none last in
    let step = step_is g l tokens i chart token lt at e in
    rebased_before g l tokens new.tokens i lt (ap (λ x. x.tokens) (back ∙ e)) typeable
    (λ h. true_is_false (sym (begins.1 (subst (IsBeginning g l) (sym step) h)) ∙ is))

-- or it can't be read, and is left out
pub longest_unread : (g : GrammarParts) (l : Listed) (tokens : List (List ℕ)) (i : ℕ) (chart : Setting) (token : List ℕ) → i < length tokens
    → token ≡ get_or tokens i token → chart ≡ setting_of g l (take i tokens) → IsTypeable g l (take i tokens)
    → (IsBeginning g l (chart.tokens ++ token ∷ []) → ⊥) → IsRebased g l tokens chart.tokens
longest_unread g l tokens i chart token lt at e typeable stops =
    rebased_before g l tokens chart.tokens i lt (ap (λ x. x.tokens) e) typeable
    (λ h. stops (subst (IsBeginning g l) (sym (step_is g l tokens i chart token lt at e)) h))

-- What is known of an editor, as it is kept

pub view_kept : (g : GrammarParts) (l : Listed) (inside s : Setting) → inside ≡ s → s ≡ setting_of g l s.tokens → inside ≡ setting_of g l inside.tokens
view_kept g l inside s view kept = subst (λ x. x ≡ setting_of g l x.tokens) (sym view) kept

pub view_room : (inside s : Setting) → inside ≡ s → length s.tokens < MOST_TOKENS → length inside.tokens < MOST_TOKENS
view_room inside s view room = subst (λ x. length x.tokens < MOST_TOKENS) (sym view) room

-- An editor after a text was typed or not, and after its last token was dropped or not

pub typed_edited : {X Y : Type 0} (r : Result X Y) (g : GrammarParts) (l : Listed) (old new : Setting) (token : List ℕ) → old ≡ setting_of g l old.tokens
    → length old.tokens < MOST_TOKENS → IsEdited old
    → OnOk r (new ≡ setting_of g l (old.tokens ++ token ∷ [])) → OnOk r (IsInMenu g l old.tokens token) → OnErr r (new ≡ old) → IsEdited new
typed_edited (Ok x) g l old new token kept room edited added offered unchanged = edited_more g l old new token kept room edited added offered.1.goes_on
typed_edited (Err y) g l old new token kept room edited added offered unchanged = subst IsEdited (sym unchanged) edited

pub typed_kept : {X Y : Type 0} (r : Result X Y) (g : GrammarParts) (l : Listed) (old new : Setting) (tokens : List (List ℕ)) → old ≡ setting_of g l old.tokens
    → OnOk r (new ≡ setting_of g l tokens) → OnErr r (new ≡ old) → new ≡ setting_of g l new.tokens
typed_kept (Ok x) g l old new tokens kept added unchanged = kept_on g l new tokens added
typed_kept (Err y) g l old new tokens kept added unchanged = subst (λ s. s ≡ setting_of g l s.tokens) (sym unchanged) kept

-- The chart that further tokens are added to

pub nothing_front : (g : GrammarParts) (l : Listed) (tokens : List (List ℕ)) (s : Setting) → s ≡ record { grammar = g; tokens = []; readings = [] }
    → s ≡ setting_of g l (take (length s.tokens) tokens)
nothing_front g l tokens s e = e ∙ sym (ap (λ (x : Setting). setting_of g l (take (length x.tokens) tokens)) e)

pub nothing_first : (g : GrammarParts) (l : Listed) (tokens : List (List ℕ)) (s : Setting) → IsSound g → s ≡ record { grammar = g; tokens = []; readings = [] }
    → IsTypeable g l (take (length s.tokens) tokens)
nothing_first g l tokens s sound e =
    subst (λ (x : Setting). IsTypeable g l (take (length x.tokens) tokens)) (sym e) (nothing_typeable g l sound)

-- the first tokens, which read as before, are kept by the grammar that is kept and the lexicon
pub front_by : (g : GrammarParts) (l : Listed) (chart s front : Setting) → chart ≡ s → s.grammar ≡ g → front ≡ first_of chart (length front.tokens)
    → front ≡ setting_of chart.grammar l front.tokens → front ≡ setting_of g l (take (length front.tokens) chart.tokens)
front_by g l chart s front view same first kept =
    kept ∙ ap (λ x. setting_of x l front.tokens) (ap (λ (x : Setting). x.grammar) view ∙ same) ∙ ap (setting_of g l) (ap (λ (x : Setting). x.tokens) first)

pub front_typeable : (g : GrammarParts) (l : Listed) (chart s front : Setting) → chart ≡ s → IsEdited chart → s.grammar ≡ g
    → front ≡ first_of chart (length front.tokens) → front ≡ setting_of chart.grammar l front.tokens → IsTypeable g l (take (length front.tokens) chart.tokens)
front_typeable g l chart s front view edited same first kept =
    let by : front ≡ setting_of g l front.tokens = kept ∙ ap (λ x. setting_of x l front.tokens) (ap (λ (x : Setting). x.grammar) view ∙ same) in
    subst (IsTypeable g l) (ap (λ (x : Setting). x.tokens) first)
    (typeable_by g l front by (edited_less chart front (length front.tokens) edited first).typeable)
