-- A rule whose first element that takes tokens can't stand at a place before the end has no phrase there, nor one that is cut off.
use Rattle.std.proofs.Common.{◌≡◌, ℕ, zero, suc, List, [], ◌∷◌, Bool, true, false, take, Some, None, refl, sym, ap, ◌∙◌, ◌⊎◌, inl, inr}
use Rattle.std.specs.Prelude.{option_and_then, slice_get}
use Rattle.derivation_trees.proofs.KindLemmas.{kind_there}
use Rattle.codeco_terms.specs.declared.values.Value.{Value}
use Rattle.codeco_terms.specs.declared.categories.Category.{Category}
use Rattle.codeco_terms.specs.declared.elements.Element.{Element}
use Rattle.codeco_terms.specs.declared.elements.Element.TheVariants.{Terminal, Preterminal, Sub, Position, Opener, Forward, Strong, Back, NoBack}
use Rattle.codeco_terms.specs.declared.rules.Rule.{Rule}
use Rattle.scopes.specs.Resolution.{agrees}
use Rattle.derivation_trees.specs.Settings.{Setting}
use Rattle.derivation_trees.specs.Instances.{under, own_values}
use Rattle.derivation_trees.specs.Derives.{At}
use Rattle.derivation_trees.specs.Partial.{sub_of}
use Rattle.derivation_trees.specs.Starts.{may_start}
use Rattle.chart_table.specs.declared.states.End.{End}
use Rattle.chart_table.specs.declared.states.Cut.{Cut}
use Rattle.chart_table.specs.Leading.{Path, own_past}
use Rattle.chart_table.specs.Ends.{HasEndsOfRule}
use Rattle.chart_table.specs.Instances.{HasInstances}
use Rattle.chart_table.specs.Aims.{Aims}
use Rattle.chart_table.specs.Cuts.{Stops, HasCutsOfRule, IsIdle}

true_is_false : true ≡ false → ⊥
true_is_false w = cc

-- elements that stay at the place
stays : (s : Setting) (es : List Element) (at between : At) → between.place ≡ at.place → may_start s between.place es ≡ true → may_start s at.place es ≡ true
stays s es at between same h = ap (λ p. may_start s p es) (sym same) ∙ h

path_starts : (s : Setting) (v own : List (ℕ × Value)) (es : List Element) (at last : At) → Path s v own es at last → may_start s at.place es ≡ true
path_starts s v own [] at last h = refl
path_starts s v own (Terminal t ∷ es) at last h = h.1.0
path_starts s v own (Preterminal c ∷ es) at last h = kind_there s (under v c) at.place h.1.0
path_starts s v own (Sub c ∷ es) at last h = refl
path_starts s v own (Position x ∷ es) at last h =
    stays s es at h.0 (ap (λ (a : At). a.place) h.1.1) (path_starts s v (own_past s (Position x) own) es h.0 last h.2)
path_starts s v own (Opener ∷ es) at last h = stays s es at h.0 (ap (λ (a : At). a.place) h.1) (path_starts s v (own_past s Opener own) es h.0 last h.2)
path_starts s v own (Forward c ∷ es) at last h = stays s es at h.0 (ap (λ (a : At). a.place) h.1) (path_starts s v (own_past s (Forward c) own) es h.0 last h.2)
path_starts s v own (Strong c ∷ es) at last h = stays s es at h.0 (ap (λ (a : At). a.place) h.1) (path_starts s v (own_past s (Strong c) own) es h.0 last h.2)
path_starts s v own (Back positive negative ∷ es) at last h =
    stays s es at h.0 (ap (λ (a : At). a.place) h.1.1) (path_starts s v (own_past s (Back positive negative) own) es h.0 last h.2)
path_starts s v own (NoBack patterns ∷ es) at last h =
    stays s es at h.0 (ap (λ (a : At). a.place) h.1.1) (path_starts s v (own_past s (NoBack patterns) own) es h.0 last h.2)

-- what stops a node after so many of the elements: the place where phrases are cut off, or a category that comes next
abbrev StopsIn : Aims → List Element → ℕ → At → Type 0
StopsIn aim es k last = (last.place ≡ aim.halt) ⊎ ((c : Category) × (option_and_then sub_of (slice_get es k) ≡ Some c))

-- the elements may start at the place, or phrases are cut off there
abbrev Starts : Setting → Aims → List Element → At → Type 0
Starts s aim es at = (may_start s at.place es ≡ true) ⊎ (at.place ≡ aim.halt)

pub none_some : {X : Type 0} {Y : Type 0} {x : X} → None ≡ Some x → Y
none_some w = cc

category_next : (s : Setting) (aim : Aims) (e : Element) (es : List Element) (at : At) (c : Category) → sub_of e ≡ Some c → Starts s aim (e ∷ es) at
category_next s aim (Terminal t) es at c h = none_some h
category_next s aim (Preterminal d) es at c h = none_some h
category_next s aim (Sub d) es at c h = inl refl
category_next s aim (Position x) es at c h = none_some h
category_next s aim Opener es at c h = none_some h
category_next s aim (Forward d) es at c h = none_some h
category_next s aim (Strong d) es at c h = none_some h
category_next s aim (Back positive negative) es at c h = none_some h
category_next s aim (NoBack patterns) es at c h = none_some h

moved : (s : Setting) (aim : Aims) (es : List Element) (at between : At) → between.place ≡ at.place → Starts s aim es between → Starts s aim es at
moved s aim es at between same (inl h) = inl (stays s es at between same h)
moved s aim es at between same (inr h) = inr (sym same ∙ h)

cut_starts : (s : Setting) (aim : Aims) (v own : List (ℕ × Value)) (es : List Element) (k : ℕ) (at last : At) → Path s v own (take k es) at last
    → StopsIn aim es k last → Starts s aim es at
cut_starts s aim v own [] k at last h stop = inl refl
cut_starts s aim v own (e ∷ es) zero at last h (inl stop) = inr (ap (λ (a : At). a.place) h ∙ stop)
cut_starts s aim v own (e ∷ es) zero at last h (inr c) = category_next s aim e es at c.0 c.1
cut_starts s aim v own (Terminal t ∷ es) (suc k) at last h stop = inl h.1.0
cut_starts s aim v own (Preterminal c ∷ es) (suc k) at last h stop = inl (kind_there s (under v c) at.place h.1.0)
cut_starts s aim v own (Sub c ∷ es) (suc k) at last h stop = inl refl
cut_starts s aim v own (Position x ∷ es) (suc k) at last h stop =
    moved s aim es at h.0 (ap (λ (a : At). a.place) h.1.1) (cut_starts s aim v (own_past s (Position x) own) es k h.0 last h.2 stop)
cut_starts s aim v own (Opener ∷ es) (suc k) at last h stop =
    moved s aim es at h.0 (ap (λ (a : At). a.place) h.1) (cut_starts s aim v (own_past s Opener own) es k h.0 last h.2 stop)
cut_starts s aim v own (Forward c ∷ es) (suc k) at last h stop =
    moved s aim es at h.0 (ap (λ (a : At). a.place) h.1) (cut_starts s aim v (own_past s (Forward c) own) es k h.0 last h.2 stop)
cut_starts s aim v own (Strong c ∷ es) (suc k) at last h stop =
    moved s aim es at h.0 (ap (λ (a : At). a.place) h.1) (cut_starts s aim v (own_past s (Strong c) own) es k h.0 last h.2 stop)
cut_starts s aim v own (Back positive negative ∷ es) (suc k) at last h stop =
    moved s aim es at h.0 (ap (λ (a : At). a.place) h.1.1) (cut_starts s aim v (own_past s (Back positive negative) own) es k h.0 last h.2 stop)
cut_starts s aim v own (NoBack patterns ∷ es) (suc k) at last h stop =
    moved s aim es at h.0 (ap (λ (a : At). a.place) h.1.1) (cut_starts s aim v (own_past s (NoBack patterns) own) es k h.0 last h.2 stop)

pub idle_ends : (s : Setting) (aim : Aims) (rule : Rule) (known : List (ℕ × Value)) (at : At) (ends : List End) → IsIdle s aim rule at.place
    → HasEndsOfRule s rule known at ends ends
idle_ends s aim rule known at ends idle = record {
  kept = λ e o. o;
  new = λ v last instance agrees path. absurd (true_is_false (sym (path_starts s v (own_values rule v) rule.body at last path) ∙ idle.not));
  only = λ e o. inl o;
}

pub idle_cuts : (s : Setting) (aim : Aims) (rule : Rule) (known : List (ℕ × Value)) (at : At) (cuts : List Cut) → IsIdle s aim rule at.place
    → HasCutsOfRule s aim rule known at cuts cuts
idle_cuts s aim rule known at cuts idle = record {
  kept = λ j values o. o;
  new = λ j v k last instance agrees path stop. absurd (never (cut_starts s aim v (own_values rule v) rule.body k at last path (stops j v k last stop)));
  only = λ j values o. inl o;
}
  where
    stops : (j : ℕ) (v : List (ℕ × Value)) (k : ℕ) (last : At) → Stops s aim j rule v k last → StopsIn aim rule.body k last
    stops j v k last (inl h) = inl h.0
    stops j v k last (inr c) = inr (c.0, c.1)

    never : Starts s aim rule.body at → ⊥
    never (inl h) = true_is_false (sym h ∙ idle.not)
    never (inr h) = idle.before h

-- as the program tests it
pub idle_is : (s : Setting) (aim : Aims) (rule : Rule) (place count : ℕ) (body : List Element) (b : Bool) → count ≡ aim.halt → body ≡ rule.body
    → (place ≡ count → ⊥) → b ≡ may_start s place body → b ≡ false → IsIdle s aim rule place
idle_is s aim rule place count body b c e not is off = record {
  before = λ h. not (h ∙ sym c);
  not = ap (may_start s place) (sym e) ∙ sym is ∙ off;
}

pub idle_instances : (s : Setting) (rule : Rule) (known : List (ℕ × Value)) (at : At) (body : List Element) (b : Bool) (found : List (List (ℕ × Value)))
    → body ≡ rule.body → b ≡ may_start s at.place body → b ≡ false → HasInstances s rule known at found
idle_instances s rule known at body b found e is off values last instance agrees path =
    absurd (true_is_false (sym (path_starts s values (own_values rule values) rule.body at last path) ∙ ap (may_start s at.place) (sym e) ∙ sym is ∙ off))
