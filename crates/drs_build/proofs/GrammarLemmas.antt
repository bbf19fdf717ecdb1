-- In a sound grammar a rule whose label introduces a referent introduces one, behind a token.
use Rattle.std.proofs.Common.{◌≡◌, ℕ, zero, suc, ◌-◌, ◌<◌, Bool, true, false, List, [], ◌∷◌, take, refl, sym, ap, ◌∙◌, arith, inr, Option, Some, None}
use Rattle.std.specs.Prelude.{◌&&◌, ◌==◌, slice_get, count_by, if◌then◌else◌, option_and_then}
use Rattle.std.specs.Option.{option_map_or}
use Rattle.std.specs.List.{list_all}
use Rattle.std.proofs.lemmas.Bool.Decides.{nat_tests}
use Rattle.std.proofs.lemmas.Bool.{and_parts, eqb-true}
use Rattle.codeco_terms.specs.declared.elements.Element.{Element}
use Rattle.codeco_terms.specs.declared.rules.Label.{Label}
use Rattle.codeco_terms.specs.declared.rules.Rule.{Rule}
use Rattle.codeco_terms.specs.GrammarParts.{GrammarParts}
use Rattle.codeco_checked.specs.declared.labels.Kind.{Kind}
use Rattle.codeco_checked.specs.declared.fault.GrammarFault.TheVariants.{LabelKind}
use Rattle.codeco_checked.specs.declared.labels.LabelRow.{LabelRow}
use Rattle.codeco_checked.specs.Labels.{label_row, child_kinds, head_fits, children_fit, words_fit, fits_row, fits_label, FitKinds, is_introduction, is_reference, introduces_behind_tokens, one_if}
use Rattle.codeco_checked.specs.Sound.{IsSound}
use Rattle.derivation_trees.specs.Derives.{rule_with}
use Rattle.derivation_trees.specs.Sketches.{body_of}
use Rattle.drs_build.specs.Nodes.{label_of}

-- one referent is introduced, right behind a token
pub record Introduces (es : List Element) : Type 0 where
  pub once : count_by is_introduction es ≡ 1
  pub behind : introduces_behind_tokens false es ≡ true

-- each rule with a label that introduces a referent does so
abbrev pub Introducing : GrammarParts → Type 0
Introducing g = (number : ℕ) (l : Label) → label_of g number ≡ Some l → (label_row l).introduces ≡ true → Introduces (body_of g number)

pub taken : {X : Type 0} (p : X → Bool) (xs : List X) (i : ℕ) (x : X) → slice_get xs i ≡ Some x → list_all p (take (suc i) xs) ≡ true → p x ≡ true
taken p [] i x at all = absurd cc
taken p (y ∷ ys) zero x at all = let same : y ≡ x = cc in ap p (sym same) ∙ (and_parts (p y) (list_all p (take 0 ys)) all).0
taken p (y ∷ ys) (suc i) x at all = taken p ys i x at (and_parts (p y) (list_all p (take (suc i) ys)) all).1

-- what a row says of introductions, whatever the kinds are
abbrev introduced_well : LabelRow → Rule → Bool
introduced_well row r = (count_by is_introduction r.body == one_if row.introduces) && introduces_behind_tokens false r.body

row_well : (kinds : ℕ → Kind) (row : LabelRow) (r : Rule) → fits_row kinds row r ≡ true → introduced_well row r ≡ true
row_well kinds row r h =
    let heads = head_fits row.heads (kinds r.head.name) in
    let children = children_fit row.children (kinds r.head.name) (child_kinds kinds r.body) in
    let words = words_fit row.words kinds r.body in
    let once = count_by is_introduction r.body == one_if row.introduces in
    let refers = count_by is_reference r.body == one_if row.refers in
    let behind = introduces_behind_tokens false r.body in
    let last = and_parts (heads && children && words && once && refers) behind h in
    let before = and_parts (heads && children && words && once) refers last.0 in
    let here = and_parts (heads && children && words) once before.0 in
    ap (λ b. b && behind) here.1 ∙ last.1

well : (g : GrammarParts) (n : ℕ) (r : Rule) (l : Label) → IsSound g → 0 < n → slice_get g.rules (n - 1) ≡ Some r → r.label ≡ Some l
    → introduced_well (label_row l) r ≡ true
well g n r l sound positive at is = by (introduced_well (label_row l) r) refl
  where
    fitting : (kinds : ℕ → Kind) → FitKinds g.rules n kinds → introduced_well (label_row l) r ≡ true
    fitting kinds fit =
        let count : n ≡ suc (n - 1) = omega arith in
        let all : list_all (fits_label kinds) (take (suc (n - 1)) g.rules) ≡ true =
        ap (λ i. list_all (fits_label kinds) (take i g.rules)) (sym count) ∙ fit.fit in
        row_well kinds (label_row l) r (ap (λ o. option_map_or (λ x. fits_row kinds (label_row x) r) o true) (sym is)
        ∙ taken (fits_label kinds) g.rules (n - 1) r at all)

    by : (b : Bool) → introduced_well (label_row l) r ≡ b → introduced_well (label_row l) r ≡ true
    by true e = e
    by false e = absurd (sound.faultless (LabelKind n) (r, positive, at, inr (λ kinds fit. let no : true ≡ false = sym (fitting kinds fit) ∙ e in absurd cc)))

positive_from : (n : ℕ) → (n == 0) ≡ false → 0 < n
positive_from n h = grind (arith, nat_tests)

-- the rule with the number
pub record Found (g : GrammarParts) (n : ℕ) (r : Rule) : Type 0 where
  pub positive : 0 < n
  pub at : slice_get g.rules (n - 1) ≡ Some r

pub found : (g : GrammarParts) (n : ℕ) (r : Rule) → rule_with g n ≡ Some r → Found g n r
found g n r h = by (n == 0) refl h
  where
    by : (b : Bool) → (n == 0) ≡ b → (if n == 0 then None else slice_get g.rules (n - 1)) ≡ Some r → Found g n r
    by true e k = let no : None ≡ Some r = sym (ap (λ b. if b then None else slice_get g.rules (n - 1)) e) ∙ k in absurd cc
    by false e k = record { positive = positive_from n e; at = sym (ap (λ b. if b then None else slice_get g.rules (n - 1)) e) ∙ k }

pub introducing : (g : GrammarParts) → IsSound g → Introducing g
introducing g sound number l named new = by (rule_with g number) refl
  where
    by : (o : Option Rule) → rule_with g number ≡ o → Introduces (body_of g number)
    by None e = let no : None ≡ Some l = sym (ap (option_and_then (λ r. r.label)) e) ∙ named in absurd cc
    by (Some r) e =
        let is : r.label ≡ Some l = sym (ap (option_and_then (λ x. x.label)) e) ∙ named in
        let at : Found g number r = found g number r e in
        let parts = and_parts (count_by is_introduction r.body == one_if (label_row l).introduces) (introduces_behind_tokens false r.body)
        (well g number r l sound at.positive at.at is) in
        let body : body_of g number ≡ r.body = ap (λ o. option_map_or (λ x. x.body) o []) e in
        record {
          once = ap (count_by is_introduction) body ∙ eqb-true (count_by is_introduction r.body) (one_if (label_row l).introduces) parts.0 ∙ ap one_if new;
          behind = ap (introduces_behind_tokens false) body ∙ parts.1;
        }
