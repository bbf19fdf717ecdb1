-- The first rule whose label doesn't fit.
use Rattle.std.specs.Prelude.{◌≡◌, ℕ, ◌+◌, ◌<◌, ◌≤◌, Bool, true, false, List, [], ◌∷◌, length, Option, Some, None, slice_index_or, MatchOption}
use Rattle.std.specs.Option.{option_map_or}
use Rattle.codeco_terms.specs.declared.rules.Rule.{Rule}
use Rattle.codeco_checked.specs.declared.labels.Kind.{Kind}
use Rattle.codeco_checked.specs.declared.numbers.TheConstants.{FIRST_PLAIN}
use Rattle.codeco_checked.specs.declared.labels.Kind.TheVariants.{Text}
use Rattle.codeco_checked.specs.Labels.{is_mark, is_mark_in, label_row, IsMisfit}
use Rattle.codeco_labels.specs.Shapes.{shape_of, row_holds}
use Rattle.codeco_labels.specs.Tables.{KindRows, Meets}

-- the first place, from 0, of a rule that doesn't fit; or none where all do
abbrev pub FirstMisfit : List Rule → Option ℕ → Type 0
FirstMisfit rules found = MatchOption found ((n : ℕ) → IsMisfit rules n → ⊥)
    (λ place. IsMisfit rules (place + 1) × ((n : ℕ) → n ≤ place → IsMisfit rules n → ⊥))

-- the set has exactly the categories that are marks
abbrev pub AreMarks : List Rule → List Bool → Type 0
AreMarks rules marks = (name : ℕ) → slice_index_or marks name false ≡ is_mark_in rules name

-- the kinds are marks where the set says so
abbrev pub FitMarks : List Bool → (ℕ → Kind) → Type 0
FitMarks marks kinds = (c : ℕ) → is_mark (kinds c) ≡ slice_index_or marks c false

-- the rule has all that its label asks for, if it has one
abbrev pub rule_holds : List Bool → Rule → (ℕ → Kind) → Bool
rule_holds marks r kinds = option_map_or (λ l. row_holds (label_row l) r.head.name (shape_of marks r.body) kinds) r.label true

-- A table of what is known without the rules: which categories are marks, and that text is a text.
pub record Knows (rules : List Rule) (marks : List Bool) (t : KindRows) : Type 0 where
  pub size : length marks ≡ length t.groups
  pub text : FIRST_PLAIN < length t.groups
  pub right : AreMarks rules marks
  pub only : (kinds : ℕ → Kind) → FitMarks marks kinds → kinds FIRST_PLAIN ≡ Text → Meets t kinds
  pub all : (kinds : ℕ → Kind) → Meets t kinds → ((c : ℕ) → c < length marks → is_mark (kinds c) ≡ slice_index_or marks c false) × (kinds FIRST_PLAIN ≡ Text)

abbrev pub first_place : List Rule → Option ℕ
first_place [] = None
first_place (r ∷ rs) = Some 0
