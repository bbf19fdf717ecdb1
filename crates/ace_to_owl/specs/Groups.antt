-- What the calls that map a statement know of it. Only private calls speak of it.
use Rattle.std.specs.Prelude.{ℕ, ◌≡◌, ◌==◌, Bool, List, map, Option, Some, None, Result, Ok, if◌then◌else◌}
use Rattle.std.specs.List.{list_any}
use Rattle.logic_terms.specs.declared.cause.Cause.{Cause}
use Rattle.logic_terms.specs.Shown.{conditions_of}
use Rattle.ace_to_owl.specs.declared.statement.Whole.{Whole}
use Rattle.ace_to_owl.specs.Outcomes.{next}
use Rattle.ace_to_owl.specs.Moves.{moved_by}
use Rattle.ace_to_owl.specs.Parts.{Part}
use Rattle.ace_to_owl.specs.Mapping.{own_terms, joined}

-- each group is that of its condition, and two referents have one label after the moves where the groups join them
pub record AreKnown (whole : Whole) : Type 0 where
  pub groups : whole.groups.now ≡ map (own_terms whole.referents.now) (conditions_of whole.conditions.now)
  pub joins : (q p : ℕ) → (moved_by whole.moves.now q == moved_by whole.moves.now p) ≡ joined whole.groups.now q p

-- whether a referent of one group has the label of one of another
abbrev pub labelled_together : List (ℕ × ℕ) → List ℕ → List ℕ → Bool
labelled_together moves own other = list_any (λ q. list_any (λ p. moved_by moves q == moved_by moves p) other) own

-- what a condition gives where it is wanted
abbrev pub part_with : Bool → Result Part Cause → Result (Option Part) Cause
part_with wanted part = if wanted then next part (λ p. Ok (Some p)) else Ok None
