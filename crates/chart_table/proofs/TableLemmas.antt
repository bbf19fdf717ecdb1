-- Rows of the table.
use Rattle.std.specs.Prelude.{slice_range}
use Rattle.std.specs.List.{flat_map}
use Rattle.std.proofs.lemmas.Option.{slice_get-get_or}
use Rattle.std.proofs.Common.{◌≡◌, ℕ, suc, zero, ◌+◌, ◌-◌, ◌<◌, List, [], ◌∷◌, ◌++◌, length, take, drop, get_or, Some, refl, sym, ap, ◌∙◌, subst, arith}
use Rattle.std.specs.Prelude.{slice_get, All}
use Rattle.std.proofs.lemmas.List.Elements.{All-nil, All-push, All-head, All-tail}
use Rattle.std.proofs.lemmas.Option.{same_Some}
use Rattle.std.proofs.lemmas.List.{append-nil}
use Rattle.codeco_terms.specs.declared.values.Value.{Value}
use Rattle.scopes.specs.declared.entries.Entry.{Entry}
use Rattle.derivation_trees.specs.Settings.{Setting}
use Rattle.chart_table.specs.declared.table.Row.{Row}
use Rattle.chart_table.specs.Ends.{IsEnds}
use Rattle.chart_table.specs.Aims.{Aims}
use Rattle.chart_table.specs.Cuts.{AreCuts}
use Rattle.chart_table.specs.Table.{row_at, IsRow, AreRows, HasRow, IsFound}

pub all_slice : {X : Type 0} (P : X → Type 0) (xs : List X) (i : ℕ) (x : X) → All P xs → slice_get xs i ≡ Some x → P x
all_slice P [] i x h e = absurd (cc)
all_slice P (y ∷ ys) zero x h e = subst P (same_Some y x e) (All-head P y ys h)
all_slice P (y ∷ ys) (suc i) x h e = all_slice P ys i x (All-tail P y ys h) e

-- what a row has, as the row of a category from a place and a list
abbrev pub RowAt : Setting → Aims → Row → ℕ → List (ℕ × Value) → ℕ → List Entry → Type 0
RowAt s aim row name known place list =
    IsEnds s name known (record { place = place; list = list }) row.ends × AreCuts s aim name known (record { place = place; list = list }) row.cuts

-- a row that is found has the ends that are asked for
pub found_row : (s : Setting) (aim : Aims) (rows : List Row) (number name : ℕ) (known : List (ℕ × Value)) (place : ℕ) (list : List Entry) → AreRows s aim rows
    → IsFound rows number name known place list → HasRow s aim rows number name known (record { place = place; list = list })
found_row s aim rows number name known place list rs found =
    let row_is = all_slice (IsRow s aim) rows number found.row rs.all found.is in
    let named : RowAt s aim found.row name found.row.known found.row.place found.row.list =
    subst (λ n. RowAt s aim found.row n found.row.known found.row.place found.row.list) found.name_is (row_is.ends, row_is.cuts) in
    let knows : RowAt s aim found.row name known found.row.place found.row.list =
    subst (λ k. RowAt s aim found.row name k found.row.place found.row.list) found.known_is named in
    let placed : RowAt s aim found.row name known place found.row.list = subst (λ p. RowAt s aim found.row name known p found.row.list) found.place_is knows in
    let listed : RowAt s aim found.row name known place list = subst (λ l. RowAt s aim found.row name known place l) found.list_is placed in
    record { row = found.row; is = found.is; ends = listed.0; cuts = listed.1 }

pub slice_end : {X : Type 0} (xs : List X) (x : X) → slice_get (xs ++ x ∷ []) (length xs) ≡ Some x
slice_end [] x = refl
slice_end (y ∷ xs) x = slice_end xs x

-- a new row at the end
pub new_row : (s : Setting) (aim : Aims) (rows : List Row) (row : Row) → IsRow s aim row
    → HasRow s aim (rows ++ row ∷ []) (length rows) row.name row.known (row_at row)
new_row s aim rows row is = record { row = row; is = slice_end rows row; ends = is.ends; cuts = is.cuts }

pub rows_more : (s : Setting) (aim : Aims) (rows : List Row) (row : Row) → AreRows s aim rows → IsRow s aim row → AreRows s aim (rows ++ row ∷ [])
rows_more s aim rows row rs is = record { all = All-push (IsRow s aim) rows row rs.all is }

pub rows_none : (s : Setting) (aim : Aims) → AreRows s aim []
rows_none s aim = record { all = All-nil (IsRow s aim) }

-- a row that was looked at is found
pub found_here : (rows : List Row) (i : ℕ) (row : Row) (name : ℕ) (known : List (ℕ × Value)) (place : ℕ) (list : List Entry) → i < length rows
    → row ≡ get_or rows i row → row.name ≡ name → row.known ≡ known → row.place ≡ place → row.list ≡ list → IsFound rows i name known place list
found_here rows i row name known place list lt is n k p l = record {
  row = row;
  is = slice_get-get_or rows i row lt ∙ ap Some (sym is);
  name_is = n;
  known_is = k;
  place_is = p;
  list_is = l;
}

take_one : {X : Type 0} (xs : List X) (i : ℕ) (e : X) → slice_get xs i ≡ Some e → take 1 (drop i xs) ≡ e ∷ []
take_one [] i e h = absurd (cc)
take_one (x ∷ xs) zero e h = ap (λ y. y ∷ []) (same_Some x e h)
take_one (x ∷ xs) (suc i) e h = take_one xs i e h

-- how many there are for the one item at a place
pub count_at : {X : Type 0} (f : X → List ℕ) (xs : List X) (i : ℕ) (e : X) (all : List ℕ) → all ≡ flat_map f (slice_range xs i (i + 1))
    → slice_get xs i ≡ Some e → length all ≡ length (f e)
count_at f xs i e all is h =
    let one : (i + 1) - i ≡ 1 = omega arith in
    ap length (is ∙ ap (flat_map f) (ap (λ n. take n (drop i xs)) one ∙ take_one xs i e h) ∙ append-nil (f e))
