-- Rows of the table of least trees.
use Rattle.std.proofs.Common.{◌≡◌, ℕ, ◌+◌, ◌<◌, List, [], ◌∷◌, ◌++◌, map, length, get_or, false, Some, sym, ap, ◌∙◌, subst}
use Rattle.std.specs.Prelude.{slice_get, All}
use Rattle.std.proofs.lemmas.Option.{slice_get-get_or}
use Rattle.std.proofs.lemmas.List.Elements.{All-nil, All-push}
use Rattle.chart_table.proofs.TableLemmas.{all_slice, slice_end}
use Rattle.codeco_terms.specs.declared.values.Value.{Value}
use Rattle.codeco_terms.specs.declared.categories.Category.{Category}
use Rattle.codeco_terms.specs.declared.elements.Element.{Element}
use Rattle.codeco_terms.specs.declared.elements.Element.TheVariants.{Sub}
use Rattle.scopes.specs.declared.entries.Entry.{Entry}
use Rattle.scopes.specs.declared.agreement.Test.{Test}
use Rattle.derivation_trees.specs.Settings.{Setting}
use Rattle.derivation_trees.specs.Instances.{under}
use Rattle.derivation_trees.specs.Derives.{rule_with}
use Rattle.derivation_trees.specs.Stands.{is_sub}
use Rattle.codeco_terms.specs.declared.rules.Rule.{Rule}
use Rattle.chart_table.proofs.EndLemmas.{number_of}
use Rattle.derivations.specs.Enumeration as enumeration
use Rattle.scopes.specs.AccessList.{referents}
use Rattle.chart_table.specs.Table.{IsRow as IsEndsRow, no_asks}
use Rattle.chart_table.proofs.OpenerLemmas.{referents-twice}
use Rattle.chart_trees.specs.declared.table.Best.{Best}
use Rattle.chart_trees.specs.declared.table.Tables.{Tables}
use Rattle.chart_trees.specs.declared.paths.Path.{Path}
use Rattle.chart_trees.specs.Paths.{path_of, outcome_at}
use Rattle.chart_trees.specs.Ways.{HasSteps}
use Rattle.chart_trees.specs.Outcomes.{IsBest}
use Rattle.chart_trees.specs.Tables.{row_at, IsRow, AreTables, HasBest, IsFound}
use Rattle.chart_trees.proofs.WayLemmas.{plain_steps, child_steps}
use Rattle.chart_trees.proofs.OutcomeLemmas.{best_alike}

-- a row that was looked at is found
pub found_here : (rows : List Best) (i : ℕ) (row : Best) (asked : Test) (place : ℕ) (list : List Entry) → i < length rows → row ≡ get_or rows i row
    → row.asked ≡ asked → row.place ≡ place → row.list ≡ list → IsFound rows i asked place list
found_here rows i row asked place list lt is n p l = record {
  row = row;
  is = slice_get-get_or rows i row lt ∙ ap Some (sym is);
  asked_is = n;
  place_is = p;
  list_is = l;
}

-- a row that is found has the least trees that are asked for
pub row_found : (s : Setting) (tables : Tables) (seen : List Best) (number : ℕ) (asked : Test) (place : ℕ) (list seen_list : List Entry) → seen ≡ tables.rows
    → seen_list ≡ list → AreTables s tables → IsFound seen number asked place seen_list
    → HasBest s tables.rows number asked (record { place = place; list = list })
row_found s tables seen number asked place list seen_list same l are found =
    let at : slice_get tables.rows number ≡ Some found.row = subst (λ rs. slice_get rs number ≡ Some found.row) same found.is in
    let is = (all_slice (IsRow s) tables.rows number found.row are.rows at).best in
    let one : IsBest s asked (row_at found.row) found.row.outcomes = subst (λ t. IsBest s t (row_at found.row) found.row.outcomes) found.asked_is is in
    let two : IsBest s asked (record { place = place; list = found.row.list }) found.row.outcomes =
    subst (λ p. IsBest s asked (record { place = p; list = found.row.list }) found.row.outcomes) found.place_is one in
    record {
      row = found.row;
      is = at;
      best = subst (λ x. IsBest s asked (record { place = place; list = x }) found.row.outcomes) (found.list_is ∙ l) two;
    }

-- a new row
pub tables_more : (s : Setting) (before : Tables) (after : List Best) (row : Best) (start : List Entry) → after ≡ before.rows ++ row ∷ [] → start ≡ row.list
    → AreTables s before → IsBest s row.asked (record { place = row.place; list = start }) row.outcomes
    → AreTables s (record { ends = before.ends; rows = after })
tables_more s before after row start e l are best = record {
  ends = are.ends;
  rows = subst (All (IsRow s)) (sym e) (All-push (IsRow s) before.rows row are.rows
      (record { best = subst (λ x. IsBest s row.asked (record { place = row.place; list = x }) row.outcomes) l best }));
}

pub row_new : (s : Setting) (before after : List Best) (row : Best) (number : ℕ) (start : List Entry) → after ≡ before ++ row ∷ [] → number ≡ length before
    → start ≡ row.list → IsBest s row.asked (record { place = row.place; list = start }) row.outcomes → HasBest s after number row.asked (row_at row)
row_new s before after row number start e n l best = record {
  row = row;
  is = ap (λ rs. slice_get rs number) e ∙ ap (slice_get (before ++ row ∷ [])) n ∙ slice_end before row;
  best = subst (λ x. IsBest s row.asked (record { place = row.place; list = x }) row.outcomes) l best;
}

pub tables_none : (s : Setting) (tables : Tables) → tables.ends ≡ [] → tables.rows ≡ [] → AreTables s tables
tables_none s tables e f = record {
  ends = record { all = subst (All (IsEndsRow s no_asks)) (sym e) (All-nil (IsEndsRow s no_asks)) };
  rows = subst (All (IsRow s)) (sym f) (All-nil (IsRow s));
}

-- steps

pub plain_pushed : (s : Setting) (values : List (ℕ × Value)) (e : Element) (p : enumeration.Path) (before after : List enumeration.Path) → is_sub e ≡ false
    → after ≡ before ++ enumeration.passed s values e p → HasSteps s values e p before after
plain_pushed s values e p before after plain h = (enumeration.passed s values e p, h, plain_steps s values e p plain)

pub steps_same : (s : Setting) (values : List (ℕ × Value)) (e other : Element) (p : enumeration.Path) (before after : List enumeration.Path) → e ≡ other
    → HasSteps s values other p before after → HasSteps s values e p before after
steps_same s values e other p before after is h = subst (λ x. HasSteps s values x p before after) (sym is) h

-- the steps over a category, by its row
pub child_pushed : (s : Setting) (values : List (ℕ × Value)) (c : Category) (p : Path) (rows seen : List Best) (number : ℕ) (asked : Test) (list : List Entry)
    (before after : List enumeration.Path) → seen ≡ rows → asked ≡ under values c → list ≡ referents p.list
    → HasBest s rows number asked (record { place = p.place; list = list })
    → ((row : Best) → slice_get seen number ≡ Some row → after ≡ before ++ map (enumeration.joined (path_of p)) (map (outcome_at p.list) row.outcomes))
    → HasSteps s values (Sub c) (path_of p) before after
child_pushed s values c p rows seen number asked list before after same a l has made =
    let row = has.row in
    let first : IsBest s (under values c) (record { place = p.place; list = list }) row.outcomes =
    subst (λ t. IsBest s t (record { place = p.place; list = list }) row.outcomes) a has.best in
    let alike : referents list ≡ referents p.list = ap referents l ∙ referents-twice p.list in
    let best : IsBest s (under values c) (record { place = p.place; list = p.list }) row.outcomes =
    best_alike s (under values c) p.place list p.list row.outcomes alike first in (
      map (enumeration.joined (path_of p)) (map (outcome_at p.list) row.outcomes),
      made row (ap (λ rs. slice_get rs number) same ∙ has.is),
      child_steps s values c (path_of p) row.outcomes best,
    )

-- the rule with the number
pub rule_numbered : (s : Setting) (rules : List Rule) (i number : ℕ) (rule : Rule) → rules ≡ s.grammar.rules → number ≡ i + 1 → i < length rules
    → rule ≡ get_or rules i rule → rule_with s.grammar number ≡ Some rule
rule_numbered s rules i number rule e n lt is =
    subst (λ k. rule_with s.grammar k ≡ Some rule) (sym n)
    (number_of s i rule (ap (λ l. slice_get l i) (sym e) ∙ slice_get-get_or rules i rule lt ∙ ap Some (sym is)))
