-- Sentences, by the ends of `text`.
use Rattle.std.proofs.Common.{◌≡◌, ℕ, suc, zero, ◌+◌, List, [], ◌∷◌, ◌++◌, Bool, true, false, ◌||◌, length, map, Some, arith, refl, sym, ap, ◌∙◌, subst, inl, inr, IsTrue, ◌↔◌}
use Rattle.std.specs.Prelude.{◌==◌, slice_get}
use Rattle.std.proofs.lemmas.Option.{same_Some}
use Rattle.chart_table.specs.declared.table.Row.{Row}
use Rattle.chart_table.specs.Table.{HasRow, IsTextRow}
use Rattle.std.specs.List.{list_any, list_all, range_with_len}
use Rattle.std.proofs.Math.Bool.{or-true}
use Rattle.std.proofs.lemmas.List.FromFn.{length-range_with_len}
use Rattle.std.proofs.lemmas.Bool.{eqb-true}
use Rattle.std.proofs.lemmas.List.{map_push}
use Rattle.wiki_base.proofs.NumberLaws.{eqb_refl}
use Rattle.wiki_base.proofs.ListLaws.{length_mapped}
use Rattle.codeco_terms.specs.declared.values.Value.{Value}
use Rattle.scopes.specs.declared.entries.Entry.{Entry}
use Rattle.derivation_trees.specs.Trees.{Node}
use Rattle.derivation_trees.specs.Settings.{Setting}
use Rattle.derivation_trees.specs.Derives.{At, fits, same_where_both, text_category, IsDerivation}
use Rattle.chart_table.specs.declared.states.End.{End}
use Rattle.chart_table.specs.Branches.{OneOf}
use Rattle.derivation_trees.specs.Partial.{CutNode, IsPartialDerivation}
use Rattle.chart_table.specs.Ends.{end_head, IsEnds}
use Rattle.chart_table.specs.declared.states.Cut.{Cut}
use Rattle.chart_table.specs.declared.asks.Ask.{Ask}
use Rattle.chart_table.specs.declared.asks.Ask.TheVariants as ask
use Rattle.chart_table.specs.Asks.{AskLeads}
use Rattle.chart_table.specs.Aims.{Aims}
use Rattle.chart_table.specs.Cuts.{AreCuts, CutLeads, HasCut, cut_head}
use Rattle.derivation_trees.proofs.InstanceLemmas.{range_more}
use Rattle.chart_table.proofs.AskLemmas.{any_leads, leads_any}

-- where sentences begin
abbrev pub first_at : At
first_at = record { place = 0; list = [] }

all_fit : (values : List (ℕ × Value)) → list_all (λ p. list_all (same_where_both p) []) values ≡ true
all_fit [] = refl
all_fit (p ∷ values) = all_fit values

fits_text : (e : End) → fits (end_head 5 e) text_category ≡ true
fits_text e = all_fit e.values

any_of : (place : ℕ) (ends : List End) (e : End) → OneOf ends e → e.place ≡ place → list_any (λ x. x.place == place) ends ≡ true
any_of place [] e o is = absurd o
any_of place (x ∷ xs) e (inl same) is =
    ap (λ b. b || list_any (λ y. y.place == place) xs) (ap (λ y. y.place == place) same ∙ ap (λ n. n == place) is ∙ eqb_refl place)
any_of place (x ∷ xs) e (inr o) is = ap (λ b. (x.place == place) || b) (any_of place xs e o is) ∙ or-true (x.place == place)

of_any : (place : ℕ) (ends : List End) → list_any (λ x. x.place == place) ends ≡ true → (e : End) × OneOf ends e × (e.place ≡ place)
of_any place [] h = absurd (cc)
of_any place (x ∷ xs) h = at (of_any place xs) (x.place == place) refl h
  where
    at : (list_any (λ y. y.place == place) xs ≡ true → (e : End) × OneOf xs e × (e.place ≡ place)) → (b : Bool) → (x.place == place) ≡ b
        → (b || list_any (λ y. y.place == place) xs) ≡ true → (e : End) × OneOf (x ∷ xs) e × (e.place ≡ place)
    at rest true n h = (x, inl refl, eqb-true x.place place n)
    at rest false n h = let r = rest h in (r.0, inr r.1, r.2)

-- an end of `text` at the end of the tokens is that of a derivation, and each derivation has one
pub sentence_of : (s : Setting) (ends : List End) → IsEnds s 5 [] first_at ends → list_any (λ e. e.place == length s.tokens) ends ≡ true
    → (tree : Node) × IsDerivation s tree
sentence_of s ends is h =
    let found = of_any (length s.tokens) ends h in
    let leads = is.sound found.0 found.1 text_category refl (fits_text found.0) in
    (leads.0, (found.0.tail, leads.1 ∙ ap (λ p. Some (record { place = p; list = found.0.tail })) found.2))

pub end_of : (s : Setting) (ends : List End) → IsEnds s 5 [] first_at ends → (tree : Node) → IsDerivation s tree
    → list_any (λ e. e.place == length s.tokens) ends ≡ true
end_of s ends is tree derives =
    let found = is.complete text_category (record { place = length s.tokens; list = derives.0 }) refl (λ p o. absurd o) (tree, derives.1) in
    any_of (length s.tokens) ends found.0 found.1 (sym (ap (λ a. a.place) found.3))

-- a cut-off phrase of `text` is a partial derivation, and each partial derivation has one

asked_of : (number : ℕ) (cuts : List Cut) → list_any (λ e. e.ask == number) cuts ≡ true → (values : List (ℕ × Value)) × HasCut cuts number values
asked_of number [] h = absurd (cc)
asked_of number (x ∷ xs) h = at (asked_of number xs) (x.ask == number) refl h
  where
    at : (list_any (λ e. e.ask == number) xs ≡ true → (values : List (ℕ × Value)) × HasCut xs number values) → (b : Bool) → (x.ask == number) ≡ b
        → (b || list_any (λ e. e.ask == number) xs) ≡ true → (values : List (ℕ × Value)) × HasCut (x ∷ xs) number values
    at rest true n h = (x.values, (x, inl refl, eqb-true x.ask number n, refl))
    at rest false n h = let r = rest h in (r.0, (r.1.0, inr r.1.1, r.1.2, r.1.3))

of_asked : (number : ℕ) (cuts : List Cut) (e : Cut) → OneOf cuts e → e.ask ≡ number → list_any (λ x. x.ask == number) cuts ≡ true
of_asked number [] e o is = absurd o
of_asked number (x ∷ xs) e (inl same) is =
    ap (λ b. b || list_any (λ y. y.ask == number) xs) (ap (λ (y : Cut). y.ask == number) same ∙ ap (λ n. n == number) is ∙ eqb_refl number)
of_asked number (x ∷ xs) e (inr o) is = ap (λ b. (x.ask == number) || b) (of_asked number xs e o is) ∙ or-true (x.ask == number)

fits_any : (values : List (ℕ × Value)) → fits (cut_head 5 values) text_category ≡ true
fits_any values = all_fit values

-- the row of `text` tells whether a partial derivation meets the ask with the number
pub asked_for : (s : Setting) (aim : Aims) (row : Row) (j : ℕ) (b : Bool) → IsTextRow s aim row → b ≡ list_any (λ e. e.ask == j) row.cuts
    → IsTrue b ↔ CutLeads s aim j text_category first_at
asked_for s aim row j b is e = (
  λ t. let r = asked_of j row.cuts (sym e ∙ t) in is.cuts.sound j r.0 r.1 text_category refl (fits_any r.0),
  λ led. let r = is.cuts.complete j text_category refl (λ p o. absurd o) led in let h = r.1 in e ∙ of_asked j row.cuts h.0 h.1 h.2,
)

pub text_row_is : (s : Setting) (aim : Aims) (rows : List Row) (number : ℕ) (row : Row) (known : List (ℕ × Value)) (list : List Entry) → known ≡ [] → list ≡ []
    → HasRow s aim rows number 5 known (record { place = 0; list = list }) → slice_get rows number ≡ Some row → IsTextRow s aim row
text_row_is s aim rows number row known list k l has is =
    let same : has.row ≡ row = same_Some has.row row (sym has.is ∙ is) in
    subst (IsTextRow s aim) same (record {
      ends = subst (λ x. IsEnds s 5 x first_at has.row.ends) k (subst (λ x. IsEnds s 5 known (record { place = 0; list = x }) has.row.ends) l has.ends);
      cuts = subst (λ x. AreCuts s aim 5 x first_at has.row.cuts) k
          (subst (λ x. AreCuts s aim 5 known (record { place = 0; list = x }) has.row.cuts) l has.cuts);
    })

-- what the row of `text` tells
pub told : (s : Setting) (aim : Aims) (row : Row) (count : ℕ) (ends : List End) (b : Bool) → IsTextRow s aim row → count ≡ length s.tokens → ends ≡ row.ends
    → b ≡ list_any (λ e. e.place == count) ends → IsTrue b ↔ ((tree : Node) × IsDerivation s tree)
told s aim row count ends b is n seen h =
    let same : b ≡ list_any (λ e. e.place == length s.tokens) row.ends =
    h ∙ ap (list_any (λ e. e.place == count)) seen ∙ ap (λ m. list_any (λ e. e.place == m) row.ends) n in
    (λ t. sentence_of s row.ends is.ends (sym same ∙ t), λ d. same ∙ end_of s row.ends is.ends d.0 d.1)

pub begun : (s : Setting) (count : ℕ) (asks : List Ask) (row : Row) (cuts : List Cut) (b : Bool) → asks ≡ ask.Any ∷ [] → count ≡ length s.tokens
    → IsTextRow s (record { halt = count; asks = asks }) row → cuts ≡ row.cuts → b ≡ list_any (λ e. e.ask == 0) cuts
    → IsTrue b ↔ ((cut : CutNode) × IsPartialDerivation s cut)
begun s count asks row cuts b a n is seen h =
    let aim : Aims = record { halt = count; asks = asks } in
    let both = asked_for s aim row 0 b is (h ∙ ap (list_any (λ e. e.ask == 0)) seen) in (
      λ t. let led = both.0 t in let cut = leads_any s count led.0 text_category first_at led.2 in (cut.0, cut.1 ∙ ap Some n),
      λ d. both.1 (ask.Any, ap (λ l. slice_get l 0) a, any_leads s count text_category first_at (d.0, d.1 ∙ ap Some (sym n))),
    )

-- one answer for each ask

pub follows_more : (f : ℕ → Bool) (n : ℕ) (b : Bool) (out new : List Bool) → out ≡ map f (range_with_len 0 n) → b ≡ f n → new ≡ out ++ b ∷ []
    → new ≡ map f (range_with_len 0 (n + 1))
follows_more f n b out new old is more =
    let last : 0 + n ≡ n = omega arith in
    more ∙ ap (λ o. o ++ b ∷ []) old ∙ ap (λ x. map f (range_with_len 0 n) ++ x ∷ []) (is ∙ ap f (sym last))
    ∙ sym (ap (map f) (range_more 0 n) ∙ map_push f (range_with_len 0 n) (0 + n))

range_at : (f : ℕ → Bool) (first count j : ℕ) (yes : Bool) → slice_get (map f (range_with_len first count)) j ≡ Some yes → yes ≡ f (first + j)
range_at f first zero j b h = absurd (cc)
range_at f first (suc n) zero b h = let z : first ≡ first + 0 = omega arith in sym (same_Some (f first) b h) ∙ ap f z
range_at f first (suc n) (suc j) b h = let z : (first + 1) + j ≡ first + suc j = omega arith in range_at f (first + 1) n j b h ∙ ap f z

pub answer_count : (f : ℕ → Bool) (count : ℕ) (follows : List Bool) → follows ≡ map f (range_with_len 0 count) → length follows ≡ count
answer_count f count follows e = ap length e ∙ length_mapped f (range_with_len 0 count) ∙ length-range_with_len 0 count

pub answer_is : (s : Setting) (halt : ℕ) (asks : List Ask) (row : Row) (cuts : List Cut) (count : ℕ) (follows : List Bool)
    → IsTextRow s (record { halt = halt; asks = asks }) row → cuts ≡ row.cuts → follows ≡ map (λ j. list_any (λ e. e.ask == j) cuts) (range_with_len 0 count)
    → (j : ℕ) (a : Ask) (told : Bool) → slice_get asks j ≡ Some a → slice_get follows j ≡ Some told → IsTrue told ↔ AskLeads s halt a text_category first_at
answer_is s halt asks row cuts count follows is seen e j a b at has =
    let aim : Aims = record { halt = halt; asks = asks } in
    let told_is : b ≡ list_any (λ x. x.ask == j) row.cuts =
    range_at (λ k. list_any (λ x. x.ask == k) cuts) 0 count j b (ap (λ l. slice_get l j) (sym e) ∙ has)
    ∙ ap (λ k. list_any (λ x. x.ask == k) cuts) (let z : 0 + j ≡ j = omega arith in z) ∙ ap (list_any (λ x. x.ask == j)) seen in
    let both = asked_for s aim row j b is told_is in (
      λ t. let led = both.0 t in subst (λ x. AskLeads s halt x text_category first_at) (same_Some led.0 a (sym led.1 ∙ at)) led.2,
      λ led. both.1 (a, at, led),
    )
