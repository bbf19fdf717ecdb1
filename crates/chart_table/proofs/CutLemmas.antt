-- Cut-off nodes, and the ways in which rules are cut off.
use Rattle.std.proofs.lemmas.List.{take_more}
use Rattle.std.proofs.Common.{◌≡◌, ℕ, ◌+◌, ◌-◌, ◌<◌, get_or, List, [], ◌∷◌, ◌++◌, length, take, drop, Some, refl, sym, ap, ◌∙◌, subst, arith, inl, inr}
use Rattle.std.specs.Prelude.{slice_get}
use Rattle.codeco_terms.specs.declared.values.Value.{Value}
use Rattle.codeco_terms.specs.declared.elements.Element.{Element}
use Rattle.codeco_terms.specs.declared.rules.Rule.{Rule}
use Rattle.scopes.specs.declared.entries.Entry.{Entry}
use Rattle.scopes.specs.declared.agreement.Test.{Test}
use Rattle.derivation_trees.specs.Settings.{Setting}
use Rattle.derivation_trees.specs.Instances.{under, feats_under, own_values, own_features}
use Rattle.derivation_trees.specs.Derives.{At, rule_with, fits}
use Rattle.chart_table.specs.declared.states.State.{State}
use Rattle.chart_table.specs.declared.states.Cut.{Cut}
use Rattle.chart_table.specs.declared.asks.Ask.{Ask}
use Rattle.chart_table.specs.Leading.{Path, ElementLeads, own_past}
use Rattle.scopes.specs.AccessList.{referents}
use Rattle.chart_table.specs.Steps.{at_of, Covers}
use Rattle.chart_table.specs.Ends.{CoversPath, LeadsFrom, AreSteps}
use Rattle.chart_table.proofs.RuleAsking.{AskStops}
use Rattle.chart_table.specs.Aims.{Aims}
use Rattle.chart_table.specs.Cuts.{CutLeads, Stops, AreCuts, own_after, AreAfter}
use Rattle.chart_table.proofs.CutsUpTo.{RuleCut, HasCutsUpTo}
use Rattle.chart_table.proofs.BranchLemmas.{Binds}
use Rattle.chart_table.proofs.EndLemmas.{drop_further, own_at, fits_name, agrees_known, rule_number}
use Rattle.chart_table.proofs.AskLemmas.{rule_of_ask, ask_of_rule, ask_alike}

-- what a rule that is cut off is
pub record SomeCut (s : Setting) (aim : Aims) (j : ℕ) (asked : Test) (at : At) : Type 0 where
  pub number : ℕ
  pub rule : Rule
  pub has : rule_with s.grammar number ≡ Some rule
  pub values : List (ℕ × Value)
  pub cut : RuleCut s aim j rule values asked at

numbered : (s : Setting) (aim : Aims) (j : ℕ) (a : Ask) (rule : Rule) (values : Binds) (count : ℕ) (last : At) → slice_get aim.asks j ≡ Some a
    → AskStops s aim.halt a rule values count last → Stops s aim j rule values count last
numbered s aim j a rule values count last at (inl h) = inl (h.0, (a, at, h.1))
numbered s aim j a rule values count last at (inr c) = inr (c.0, c.1, (a, at, c.2))

pub rule_of_cut : (s : Setting) (aim : Aims) (j : ℕ) (asked : Test) (at : At) → CutLeads s aim j asked at → SomeCut s aim j asked at
rule_of_cut s aim j asked at h =
    let r = rule_of_ask s aim.halt h.0 asked at h.2 in
    let c = r.cut in
    record {
      number = r.number;
      rule = r.rule;
      has = r.has;
      values = r.values;
      cut = record {
        instance = c.instance;
        head = c.head;
        count = c.count;
        last = c.last;
        path = c.path;
        stop = numbered s aim j h.0 r.rule r.values c.count c.last h.1 c.stop;
      };
    }

pub cut_of_rule : (s : Setting) (aim : Aims) (j : ℕ) (asked : Test) (at : At) (number : ℕ) (rule : Rule) (values : List (ℕ × Value))
    → rule_with s.grammar number ≡ Some rule → RuleCut s aim j rule values asked at → CutLeads s aim j asked at
cut_of_rule s aim j asked at number rule values has c = by_stop c.stop
  where
    made : (a : Ask) → slice_get aim.asks j ≡ Some a → AskStops s aim.halt a rule values c.count c.last → CutLeads s aim j asked at
    made a at_j stop = (
      a,
      at_j,
      ask_of_rule s aim.halt a asked at number rule values has
          (record { instance = c.instance; head = c.head; count = c.count; last = c.last; path = c.path; stop = stop }),
    )

    by_stop : Stops s aim j rule values c.count c.last → CutLeads s aim j asked at
    by_stop (inl h) = made h.1.0 h.1.1 (inl (h.0, h.1.2))
    by_stop (inr d) = made d.2.0 d.2.1 (inr (d.0, d.1, d.2.2))

pub cut_alike : (s : Setting) (aim : Aims) (j : ℕ) (asked : Test) (place : ℕ) (one other : List Entry) → referents one ≡ referents other
    → CutLeads s aim j asked (record { place = place; list = one }) → CutLeads s aim j asked (record { place = place; list = other })
cut_alike s aim j asked place one other same h = (h.0, h.1, ask_alike s aim.halt h.0 asked place one other same h.2)

-- paths, element by element from the right

pub path_snoc : (s : Setting) (v own : Binds) (es : List Element) (e : Element) (at last : At) → Path s v own (es ++ e ∷ []) at last
    → (between : At) × Path s v own es at between × ElementLeads s v (own_after s es own) e between last
path_snoc s v own [] e at last h = (at, refl, subst (ElementLeads s v own e at) h.2 h.1)
path_snoc s v own (x ∷ xs) e at last h =
    let r = path_snoc s v (own_past s x own) xs e h.0 last h.2 in (r.0, (h.0, h.1, r.1), r.2)

pub snoc_path : (s : Setting) (v own : Binds) (es : List Element) (e : Element) (at between last : At) → Path s v own es at between
    → ElementLeads s v (own_after s es own) e between last → Path s v own (es ++ e ∷ []) at last
snoc_path s v own [] e at between last p l = (last, subst (λ a. ElementLeads s v own e a last) (sym p) l, refl)
snoc_path s v own (x ∷ xs) e at between last p l = (p.0, p.1, snoc_path s v (own_past s x own) xs e p.0 between last p.2 l)

after_snoc : (s : Setting) (es : List Element) (e : Element) (own : Binds) → own_after s (es ++ e ∷ []) own ≡ own_past s e (own_after s es own)
after_snoc s [] e own = refl
after_snoc s (x ∷ xs) e own = after_snoc s xs e (own_past s x own)

covers_snoc : (s : Setting) (v own : Binds) (es : List Element) (e : Element) (last : At) (starts : List State) → CoversPath s v own (es ++ e ∷ []) last starts
    → (between : At) × CoversPath s v own es between starts × ElementLeads s v (own_after s es own) e between last
covers_snoc s v own es e last [] h = absurd h
covers_snoc s v own es e last (x ∷ xs) (inl h) = let r = path_snoc s v own es e (at_of x) last h.1 in (r.0, inl (h.0, r.1), r.2)
covers_snoc s v own es e last (x ∷ xs) (inr h) = let r = covers_snoc s v own es e last xs h in (r.0, inr r.1, r.2)

snoc_covers : (s : Setting) (v own : Binds) (es : List Element) (e : Element) (between last : At) (starts : List State) → CoversPath s v own es between starts
    → ElementLeads s v (own_after s es own) e between last → CoversPath s v own (es ++ e ∷ []) last starts
snoc_covers s v own es e between last [] h l = absurd h
snoc_covers s v own es e between last (x ∷ xs) (inl h) l = inl (h.0, snoc_path s v own es e (at_of x) between last h.1 l)
snoc_covers s v own es e between last (x ∷ xs) (inr h) l = inr (snoc_covers s v own es e between last xs h l)

covers_leads : (s : Setting) (v own : Binds) (e : Element) (between last : At) (states : List State) → Covers v between states
    → ElementLeads s v own e between last → LeadsFrom s v own e last states
covers_leads s v own e between last [] h l = absurd h
covers_leads s v own e between last (x ∷ xs) (inl h) l = inl (h.0, subst (λ a. ElementLeads s v own e a last) (sym h.1) l)
covers_leads s v own e between last (x ∷ xs) (inr h) l = inr (covers_leads s v own e between last xs h l)

leads_covers : (s : Setting) (v own : Binds) (e : Element) (last : At) (states : List State) → LeadsFrom s v own e last states
    → (between : At) × Covers v between states × ElementLeads s v own e between last
leads_covers s v own e last [] h = absurd h
leads_covers s v own e last (x ∷ xs) (inl h) = (at_of x, inl (h.0, refl), h.1)
leads_covers s v own e last (x ∷ xs) (inr h) = let r = leads_covers s v own e last xs h in (r.0, inr r.1, r.2)

pub covers_nil : (s : Setting) (v own : Binds) (last : At) (states : List State) → CoversPath s v own [] last states → Covers v last states
covers_nil s v own last [] h = absurd h
covers_nil s v own last (x ∷ xs) (inl h) = inl h
covers_nil s v own last (x ∷ xs) (inr h) = inr (covers_nil s v own last xs h)

pub nil_covers : (s : Setting) (v own : Binds) (last : At) (states : List State) → Covers v last states → CoversPath s v own [] last states
nil_covers s v own last [] h = absurd h
nil_covers s v own last (x ∷ xs) (inl h) = inl h
nil_covers s v own last (x ∷ xs) (inr h) = inr (nil_covers s v own last xs h)

-- before the first element
pub after_none : (s : Setting) (rule : Rule) (starts : List State) → AreAfter s rule starts 16 0 starts
after_none s rule starts = record {
  numbered = omega arith;
  own_is = λ v. refl;
  forth = λ v last instance h. covers_nil s v (own_values rule v) last starts h;
  back = λ v last instance h. nil_covers s v (own_values rule v) last starts h;
}

-- after one more element
pub after_more : (s : Setting) (rule : Rule) (starts : List State) (n m i : ℕ) (e : Element) (states news : List State) → i < length rule.body
    → e ≡ get_or rule.body i e → AreAfter s rule starts n i states → AreSteps s rule n e states news → m ≡ n + length (own_features s.grammar e)
    → AreAfter s rule starts m (i + 1) news
after_more s rule starts n m i e states news lt is after steps next =
    let grown : take (i + 1) rule.body ≡ take i rule.body ++ e ∷ [] = take_more rule.body i e lt ∙ ap (λ x. take i rule.body ++ x ∷ []) (sym is) in
    record {
      numbered = let le = after.numbered in omega arith;
      own_is = λ v. ap (λ es. own_after s es (own_values rule v)) grown ∙ after_snoc s (take i rule.body) e (own_values rule v)
          ∙ ap (own_past s e) (after.own_is v) ∙ drop_further (own_values rule v) (length (own_features s.grammar e)) n m after.numbered next;
      forth = λ v last instance h.
          let r = covers_snoc s v (own_values rule v) (take i rule.body) e last starts
          (subst (λ es. CoversPath s v (own_values rule v) es last starts) grown h) in
          steps.forth v (drop (n - 16) (own_values rule v)) last instance (own_at s rule v n instance after.numbered)
          (covers_leads s v (drop (n - 16) (own_values rule v)) e r.0 last states (after.forth v r.0 instance r.1)
          (subst (λ o. ElementLeads s v o e r.0 last) (after.own_is v) r.2));
      back = λ v last instance h.
          let led = steps.back v (drop (n - 16) (own_values rule v)) last instance (own_at s rule v n instance after.numbered) h in
          let r = leads_covers s v (drop (n - 16) (own_values rule v)) e last states led in
          subst (λ es. CoversPath s v (own_values rule v) es last starts) (sym grown)
          (snoc_covers s v (own_values rule v) (take i rule.body) e r.0 last starts (after.back v r.0 instance r.1)
          (subst (λ o. ElementLeads s v o e r.0 last) (sym (after.own_is v)) r.2));
    }

-- all cut-off phrases

-- the cut-off phrases of all rules with the name are those of the category
pub cuts_up_to : (s : Setting) (aim : Aims) (name : ℕ) (known : Binds) (at : At) (cuts : List Cut)
    → HasCutsUpTo s aim name known at (length s.grammar.rules) cuts → AreCuts s aim name known at cuts
cuts_up_to s aim name known at cuts has = record {
  sound = λ j values o asked named h.
      let r = has.sound j values o in
      let c = r.cut in
      cut_of_rule s aim j asked at r.number r.rule c.values r.has (record {
        instance = c.instance;
        head = ap (λ m. fits (record { name = m; values = feats_under c.values r.rule.head.feats }) asked) r.named
            ∙ ap (λ f. fits (record { name = name; values = f }) asked) (sym c.is) ∙ h;
        count = c.count;
        last = c.last;
        path = c.path;
        stop = c.stop;
      });
  complete = λ j asked named known_in leads.
      let r = rule_of_cut s aim j asked at leads in
      let c = r.cut in
      let name_is : r.rule.head.name ≡ name = fits_name (under r.values r.rule.head) asked c.head ∙ named in
      let found = has.complete r.number r.rule r.has (rule_number s r.number r.rule r.has) name_is j r.values c.count c.last c.instance
      (agrees_known known r.rule r.values asked c.head known_in) c.path c.stop in (
        feats_under r.values r.rule.head.feats,
        found,
        sym (ap (λ m. fits (record { name = m; values = feats_under r.values r.rule.head.feats }) asked) name_is) ∙ c.head,
      );
}
