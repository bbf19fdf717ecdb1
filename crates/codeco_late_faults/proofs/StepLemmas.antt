-- The steps of a grammar's rules, as a table and as a relation.
use Rattle.std.proofs.Common.{◌≡◌, ℕ, zero, suc, ◌+◌, ◌<◌, ◌≤◌, Bool, true, false, eqb, List, [], ◌∷◌, ◌++◌, length, get_or, set, drop, refl, sym, ap, ◌∙◌, subst, arith, inl, inr, Some, None, Option, add-one, drop-cons, append_assoc, get_or-set_other}
use Rattle.std.specs.Prelude.{IsTrue, Contains, if◌then◌else◌}
use Rattle.std.specs.Option.{option_to_list}
use Rattle.std.proofs.lemmas.List.{get_or-set_same}
use Rattle.std.proofs.lemmas.List.Folds.{list_any-append}
use Rattle.std.proofs.lemmas.Bool.{cases_Bool, cases_eq, or_cases, or_left, or_right, cond-true, cond-false, eqb-true, eq-eqb, ne_eqb}
use Rattle.wiki_base.proofs.ListLaws.{drop_past}
use Rattle.codeco_terms.specs.declared.rules.Rule.{Rule}
use Rattle.codeco_terms.specs.GrammarParts.{GrammarParts}
use Rattle.codeco_checked.specs.Numbering.{has}
use Rattle.codeco_checked.specs.Faults.{first_category, StepsTo, Leads, IsRecursive}
use Rattle.codeco_late_faults.specs.Steps.{leads, IsPath, Reaches, rule_followers, followers_in, HasFollowers}
use Rattle.codeco_late_faults.proofs.MarkLemmas.{append_nil}

-- a rule whose step this is
abbrev Gives : ℕ → ℕ → Rule → Type 0
Gives from to r = (r.head.name ≡ from) × (first_category r.body ≡ Some to)

one_of : (o : Option ℕ) (to : ℕ) → has (option_to_list o) to ≡ true → o ≡ Some to
one_of None to h = absurd cc
one_of (Some c) to h = elim (or_cases (eqb to c) false h) [ inl same ↦ ap (λ x. Some x) (sym (eqb-true to c same)) | inr none ↦ absurd cc ]

rule_gives : (r : Rule) (from to : ℕ) → has (rule_followers from r) to ≡ true → Gives from to r
rule_gives r from to h =
    elim (cases_Bool (eqb r.head.name from)) [
      | inl same ↦ (
        eqb-true r.head.name from same,
        one_of (first_category r.body) to
            (ap (λ xs. has xs to) (sym (cond-true (eqb r.head.name from) (option_to_list (first_category r.body)) [] same)) ∙ h),
      )
      | inr other ↦ absurd (none (ap (λ xs. has xs to) (sym (cond-false (eqb r.head.name from) (option_to_list (first_category r.body)) [] other)) ∙ h))
    ]
  where
    none : has [] to ≡ true → ⊥
    none e = cc

gives_rule : (r : Rule) (from to : ℕ) → Gives from to r → has (rule_followers from r) to ≡ true
gives_rule r from to h =
    ap (λ xs. has xs to) (cond-true (eqb r.head.name from) (option_to_list (first_category r.body)) [] (eq-eqb r.head.name from h.0))
    ∙ ap (λ o. has (option_to_list o) to) h.1 ∙ or_left (eqb to to) false (eq-eqb to to refl)

follower_rule : (rules : List Rule) (from to : ℕ) → has (followers_in rules from) to ≡ true → (r : Rule) × Contains rules r × Gives from to r
follower_rule [] from to h = absurd cc
follower_rule (r ∷ rs) from to h =
    elim (or_cases (has (rule_followers from r) to) (has (followers_in rs from) to)
    (sym (list_any-append (eqb to) (rule_followers from r) (followers_in rs from)) ∙ h)) [
      | inl here ↦ (r, (0, omega arith, refl), rule_gives r from to here)
      | inr there ↦
          let rest = follower_rule rs from to there in
          (rest.0, (suc rest.1.0, omega (arith, rest.1.1), rest.1.2), rest.2)
    ]

rule_follower : (rules : List Rule) (from to k : ℕ) (r : Rule) → k < length rules → get_or rules k r ≡ r → Gives from to r
    → has (followers_in rules from) to ≡ true
rule_follower [] from to k r lt e h = absurd (omega arith)
rule_follower (x ∷ rs) from to zero r lt e h =
    list_any-append (eqb to) (rule_followers from x) (followers_in rs from) ∙ or_left _ _ (gives_rule x from to (subst (Gives from to) (sym e) h))
rule_follower (x ∷ rs) from to (suc k) r lt e h =
    list_any-append (eqb to) (rule_followers from x) (followers_in rs from) ∙ or_right _ _ (rule_follower rs from to k r (omega arith) e h)

-- a step of the table is a step of the grammar
steps_to : (g : GrammarParts) (table : List (List ℕ)) → HasFollowers g.rules table → (from to : ℕ) → IsTrue (leads table from to) → StepsTo g from to
steps_to g table all from to h =
    let at = follower_rule g.rules from to (ap (λ xs. has xs to) (sym (all from)) ∙ h) in
    (at.0, at.1, at.2.0, at.2.1)

to_step : (g : GrammarParts) (table : List (List ℕ)) → HasFollowers g.rules table → (from to : ℕ) → StepsTo g from to → IsTrue (leads table from to)
to_step g table all from to h = ap (λ xs. has xs to) (all from) ∙ rule_follower g.rules from to h.1.0 h.0 h.1.1 h.1.2 (h.2, h.3)

leads_path : (g : GrammarParts) (table : List (List ℕ)) → HasFollowers g.rules table → (from : ℕ) (between : List ℕ) (to : ℕ) → Leads g from between to
    → IsPath (leads table) from between to
leads_path g table all from [] to h = to_step g table all from to h
leads_path g table all from (c ∷ cs) to h = (to_step g table all from c h.0, leads_path g table all c cs to h.1)

path_leads : (g : GrammarParts) (table : List (List ℕ)) → HasFollowers g.rules table → (from : ℕ) (between : List ℕ) (to : ℕ)
    → IsPath (leads table) from between to → Leads g from between to
path_leads g table all from [] to h = steps_to g table all from to h
path_leads g table all from (c ∷ cs) to h = (steps_to g table all from c h.0, path_leads g table all c cs to h.1)

pub recursive_reaches : (g : GrammarParts) (table : List (List ℕ)) → HasFollowers g.rules table → (name : ℕ) → IsRecursive g name
    → Reaches (leads table) name name
recursive_reaches g table all name h = (h.0, leads_path g table all name h.0 name h.1)

pub reaches_recursive : (g : GrammarParts) (table : List (List ℕ)) → HasFollowers g.rules table → (name : ℕ) → Reaches (leads table) name name
    → IsRecursive g name
reaches_recursive g table all name h = (h.0, path_leads g table all name h.0 name h.1)

-- Building the table

-- what the table has of the first rules, together with the others, are all followers
abbrev pub HasFirst : List Rule → ℕ → List (List ℕ) → Type 0
HasFirst rules i table = (name : ℕ) → get_or table name [] ++ followers_in (drop i rules) name ≡ followers_in rules name

at_place : (rules : List Rule) (i : ℕ) (r : Rule) → i < length rules → r ≡ get_or rules i r → drop i rules ≡ r ∷ drop (i + 1) rules
at_place rules i r lt is = rw (add-one, drop-cons rules i r) (ap (λ y. y ∷ drop (suc i) rules) (sym is))

pub first_none : (rules : List Rule) (table : List (List ℕ)) → ((name : ℕ) → get_or table name [] ≡ []) → HasFirst rules 0 table
first_none rules table none = λ name. ap (λ xs. xs ++ followers_in rules name) (none name)

pub first_all : (rules : List Rule) (i : ℕ) (table : List (List ℕ)) → length rules ≤ i → HasFirst rules i table → HasFollowers rules table
first_all rules i table le h = λ name. sym (append_nil (get_or table name []))
    ∙ ap (λ rs. get_or table name [] ++ followers_in rs name) (sym (drop_past rules i le)) ∙ h name

pub first_skip : (rules : List Rule) (i : ℕ) (r : Rule) (table : List (List ℕ)) → i < length rules → r ≡ get_or rules i r → first_category r.body ≡ None
    → HasFirst rules i table → HasFirst rules (i + 1) table
first_skip rules i r table lt is none h = λ name.
    ap (λ xs. get_or table name [] ++ (xs ++ followers_in (drop (i + 1) rules) name)) (sym (nothing name))
    ∙ ap (λ rs. get_or table name [] ++ followers_in rs name) (sym (at_place rules i r lt is)) ∙ h name
  where
    either : (b : Bool) → (if b then (let xs : List ℕ = [] in xs) else []) ≡ []
    either true = refl
    either false = refl

    nothing : (name : ℕ) → rule_followers name r ≡ []
    nothing name = ap (λ o. if (eqb r.head.name name) then option_to_list o else []) none ∙ either (eqb r.head.name name)

pub first_more : (rules : List Rule) (i : ℕ) (r : Rule) (category : ℕ) (table new : List (List ℕ)) → i < length rules → r ≡ get_or rules i r
    → first_category r.body ≡ Some category → r.head.name < length table → new ≡ set table r.head.name (get_or table r.head.name [] ++ category ∷ [])
    → HasFirst rules i table → HasFirst rules (i + 1) new
first_more rules i r category table new lt is first room change h = λ name.
    let rest = followers_in (drop (i + 1) rules) name in
    let whole : get_or table name [] ++ (rule_followers name r ++ rest) ≡ followers_in rules name =
    ap (λ rs. get_or table name [] ++ followers_in rs name) (sym (at_place rules i r lt is)) ∙ h name in
    ap (λ t. get_or t name [] ++ rest) change ∙ ap (λ xs. xs ++ rest) (here name) ∙ append_assoc (get_or table name []) (rule_followers name r) rest ∙ whole
  where
    followers : (name : ℕ) → rule_followers name r ≡ (if (eqb r.head.name name) then category ∷ [] else [])
    followers name = ap (λ o. if (eqb r.head.name name) then option_to_list o else []) first

    here : (name : ℕ) → get_or (set table r.head.name (get_or table r.head.name [] ++ category ∷ [])) name [] ≡ get_or table name [] ++ rule_followers name r
    here name =
        elim (cases_eq name r.head.name) [
          | inl same ↦
              subst (λ n. get_or (set table r.head.name (get_or table r.head.name [] ++ category ∷ [])) n [] ≡ get_or table n [] ++ category ∷ []) (sym same)
              (get_or-set_same table r.head.name (get_or table r.head.name [] ++ category ∷ []) [] room)
              ∙ ap (λ xs. get_or table name [] ++ xs)
              (sym (followers name ∙ cond-true (eqb r.head.name name) (category ∷ []) [] (eq-eqb r.head.name name (sym same))))
          | inr other ↦
              get_or-set_other table r.head.name name (get_or table r.head.name [] ++ category ∷ []) [] other
              ∙ sym (append_nil (get_or table name []))
              ∙ ap (λ xs. get_or table name [] ++ xs)
              (sym (followers name ∙ cond-false (eqb r.head.name name) (category ∷ []) [] (ne_eqb r.head.name name (λ e. other (sym e)))))
        ]
