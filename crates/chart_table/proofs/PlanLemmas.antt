-- What the plans of rules tell.
use Rattle.std.proofs.Common.{◌≡◌, ℕ, zero, suc, ◌+◌, ◌<◌, ◌≤◌, List, [], ◌∷◌, ◌++◌, ◌&&◌, map, length, take, drop, get_or, Some, refl, sym, ap, ◌∙◌, subst, arith, ◌⊎◌, inl, inr}
use Rattle.std.specs.Prelude.{slice_get}
use Rattle.std.specs.List.{list_all, flat_map}
use Rattle.std.proofs.lemmas.Option.{same_Some, slice_get-get_or}
use Rattle.std.proofs.lemmas.List.{take_more, take_all, map_push}
use Rattle.wiki_base.proofs.ListLaws.{length_mapped}
use Rattle.chart_table.proofs.OneOfLemmas.{one_of_slice, one_front}
use Rattle.codeco_terms.specs.declared.declarations.Declared.TheVariants as declared
use Rattle.codeco_terms.specs.declared.elements.Element.{Element}
use Rattle.codeco_terms.specs.declared.elements.Element.TheVariants.{Terminal, Preterminal, Sub, Position, Opener, Forward, Strong, Back, NoBack}
use Rattle.codeco_terms.specs.declared.rules.Rule.{Rule}
use Rattle.codeco_terms.specs.GrammarParts.{GrammarParts}
use Rattle.codeco_checked.specs.Occurrences.{positions, rule_features}
use Rattle.derivation_trees.specs.Settings.{Setting, is_value}
use Rattle.derivation_trees.specs.Instances.{features_of, value_under, same_numbers, term_fits, own_fit, own_features, variables_of, rule_own_features, is_instance}
use Rattle.chart_table.specs.declared.choices.Plan.{Plan}
use Rattle.chart_table.specs.Choices.{choices, choices_in, terms_of, IsPlanOf, IsPlan, EachPlan, ArePlans, planned_instance}
use Rattle.chart_table.specs.declared.features.CategoryFeatures.{CategoryFeatures}
use Rattle.chart_table.specs.Branches.{OneOf}
use Rattle.chart_table.specs.Features.{element_features, own_among, HasListed, AreListed}
use Rattle.chart_table.proofs.BranchLemmas.{Binds}
use Rattle.chart_table.proofs.ChoiceLemmas.{terms_all}

pub choices_same : (s : Setting) (rule : Rule) (plan : Plan) → IsPlan s rule plan → choices s plan.terms plan.places plan.own ≡ choices_in s rule
choices_same s rule plan p =
    ap (λ x. choices s x plan.places plan.own) p.terms ∙ ap (λ x. choices s (terms_of rule) x plan.own) p.places
    ∙ ap (λ x. choices s (terms_of rule) (flat_map positions rule.body) x) p.own

-- the test by the plan is that by the rule
pub planned_is : (s : Setting) (rule : Rule) (plan : Plan) (v : Binds) → IsPlan s rule plan → planned_instance s plan v ≡ is_instance s rule v
unfolding is_instance
planned_is s rule plan v p =
    ap (λ a. ((a && list_all (term_fits s v) plan.terms) && list_all (λ x. is_value s declared.Positions (value_under v x)) plan.places)
    && own_fit s plan.own (drop plan.written v)) (ap (same_numbers (map (λ q. q.0) v)) p.variables)
    ∙ ap (λ a. ((same_numbers (map (λ q. q.0) v) (variables_of s.grammar rule) && a)
    && list_all (λ x. is_value s declared.Positions (value_under v x)) plan.places) && own_fit s plan.own (drop plan.written v))
    (ap (list_all (term_fits s v)) p.terms ∙ sym (terms_all (term_fits s v) rule))
    ∙ ap (λ a. ((same_numbers (map (λ q. q.0) v) (variables_of s.grammar rule) && list_all (term_fits s v) (rule_features rule)) && a)
    && own_fit s plan.own (drop plan.written v)) (ap (list_all (λ x. is_value s declared.Positions (value_under v x))) p.places)
    ∙ ap (λ a. ((same_numbers (map (λ q. q.0) v) (variables_of s.grammar rule) && list_all (term_fits s v) (rule_features rule))
    && list_all (λ x. is_value s declared.Positions (value_under v x)) (flat_map positions rule.body)) && a)
    (ap (λ o. own_fit s o (drop plan.written v)) p.own ∙ ap (λ n. own_fit s (rule_own_features s.grammar rule) (drop n v)) p.written)

-- one plan for each rule

each_push : (g : GrammarParts) (rules : List Rule) (plans : List Plan) (rule : Rule) (plan : Plan) → EachPlan g rules plans → IsPlanOf g rule plan
    → EachPlan g (rules ++ rule ∷ []) (plans ++ plan ∷ [])
each_push g [] [] rule plan h p = (p, tt)
each_push g [] (x ∷ xs) rule plan h p = absurd h
each_push g (r ∷ rs) [] rule plan h p = absurd h
each_push g (r ∷ rs) (x ∷ xs) rule plan h p = (h.0, each_push g rs xs rule plan h.1 p)

pub plans_none : (g : GrammarParts) (rules : List Rule) (plans : List Plan) → plans ≡ [] → EachPlan g (take 0 rules) plans
plans_none g rules plans e = subst (EachPlan g []) (sym e) tt

pub plans_turn : (g : GrammarParts) (rules : List Rule) (i : ℕ) (rule : Rule) (plan : Plan) (plans after : List Plan) → i < length rules
    → rule ≡ get_or rules i rule → EachPlan g (take i rules) plans → IsPlanOf g rule plan → after ≡ plans ++ plan ∷ [] → EachPlan g (take (i + 1) rules) after
plans_turn g rules i rule plan plans after lt is h p e =
    subst (EachPlan g (take (i + 1) rules)) (sym e)
    (subst (λ xs. EachPlan g xs (plans ++ plan ∷ [])) (sym (take_more rules i rule lt ∙ ap (λ x. take i rules ++ x ∷ []) (sym is)))
    (each_push g (take i rules) plans rule plan h p))

pub plans_done : (g : GrammarParts) (rules all : List Rule) (i : ℕ) (plans : List Plan) → rules ≡ all → length rules ≤ i → EachPlan g (take i rules) plans
    → EachPlan g all plans
plans_done g rules all i plans e le h = subst (λ xs. EachPlan g xs plans) (take_all i rules le ∙ e) h

each_count : (g : GrammarParts) (rules : List Rule) (plans : List Plan) → EachPlan g rules plans → length plans ≡ length rules
each_count g [] [] h = refl
each_count g [] (x ∷ xs) h = absurd h
each_count g (r ∷ rs) [] h = absurd h
each_count g (r ∷ rs) (x ∷ xs) h = ap suc (each_count g rs xs h.1)

-- there is a plan for each number of a rule
pub plan_there : (s : Setting) (rules : List Rule) (i : ℕ) (plans : List Plan) → rules ≡ s.grammar.rules → i < length rules → ArePlans s plans
    → i < length plans
plan_there s rules i plans e lt are =
    let count = each_count s.grammar s.grammar.rules plans are in
    let same : length rules ≡ length s.grammar.rules = ap length e in
    omega arith

each_at : (g : GrammarParts) (rules : List Rule) (plans : List Plan) (i : ℕ) (rule : Rule) (plan : Plan) → EachPlan g rules plans
    → slice_get rules i ≡ Some rule → slice_get plans i ≡ Some plan → IsPlanOf g rule plan
each_at g [] [] i rule plan h e f = absurd (cc)
each_at g [] (x ∷ xs) i rule plan h e f = absurd h
each_at g (r ∷ rs) [] i rule plan h e f = absurd h
each_at g (r ∷ rs) (x ∷ xs) zero rule plan h e f = subst (IsPlanOf g rule) (same_Some x plan f) (subst (λ y. IsPlanOf g y x) (same_Some r rule e) h.0)
each_at g (r ∷ rs) (x ∷ xs) (suc i) rule plan h e f = each_at g rs xs i rule plan h.1 e f

-- the plan with the number is that of the rule with the number
pub plan_is : (s : Setting) (rules : List Rule) (i : ℕ) (rule : Rule) (plan : Plan) (plans : List Plan) → rules ≡ s.grammar.rules → i < length rules
    → rule ≡ get_or rules i rule → slice_get plans i ≡ Some plan → ArePlans s plans → IsPlan s rule plan
plan_is s rules i rule plan plans e lt is at are =
    each_at s.grammar s.grammar.rules plans i rule plan are (ap (λ l. slice_get l i) (sym e) ∙ slice_get-get_or rules i rule lt ∙ ap Some (sym is)) at

-- how many own variables an element has

map_at : (g : GrammarParts) (body : List Element) (i : ℕ) (e : Element) (count : ℕ) → slice_get body i ≡ Some e
    → slice_get (map (λ x. length (own_features g x)) body) i ≡ Some count → count ≡ length (own_features g e)
map_at g [] i e count h k = absurd (cc)
map_at g (x ∷ xs) zero e count h k = sym (same_Some _ count k) ∙ ap (λ y. length (own_features g y)) (same_Some x e h)
map_at g (x ∷ xs) (suc i) e count h k = map_at g xs i e count h k

map_count : (g : GrammarParts) (body : List Element) → length (map (λ x. length (own_features g x)) body) ≡ length body
map_count g [] = refl
map_count g (x ∷ xs) = ap suc (map_count g xs)

pub count_there : (s : Setting) (rule : Rule) (plan : Plan) (body : List Element) (i : ℕ) → IsPlan s rule plan → body ≡ rule.body → i < length body
    → i < length plan.counts
count_there s rule plan body i p b lt =
    let counts : length plan.counts ≡ length rule.body = ap length p.counts ∙ map_count s.grammar rule.body in
    let same : length body ≡ length rule.body = ap length b in
    omega arith

pub count_is : (s : Setting) (rule : Rule) (plan : Plan) (body : List Element) (i : ℕ) (e : Element) (count : ℕ) → IsPlan s rule plan → body ≡ rule.body
    → i < length body → e ≡ get_or body i e → slice_get plan.counts i ≡ Some count → count ≡ length (own_features s.grammar e)
count_is s rule plan body i e count p b lt is at =
    map_at s.grammar rule.body i e count (ap (λ l. slice_get l i) (sym b) ∙ slice_get-get_or body i e lt ∙ ap Some (sym is))
    (ap (λ l. slice_get l i) (sym p.counts) ∙ at)

map_slice : {X Y : Type 0} (f : X → Y) (xs : List X) (i : ℕ) (x : X) (y : Y) → slice_get xs i ≡ Some x → slice_get (map f xs) i ≡ Some y → y ≡ f x
map_slice f [] i x y h k = absurd (cc)
map_slice f (z ∷ zs) zero x y h k = sym (same_Some (f z) y k) ∙ ap f (same_Some z x h)
map_slice f (z ∷ zs) (suc i) x y h k = map_slice f zs i x y h k

-- the features of the category that an element introduces
pub features_there : (s : Setting) (rule : Rule) (plan : Plan) (body : List Element) (i : ℕ) → IsPlan s rule plan → body ≡ rule.body → i < length body
    → i < length plan.features
features_there s rule plan body i p b lt =
    let all : length plan.features ≡ length rule.body = ap length p.features ∙ length_mapped (element_features s.grammar) rule.body in
    let same : length body ≡ length rule.body = ap length b in
    omega arith

pub features_are : (s : Setting) (rule : Rule) (plan : Plan) (body : List Element) (i : ℕ) (e : Element) (found : List ℕ) → IsPlan s rule plan
    → body ≡ rule.body → i < length body → e ≡ get_or body i e → slice_get plan.features i ≡ Some found → found ≡ element_features s.grammar e
features_are s rule plan body i e found p b lt is at =
    map_slice (element_features s.grammar) rule.body i e found (ap (λ l. slice_get l i) (sym b) ∙ slice_get-get_or body i e lt ∙ ap Some (sym is))
    (ap (λ l. slice_get l i) (sym p.features) ∙ at)

-- the features that are left out, by those of the category
own_is : (g : GrammarParts) (e : Element) → own_among (element_features g e) e ≡ own_features g e
own_is g (Terminal t) = refl
own_is g (Preterminal c) = refl
own_is g (Sub c) = refl
own_is g (Position x) = refl
own_is g Opener = refl
own_is g (Forward c) = refl
own_is g (Strong c) = refl
own_is g (Back positive negative) = refl
own_is g (NoBack patterns) = refl

pub own_mine : (g : GrammarParts) (e : Element) (found seen mine : List ℕ) → found ≡ element_features g e → seen ≡ found → mine ≡ own_among seen e
    → mine ≡ own_features g e
own_mine g e found seen mine f s m = m ∙ ap (λ x. own_among x e) (s ∙ f) ∙ own_is g e

map_turn : {X Y : Type 0} (f : X → Y) (xs : List X) (i : ℕ) (x : X) → i < length xs → x ≡ get_or xs i x
    → map f (take (i + 1) xs) ≡ map f (take i xs) ++ f x ∷ []
map_turn f xs i x lt is = ap (map f) (take_more xs i x lt ∙ ap (λ y. take i xs ++ y ∷ []) (sym is)) ∙ map_push f (take i xs) x

-- one more item of lists that are mapped
pub mapped_more : {X Y : Type 0} (f : X → Y) (xs : List X) (i : ℕ) (x : X) (y : Y) (out new : List Y) → i < length xs → x ≡ get_or xs i x → y ≡ f x
    → out ≡ map f (take i xs) → new ≡ out ++ y ∷ [] → new ≡ map f (take (i + 1) xs)
mapped_more f xs i x y out new lt is made old more =
    more ∙ ap (λ o. o ++ y ∷ []) old ∙ ap (λ z. map f (take i xs) ++ z ∷ []) made ∙ sym (map_turn f xs i x lt is)

-- features that are listed

pub listed_none : (g : GrammarParts) (known : List CategoryFeatures) → known ≡ [] → AreListed g known
listed_none g known e one o = absurd (subst (λ l. OneOf l one) e o)

pub listed_more : (g : GrammarParts) (known after : List CategoryFeatures) (x : CategoryFeatures) → after ≡ known ++ x ∷ [] → x.features ≡ features_of g x.name
    → AreListed g known → AreListed g after
listed_more g known after x e is all one o = by (one_front known x one (subst (λ l. OneOf l one) e o))
  where
    by : OneOf known one ⊎ (x ≡ one) → one.features ≡ features_of g one.name
    by (inl a) = all one a
    by (inr same) = subst (λ (y : CategoryFeatures). y.features ≡ features_of g y.name) same is

pub listed_here : (known : List CategoryFeatures) (i : ℕ) (x : CategoryFeatures) (name : ℕ) (found : List ℕ) → i < length known → x ≡ get_or known i x
    → x.name ≡ name → found ≡ x.features → HasListed known name found
listed_here known i x name found lt is named same =
    (x, one_of_slice known i x (slice_get-get_or known i x lt ∙ ap Some (sym is)), named, sym same)

pub listed_is : (g : GrammarParts) (known seen : List CategoryFeatures) (name : ℕ) (found : List ℕ) → seen ≡ known → AreListed g known
    → HasListed seen name found → found ≡ features_of g name
listed_is g known seen name found e all h =
    sym h.3 ∙ all h.0 (subst (λ l. OneOf l h.0) e h.1) ∙ ap (features_of g) h.2
