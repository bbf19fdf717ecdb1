-- Checked grammars are within the limits.
use Rattle.std.proofs.Common.{◌≡◌, ℕ, suc, zero, ◌+◌, ◌-◌, ◌<◌, ◌≤◌, List, [], ◌∷◌, ◌++◌, Bool, true, false, ◌||◌, ◌&&◌, map, length, get_or, Some, None, refl, sym, ap, ◌∙◌, subst, ◌⊎◌, arith, nat_lt, IsTrue, length-append}
use Rattle.std.specs.Prelude.{if◌then◌else◌, ◌==◌, slice_get}
use Rattle.std.specs.Option.{option_map_or}
use Rattle.std.specs.List.{flat_map, range_with_len}
use Rattle.std.proofs.lemmas.Bool.Decides.{nat_tests}
use Rattle.std.proofs.lemmas.List.{map-append}
use Rattle.std.proofs.lemmas.List.FromFn.{length-range_with_len, get_or-range_with_len}
use Rattle.std.proofs.lemmas.Bool.{eqb-true, ltb-true, or_left, or_right, or_parts}
use Rattle.wiki_base.proofs.ListLaws.{any_at}
use Rattle.wiki_base.proofs.NumberLaws.{eqb_refl}
use Rattle.codeco_terms.specs.declared.categories.Category.{Category}
use Rattle.codeco_terms.specs.declared.elements.Element.{Element}
use Rattle.codeco_terms.specs.declared.elements.Element.TheVariants.{Forward, Strong, Back}
use Rattle.codeco_terms.specs.declared.rules.Rule.{Rule}
use Rattle.codeco_terms.specs.GrammarParts.{GrammarParts}
use Rattle.codeco_checked.specs.declared.fault.GrammarFault.TheVariants.{TooLarge}
use Rattle.codeco_checked.specs.Numbering.{has, counts_up, count_different, grammar_names}
use Rattle.codeco_checked.specs.Occurrences.{mentions, rule_mentions, patterns}
use Rattle.codeco_checked.specs.Faults.{features_written, has_broad_category, is_large_rule, is_too_large, at_rule}
use Rattle.codeco_checked.specs.Sound.{IsSound}
use Rattle.derivation_trees.specs.Instances.{features_of}
use Rattle.derivation_trees.specs.Putting.{put, put_all}
use Rattle.derivation_trees.specs.Derives.{rule_with}
use Rattle.derivation_trees.specs.Stands.{IsWithin, IsLimited}
use Rattle.derivation_trees.proofs.PutLemmas.{put_comm, put_all_put}
use Rattle.derivation_trees.proofs.RangeLemmas.{put_all_range}
use Rattle.derivation_trees.proofs.OccurrenceLemmas.{has_append}

-- Numbers that are put once

put_twice_step : (x z : ℕ) (zs : List ℕ) → put x (put x zs) ≡ put x zs → put x (put x (z ∷ zs)) ≡ put x (z ∷ zs)
put_twice_step x z zs h = grind (arith, nat_tests)

put_twice_none : (x : ℕ) → put x (put x []) ≡ put x []
put_twice_none x = grind (arith, nat_tests)

put_twice : (x : ℕ) (zs : List ℕ) → put x (put x zs) ≡ put x zs
put_twice x [] = put_twice_none x
put_twice x (z ∷ zs) = put_twice_step x z zs (put_twice x zs)

put_again_at : (w y : ℕ) (t : List ℕ) (b : Bool) (c : Bool) → (w == y) ≡ b → (b || c) ≡ true → (c ≡ true → put w t ≡ t) → put w (put y t) ≡ put y t
put_again_at w y t true c e h later =
    ap (λ v. put w (put v t)) (sym (eqb-true w y e)) ∙ put_twice w t ∙ ap (λ v. put v t) (eqb-true w y e)
put_again_at w y t false c e h later = put_comm w y t ∙ ap (put y) (later h)

put_again : (w : ℕ) (ws : List ℕ) → has ws w ≡ true → put w (put_all [] ws) ≡ put_all [] ws
put_again w [] h = cc
put_again w (y ∷ ys) h =
    ap (put w) (put_all_put y [] ys) ∙ put_again_at w y (put_all [] ys) (w == y) (has ys w) refl h (put_again w ys) ∙ sym (put_all_put y [] ys)

length_put_step : (x z : ℕ) (zs : List ℕ) → length (put x zs) ≤ length zs + 1 → length (put x (z ∷ zs)) ≤ length (z ∷ zs) + 1
length_put_step x z zs h = grind (arith, nat_tests)

length_put : (x : ℕ) (zs : List ℕ) → length (put x zs) ≤ length zs + 1
length_put x [] = omega arith
length_put x (z ∷ zs) = length_put_step x z zs (length_put x zs)

count_put_at : (w : ℕ) (s : List ℕ) (n : ℕ) (b : Bool) → (b ≡ true → put w s ≡ s) → length s ≤ n → length (put w s) ≤ n + (if b then 0 else 1)
count_put_at w s n true same le = omega (arith, ap length (same refl))
count_put_at w s n false same le = omega (arith, length_put w s)

count_put : (ws : List ℕ) → length (put_all [] ws) ≤ count_different ws
count_put [] = omega arith
count_put (w ∷ ws) =
    subst (λ zs. length zs ≤ count_different (w ∷ ws)) (sym (put_all_put w [] ws))
    (count_put_at w (put_all [] ws) (count_different ws) (has ws w) (put_again w ws) (count_put ws))

-- Names that are numbered by occurrence

at_most : (a b : ℕ) → nat_lt b a ≡ false → a ≤ b
at_most a b h = grind (arith, nat_tests)

total_at : (b p q e : Bool) (next total : ℕ) → (if b then p else (e && q)) ≡ true → (p ≡ true → next ≤ total) → (q ≡ true → next + 1 ≤ total) → next ≤ total
total_at true p q e next total h hp hq = hp h
total_at false p q true next total h hp hq = omega (arith, hq h)
total_at false p q false next total h hp hq = cc

counts_up_total : (xs : List ℕ) (next total : ℕ) → counts_up next total xs ≡ true → next ≤ total
counts_up_total [] next total h = let same = eqb-true next total h in omega arith
counts_up_total (y ∷ ys) next total h =
    total_at (nat_lt y next) (counts_up next total ys) (counts_up (next + 1) total ys) (y == next) next total h (counts_up_total ys next total)
    (counts_up_total ys (next + 1) total)

below_at : (b a r p q e : Bool) (x y next total : ℕ) → nat_lt y next ≡ b → (x == y) ≡ a → (y == next) ≡ e → (a || r) ≡ true → (if b then p else (e && q)) ≡ true
    → (p ≡ true → next ≤ total) → (q ≡ true → next + 1 ≤ total) → (p ≡ true → r ≡ true → x < total) → (q ≡ true → r ≡ true → x < total) → x < total
below_at true true r p q e x y next total lt is at or h hp hq kp kq =
    let same = eqb-true x y is in
    let less = ltb-true y next lt in
    let most = hp h in
    omega arith
below_at true false r p q e x y next total lt is at or h hp hq kp kq = kp h or
below_at false true r p q true x y next total lt is at or h hp hq kp kq =
    let same = eqb-true x y is in
    let equal = eqb-true y next at in
    let most = hq h in
    omega arith
below_at false false r p q true x y next total lt is at or h hp hq kp kq = kq h or
below_at false a r p q false x y next total lt is at or h hp hq kp kq = cc

-- a number that occurs is below the total
counts_up_below : (xs : List ℕ) (next total x : ℕ) → counts_up next total xs ≡ true → has xs x ≡ true → x < total
counts_up_below [] next total x h in_it = cc
counts_up_below (y ∷ ys) next total x h in_it =
    below_at (nat_lt y next) (x == y) (has ys x) (counts_up next total ys) (counts_up (next + 1) total ys) (y == next) x y next total refl refl refl in_it h
    (counts_up_total ys next total) (counts_up_total ys (next + 1) total) (counts_up_below ys next total x) (counts_up_below ys (next + 1) total x)

-- a category that an element writes alone is among those of the body
has_mention : (body : List Element) (k : ℕ) (d : Element) (c : Category) → k < length body → mentions (get_or body k d) ≡ c ∷ []
    → has (map (λ q. q.name) (flat_map mentions body)) c.name ≡ true
has_mention [] k d c lt is = absurd (omega arith)
has_mention (e ∷ es) zero d c lt is =
    ap (λ ms. has (map (λ q. q.name) (ms ++ flat_map mentions es)) c.name) is
    ∙ or_left (c.name == c.name) (has (map (λ q. q.name) (flat_map mentions es)) c.name) (eqb_refl c.name)
has_mention (e ∷ es) (suc k) d c lt is =
    ap (λ ns. has ns c.name) (map-append (λ (q : Category). q.name) (mentions e) (flat_map mentions es))
    ∙ has_append (map (λ q. q.name) (mentions e)) (map (λ q. q.name) (flat_map mentions es)) c.name
    ∙ or_right (has (map (λ q. q.name) (mentions e)) c.name) (has (map (λ q. q.name) (flat_map mentions es)) c.name) (has_mention es k d c (omega arith) is)

has_rule : (rules : List Rule) (i : ℕ) (rule : Rule) (x : ℕ) → slice_get rules i ≡ Some rule → has (map (λ q. q.name) (rule_mentions rule)) x ≡ true
    → has (flat_map (λ r. map (λ q. q.name) (rule_mentions r)) rules) x ≡ true
has_rule [] i rule x at h = cc
has_rule (r ∷ rs) zero rule x at h =
    let same : r ≡ rule = cc in
    has_append (map (λ q. q.name) (rule_mentions r)) (flat_map (λ q. map (λ c. c.name) (rule_mentions q)) rs) x
    ∙ or_left (has (map (λ q. q.name) (rule_mentions r)) x) (has (flat_map (λ q. map (λ c. c.name) (rule_mentions q)) rs) x)
    (ap (λ q. has (map (λ c. c.name) (rule_mentions q)) x) same ∙ h)
has_rule (r ∷ rs) (suc i) rule x at h =
    has_append (map (λ q. q.name) (rule_mentions r)) (flat_map (λ q. map (λ c. c.name) (rule_mentions q)) rs) x
    ∙ or_right (has (map (λ q. q.name) (rule_mentions r)) x) (has (flat_map (λ q. map (λ c. c.name) (rule_mentions q)) rs) x) (has_rule rs i rule x at h)

-- No fault TooLarge

false_from : (b : Bool) → (IsTrue b → ⊥) → b ≡ false
false_from true h = absurd (h refl)
false_from false h = refl

not_large : (g : GrammarParts) → IsSound g → (n : ℕ) → is_too_large g n ≡ false
not_large g sound n = false_from (is_too_large g n) (sound.faultless (TooLarge n))

not_broad : (g : GrammarParts) → IsSound g → has_broad_category g ≡ false
not_broad g sound =
    let h : is_too_large g 1 ≡ false = not_large g sound 1 in
    (or_parts _ _ (or_parts _ _ h).0).0

features_within : (g : GrammarParts) → IsSound g → (name : ℕ) → has (grammar_names g) name ≡ true → length (features_of g name) ≤ 16
features_within g sound name there =
    let low : name < length g.categories = counts_up_below (grammar_names g) 6 (length g.categories) name sound.numbered.categories there in
    let long : name < length (range_with_len 0 (length g.categories)) = subst (λ n. name < n) (sym (length-range_with_len 0 (length g.categories))) low in
    let one = any_at (λ x. nat_lt 16 (count_different (features_written g x))) (range_with_len 0 (length g.categories)) name 0 (not_broad g sound) long in
    let at : get_or (range_with_len 0 (length g.categories)) name 0 ≡ name = get_or-range_with_len 0 (length g.categories) name 0 low ∙ zero_plus name in
    let few : nat_lt 16 (count_different (features_written g name)) ≡ false = ap (λ x. nat_lt 16 (count_different (features_written g x))) (sym at) ∙ one in
    let most = at_most (count_different (features_written g name)) 16 few in
    let count : length (features_of g name) ≤ count_different (features_written g name) =
    subst (λ fs. length fs ≤ count_different (features_written g name)) (put_all_range (features_written g name)) (count_put (features_written g name)) in
    omega arith
  where
    zero_plus : (n : ℕ) → 0 + n ≡ n
    zero_plus n = omega arith

above_zero : (n : ℕ) → (n == 0) ≡ false → nat_lt 0 n ≡ true
above_zero n h = grind (arith, nat_tests)

-- the rule with a number stands at the place before it
rule_at : (g : GrammarParts) (n : ℕ) (rule : Rule) (b : Bool) → (n == 0) ≡ b → rule_with g n ≡ Some rule
    → ((n == 0) ≡ false) × (slice_get g.rules (n - 1) ≡ Some rule)
rule_at g n rule true zero_is at =
    let none : None ≡ Some rule = sym (ap (λ b. if b then None else slice_get g.rules (n - 1)) zero_is) ∙ at in
    cc
rule_at g n rule false above at =
    (above, sym (ap (λ b. if b then None else slice_get g.rules (n - 1)) above) ∙ at)

rule_small : (g : GrammarParts) → IsSound g → (n : ℕ) (rule : Rule) → (n == 0) ≡ false → slice_get g.rules (n - 1) ≡ Some rule → is_large_rule g rule ≡ false
rule_small g sound n rule above at =
    let here : at_rule (is_large_rule g) g.rules n ≡ false = (or_parts _ _ (or_parts _ _ (not_large g sound n)).0).1 in
    sym (ap (λ o. option_map_or (is_large_rule g) o false) at)
    ∙ sym (ap (λ b. b && option_map_or (is_large_rule g) (slice_get g.rules (n - 1)) false) (above_zero n above)) ∙ here

pattern_room : (body : List Element) (k : ℕ) (d : Element) → k < length body → length (patterns (get_or body k d)) ≤ length (flat_map patterns body)
pattern_room [] k d lt = absurd (omega arith)
pattern_room (e ∷ es) zero d lt = omega (arith, length-append (patterns e) (flat_map patterns es))
pattern_room (e ∷ es) (suc k) d lt =
    let rest = pattern_room es k d (omega arith) in
    omega (arith, length-append (patterns e) (flat_map patterns es))

within_at : (g : GrammarParts) → IsSound g → (n : ℕ) (rule : Rule) → (n == 0) ≡ false → slice_get g.rules (n - 1) ≡ Some rule → (k : ℕ) (d : Element)
    → k < length rule.body → (e : Element) → get_or rule.body k d ≡ e → IsWithin g e
within_at g sound n rule above at k d lt (Forward c) is =
    features_within g sound c.name (has_rule g.rules (n - 1) rule c.name at
    (or_right (c.name == rule.head.name) (has (map (λ q. q.name) (flat_map mentions rule.body)) c.name) (has_mention rule.body k d c lt (ap mentions is))))
within_at g sound n rule above at k d lt (Strong c) is =
    features_within g sound c.name (has_rule g.rules (n - 1) rule c.name at
    (or_right (c.name == rule.head.name) (has (map (λ q. q.name) (flat_map mentions rule.body)) c.name) (has_mention rule.body k d c lt (ap mentions is))))
within_at g sound n rule above at k d lt (Back positive negative) is =
    let few : nat_lt 16 (length (flat_map patterns rule.body)) ≡ false =
    (or_parts _ _ (or_parts _ _ (or_parts _ _ (rule_small g sound n rule above at)).0).0).1 in
    let most = at_most (length (flat_map patterns rule.body)) 16 few in
    let room = pattern_room rule.body k d lt in
    let long : length (patterns (get_or rule.body k d)) ≡ length (positive ++ negative) = ap (λ e. length (patterns e)) is in
    omega (arith, length-append positive negative)
within_at g sound n rule above at k d lt x is = tt

-- the rules of a checked grammar are within the limits
pub IsLimited-from_sound : (g : GrammarParts) → IsSound g → IsLimited g
IsLimited-from_sound g sound n rule at k d lt =
    let found = rule_at g n rule (n == 0) refl at in
    within_at g sound n rule found.0 found.1 k d lt (get_or rule.body k d) refl
