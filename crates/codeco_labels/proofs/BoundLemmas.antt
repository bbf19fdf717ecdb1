-- Numbers above all names.
use Rattle.std.proofs.Common.{◌≡◌, ℕ, ◌+◌, ◌<◌, ◌≤◌, Bool, true, ltb, ◌&&◌, List, [], ◌∷◌, length, take, get_or, refl, sym, ap, ◌∙◌, arith, Option, Some, None}
use Rattle.std.specs.List.{list_all}
use Rattle.std.specs.Option.{option_map_or}
use Rattle.std.proofs.lemmas.Bool.{and_parts, and_from, ltb-true, lt-ltb}
use Rattle.std.proofs.lemmas.List.Folds.{list_all_more}
use Rattle.wiki_base.proofs.ListLaws.{all_weaken}
use Rattle.codeco_terms.specs.declared.elements.Element.{Element}
use Rattle.codeco_terms.specs.declared.rules.Rule.{Rule}
use Rattle.codeco_checked.specs.Faults.{sub_name}
use Rattle.codeco_labels.specs.Shapes.{element_below, names_below}

below_up : (n m : ℕ) → n ≤ m → (o : Option ℕ) → option_map_or (λ c. ltb c n) o true ≡ true → option_map_or (λ c. ltb c m) o true ≡ true
below_up n m le None h = refl
below_up n m le (Some c) h = let lt = ltb-true c n h in lt-ltb c m (omega arith)

element_up : (n m : ℕ) → n ≤ m → (e : Element) → element_below n e ≡ true → element_below m e ≡ true
element_up n m le e h = below_up n m le (sub_name e) h

names_up : (n m : ℕ) → n ≤ m → (r : Rule) → names_below n r ≡ true → names_below m r ≡ true
names_up n m le r h =
    let parts = and_parts (ltb r.head.name n) (list_all (element_below n) r.body) h in
    let lt = ltb-true r.head.name n parts.0 in
    and_from (ltb r.head.name m) (list_all (element_below m) r.body) (lt-ltb r.head.name m (omega arith))
    (all_weaken (element_below n) (element_below m) (element_up n m le) r.body parts.1)

one_more : {X : Type 0} (p : ℕ → X → Bool) → ((n m : ℕ) → n ≤ m → (x : X) → p n x ≡ true → p m x ≡ true) → (n m : ℕ) (xs : List X) (i : ℕ) (x : X) → n ≤ m
    → i < length xs → x ≡ get_or xs i x → list_all (p n) (take i xs) ≡ true → p m x ≡ true → list_all (p m) (take (i + 1) xs) ≡ true
one_more p up n m xs i x le lt is all here =
    list_all_more (p m) xs i x lt ∙ and_from (list_all (p m) (take i xs)) (p m (get_or xs i x)) (all_weaken (p n) (p m) (up n m le) (take i xs) all)
    (ap (p m) (sym is) ∙ here)

pub element_more : (n m : ℕ) (es : List Element) (i : ℕ) (e : Element) → n ≤ m → i < length es → e ≡ get_or es i e
    → list_all (element_below n) (take i es) ≡ true → element_below m e ≡ true → list_all (element_below m) (take (i + 1) es) ≡ true
element_more n m es i e le lt is all here = one_more element_below element_up n m es i e le lt is all here

pub rule_more : (n m : ℕ) (rs : List Rule) (i : ℕ) (r : Rule) → n ≤ m → i < length rs → r ≡ get_or rs i r → list_all (names_below n) (take i rs) ≡ true
    → names_below m r ≡ true → list_all (names_below m) (take (i + 1) rs) ≡ true
rule_more n m rs i r le lt is all here = one_more names_below names_up n m rs i r le lt is all here
