-- What is written stands in order.
use Rattle.std.proofs.Common.{◌≡◌, ℕ, ◌<◌, ◌≤◌, Bool, true, false, not, ◌&&◌, eqb, leb, List, [], ◌∷◌, length, map, drop, get_or, refl, sym, ap, ◌∙◌, arith, zero, suc, Option, Some, None, add-one, drop-cons, ◌+◌}
use Rattle.std.specs.List.{list_all}
use Rattle.std.specs.Option.{option_map_or}
use Rattle.std.proofs.lemmas.Bool.{and_parts, and_from, or_left}
use Rattle.wiki_base.proofs.ListLaws.{drop_past, all_weaken}
use Rattle.codeco_terms.specs.declared.categories.Category.{Category}
use Rattle.codeco_terms.specs.declared.categories.Pattern.{Pattern}
use Rattle.codeco_terms.specs.declared.elements.Element.{Element}
use Rattle.codeco_terms.specs.declared.elements.Element.TheVariants.{Back, NoBack}
use Rattle.codeco_checked.specs.Faults.{is_double}
use Rattle.codeco_checked.specs.Sound.{ascends, is_written, is_written_name, is_written_pattern, is_plain_pattern, is_written_element, is_empty, is_written_term}
use Rattle.codeco_late_faults.specs.Order.{numbers, is_ordered}
use Rattle.codeco_late_faults.proofs.DoubleLemmas.{repeats_after, repeats_is}

pub repeats_stop : {X : Type 0} (last : Option ℕ) (xs : List (ℕ × X)) (i : ℕ) (d : ℕ × X) → ascends (numbers xs) ≡ true → i < length xs
    → repeats_after last (numbers (drop i xs)) ≡ repeats_after None (numbers xs) → option_map_or (λ y. eqb y (get_or xs i d).0) last false ≡ true
    → true ≡ is_double (numbers xs)
repeats_stop last xs i d up lt h here =
    let at : numbers (drop i xs) ≡ (get_or xs i d).0 ∷ numbers (drop (i + 1) xs) = rw (add-one, drop-cons xs i d) refl in
    sym (ap (repeats_after last) at ∙ or_left (option_map_or (λ y. eqb y (get_or xs i d).0) last false)
    (repeats_after (Some (get_or xs i d).0) (numbers (drop (i + 1) xs))) here) ∙ h ∙ repeats_is (numbers xs) up

pub repeats_done : {X : Type 0} (last : Option ℕ) (xs : List (ℕ × X)) (i : ℕ) → ascends (numbers xs) ≡ true → length xs ≤ i
    → repeats_after last (numbers (drop i xs)) ≡ repeats_after None (numbers xs) → false ≡ is_double (numbers xs)
repeats_done last xs i up le h = ap (λ zs. repeats_after last (numbers zs)) (sym (drop_past xs i le)) ∙ h ∙ repeats_is (numbers xs) up

written_ascends : (c : Category) → is_written_name c ≡ true → ascends (numbers c.feats) ≡ true
written_ascends c h = (and_parts (ascends (map (λ f. f.0) c.feats)) (list_all (λ f. is_written_term f.1) c.feats)
    (and_parts (leb 5 c.name) (is_written c) h).1).0

written_ordered : (p : Pattern) → is_written_pattern p ≡ true → is_ordered p ≡ true
written_ordered p h =
    let parts = and_parts (is_written_name p.cat) (ascends (map (λ t. t.0) p.taken)) h in
    and_from (ascends (numbers p.cat.feats)) (ascends (numbers p.taken)) (written_ascends p.cat parts.0) parts.1

plain_ordered : (p : Pattern) → is_plain_pattern p ≡ true → is_ordered p ≡ true
plain_ordered p h =
    let parts = and_parts (is_written_name p.cat) (is_empty p.taken) h in
    and_from (ascends (numbers p.cat.feats)) (ascends (numbers p.taken)) (written_ascends p.cat parts.0) (none p.taken parts.1)
  where
    none : (ts : List (ℕ × ℕ)) → is_empty ts ≡ true → ascends (numbers ts) ≡ true
    none [] e = refl
    none (t ∷ ts) e = absurd cc

back_parts : (ps ns : List Pattern) → is_written_element (Back ps ns) ≡ true → (list_all is_ordered ps ≡ true) × (list_all is_ordered ns ≡ true)
back_parts ps ns h =
    let parts = and_parts (not (is_empty ps) && list_all is_written_pattern ps) (list_all is_plain_pattern ns) h in
    let front = and_parts (not (is_empty ps)) (list_all is_written_pattern ps) parts.0 in
    (all_weaken is_written_pattern is_ordered written_ordered ps front.1, all_weaken is_plain_pattern is_ordered plain_ordered ns parts.1)

pub back_first : (e : Element) (ps ns xs : List Pattern) → e ≡ Back ps ns → is_written_element e ≡ true → xs ≡ ps → list_all is_ordered xs ≡ true
back_first e ps ns xs is h same = ap (list_all is_ordered) same ∙ (back_parts ps ns (ap is_written_element (sym is) ∙ h)).0

pub back_second : (e : Element) (ps ns xs : List Pattern) → e ≡ Back ps ns → is_written_element e ≡ true → xs ≡ ns → list_all is_ordered xs ≡ true
back_second e ps ns xs is h same = ap (list_all is_ordered) same ∙ (back_parts ps ns (ap is_written_element (sym is) ∙ h)).1

pub noback_all : (e : Element) (ps xs : List Pattern) → e ≡ NoBack ps → is_written_element e ≡ true → xs ≡ ps → list_all is_ordered xs ≡ true
noback_all e ps xs is h same =
    ap (list_all is_ordered) same ∙ all_weaken is_plain_pattern is_ordered plain_ordered ps
    (and_parts (not (is_empty ps)) (list_all is_plain_pattern ps) (ap is_written_element (sym is) ∙ h)).1

pub all_item : {X : Type 0} (p : X → Bool) (xs : List X) (i : ℕ) (x : X) → list_all p xs ≡ true → i < length xs → x ≡ get_or xs i x → p x ≡ true
all_item p [] i x h lt is = absurd (omega arith)
all_item p (y ∷ ys) zero x h lt is = ap p is ∙ (and_parts (p y) (list_all p ys) h).0
all_item p (y ∷ ys) (suc i) x h lt is = all_item p ys i x (and_parts (p y) (list_all p ys) h).1 (omega arith) is
