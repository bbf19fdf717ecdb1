-- Classes at members, as a loop makes them.
use Rattle.std.proofs.Common.{◌≡◌, ℕ, suc, ◌+◌, ◌-◌, ◌<◌, ◌≤◌, List, [], ◌∷◌, ◌++◌, Option, map, drop, length, get_or, sym, ap, ◌∙◌, append_assoc, arith}
use Rattle.std.specs.List.{filter_map}
use Rattle.std.proofs.lemmas.List.{append-nil}
use Rattle.logic_terms.specs.Concept.{Concept}
use Rattle.ace_to_owl.specs.Parts.{Part, part_at, class_at, intersection}
use Rattle.ace_to_owl.specs.Answers.{listed}
use Rattle.ace_to_owl.proofs.Passed.{drop_read, drop_past, cons_option-listed}

-- what one more part gives joins what those before it gave
pub gift_on : {X Y : Type 0} (shown : X → Y) (f : Y → Option Concept) (xs : List X) (k : ℕ) (x : X) (made more : List Concept) → k < length xs
    → x ≡ get_or xs k x → more ≡ made ++ listed (f (shown x)) → made ++ filter_map f (drop k (map shown xs)) ≡ filter_map f (map shown xs)
    → more ++ filter_map f (drop (k + 1) (map shown xs)) ≡ filter_map f (map shown xs)
gift_on shown f xs k x made more within is now left =
    ap (λ cs. cs ++ filter_map f (drop (k + 1) (map shown xs))) now
    ∙ append_assoc made (listed (f (shown x))) (filter_map f (drop (k + 1) (map shown xs)))
    ∙ ap (λ cs. made ++ cs) (sym (cons_option-listed (f (shown x)) (filter_map f (drop (k + 1) (map shown xs)))))
    ∙ ap (λ ys. made ++ filter_map f ys) (sym (drop_read shown xs k x within is))
    ∙ left

-- all that the parts give
pub gifts_all : {X Y : Type 0} (shown : X → Y) (f : Y → Option Concept) (xs : List X) (k : ℕ) (made : List Concept) → length xs ≤ k
    → made ++ filter_map f (drop k (map shown xs)) ≡ filter_map f (map shown xs) → made ≡ filter_map f (map shown xs)
gifts_all shown f xs k made past left =
    sym (append-nil made) ∙ ap (λ ys. made ++ filter_map f ys) (sym (drop_past shown xs k past)) ∙ left

-- the class at some depth is what its parts give together
pub class_at-depth : (depth : ℕ) (ps : List Part) (above way : List ℕ) (n : ℕ) (cs : List Concept) → 0 < depth → way ≡ above ++ n ∷ []
    → cs ≡ filter_map (part_at (class_at (depth - 1) ps way) way n) ps → intersection cs ≡ class_at depth ps above n
class_at-depth depth ps above way n cs positive on gifts =
    let step : suc (depth - 1) ≡ depth = omega arith in
    ap intersection gifts
    ∙ ap (λ w. intersection (filter_map (part_at (class_at (depth - 1) ps w) w n) ps)) on
    ∙ ap (λ d. class_at d ps above n) step
