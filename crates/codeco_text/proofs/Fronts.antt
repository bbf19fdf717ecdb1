-- Words and their fronts.
use Rattle.std.proofs.Common.{◌≡◌, ℕ, suc, zero, Bool, true, false, nat_eq, eqb, ◌&&◌, List, [], ◌∷◌, length, take, refl, ap, ◌∙◌, arith}
use Rattle.std.proofs.Common.{◌<◌, ◌-◌, not, get_or, ◌||◌}
use Rattle.std.specs.List.{starts_with}
use Rattle.codeco_text.specs.Names.{ends_well}
use Rattle.codeco_text.specs.Notation.{has_front}

pub front_is : (front text : List ℕ) → starts_with nat_eq text front ≡ has_front front text
front_is [] [] = refl
front_is [] (y ∷ ys) = refl
front_is (x ∷ xs) [] = refl
front_is (x ∷ xs) (y ∷ ys) = ap (λ (t : Bool). eqb x y && t) (front_is xs ys)

pub last_well : (bs : List ℕ) → 0 < length bs → ends_well bs ≡ not (eqb (get_or bs (length bs - 1) 0) 46 || eqb (get_or bs (length bs - 1) 0) 63)
last_well [] h = absurd (omega arith)
last_well (b ∷ []) h = refl
last_well (b ∷ c ∷ cs) h =
    let here : length (b ∷ c ∷ cs) - 1 ≡ suc (length cs) = omega arith in
    let next : length (c ∷ cs) - 1 ≡ length cs = omega arith in
    last_well (c ∷ cs) (omega arith) ∙ rw (here, next) refl
