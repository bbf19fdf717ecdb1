-- What is put into the front of a buffer, and what is left.
use Rattle.std.proofs.Common.{◌≡◌, ◌∙◌, sym, ap, ℕ, ◌+◌, ◌≤◌, List, ◌++◌, take, drop, length}
use Rattle.std.proofs.lemmas.List.{take_at, drop-drop, take-append-drop, length-take-le}

pub front_given : (sent put rest : List ℕ) (read size : ℕ) → size ≤ length (drop read sent) → put ≡ take size (drop read sent)
    → drop read sent ≡ take size (put ++ rest) ++ drop (read + size) sent
front_given sent put rest read size fits same =
    let whole : length put ≡ size = ap length same ∙ length-take-le size (drop read sent) fits in
    sym (take-append-drop size (drop read sent))
    ∙ ap (λ front. front ++ drop size (drop read sent)) (sym same ∙ sym (take_at put rest size whole))
    ∙ ap (λ left. take size (put ++ rest) ++ left) (drop-drop size read sent)
