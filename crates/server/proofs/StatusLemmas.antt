-- The phrase of a status.
use Rattle.std.proofs.Common.{◌≡◌, ℕ, ◌<◌, ◌≤◌, ◌&&◌, true, List, [], Option, Some, None, refl, sym, ap, ◌∙◌, arith, if◌then◌else◌}
use Rattle.std.specs.Prelude.{nat_le, nat_lt, unwrap_or, option_map}
use Rattle.std.specs.Borrow.{Bor}
use Rattle.std.proofs.lemmas.Bool.Decides.{nat_tests}
use Rattle.http.specs.StatusCode.{IsStatusCode, reason_phrase}
use Rattle.server.specs.Responses.{phrase_of}

three_digits : (status : ℕ) → IsStatusCode status → (nat_le 100 status && nat_lt status 1000) ≡ true
three_digits status is = grind (arith, nat_tests, is.0, is.1)

-- a status has the phrase that its code has
pub phrase_is : (status code : ℕ) (reason : Option (Bor (List ℕ))) → IsStatusCode status × (code ≡ status) → option_map (λ s. s.now) reason ≡ reason_phrase code
    → unwrap_or (option_map (λ s. s.now) reason) [] ≡ phrase_of status
unfolding phrase_of
phrase_is status code reason is found =
    ap (λ o. unwrap_or o []) (found ∙ ap reason_phrase is.1) ∙ sym (ap (λ b. if b then unwrap_or (reason_phrase status) [] else []) (three_digits status is.0))
