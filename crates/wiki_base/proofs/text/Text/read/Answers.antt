use Rattle.std.proofs.Common.{◌≡◌, ◌≢◌, ◌∙◌, sym, ap, Some, arith, length, List, ℕ, [], rules}
use Rattle.std.specs.Str.{chars}
use Rattle.wiki_base.proofs.TextLemmas.{all-in_place, first-misplaced}
use Rattle.wiki_base.proofs.text.Text.read.Goals as goal

pub returns-in-Some-clause-letter : goal.returns-in-Some-clause-letter
returns-in-Some-clause-letter c = λ place is.
    let same : c.in-Some.place ≡ place = cc in
    first-misplaced (chars c.args.s.now) place (sym c.in-Some.ensures ∙ ap Some same)

not-empty : (bytes : List ℕ) → length bytes ≢ 0 → bytes ≢ []
not-empty bytes long is_nil = long (ap length is_nil)

pub returns-in_ok-from_str-in-None-clause-accepted : goal.returns-in_ok-from_str-in-None-clause-accepted
returns-in_ok-from_str-in-None-clause-accepted c = (
  not-empty _ (λ zero. let long : (length c.args.s.now ≡ 0) → ⊥ = search rules in long zero),
  omega arith,
  all-in_place (chars c.args.s.now) (sym c.in-None.ensures),
)
