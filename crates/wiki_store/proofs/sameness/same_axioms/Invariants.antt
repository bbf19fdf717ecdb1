use Rattle.std.proofs.Common.{◌≡◌, length}
use Rattle.logic_terms.specs.Shown.{claims_of}
use Rattle.wiki_store.specs.Sameness.{same_claims}
use Rattle.wiki_store.proofs.SameMeanings.{rest_same}
use Rattle.wiki_store.proofs.sameness.same_axioms.Given as goal

-- the lists are as long as each other, and what is left of them decides
abbrev pub invariant-loop-place : goal.invariant-loop-place
invariant-loop-place l = record {
  long : length (claims_of l.axioms) ≡ length (claims_of l.others);
  left_decides : same_claims (claims_of l.axioms) (claims_of l.others) ≡ rest_same (claims_of l.axioms) (claims_of l.others) l.place;
}
