-- Axioms with the denials of several names behind them.
use Rattle.std.proofs.Common.{◌≡◌, ◌≤◌, true, List, [], ◌∷◌, ◌++◌, length, take, sym, ap, ◌∙◌, subst, arith}
use Rattle.std.specs.List.{list_all}
use Rattle.std.proofs.lemmas.List.{length-append, take-append-le, take_all}
use Rattle.wiki_base.specs.declared.numbers.WordId.{WordId}
use Rattle.logic_terms.specs.Concept.{Concept, Claim, ClassAssertion}
use Rattle.logic_terms.specs.Complement.{complement}
use Rattle.logic_terms.specs.Plain.{is_plain, are_plain}
use Rattle.absorb.specs.Mentioned.{names_in, is_among, are_over}
use Rattle.answers.proofs.AskedLemmas.{over_denied, plain_denied}

-- axioms that begin with the given ones and are over the names and plain, as those are
pub record AreDenied (names : List WordId) (claims made : List Claim) : Type 0 where
  pub over : are_over names made ≡ true
  pub plain : are_plain made ≡ true
  pub longer : length claims ≤ length made
  pub first : take (length claims) made ≡ claims

pub denied_none : (names : List WordId) (claims made : List Claim) → made ≡ claims → are_over names claims ≡ true → are_plain claims ≡ true
    → AreDenied names claims made
denied_none names claims made is over plain = record {
  over = subst (λ m. are_over names m ≡ true) (sym is) over;
  plain = subst (λ m. are_plain m ≡ true) (sym is) plain;
  longer = subst (λ m. length claims ≤ length m) (sym is) (omega arith);
  first = subst (λ m. take (length claims) m ≡ claims) (sym is) (take_all (length claims) claims (omega arith));
}

pub denied_more : (names : List WordId) (claims made longer : List Claim) (c d : Concept) (name : WordId) → AreDenied names claims made
    → longer ≡ made ++ ClassAssertion d name ∷ [] → d ≡ complement c → is_among names name ≡ true
    → list_all (is_among names) (names_in c) ≡ true → is_plain c ≡ true → AreDenied names claims longer
denied_more names claims made longer c d name h is complemented among inside plain =
    let same : longer ≡ made ++ ClassAssertion (complement c) name ∷ [] = is ∙ ap (λ e. made ++ ClassAssertion e name ∷ []) complemented in
    let more = length-append made (ClassAssertion (complement c) name ∷ []) in
    let fits = h.longer in
    record {
      over = subst (λ m. are_over names m ≡ true) (sym same) (over_denied names made c name h.over among inside);
      plain = subst (λ m. are_plain m ≡ true) (sym same) (plain_denied made c name h.plain plain);
      longer = subst (λ m. length claims ≤ length m) (sym same)
          (subst (λ n. length claims ≤ n) (sym more) (omega arith));
      first = subst (λ m. take (length claims) m ≡ claims) (sym same)
          (take-append-le (length claims) made (ClassAssertion (complement c) name ∷ []) h.longer ∙ h.first);
    }
