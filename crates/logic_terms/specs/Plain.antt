-- The form that classes have wherever they are reasoned with.
use Rattle.std.specs.Prelude.{Bool, true, ◌&&◌, List}
use Rattle.std.specs.List.{list_all}
use Rattle.logic_terms.specs.Concept.{Concept, Claim, SubClassOf, ClassAssertion}
use Rattle.logic_terms.specs.Complement.{is_normal, is_wide}
use Rattle.logic_terms.specs.Theory.{Theory}

-- whether a class is in negation normal form, and has at least two members in each intersection and union
abbrev pub is_plain : Concept → Bool
is_plain c = is_normal c && is_wide c

abbrev pub is_plain_claim : Claim → Bool
is_plain_claim (SubClassOf c d) = is_plain c && is_plain d
is_plain_claim (ClassAssertion c name) = is_plain c
is_plain_claim _ = true

-- whether each class in axioms is so, and each class in knowledge
abbrev pub are_plain : List Claim → Bool
are_plain claims = list_all is_plain_claim claims

abbrev pub is_plain_theory : Theory → Bool
is_plain_theory k =
    list_all (λ e. is_plain e.1) k.assertions && (list_all (λ e. is_plain e.1) k.unfoldings && list_all is_plain k.general)
