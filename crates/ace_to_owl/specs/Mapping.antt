-- The axioms of a statement and the class of a question. In the manner of Kaljurand, Attempto Controlled English as a
-- Semantic Web Language, 2007.
use Rattle.std.specs.Prelude.{ℕ, ◌==◌, ◌++◌, map, length, ◌&&◌, ◌||◌, Bool, false, not, List, [], ◌∷◌, Option, Some, None, Result, Ok, Err, if◌then◌else◌}
use Rattle.std.specs.List.{list_any, list_all, filter, cons_option}
use Rattle.std.specs.Option.{option_or}
use Rattle.wiki_base.specs.declared.numbers.WordId.{WordId}
use Rattle.logic_terms.specs.declared.structures.Thing.TheVariants.{Ref, Name}
use Rattle.logic_terms.specs.declared.cause.Cause.{Cause}
use Rattle.logic_terms.specs.declared.cause.Cause.TheVariants.{Shared, NoRoot}
use Rattle.logic_terms.specs.Concept.{Concept, Everything, Atomic, Claim, SubClassOf, SubPropertyOf, ClassAssertion, PropertyAssertion, NegativePropertyAssertion, SameIndividual, DifferentIndividuals, TransitiveProperty}
use Rattle.logic_terms.specs.Free.{is_bound}
use Rattle.logic_terms.specs.Interpretation.{is_word}
use Rattle.logic_terms.specs.Structure.{Condition, Structure, IsA, AreRelated, AreSame, Negation, Implication, no_condition, also_condition, structure, conditions_from, condition_list, referents_in}
use Rattle.ace_to_owl.specs.Outcomes.{next}
use Rattle.ace_to_owl.specs.Terms.{terms_in, terms_in_all, terms_in_condition, first_name, referents_among}
use Rattle.ace_to_owl.specs.Parts.{straight, inverse}
use Rattle.ace_to_owl.specs.Rolling.{roll}

-- a structure without one of its referents
abbrev pub without : ℕ → Structure → Structure
without x (structure rs cs) = structure (filter (λ q. not (q == x)) rs) cs

-- the class of a question that asks for a referent
abbrev pub class_asked : Structure → ℕ → Result Concept Cause
class_asked k x = roll (Some (Ref x)) (without x k)

-- each element for which the left side is true is one for which the right side is
abbrev pub subclass_claim : ℕ → Structure → Structure → Result Claim Cause
subclass_claim x k l = next (roll (Some (Ref x)) (without x k)) (λ c. next (roll (Some (Ref x)) l) (λ d. Ok (SubClassOf c d)))

-- what a condition says of a name's element
abbrev pub member_claim : WordId → Structure → Result Claim Cause
member_claim name k = next (roll (Some (Name name)) k) (λ c. Ok (ClassAssertion c name))

-- the condition of a structure that has just one
abbrev pub only_condition : Structure → Option Condition
only_condition (structure rs no_condition) = None
only_condition (structure rs (also_condition c no_condition)) = Some c
only_condition (structure rs (also_condition c (also_condition d cs))) = None

-- the same, where the structure introduces nothing
abbrev pub only_fact : Structure → Option Condition
only_fact (structure [] cs) = only_condition (structure [] cs)
only_fact (structure (r ∷ rs) cs) = None

-- `not` of one relation or one equation of names
abbrev pub denied_claim : Condition → Option Claim
denied_claim (AreRelated word (Name from) (Name to)) = Some (NegativePropertyAssertion (straight word) from to)
denied_claim (AreSame (Name one) (Name other)) = Some (DifferentIndividuals one other)
denied_claim c = None

-- whether two referents are the only ones of a list
abbrev pub is_pair : List ℕ → ℕ → ℕ → Bool
is_pair [] x y = false
is_pair (p ∷ []) x y = false
is_pair (p ∷ q ∷ []) x y = ((x == p) && (y == q)) || ((x == q) && (y == p))
is_pair (p ∷ q ∷ r ∷ rs) x y = false

-- two referents, one relation of them on the left and one on the right
abbrev pub pair_claim : List ℕ → WordId → ℕ → ℕ → WordId → ℕ → ℕ → Option Claim
pair_claim rs below x y above u v =
    if not (is_pair rs x y) then None
    else if (u == x) && (v == y) then Some (SubPropertyOf (straight below) (straight above))
    else if (u == y) && (v == x) then Some (SubPropertyOf (straight below) (inverse above)) else None

abbrev pub role_claim : List ℕ → Condition → Condition → Option Claim
role_claim rs (AreRelated below (Ref x) (Ref y)) (AreRelated above (Ref u) (Ref v)) = pair_claim rs below x y above u v
role_claim rs c d = None

abbrev pub subrole_claim : Structure → Structure → Option Claim
subrole_claim k l =
    elim (only_condition k) [
      | Some c ↦ elim (only_fact l) [ Some d ↦ role_claim (referents_in k) c d | None ↦ None ]
      | None ↦ None
    ]

-- the two conditions of a structure that has just these
abbrev pub two_conditions : Structure → Option (Condition × Condition)
two_conditions (structure rs no_condition) = None
two_conditions (structure rs (also_condition c no_condition)) = None
two_conditions (structure rs (also_condition c (also_condition d no_condition))) = Some (c, d)
two_conditions (structure rs (also_condition c (also_condition d (also_condition e cs)))) = None

-- the word of a relation between two referents, and these
abbrev pub referents_related : Condition → Option (WordId × ℕ × ℕ)
referents_related (AreRelated word (Ref x) (Ref y)) = Some (word, x, y)
referents_related c = None

-- whether referents are three different ones, and the only ones of a list
abbrev pub is_triple : List ℕ → ℕ → ℕ → ℕ → Bool
is_triple rs x y z =
    is_bound rs x && is_bound rs y && is_bound rs z && list_all (λ q. (x == q) || (y == q) || (z == q)) rs && not (x == y) && not (y == z) && not (x == z)

-- whether relations by one word are R(x, y), R(y, z) and R(x, z) for the three referents of a list
abbrev pub lead_on : List ℕ → WordId × ℕ × ℕ → WordId × ℕ × ℕ → WordId × ℕ × ℕ → Bool
lead_on rs p q r =
    is_word p.0 q.0 && is_word p.0 r.0 && (p.2 == q.1) && (p.1 == r.1) && (q.2 == r.2) && is_triple rs p.1 p.2 q.2

-- two relations on the left, in either order, and one on the right
abbrev pub chain_claim : List ℕ → Option (WordId × ℕ × ℕ) → Option (WordId × ℕ × ℕ) → Option (WordId × ℕ × ℕ) → Option Claim
chain_claim rs (Some p) (Some q) (Some r) = if lead_on rs p q r || lead_on rs q p r then Some (TransitiveProperty p.0) else None
chain_claim rs (Some p) (Some q) None = None
chain_claim rs (Some p) None r = None
chain_claim rs None q r = None

abbrev pub transitive_claim : Structure → Structure → Option Claim
transitive_claim k l =
    elim (two_conditions k) [
      | Some p ↦ elim (only_fact l) [
        | Some e ↦ chain_claim (referents_in k) (referents_related p.0) (referents_related p.1) (referents_related e)
        | None ↦ None
      ]
      | None ↦ None
    ]

abbrev pub denied : Structure → Option Claim
denied k = elim (only_fact k) [ Some c ↦ denied_claim c | None ↦ None ]

-- a condition that is an axiom as it stands
abbrev pub plain_claim : Condition → Option Claim
plain_claim (IsA noun (Name name)) = Some (ClassAssertion (Atomic noun) name)
plain_claim (AreRelated word (Name from) (Name to)) = Some (PropertyAssertion (straight word) from to)
plain_claim (AreSame (Name one) (Name other)) = Some (SameIndividual one other)
plain_claim (Negation k) = denied k
plain_claim (Implication k l) = option_or (subrole_claim k l) (transitive_claim k l)
plain_claim c = None

-- a structure of one condition
abbrev pub alone : Condition → Structure
alone c = structure [] (also_condition c no_condition)

-- a condition that speaks of no name, and of no referent on its left side: it is true of every element or of none
abbrev pub other_claim : Condition → Result Claim Cause
other_claim c = next (roll None (alone c)) (λ d. Ok (SubClassOf Everything d))

abbrev pub leading_claim : Structure → Structure → List ℕ → Result Claim Cause
leading_claim k l [] = other_claim (Implication k l)
leading_claim k l (x ∷ xs) = subclass_claim x k l

abbrev pub nameless_claim : Condition → Result Claim Cause
nameless_claim (Implication k l) = leading_claim k l (referents_in k)
nameless_claim c = other_claim c

abbrev pub named_claim : Condition → Result Claim Cause
named_claim c = elim (first_name (terms_in_condition [] c)) [ Some name ↦ member_claim name (alone c) | None ↦ nameless_claim c ]

-- an implication by those of its left referents that its right side uses
abbrev pub used_claim : Structure → Structure → List ℕ → Result Claim Cause
used_claim k l [] = named_claim (Implication k l)
used_claim k l (x ∷ xs) = if list_all (λ q. q == x) xs then subclass_claim x k l else Err Shared

abbrev pub compound_claim : Condition → Result Claim Cause
compound_claim (Implication k l) = used_claim k l (referents_among (referents_in k) (terms_in [] l))
compound_claim c = named_claim c

-- the axiom of a condition that stands alone: the first case that fits
abbrev pub claim_alone : Condition → Result Claim Cause
claim_alone c = elim (plain_claim c) [ Some claim ↦ Ok claim | None ↦ compound_claim c ]

-- the referents of a structure that are open in a condition
abbrev pub own_terms : List ℕ → Condition → List ℕ
own_terms rs c = referents_among rs (terms_in_condition [] c)

-- whether groups of referents join two referents: without the first group, or by way of it
abbrev pub joined : List (List ℕ) → ℕ → ℕ → Bool
joined [] q p = q == p
joined (g ∷ gs) q p = joined gs q p || (list_any (λ r. joined gs q r) g && list_any (λ r. joined gs r p) g)

-- whether the groups join a referent of one group and one of another
abbrev pub together : List (List ℕ) → List ℕ → List ℕ → Bool
together gs own other = list_any (λ q. list_any (λ p. joined gs q p) other) own

-- those of the referents, and those of the conditions, that belong together with a group
abbrev pub referents_with : List (List ℕ) → List ℕ → List ℕ → List ℕ
referents_with gs own rs = filter (λ q. list_any (λ r. joined gs r q) own) rs

abbrev pub conditions_with : List ℕ → List (List ℕ) → List ℕ → List Condition → List Condition
conditions_with rs gs own cs = filter (λ d. together gs own (own_terms rs d)) cs

-- the axiom of conditions that belong together, at the first name in them
abbrev pub claim_together : List ℕ → List Condition → Result Claim Cause
claim_together rs cs =
    elim (first_name (terms_in_all [] (conditions_from cs))) [
      | Some name ↦ member_claim name (structure rs (conditions_from cs))
      | None ↦ Err NoRoot
    ]

-- the axiom of a condition with this group, where those groups came before: without a group it stands alone, and others
-- go with the first of their component
abbrev pub claim_at : List ℕ → List (List ℕ) → List Condition → List (List ℕ) → List ℕ → Condition → Result (Option Claim) Cause
claim_at rs gs all before own c =
    if length own == 0 then next (claim_alone c) (λ claim. Ok (Some claim))
    else if list_any (together gs own) before then Ok None
    else next (claim_together (referents_with gs own rs) (conditions_with rs gs own all)) (λ claim. Ok (Some claim))

-- the axioms of conditions in order, where those groups came before
abbrev pub claims_after : List ℕ → List (List ℕ) → List Condition → List (List ℕ) → List Condition → Result (List Claim) Cause
claims_after rs gs all before [] = Ok []
claims_after rs gs all before (c ∷ cs) =
    next (claim_at rs gs all before (own_terms rs c) c)
    (λ claim. next (claims_after rs gs all (before ++ own_terms rs c ∷ []) cs) (λ claims. Ok (cons_option claim claims)))

-- the axioms of a statement, or the first cause why there are none
abbrev pub axioms_stated : Structure → Result (List Claim) Cause
axioms_stated (structure rs cs) = claims_after rs (map (own_terms rs) (condition_list cs)) (condition_list cs) [] (condition_list cs)
