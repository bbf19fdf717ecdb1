-- Rolling up: the class of those elements for which a structure is true with the element for its root.
-- In the manner of Horrocks and Tessaris, A Conjunctive Query Language for Description Logic ABoxes, 2000.
use Rattle.std.specs.Prelude.{ℕ, ◌==◌, ◌+◌, ◌++◌, ◌||◌, Bool, false, List, [], ◌∷◌, Option, Some, None, Result, Ok, Err, if◌then◌else◌}
use Rattle.std.specs.List.{list_all}
use Rattle.std.specs.Option.{is_none}
use Rattle.wiki_base.specs.declared.numbers.WordId.{WordId}
use Rattle.logic_terms.specs.declared.structures.Thing.{Thing}
use Rattle.logic_terms.specs.declared.structures.Thing.TheVariants.{Ref, Name}
use Rattle.logic_terms.specs.declared.expressions.Role.{Role}
use Rattle.logic_terms.specs.declared.cause.Cause.{Cause}
use Rattle.logic_terms.specs.declared.cause.Cause.TheVariants.{Shared, Cycle, NoRoot, Equality}
use Rattle.logic_terms.specs.Concept.{Concept, Atomic, UnionOf, HasValue, no_concept, also_concept}
use Rattle.logic_terms.specs.Complement.{complement}
use Rattle.logic_terms.specs.Structure.{Condition, Conditions, Structure, IsA, AreRelated, AreSame, Negation, Implication, Disjunction, no_condition, also_condition, structure}
use Rattle.logic_terms.specs.Free.{is_bound}
use Rattle.ace_to_owl.specs.Outcomes.{next}
use Rattle.ace_to_owl.specs.Terms.{same_thing, is_root, open_terms}
use Rattle.ace_to_owl.specs.Parts.{Part, At, Edge, straight, inverse, class_of_tree}

abbrev pub own_member : List ℕ → Thing → Option ℕ
own_member rs (Ref q) = if is_bound rs q then Some (q + 1) else None
own_member rs (Name name) = None

-- the member that a thing is, if it is the root or one of these referents
abbrev pub member : Option Thing → List ℕ → Thing → Option ℕ
member root rs t = if is_root root t then Some 0 else own_member rs t

-- a referent that is no member
abbrev pub is_foreign : Option Thing → List ℕ → Thing → Bool
is_foreign root rs (Ref q) = is_none (member root rs (Ref q))
is_foreign root rs (Name name) = false

abbrev pub noun_part : Option Thing → List ℕ → WordId → Thing → Result Part Cause
noun_part root rs noun t =
    if is_foreign root rs t then Err Shared
    else elim (member root rs t) [ Some n ↦ Ok (At n (Atomic noun)) | None ↦ Err NoRoot ]

-- a value at a member, where the other thing is another name
abbrev pub value_part : ℕ → Role → Thing → Result Part Cause
value_part n role (Name name) = Ok (At n (HasValue role name))
value_part n role (Ref q) = Err Shared

-- an edge between two members; one alone is a cycle
abbrev pub edge_part : WordId → ℕ → ℕ → Result Part Cause
edge_part word n m = if n == m then Err Cycle else Ok (Edge word n m)

abbrev pub relation_part : Option Thing → List ℕ → WordId → Thing → Thing → Result Part Cause
relation_part root rs word t u =
    if is_foreign root rs t || is_foreign root rs u then Err Shared
    else elim (member root rs t) [
      | Some n ↦ elim (member root rs u) [ Some m ↦ edge_part word n m | None ↦ value_part n (straight word) u ]
      | None ↦ elim (member root rs u) [ Some m ↦ value_part m (inverse word) t | None ↦ Err NoRoot ]
    ]

abbrev pub same_part : Option Thing → List ℕ → Thing → Thing → Result Part Cause
same_part root rs t u = if is_foreign root rs t || is_foreign root rs u then Err Shared else Err Equality

-- a term with the member that it is
abbrev pub held_at : Option Thing → List ℕ → Thing → Result (Option Thing × ℕ) Cause
held_at root rs t = elim (member root rs t) [ Some n ↦ Ok (Some t, n) | None ↦ Err Shared ]

-- the term at which a condition with structures in it gives its class, and the member that it is: its one open term,
-- or the root where it has none
abbrev pub holder : Option Thing → List ℕ → List Thing → Result (Option Thing × ℕ) Cause
holder root rs [] = Ok (root, 0)
holder root rs (t ∷ ts) = if list_all (same_thing t) ts then held_at root rs t else Err Shared

-- the class that is made there with that term as the root
abbrev pub held : Option Thing → List ℕ → Condition → (Option Thing → Result Concept Cause) → Result Part Cause
held root rs c make = next (holder root rs (open_terms root c)) (λ h. next (make h.0) (λ k. Ok (At h.1 k)))

abbrev pub negated_class : Result Concept Cause → Result Concept Cause
negated_class rolled = next rolled (λ c. Ok (complement c))

abbrev pub either_class : Result Concept Cause → Result Concept Cause → Result Concept Cause
either_class left right = next left (λ c. next right (λ d. Ok (UnionOf (also_concept c (also_concept d no_concept)))))

-- what `not K` gives, by what K rolls up to
abbrev pub negation_part : (Option Thing → Result Concept Cause) → Structure → Option Thing → List ℕ → Result Part Cause
negation_part rolled k root rs = held root rs (Negation k) (λ v. negated_class (rolled v))

abbrev mutual
  -- the class of a structure at a root, or the first cause why there is none
  pub roll : Option Thing → Structure → Result Concept Cause
  roll root (structure rs cs) = next (parts root rs cs) (class_of_tree rs)

  -- the same with one more condition at the end
  pub roll_with : Option Thing → Structure → (List ℕ → Result Part Cause) → Result Concept Cause
  roll_with root (structure rs cs) last = next (parts root rs cs) (λ ps. next (last rs) (λ p. class_of_tree rs (ps ++ p ∷ [])))

  -- what the conditions give, from left to right
  pub parts : Option Thing → List ℕ → Conditions → Result (List Part) Cause
  parts root rs no_condition = Ok []
  parts root rs (also_condition c cs) = next (part_of root rs c) (λ p. next (parts root rs cs) (λ ps. Ok (p ∷ ps)))

  pub part_of : Option Thing → List ℕ → Condition → Result Part Cause
  part_of root rs (IsA noun t) = noun_part root rs noun t
  part_of root rs (AreRelated word t u) = relation_part root rs word t u
  part_of root rs (AreSame t u) = same_part root rs t u
  part_of root rs (Negation k) = negation_part (λ v. roll v k) k root rs
  part_of root rs (Disjunction k l) = held root rs (Disjunction k l) (λ v. either_class (roll v k) (roll v l))
  part_of root rs (Implication k l) =
      held root rs (Implication k l) (λ v. negated_class (roll_with v k (negation_part (λ w. roll w l) l v)))
