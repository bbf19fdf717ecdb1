-- A test that each sorted piece passes is one that each piece passes.
use Rattle.std.proofs.Common.{◌≡◌, ◌&&◌, Bool, true, false, List, [], ◌∷◌, ◌++◌, refl, sym, ap, ◌∙◌}
use Rattle.std.specs.List.{list_all}
use Rattle.std.proofs.lemmas.List.Folds.{list_all-append}
use Rattle.std.proofs.Math.Bool.{and-true}
use Rattle.logic_terms.specs.Concept.{Claim}
use Rattle.absorb.specs.Pieces.{Piece, Equality, RoleInclusion, Assertion, Related, Difference, Transitivity, Unfolding, General, all_pieces}
use Rattle.absorb.specs.Sorted.{Sorted, no_pieces, with_piece, with_pieces, sorted}

-- whether each sorted piece passes a test
abbrev pub all_sorted : (Piece → Bool) → Sorted → Bool
all_sorted test s =
    list_all (λ e. test (Equality e.0 e.1)) s.equalities
    && (list_all (λ e. test (RoleInclusion e.0 e.1)) s.role_inclusions
    && (list_all (λ e. test (Assertion e.0 e.1)) s.assertions
    && (list_all (λ e. test (Related e.0 e.1 e.2)) s.edges
    && (list_all (λ e. test (Difference e.0 e.1)) s.differences
    && (list_all (λ w. test (Transitivity w)) s.transitive
    && (list_all (λ e. test (Unfolding e.0 e.1)) s.unfoldings
    && list_all (λ c. test (General c)) s.general))))))

list_all-push : {X : Type 0} (test : X → Bool) (xs : List X) (x : X) → list_all test (xs ++ x ∷ []) ≡ (list_all test xs && test x)
list_all-push test xs x = list_all-append test xs (x ∷ []) ∙ ap (λ b. list_all test xs && b) (and-true (test x))

-- one more at its place, or at the end
first : (a b c : Bool) → ((a && b) && c) ≡ ((a && c) && b)
first true true c = sym (and-true c)
first true false true = refl
first true false false = refl
first false b c = refl

inside : (a b c : Bool) → (a && (b && c)) ≡ ((a && b) && c)
inside true b c = refl
inside false b c = refl

with_piece-all : (test : Piece → Bool) (s : Sorted) (p : Piece) → all_sorted test (with_piece s p) ≡ (all_sorted test s && test p)
with_piece-all test s (Equality one other) =
    ap (λ b. b && rest) (list_all-push (λ e. test (Equality e.0 e.1)) s.equalities (one, other))
    ∙ first (list_all (λ e. test (Equality e.0 e.1)) s.equalities) (test (Equality one other)) rest
  where
    rest : Bool
    rest = list_all (λ e. test (RoleInclusion e.0 e.1)) s.role_inclusions
        && (list_all (λ e. test (Assertion e.0 e.1)) s.assertions
        && (list_all (λ e. test (Related e.0 e.1 e.2)) s.edges
        && (list_all (λ e. test (Difference e.0 e.1)) s.differences
        && (list_all (λ w. test (Transitivity w)) s.transitive
        && (list_all (λ e. test (Unfolding e.0 e.1)) s.unfoldings && list_all (λ c. test (General c)) s.general)))))
with_piece-all test s (RoleInclusion one other) =
    let e = list_all (λ e. test (Equality e.0 e.1)) s.equalities in
    let r = list_all (λ e. test (RoleInclusion e.0 e.1)) s.role_inclusions in
    let rest = list_all (λ e. test (Assertion e.0 e.1)) s.assertions
    && (list_all (λ e. test (Related e.0 e.1 e.2)) s.edges
    && (list_all (λ e. test (Difference e.0 e.1)) s.differences
    && (list_all (λ w. test (Transitivity w)) s.transitive
    && (list_all (λ e. test (Unfolding e.0 e.1)) s.unfoldings && list_all (λ c. test (General c)) s.general)))) in
    ap (λ b. e && (b && rest)) (list_all-push (λ e. test (RoleInclusion e.0 e.1)) s.role_inclusions (one, other))
    ∙ ap (λ b. e && b) (first r (test (RoleInclusion one other)) rest) ∙ inside e (r && rest) (test (RoleInclusion one other))
with_piece-all test s (Assertion name c) =
    let t = test (Assertion name c) in
    let e = list_all (λ e. test (Equality e.0 e.1)) s.equalities in
    let r = list_all (λ e. test (RoleInclusion e.0 e.1)) s.role_inclusions in
    let a = list_all (λ e. test (Assertion e.0 e.1)) s.assertions in
    let rest = list_all (λ e. test (Related e.0 e.1 e.2)) s.edges
    && (list_all (λ e. test (Difference e.0 e.1)) s.differences
    && (list_all (λ w. test (Transitivity w)) s.transitive
    && (list_all (λ e. test (Unfolding e.0 e.1)) s.unfoldings && list_all (λ c. test (General c)) s.general))) in
    ap (λ b. e && (r && (b && rest))) (list_all-push (λ e. test (Assertion e.0 e.1)) s.assertions (name, c))
    ∙ ap (λ b. e && (r && b)) (first a t rest) ∙ ap (λ b. e && b) (inside r (a && rest) t) ∙ inside e (r && (a && rest)) t
with_piece-all test s (Related role from to) =
    let t = test (Related role from to) in
    let e = list_all (λ e. test (Equality e.0 e.1)) s.equalities in
    let r = list_all (λ e. test (RoleInclusion e.0 e.1)) s.role_inclusions in
    let a = list_all (λ e. test (Assertion e.0 e.1)) s.assertions in
    let g = list_all (λ e. test (Related e.0 e.1 e.2)) s.edges in
    let rest = list_all (λ e. test (Difference e.0 e.1)) s.differences
    && (list_all (λ w. test (Transitivity w)) s.transitive
    && (list_all (λ e. test (Unfolding e.0 e.1)) s.unfoldings && list_all (λ c. test (General c)) s.general)) in
    ap (λ b. e && (r && (a && (b && rest)))) (list_all-push (λ e. test (Related e.0 e.1 e.2)) s.edges (role, from, to))
    ∙ ap (λ b. e && (r && (a && b))) (first g t rest) ∙ ap (λ b. e && (r && b)) (inside a (g && rest) t) ∙ ap (λ b. e && b) (inside r (a && (g && rest)) t)
    ∙ inside e (r && (a && (g && rest))) t
with_piece-all test s (Difference one other) =
    let t = test (Difference one other) in
    let e = list_all (λ e. test (Equality e.0 e.1)) s.equalities in
    let r = list_all (λ e. test (RoleInclusion e.0 e.1)) s.role_inclusions in
    let a = list_all (λ e. test (Assertion e.0 e.1)) s.assertions in
    let g = list_all (λ e. test (Related e.0 e.1 e.2)) s.edges in
    let d = list_all (λ e. test (Difference e.0 e.1)) s.differences in
    let rest = list_all (λ w. test (Transitivity w)) s.transitive
    && (list_all (λ e. test (Unfolding e.0 e.1)) s.unfoldings && list_all (λ c. test (General c)) s.general) in
    ap (λ b. e && (r && (a && (g && (b && rest))))) (list_all-push (λ e. test (Difference e.0 e.1)) s.differences (one, other))
    ∙ ap (λ b. e && (r && (a && (g && b)))) (first d t rest) ∙ ap (λ b. e && (r && (a && b))) (inside g (d && rest) t)
    ∙ ap (λ b. e && (r && b)) (inside a (g && (d && rest)) t)
    ∙ ap (λ b. e && b) (inside r (a && (g && (d && rest))) t) ∙ inside e (r && (a && (g && (d && rest)))) t
with_piece-all test s (Transitivity word) =
    let t = test (Transitivity word) in
    let e = list_all (λ e. test (Equality e.0 e.1)) s.equalities in
    let r = list_all (λ e. test (RoleInclusion e.0 e.1)) s.role_inclusions in
    let a = list_all (λ e. test (Assertion e.0 e.1)) s.assertions in
    let g = list_all (λ e. test (Related e.0 e.1 e.2)) s.edges in
    let d = list_all (λ e. test (Difference e.0 e.1)) s.differences in
    let w = list_all (λ w. test (Transitivity w)) s.transitive in
    let rest = list_all (λ e. test (Unfolding e.0 e.1)) s.unfoldings && list_all (λ c. test (General c)) s.general in
    ap (λ b. e && (r && (a && (g && (d && (b && rest)))))) (list_all-push (λ w. test (Transitivity w)) s.transitive word)
    ∙ ap (λ b. e && (r && (a && (g && (d && b))))) (first w t rest) ∙ ap (λ b. e && (r && (a && (g && b)))) (inside d (w && rest) t)
    ∙ ap (λ b. e && (r && (a && b))) (inside g (d && (w && rest)) t)
    ∙ ap (λ b. e && (r && b)) (inside a (g && (d && (w && rest))) t) ∙ ap (λ b. e && b) (inside r (a && (g && (d && (w && rest)))) t)
    ∙ inside e (r && (a && (g && (d && (w && rest))))) t
with_piece-all test s (Unfolding word c) =
    let t = test (Unfolding word c) in
    let e = list_all (λ e. test (Equality e.0 e.1)) s.equalities in
    let r = list_all (λ e. test (RoleInclusion e.0 e.1)) s.role_inclusions in
    let a = list_all (λ e. test (Assertion e.0 e.1)) s.assertions in
    let g = list_all (λ e. test (Related e.0 e.1 e.2)) s.edges in
    let d = list_all (λ e. test (Difference e.0 e.1)) s.differences in
    let w = list_all (λ w. test (Transitivity w)) s.transitive in
    let u = list_all (λ e. test (Unfolding e.0 e.1)) s.unfoldings in
    let rest = list_all (λ c. test (General c)) s.general in
    ap (λ b. e && (r && (a && (g && (d && (w && (b && rest))))))) (list_all-push (λ e. test (Unfolding e.0 e.1)) s.unfoldings (word, c))
    ∙ ap (λ b. e && (r && (a && (g && (d && (w && b)))))) (first u t rest) ∙ ap (λ b. e && (r && (a && (g && (d && b))))) (inside w (u && rest) t)
    ∙ ap (λ b. e && (r && (a && (g && b)))) (inside d (w && (u && rest)) t)
    ∙ ap (λ b. e && (r && (a && b))) (inside g (d && (w && (u && rest))) t)
    ∙ ap (λ b. e && (r && b)) (inside a (g && (d && (w && (u && rest)))) t) ∙ ap (λ b. e && b) (inside r (a && (g && (d && (w && (u && rest))))) t)
    ∙ inside e (r && (a && (g && (d && (w && (u && rest)))))) t
with_piece-all test s (General c) =
    let t = test (General c) in
    let e = list_all (λ e. test (Equality e.0 e.1)) s.equalities in
    let r = list_all (λ e. test (RoleInclusion e.0 e.1)) s.role_inclusions in
    let a = list_all (λ e. test (Assertion e.0 e.1)) s.assertions in
    let g = list_all (λ e. test (Related e.0 e.1 e.2)) s.edges in
    let d = list_all (λ e. test (Difference e.0 e.1)) s.differences in
    let w = list_all (λ w. test (Transitivity w)) s.transitive in
    let u = list_all (λ e. test (Unfolding e.0 e.1)) s.unfoldings in
    let n = list_all (λ c. test (General c)) s.general in
    ap (λ b. e && (r && (a && (g && (d && (w && (u && b))))))) (list_all-push (λ c. test (General c)) s.general c)
    ∙ ap (λ b. e && (r && (a && (g && (d && (w && b)))))) (inside u n t) ∙ ap (λ b. e && (r && (a && (g && (d && b))))) (inside w (u && n) t)
    ∙ ap (λ b. e && (r && (a && (g && b)))) (inside d (w && (u && n)) t)
    ∙ ap (λ b. e && (r && (a && b))) (inside g (d && (w && (u && n))) t)
    ∙ ap (λ b. e && (r && b)) (inside a (g && (d && (w && (u && n)))) t) ∙ ap (λ b. e && b) (inside r (a && (g && (d && (w && (u && n))))) t)
    ∙ inside e (r && (a && (g && (d && (w && (u && n)))))) t

with_pieces-all : (test : Piece → Bool) (s : Sorted) (ps : List Piece) → all_sorted test (with_pieces s ps) ≡ (all_sorted test s && list_all test ps)
with_pieces-all test s [] = sym (and-true (all_sorted test s))
with_pieces-all test s (p ∷ ps) =
    with_pieces-all test (with_piece s p) ps
    ∙ ap (λ b. b && list_all test ps) (with_piece-all test s p)
    ∙ sym (inside (all_sorted test s) (test p) (list_all test ps))

pub all_sorted-sorted : (test : Piece → Bool) (claims : List Claim) → all_sorted test (sorted claims) ≡ list_all test (all_pieces claims)
all_sorted-sorted test claims = with_pieces-all test no_pieces (all_pieces claims)
