-- What is allowed by both.
use Rattle.std.proofs.Common.{◌≡◌, ℕ, Bool, true, false, eqb, not, ◌&&◌, cond, refl, sym, ap, ◌∙◌}
use Rattle.std.proofs.lemmas.Bool.{eqb-true, eq-eqb, and_parts}
use Rattle.std.proofs.Math.Bool.{and_comm}
use Rattle.codeco_checked.specs.declared.labels.Kind.{Kind}
use Rattle.codeco_checked.specs.declared.labels.Kind.TheVariants.{Text, Sentence, VerbPhrase, NounPhrase, NounBar, Question, Mark}
use Rattle.codeco_checked.specs.declared.labels.Heads.{Heads}
use Rattle.codeco_checked.specs.declared.labels.Heads.TheVariants as heads
use Rattle.codeco_checked.specs.Labels.{kind_number, same_kind, is_mark, head_fits}
use Rattle.codeco_labels.specs.declared.allowed.Allowed.{Allowed}
use Rattle.codeco_labels.specs.declared.allowed.Allowed.TheVariants.{NoMark, Meanings, Clauses, Only, Nothing}
use Rattle.codeco_labels.specs.Kinds.{allows, of_heads, of_mark, is_nothing, keep, meet, pick}

-- Kinds

kind_of : ℕ → Kind
kind_of n = cond (eqb n 0) Text (cond (eqb n 1) Sentence
    (cond (eqb n 2) VerbPhrase (cond (eqb n 3) NounPhrase (cond (eqb n 4) NounBar (cond (eqb n 5) Question Mark)))))

kind_back : (k : Kind) → kind_of (kind_number k) ≡ k
unfolding kind_of
kind_back Text = refl
kind_back k = refl

pub same_kind_is : (k l : Kind) → same_kind k l ≡ true → k ≡ l
same_kind_is k l h = sym (kind_back k) ∙ ap kind_of (eqb-true (kind_number k) (kind_number l) h) ∙ kind_back l

pub same_kind_from : (k l : Kind) → k ≡ l → same_kind k l ≡ true
same_kind_from k l e = eq-eqb (kind_number k) (kind_number l) (ap kind_number e)

abbrev same_Bool : Bool → Bool → Bool
same_Bool true b = b
same_Bool false b = not b

same_Bool_is : (a b : Bool) → same_Bool a b ≡ true → a ≡ b
same_Bool_is true true h = refl
same_Bool_is true false h = sym h
same_Bool_is false true h = h
same_Bool_is false false h = refl

-- two tests give one answer for each kind
abbrev agree : (Kind → Bool) → (Kind → Bool) → Bool
agree f g = same_Bool (f Text) (g Text) && (same_Bool (f Sentence) (g Sentence)
    && (same_Bool (f VerbPhrase) (g VerbPhrase)
    && (same_Bool (f NounPhrase) (g NounPhrase)
    && (same_Bool (f NounBar) (g NounBar) && (same_Bool (f Question) (g Question) && same_Bool (f Mark) (g Mark))))))

agree_at : (f g : Kind → Bool) → agree f g ≡ true → (k : Kind) → f k ≡ g k
agree_at f g h k =
    let a = and_parts (same_Bool (f Text) (g Text)) _ h in
    let b = and_parts (same_Bool (f Sentence) (g Sentence)) _ a.1 in
    let c = and_parts (same_Bool (f VerbPhrase) (g VerbPhrase)) _ b.1 in
    let d = and_parts (same_Bool (f NounPhrase) (g NounPhrase)) _ c.1 in
    let e = and_parts (same_Bool (f NounBar) (g NounBar)) _ d.1 in
    let i = and_parts (same_Bool (f Question) (g Question)) (same_Bool (f Mark) (g Mark)) e.1 in
    elim k as (λ x. f x ≡ g x) [
      | Text ↦ same_Bool_is (f Text) (g Text) a.0
      | Sentence ↦ same_Bool_is (f Sentence) (g Sentence) b.0
      | VerbPhrase ↦ same_Bool_is (f VerbPhrase) (g VerbPhrase) c.0
      | NounPhrase ↦ same_Bool_is (f NounPhrase) (g NounPhrase) d.0
      | NounBar ↦ same_Bool_is (f NounBar) (g NounBar) e.0
      | Question ↦ same_Bool_is (f Question) (g Question) i.0
      | Mark ↦ same_Bool_is (f Mark) (g Mark) i.1
    ]

-- Bools

and_true : (x : Bool) → x ≡ (x && true)
and_true true = refl
and_true false = refl

and_false : (x : Bool) → false ≡ (x && false)
and_false true = refl
and_false false = refl

and_twice : (x : Bool) → x ≡ (x && x)
and_twice true = refl
and_twice false = refl

and_same : (s x y : Bool) → (s ≡ true → x ≡ y) → (s && x) ≡ (s && y)
and_same true x y h = h refl
and_same false x y h = refl

-- What is allowed

kept : (l k : Kind) (b : Bool) → allows (cond b (Only l) Nothing) k ≡ (same_kind k l && b)
kept l k true = and_true (same_kind k l)
kept l k false = and_false (same_kind k l)

pub keep_allows : (a : Allowed) (l k : Kind) → allows (keep a l) k ≡ (same_kind k l && allows a k)
keep_allows a l k = kept l k (allows a l) ∙ and_same (same_kind k l) (allows a l) (allows a k) (λ h. ap (allows a) (sym (same_kind_is k l h)))

pub meet_allows : (a b : Allowed) (k : Kind) → allows (meet a b) k ≡ (allows a k && allows b k)
meet_allows NoMark NoMark k = and_twice (allows NoMark k)
meet_allows NoMark Meanings k = agree_at (allows Meanings) (λ x. allows NoMark x && allows Meanings x) refl k
meet_allows NoMark Clauses k = agree_at (allows Clauses) (λ x. allows NoMark x && allows Clauses x) refl k
meet_allows NoMark (Only l) k = keep_allows NoMark l k ∙ and_comm (same_kind k l) (allows NoMark k)
meet_allows NoMark Nothing k = and_false (allows NoMark k)
meet_allows Meanings NoMark k = agree_at (allows Meanings) (λ x. allows Meanings x && allows NoMark x) refl k
meet_allows Meanings Meanings k = and_twice (allows Meanings k)
meet_allows Meanings Clauses k = agree_at (allows Clauses) (λ x. allows Meanings x && allows Clauses x) refl k
meet_allows Meanings (Only l) k = keep_allows Meanings l k ∙ and_comm (same_kind k l) (allows Meanings k)
meet_allows Meanings Nothing k = and_false (allows Meanings k)
meet_allows Clauses NoMark k = agree_at (allows Clauses) (λ x. allows Clauses x && allows NoMark x) refl k
meet_allows Clauses Meanings k = agree_at (allows Clauses) (λ x. allows Clauses x && allows Meanings x) refl k
meet_allows Clauses Clauses k = and_twice (allows Clauses k)
meet_allows Clauses (Only l) k = keep_allows Clauses l k ∙ and_comm (same_kind k l) (allows Clauses k)
meet_allows Clauses Nothing k = and_false (allows Clauses k)
meet_allows (Only l) b k = keep_allows b l k
meet_allows Nothing b k = refl

pub of_heads_allows : (h : Heads) (k : Kind) → allows (of_heads h) k ≡ head_fits h k
of_heads_allows (heads.Only l) k = refl
of_heads_allows heads.Clauses k = refl
of_heads_allows heads.Meanings k = refl

pub pick_allowed : (a : Allowed) → is_nothing a ≡ false → allows a (pick a) ≡ true
pick_allowed NoMark h = refl
pick_allowed Meanings h = refl
pick_allowed Clauses h = refl
pick_allowed (Only k) h = same_kind_from k k refl
pick_allowed Nothing h = sym h

pub something_allowed : (a : Allowed) (k : Kind) → allows a k ≡ true → is_nothing a ≡ false
something_allowed Nothing k h = sym h
something_allowed a k h = refl

pub of_mark_allows : (mark : Bool) (k : Kind) → allows (of_mark mark) k ≡ true → is_mark k ≡ mark
of_mark_allows true k h = h
of_mark_allows false k h = not_is (is_mark k) h
  where
    not_is : (b : Bool) → not b ≡ true → b ≡ false
    not_is true e = sym e
    not_is false e = refl

pub of_mark_from : (mark : Bool) (k : Kind) → is_mark k ≡ mark → allows (of_mark mark) k ≡ true
of_mark_from true k h = h
of_mark_from false k h = ap not h

pub of_mark_something : (mark : Bool) → is_nothing (of_mark mark) ≡ false
of_mark_something true = refl
of_mark_something false = refl
