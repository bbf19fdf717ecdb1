-- What a body has, by its elements at once.
use Rattle.std.proofs.Common.{◌≡◌, ℕ, ◌+◌, ◌<◌, Bool, true, false, eqb, ltb, not, ◌&&◌, ◌||◌, cond, List, [], ◌∷◌, refl, sym, ap, ◌∙◌, arith, inl, inr, fold}
use Rattle.std.specs.Prelude.{slice_index_or, filter, count_by}
use Rattle.std.specs.List.{list_all}
use Rattle.std.proofs.lemmas.List.Recursion.{is_count_by}
use Rattle.std.proofs.lemmas.Bool.{cases_eq, ne_eqb, cond-false, and_parts, and_from}
use Rattle.codeco_terms.specs.declared.elements.Element.{Element}
use Rattle.codeco_terms.specs.declared.elements.Element.TheVariants.{Terminal, Preterminal, Sub, Position, Opener, Forward, Strong, Back, NoBack}
use Rattle.codeco_checked.specs.Labels.{subs, word_names, behind_word, is_introduction, is_reference, introduces_behind_tokens, one_if}
use Rattle.codeco_labels.specs.declared.found.Found.{Found}
use Rattle.codeco_labels.specs.declared.found.Found.TheVariants.{No, One, Two, More}
use Rattle.codeco_labels.specs.declared.found.Times.{Times}
use Rattle.codeco_labels.specs.declared.found.Times.TheVariants.{Never, Once, Often}
use Rattle.codeco_labels.specs.declared.shapes.Shape.{Shape}
use Rattle.codeco_labels.specs.Shapes.{and_one, once_more, is_no, is_times, with_child, with_element, element_below}

-- a category that is no mark
abbrev pub has_meaning : List Bool → ℕ → Bool
has_meaning marks c = not (slice_index_or marks c false)

-- the children with a meaning
abbrev pub meant : List Bool → List Element → List ℕ
meant marks body = filter (has_meaning marks) (subs body)

-- a body behind what was seen
abbrev pub run : List Bool → Shape → List Element → Shape
run marks s body = fold (with_element marks) s body

-- what was found, and then these
abbrev pub and_all : Found → List ℕ → Found
and_all found [] = found
and_all found (x ∷ xs) = and_all (and_one found x) xs

-- Words and children

pub words_run : (marks : List Bool) (s : Shape) (body : List Element) → (run marks s body).words ≡ and_all s.words (word_names body)
words_run marks s [] = refl
words_run marks s (Terminal t ∷ es) = words_run marks (with_element marks s (Terminal t)) es
words_run marks s (Preterminal c ∷ es) = words_run marks (with_element marks s (Preterminal c)) es
words_run marks s (Sub c ∷ es) = words_run marks (with_element marks s (Sub c)) es
    ∙ ap (λ w. and_all w (word_names es)) (same (slice_index_or marks c.name false))
  where
    same : (mark : Bool) → (with_child mark s c.name).words ≡ s.words
    same true = refl
    same false = refl
words_run marks s (Position x ∷ es) = words_run marks s es
words_run marks s (Opener ∷ es) = words_run marks s es
words_run marks s (Forward c ∷ es) = words_run marks (with_element marks s (Forward c)) es
words_run marks s (Strong c ∷ es) = words_run marks (with_element marks s (Strong c)) es
words_run marks s (Back ps ns ∷ es) = words_run marks (with_element marks s (Back ps ns)) es
words_run marks s (NoBack ps ∷ es) = words_run marks (with_element marks s (NoBack ps)) es

pub children_run : (marks : List Bool) (s : Shape) (body : List Element) → (run marks s body).children ≡ and_all s.children (meant marks body)
children_run marks s [] = refl
children_run marks s (Terminal t ∷ es) = children_run marks (with_element marks s (Terminal t)) es
children_run marks s (Preterminal c ∷ es) = children_run marks (with_element marks s (Preterminal c)) es
children_run marks s (Sub c ∷ es) = children_run marks (with_element marks s (Sub c)) es ∙ one (slice_index_or marks c.name false)
  where
    one : (mark : Bool) → and_all (with_child mark s c.name).children (meant marks es)
        ≡ and_all s.children (cond (not mark) (c.name ∷ meant marks es) (meant marks es))
    one true = refl
    one false = refl
children_run marks s (Position x ∷ es) = children_run marks s es
children_run marks s (Opener ∷ es) = children_run marks s es
children_run marks s (Forward c ∷ es) = children_run marks (with_element marks s (Forward c)) es
children_run marks s (Strong c ∷ es) = children_run marks (with_element marks s (Strong c)) es
children_run marks s (Back ps ns ∷ es) = children_run marks (with_element marks s (Back ps ns)) es
children_run marks s (NoBack ps ∷ es) = children_run marks (with_element marks s (NoBack ps)) es

-- Referents

and_joined : (x y z : Bool) → ((x && y) && z) ≡ (x && (y && z))
and_joined true y z = refl
and_joined false y z = refl

pub behind_run : (marks : List Bool) (s : Shape) (body : List Element)
    → (run marks s body).behind_tokens ≡ (s.behind_tokens && introduces_behind_tokens s.after_token body)
behind_run marks s [] = all s.behind_tokens
  where
    all : (x : Bool) → x ≡ (x && true)
    all true = refl
    all false = refl
behind_run marks s (Terminal t ∷ es) = behind_run marks (with_element marks s (Terminal t)) es
behind_run marks s (Preterminal c ∷ es) = behind_run marks (with_element marks s (Preterminal c)) es
behind_run marks s (Sub c ∷ es) = behind_run marks (with_element marks s (Sub c)) es ∙ one (slice_index_or marks c.name false)
  where
    one : (mark : Bool) → ((with_child mark s c.name).behind_tokens && introduces_behind_tokens (with_child mark s c.name).after_token es)
        ≡ (s.behind_tokens && introduces_behind_tokens false es)
    one true = refl
    one false = refl
behind_run marks s (Position x ∷ es) = behind_run marks s es
behind_run marks s (Opener ∷ es) = behind_run marks s es
behind_run marks s (Forward c ∷ es) = behind_run marks (with_element marks s (Forward c)) es
    ∙ and_joined s.behind_tokens s.after_token (introduces_behind_tokens false es)
behind_run marks s (Strong c ∷ es) = behind_run marks (with_element marks s (Strong c)) es
    ∙ and_joined s.behind_tokens s.after_token (introduces_behind_tokens false es)
behind_run marks s (Back ps ns ∷ es) = behind_run marks (with_element marks s (Back ps ns)) es
behind_run marks s (NoBack ps ∷ es) = behind_run marks (with_element marks s (NoBack ps)) es

-- how often, by the number
abbrev pub times_of : ℕ → Times
times_of n = cond (eqb n 0) Never (cond (eqb n 1) Once Often)

times_often : (n : ℕ) → (n ≡ 0 → ⊥) → (n ≡ 1 → ⊥) → times_of n ≡ Often
times_often n a b = cond-false (eqb n 0) Never (cond (eqb n 1) Once Often) (ne_eqb n 0 a) ∙ cond-false (eqb n 1) Once Often (ne_eqb n 1 b)

times_more : (n : ℕ) → once_more (times_of n) ≡ times_of (n + 1)
times_more n =
    elim (cases_eq n 0) [
      | inl zero ↦ ap (λ k. once_more (times_of k)) zero ∙ sym (ap (λ k. times_of (k + 1)) zero)
      | inr some ↦
          elim (cases_eq n 1) [
            | inl one ↦ ap (λ k. once_more (times_of k)) one ∙ sym (ap (λ k. times_of (k + 1)) one)
            | inr more ↦ ap once_more (times_often n some more) ∙ sym (times_often (n + 1) (λ e. some (omega arith)) (λ e. some (omega arith)))
          ]
    ]

is_times_of : (wanted : Bool) (n : ℕ) → is_times wanted (times_of n) ≡ eqb n (one_if wanted)
is_times_of wanted n =
    elim (cases_eq n 0) [
      | inl zero ↦ ap (λ k. is_times wanted (times_of k)) zero ∙ at_zero wanted ∙ sym (ap (λ k. eqb k (one_if wanted)) zero)
      | inr some ↦
          elim (cases_eq n 1) [
            | inl one ↦ ap (λ k. is_times wanted (times_of k)) one ∙ at_one wanted ∙ sym (ap (λ k. eqb k (one_if wanted)) one)
            | inr more ↦ ap (is_times wanted) (times_often n some more) ∙ sym (ne_eqb n (one_if wanted) (other wanted some more))
          ]
    ]
  where
    at_zero : (b : Bool) → not b ≡ eqb 0 (one_if b)
    at_zero true = refl
    at_zero false = refl

    at_one : (b : Bool) → b ≡ eqb 1 (one_if b)
    at_one true = refl
    at_one false = refl

    other : (b : Bool) → (n ≡ 0 → ⊥) → (n ≡ 1 → ⊥) → n ≡ one_if b → ⊥
    other true f g e = g e
    other false f g e = f e

-- how many elements pass the test
abbrev tally : (Element → Bool) → List Element → ℕ
tally p [] = 0
tally p (e ∷ es) = cond (p e) (1 + tally p es) (tally p es)

tally_is : (p : Element → Bool) (body : List Element) → tally p body ≡ count_by p body
tally_is p body = is_count_by (tally p) p refl (λ _ _. refl) body

count_end : (n : ℕ) → times_of n ≡ times_of (n + 0)
count_end n = let same : n ≡ n + 0 = omega arith in ap times_of same

count_one : (n m : ℕ) → times_of ((n + 1) + m) ≡ times_of (n + (1 + m))
count_one n m = let same : (n + 1) + m ≡ n + (1 + m) = omega arith in ap times_of same

introduced_run : (marks : List Bool) (s : Shape) (n : ℕ) (body : List Element) → s.introduced ≡ times_of n
    → (run marks s body).introduced ≡ times_of (n + tally is_introduction body)
introduced_run marks s n [] e = e ∙ count_end n
introduced_run marks s n (Terminal t ∷ es) e = introduced_run marks (with_element marks s (Terminal t)) n es e
introduced_run marks s n (Preterminal c ∷ es) e = introduced_run marks (with_element marks s (Preterminal c)) n es e
introduced_run marks s n (Sub c ∷ es) e = introduced_run marks (with_element marks s (Sub c)) n es (same (slice_index_or marks c.name false) ∙ e)
  where
    same : (mark : Bool) → (with_child mark s c.name).introduced ≡ s.introduced
    same true = refl
    same false = refl
introduced_run marks s n (Position x ∷ es) e = introduced_run marks s n es e
introduced_run marks s n (Opener ∷ es) e = introduced_run marks s n es e
introduced_run marks s n (Forward c ∷ es) e =
    introduced_run marks (with_element marks s (Forward c)) (n + 1) es (ap once_more e ∙ times_more n) ∙ count_one n (tally is_introduction es)
introduced_run marks s n (Strong c ∷ es) e =
    introduced_run marks (with_element marks s (Strong c)) (n + 1) es (ap once_more e ∙ times_more n) ∙ count_one n (tally is_introduction es)
introduced_run marks s n (Back ps ns ∷ es) e = introduced_run marks (with_element marks s (Back ps ns)) n es e
introduced_run marks s n (NoBack ps ∷ es) e = introduced_run marks (with_element marks s (NoBack ps)) n es e

referred_run : (marks : List Bool) (s : Shape) (n : ℕ) (body : List Element) → s.referred ≡ times_of n
    → (run marks s body).referred ≡ times_of (n + tally is_reference body)
referred_run marks s n [] e = e ∙ count_end n
referred_run marks s n (Terminal t ∷ es) e = referred_run marks (with_element marks s (Terminal t)) n es e
referred_run marks s n (Preterminal c ∷ es) e = referred_run marks (with_element marks s (Preterminal c)) n es e
referred_run marks s n (Sub c ∷ es) e = referred_run marks (with_element marks s (Sub c)) n es (same (slice_index_or marks c.name false) ∙ e)
  where
    same : (mark : Bool) → (with_child mark s c.name).referred ≡ s.referred
    same true = refl
    same false = refl
referred_run marks s n (Position x ∷ es) e = referred_run marks s n es e
referred_run marks s n (Opener ∷ es) e = referred_run marks s n es e
referred_run marks s n (Forward c ∷ es) e = referred_run marks (with_element marks s (Forward c)) n es e
referred_run marks s n (Strong c ∷ es) e = referred_run marks (with_element marks s (Strong c)) n es e
referred_run marks s n (Back ps ns ∷ es) e =
    referred_run marks (with_element marks s (Back ps ns)) (n + 1) es (ap once_more e ∙ times_more n) ∙ count_one n (tally is_reference es)
referred_run marks s n (NoBack ps ∷ es) e = referred_run marks (with_element marks s (NoBack ps)) n es e

from_zero : (n : ℕ) → 0 + n ≡ n
from_zero n = omega arith

pub introduced_is : (marks : List Bool) (s : Shape) (body : List Element) (wanted : Bool) → s.introduced ≡ Never
    → is_times wanted (run marks s body).introduced ≡ eqb (count_by is_introduction body) (one_if wanted)
introduced_is marks s body wanted e = ap (is_times wanted)
    (introduced_run marks s 0 body e ∙ ap times_of (from_zero (tally is_introduction body) ∙ tally_is is_introduction body))
    ∙ is_times_of wanted (count_by is_introduction body)

pub referred_is : (marks : List Bool) (s : Shape) (body : List Element) (wanted : Bool) → s.referred ≡ Never
    → is_times wanted (run marks s body).referred ≡ eqb (count_by is_reference body) (one_if wanted)
referred_is marks s body wanted e = ap (is_times wanted)
    (referred_run marks s 0 body e ∙ ap times_of (from_zero (tally is_reference body) ∙ tally_is is_reference body))
    ∙ is_times_of wanted (count_by is_reference body)

-- A child behind a word

abbrev pub some : List ℕ → Bool
some [] = false
some (x ∷ xs) = true

and_one_some : (found : Found) (x : ℕ) → is_no (and_one found x) ≡ false
and_one_some No x = refl
and_one_some (One y) x = refl
and_one_some (Two y z) x = refl
and_one_some More x = refl

late_run : (marks : List Bool) (s : Shape) (body : List Element)
    → (run marks s body).child_behind_word ≡ (s.child_behind_word || cond (is_no s.words) (some (meant marks (behind_word body))) (some (meant marks body)))
late_run marks s [] = none s.child_behind_word (is_no s.words)
  where
    none : (x b : Bool) → x ≡ (x || cond b false false)
    none true b = refl
    none false true = refl
    none false false = refl
late_run marks s (Terminal t ∷ es) = late_run marks (with_element marks s (Terminal t)) es
late_run marks s (Preterminal c ∷ es) =
    late_run marks (with_element marks s (Preterminal c)) es
    ∙ ap (λ b. s.child_behind_word || cond b (some (meant marks (behind_word es))) (some (meant marks es))) (and_one_some s.words c.name)
    ∙ ap (λ b. s.child_behind_word || b) (both (is_no s.words))
  where
    both : (b : Bool) → some (meant marks es) ≡ cond b (some (meant marks es)) (some (meant marks es))
    both true = refl
    both false = refl
late_run marks s (Sub c ∷ es) = late_run marks (with_element marks s (Sub c)) es ∙ one (slice_index_or marks c.name false)
  where
    late : (x b y z : Bool) → ((x || not b) || cond b y z) ≡ (x || cond b y true)
    late true true y z = refl
    late true false y z = refl
    late false true y z = refl
    late false false y z = refl

    one : (mark : Bool) → ((with_child mark s c.name).child_behind_word
        || cond (is_no (with_child mark s c.name).words) (some (meant marks (behind_word es))) (some (meant marks es)))
        ≡ (s.child_behind_word || cond (is_no s.words) (some (meant marks (behind_word es)))
        (some (cond (not mark) (c.name ∷ meant marks es) (meant marks es))))
    one true = refl
    one false = late s.child_behind_word (is_no s.words) (some (meant marks (behind_word es))) (some (meant marks es))
late_run marks s (Position x ∷ es) = late_run marks s es
late_run marks s (Opener ∷ es) = late_run marks s es
late_run marks s (Forward c ∷ es) = late_run marks (with_element marks s (Forward c)) es
late_run marks s (Strong c ∷ es) = late_run marks (with_element marks s (Strong c)) es
late_run marks s (Back ps ns ∷ es) = late_run marks (with_element marks s (Back ps ns)) es
late_run marks s (NoBack ps ∷ es) = late_run marks (with_element marks s (NoBack ps)) es

pub late_is : (marks : List Bool) (s : Shape) (body : List Element) → s.child_behind_word ≡ false → s.words ≡ No
    → (run marks s body).child_behind_word ≡ some (meant marks (behind_word body))
late_is marks s body e w = late_run marks s body ∙ ap (λ b. b || cond (is_no s.words) (some (meant marks (behind_word body))) (some (meant marks body))) e
    ∙ ap (λ f. cond (is_no f) (some (meant marks (behind_word body))) (some (meant marks body))) w

-- Names below a number

pub meant_below : (marks : List Bool) (n : ℕ) (body : List Element) → list_all (element_below n) body ≡ true → list_all (λ c. ltb c n) (meant marks body) ≡ true
meant_below marks n [] h = refl
meant_below marks n (Terminal t ∷ es) h = meant_below marks n es h
meant_below marks n (Preterminal c ∷ es) h = meant_below marks n es h
meant_below marks n (Sub c ∷ es) h =
    let parts = and_parts (ltb c.name n) (list_all (element_below n) es) h in
    one parts.0 (meant_below marks n es parts.1) (has_meaning marks c.name)
  where
    one : ltb c.name n ≡ true → list_all (λ x. ltb x n) (meant marks es) ≡ true → (b : Bool)
        → list_all (λ x. ltb x n) (cond b (c.name ∷ meant marks es) (meant marks es)) ≡ true
    one p q true = and_from (ltb c.name n) (list_all (λ x. ltb x n) (meant marks es)) p q
    one p q false = q
meant_below marks n (Position x ∷ es) h = meant_below marks n es h
meant_below marks n (Opener ∷ es) h = meant_below marks n es h
meant_below marks n (Forward c ∷ es) h = meant_below marks n es h
meant_below marks n (Strong c ∷ es) h = meant_below marks n es h
meant_below marks n (Back ps ns ∷ es) h = meant_below marks n es h
meant_below marks n (NoBack ps ∷ es) h = meant_below marks n es h
