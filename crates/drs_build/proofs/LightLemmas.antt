-- What a phrase means introduces no referent more often than its parts do, and its own once.
use Rattle.std.proofs.Common.{ℕ, ◌+◌, ◌≤◌, cond, arith}
use Rattle.std.specs.Prelude.{◌==◌}
use Rattle.codeco_terms.specs.declared.rules.Label.{Label}
use Rattle.codeco_terms.specs.declared.rules.Label.TheVariants as label
use Rattle.codeco_checked.specs.Labels.{label_row}
use Rattle.logic_terms.specs.declared.structures.Thing.{Thing}
use Rattle.logic_terms.specs.declared.structures.Thing.TheVariants.{Ref}
use Rattle.logic_terms.specs.Structure.{Structure, IsA, AreRelated, AreSame, Negation, Implication}
use Rattle.drs_build.specs.Joining.{◌⊕◌, only, introduced}
use Rattle.drs_build.specs.Meanings.{Meaning, nothing, saying, bar, verb_phrase, noun_phrase, Made, meaning}
use Rattle.drs_build.proofs.CountLemmas.{one, count_in, joined_count, negation_count, implication_count, disjunction_count}

-- each referent is introduced at most as often as its weight says
pub record Light (w : ℕ → ℕ) (m : Meaning) : Type 0 where
  pub says : (r : ℕ) → count_in r m.says ≤ w r
  pub on : (x : Thing) (r : ℕ) → count_in r (m.on x) ≤ w r
  pub around : (k : Structure) (r : ℕ) → count_in r (m.around k) ≤ w r + count_in r k

pub light_more : (v w : ℕ → ℕ) (m : Meaning) → ((r : ℕ) → v r ≤ w r) → Light v m → Light w m
light_more v w m le light = record {
  says = λ r. omega (arith, le r, light.says r);
  on = λ x r. omega (arith, le r, light.on x r);
  around = λ k r. omega (arith, le r, light.around k r);
}

pub light_nothing : (w : ℕ → ℕ) → Light w nothing
light_nothing w = record { says = λ r. omega arith; on = λ x r. omega arith; around = λ k r. omega arith }

light_saying : (w : ℕ → ℕ) (k : Structure) → ((r : ℕ) → count_in r k ≤ w r) → Light w (saying k)
light_saying w k h = record { says = h; on = λ x r. omega arith; around = λ l r. omega arith }

light_bar : (w : ℕ → ℕ) (p : ℕ) (k : Structure) → ((r : ℕ) → count_in r k ≤ w r) → Light w (bar p k)
light_bar w p k h = record { says = h; on = λ x r. omega arith; around = λ l r. omega arith }

light_verb : (w : ℕ → ℕ) (on : Thing → Structure) → ((x : Thing) (r : ℕ) → count_in r (on x) ≤ w r) → Light w (verb_phrase on)
light_verb w on h = record { says = λ r. omega arith; on = h; around = λ l r. omega arith }

light_noun : (w : ℕ → ℕ) (t : Thing) (around : Structure → Structure) → ((k : Structure) (r : ℕ) → count_in r (around k) ≤ w r + count_in r k)
    → Light w (noun_phrase t around)
light_noun w t around h = record { says = λ r. omega arith; on = λ x r. omega arith; around = h }

-- what a label itself introduces
abbrev pub own : Label → ℕ → ℕ → ℕ
own l here r = cond (label_row l).introduces (one (here == r)) 0

module _ (m : Made) (v w : ℕ → ℕ) (f : Light v m.first) (s : Light w m.second) where
  abbrev whole : Label → ℕ → ℕ
  whole l r = own l m.here r + v r + w r

  -- the structure that a thing's referent and what is said of it make
  thing_count : (r : ℕ) → count_in r (introduced m.here ⊕ m.first.on (Ref m.here)) ≤ one (m.here == r) + v r
  thing_count r = omega (arith, joined_count r (introduced m.here) (m.first.on (Ref m.here)), f.on (Ref m.here) r)

  pub light_label : (l : Label) → Light (whole l) (meaning l m)
  light_label label.Statement = light_more v (whole label.Statement) m.first (λ r. omega arith) f
  light_label label.Ask = light_more v (whole label.Ask) m.first (λ r. omega arith) f
  light_label label.If = light_saying (whole label.If) (only (Implication m.first.says m.second.says))
      (λ r. omega (arith, implication_count r m.first.says m.second.says, f.says r, s.says r))
  light_label label.Say = light_saying (whole label.Say) (m.first.around (m.second.on m.first.term))
      (λ r. omega (arith, f.around (m.second.on m.first.term) r, s.on m.first.term r))
  light_label label.And = record {
    says = λ r. omega (arith, joined_count r m.first.says m.second.says, f.says r, s.says r);
    on = λ x r. omega (arith, joined_count r (m.first.on x) (m.second.on x), f.on x r, s.on x r);
    around = λ k r. omega arith;
  }
  light_label label.Or = record {
    says = λ r. omega (arith, disjunction_count r m.first.says m.second.says, f.says r, s.says r);
    on = λ x r. omega (arith, disjunction_count r (m.first.on x) (m.second.on x), f.on x r, s.on x r);
    around = λ k r. omega arith;
  }
  light_label label.Pass = light_more v (whole label.Pass) m.first (λ r. omega arith) f
  light_label label.Not = light_verb (whole label.Not) (λ x. only (Negation (m.first.on x))) (λ x r. omega (arith, negation_count r (m.first.on x), f.on x r))
  light_label label.Does = light_verb (whole label.Does) (λ x. m.first.around (only (AreRelated m.word x m.first.term)))
      (λ x r. omega (arith, f.around (only (AreRelated m.word x m.first.term)) r))
  light_label label.Done = light_verb (whole label.Done) (λ x. m.first.around (only (AreRelated m.word m.first.term x)))
      (λ x r. omega (arith, f.around (only (AreRelated m.word m.first.term x)) r))
  light_label label.Class = light_verb (whole label.Class) (λ x. only (IsA m.word x) ⊕ m.first.on x)
      (λ x r. omega (arith, joined_count r (only (IsA m.word x)) (m.first.on x), f.on x r))
  light_label label.Top = light_more v (whole label.Top) nothing (λ r. omega arith) (light_nothing v)
  light_label label.Same = light_verb (whole label.Same) (λ x. m.first.around (only (AreSame x m.first.term)))
      (λ x r. omega (arith, f.around (only (AreSame x m.first.term)) r))
  light_label label.Only = light_verb (whole label.Only)
      (λ x. only (Implication (introduced m.here ⊕ only (AreRelated m.word x (Ref m.here))) (only (IsA m.other_word (Ref m.here))))) (λ x r. omega arith)
  light_label label.Gap = light_verb (whole label.Gap) (λ x. m.first.around (only (AreRelated m.word m.first.term x)))
      (λ x r. omega (arith, f.around (only (AreRelated m.word m.first.term x)) r))
  light_label label.Name = light_noun (whole label.Name) (meaning label.Name m).term (λ k. k) (λ k r. omega arith)
  light_label label.Refer = light_noun (whole label.Refer) m.found (λ k. k) (λ k r. omega arith)
  light_label label.Var = light_noun (whole label.Var) (Ref m.here) (λ k. introduced m.here ⊕ k) (λ k r. omega (arith, joined_count r (introduced m.here) k))
  light_label label.Noun = light_bar (whole label.Noun) m.here ((introduced m.here ⊕ only (IsA m.word (Ref m.here))) ⊕ m.first.on (Ref m.here))
      (λ r. omega (arith, joined_count r (introduced m.here ⊕ only (IsA m.word (Ref m.here))) (m.first.on (Ref m.here)), f.on (Ref m.here) r))
  light_label label.Part = light_bar (whole label.Part) m.here (introduced m.here ⊕ m.first.around (only (AreRelated m.word (Ref m.here) m.first.term)))
      (λ r. omega (
        arith,
        joined_count r (introduced m.here) (m.first.around (only (AreRelated m.word (Ref m.here) m.first.term))),
        f.around (only (AreRelated m.word (Ref m.here) m.first.term)) r,
      ))
  light_label label.Some = light_noun (whole label.Some) (Ref m.first.referent) (λ k. m.first.says ⊕ k)
      (λ k r. omega (arith, joined_count r m.first.says k, f.says r))
  light_label label.Every = light_noun (whole label.Every) (Ref m.first.referent) (λ k. only (Implication m.first.says k))
      (λ k r. omega (arith, implication_count r m.first.says k, f.says r))
  light_label label.No = light_noun (whole label.No) (Ref m.first.referent) (λ k. only (Implication m.first.says (only (Negation k))))
      (λ k r. omega (arith, implication_count r m.first.says (only (Negation k)), negation_count r k, f.says r))
  light_label label.Something = light_noun (whole label.Something) (Ref m.here) (λ k. (introduced m.here ⊕ m.first.on (Ref m.here)) ⊕ k)
      (λ k r. omega (arith, joined_count r (introduced m.here ⊕ m.first.on (Ref m.here)) k, thing_count r))
  light_label label.Everything = light_noun (whole label.Everything) (Ref m.here) (λ k. only (Implication (introduced m.here ⊕ m.first.on (Ref m.here)) k))
      (λ k r. omega (arith, implication_count r (introduced m.here ⊕ m.first.on (Ref m.here)) k, thing_count r))
  light_label label.Nothing = light_noun (whole label.Nothing) (Ref m.here)
      (λ k. only (Implication (introduced m.here ⊕ m.first.on (Ref m.here)) (only (Negation k))))
      (λ k r. omega (arith, implication_count r (introduced m.here ⊕ m.first.on (Ref m.here)) (only (Negation k)), negation_count r k, thing_count r))
  light_label label.What = light_bar (whole label.What) m.here (introduced m.here ⊕ m.first.on (Ref m.here)) (λ r. omega (arith, thing_count r))
  light_label label.Which = light_bar (whole label.Which) m.first.referent (m.first.says ⊕ m.second.on (Ref m.first.referent))
      (λ r. omega (arith, joined_count r m.first.says (m.second.on (Ref m.first.referent)), f.says r, s.on (Ref m.first.referent) r))
  light_label label.Whichobj = light_bar (whole label.Whichobj) m.first.referent
      (m.first.says ⊕ m.second.around (only (AreRelated m.word m.second.term (Ref m.first.referent))))
      (λ r. omega (
        arith,
        joined_count r m.first.says (m.second.around (only (AreRelated m.word m.second.term (Ref m.first.referent)))),
        f.says r,
        s.around (only (AreRelated m.word m.second.term (Ref m.first.referent))) r,
      ))
  light_label label.Mark = light_nothing (whole label.Mark)
