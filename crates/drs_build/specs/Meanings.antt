-- What a phrase means, by its label and what its parts mean.
use Rattle.std.specs.Prelude.{ℕ}
use Rattle.wiki_base.specs.declared.numbers.WordId.{WordId}
use Rattle.codeco_terms.specs.declared.rules.Label.{Label}
use Rattle.codeco_terms.specs.declared.rules.Label.TheVariants as label
use Rattle.logic_terms.specs.declared.structures.Thing.{Thing}
use Rattle.logic_terms.specs.declared.structures.Thing.TheVariants.{Ref, Name}
use Rattle.logic_terms.specs.Structure.{Structure, IsA, AreRelated, AreSame, Negation, Implication, Disjunction}
use Rattle.drs_build.specs.Joining.{◌⊕◌, empty, only, introduced}

-- The meaning of a phrase. A text, a sentence, a question and a noun bar have a structure; a question and a noun bar have a
-- referent too, for the question the one that is asked for. A verb phrase has a structure on each term. A noun phrase has a
-- term, and a structure around each structure. What a phrase of a kind doesn't have is empty.
pub record Meaning : Type 0 where
  pub says : Structure
  pub referent : ℕ
  pub on : Thing → Structure
  pub term : Thing
  pub around : Structure → Structure

-- the meaning of a mark, and of what is absent
abbrev pub nothing : Meaning
nothing = record { says = empty; referent = 0; on = λ _. empty; term = Ref 0; around = λ k. k }

abbrev pub saying : Structure → Meaning
saying k = record { says = k; referent = 0; on = λ _. empty; term = Ref 0; around = λ l. l }

-- a noun bar or a question
abbrev pub bar : ℕ → Structure → Meaning
bar p k = record { says = k; referent = p; on = λ _. empty; term = Ref 0; around = λ l. l }

abbrev pub verb_phrase : (Thing → Structure) → Meaning
verb_phrase on = record { says = empty; referent = 0; on = on; term = Ref 0; around = λ l. l }

abbrev pub noun_phrase : Thing → (Structure → Structure) → Meaning
noun_phrase term around = record { says = empty; referent = 0; on = λ _. empty; term = term; around = around }

-- What the meaning of a phrase is made of: the meanings of its first and second child that is no mark, its first and second
-- word, the position of the referent that it introduces, and the term to which it refers.
pub record Made : Type 0 where
  pub first : Meaning
  pub second : Meaning
  pub word : WordId
  pub other_word : WordId
  pub here : ℕ
  pub found : Thing

-- The equation of each label. Both meanings of `and` and `or` are those of sentences or those of verb phrases; the last row is that of `statement`,
-- `ask` and `pass`.
abbrev pub meaning : Label → Made → Meaning
meaning label.If m = saying (only (Implication m.first.says m.second.says))
meaning label.Say m = saying (m.first.around (m.second.on m.first.term))
meaning label.And m = record nothing { says = m.first.says ⊕ m.second.says; on = λ x. m.first.on x ⊕ m.second.on x }
meaning label.Or m = record nothing { says = only (Disjunction m.first.says m.second.says); on = λ x. only (Disjunction (m.first.on x) (m.second.on x)) }
meaning label.Not m = verb_phrase (λ x. only (Negation (m.first.on x)))
meaning label.Does m = verb_phrase (λ x. m.first.around (only (AreRelated m.word x m.first.term)))
meaning label.Done m = verb_phrase (λ x. m.first.around (only (AreRelated m.word m.first.term x)))
meaning label.Class m = verb_phrase (λ x. only (IsA m.word x) ⊕ m.first.on x)
meaning label.Top m = verb_phrase (λ x. empty)
meaning label.Same m = verb_phrase (λ x. m.first.around (only (AreSame x m.first.term)))
meaning label.Only m =
    verb_phrase (λ x. only (Implication (introduced m.here ⊕ only (AreRelated m.word x (Ref m.here))) (only (IsA m.other_word (Ref m.here)))))
meaning label.Gap m = verb_phrase (λ x. m.first.around (only (AreRelated m.word m.first.term x)))
meaning label.Name m = noun_phrase (Name m.word) (λ k. k)
meaning label.Refer m = noun_phrase m.found (λ k. k)
meaning label.Var m = noun_phrase (Ref m.here) (λ k. introduced m.here ⊕ k)
meaning label.Noun m = bar m.here ((introduced m.here ⊕ only (IsA m.word (Ref m.here))) ⊕ m.first.on (Ref m.here))
meaning label.Part m = bar m.here (introduced m.here ⊕ m.first.around (only (AreRelated m.word (Ref m.here) m.first.term)))
meaning label.Some m = noun_phrase (Ref m.first.referent) (λ k. m.first.says ⊕ k)
meaning label.Every m = noun_phrase (Ref m.first.referent) (λ k. only (Implication m.first.says k))
meaning label.No m = noun_phrase (Ref m.first.referent) (λ k. only (Implication m.first.says (only (Negation k))))
meaning label.Something m = noun_phrase (Ref m.here) (λ k. (introduced m.here ⊕ m.first.on (Ref m.here)) ⊕ k)
meaning label.Everything m = noun_phrase (Ref m.here) (λ k. only (Implication (introduced m.here ⊕ m.first.on (Ref m.here)) k))
meaning label.Nothing m = noun_phrase (Ref m.here) (λ k. only (Implication (introduced m.here ⊕ m.first.on (Ref m.here)) (only (Negation k))))
meaning label.What m = bar m.here (introduced m.here ⊕ m.first.on (Ref m.here))
meaning label.Which m = bar m.first.referent (m.first.says ⊕ m.second.on (Ref m.first.referent))
meaning label.Whichobj m = bar m.first.referent (m.first.says ⊕ m.second.around (only (AreRelated m.word m.second.term (Ref m.first.referent))))
meaning label.Mark m = nothing
meaning _ m = m.first
