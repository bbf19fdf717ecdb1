-- What is known of a question. Only private calls speak of it.
use Rattle.std.specs.Prelude.{◌≡◌, ◌&&◌, IsTrue}
use Rattle.std.specs.List.{list_all}
use Rattle.logic_terms.specs.Complement.{complement}
use Rattle.logic_terms.specs.Plain.{is_plain, are_plain}
use Rattle.logic_terms.specs.Shown.{concept_of}
use Rattle.absorb.specs.Absorbed.{IsAbsorbed}
use Rattle.absorb.specs.Mentioned.{names_in, is_among, are_over}
use Rattle.owl_eval.specs.Checked.{kept_claims}
use Rattle.consequences.specs.Known.{theory_in}
use Rattle.answers.specs.declared.question.Question.{Question}

-- the denial is the class's complement, what is known is the absorbed knowledge of the kept axioms, and the names of these and of the
-- class are among the given ones, and all of them plain
pub record IsFit (q : Question) : Type 0 where
  pub denial : concept_of q.denial.now ≡ complement (concept_of q.class.now)
  pub absorbed : IsAbsorbed (kept_claims q.kept.now) q.names.now (theory_in q.known.now)
  pub over : IsTrue (are_over q.names.now (kept_claims q.kept.now) && list_all (is_among q.names.now) (names_in (concept_of q.class.now)))
  pub plain : IsTrue (are_plain (kept_claims q.kept.now) && is_plain (concept_of q.class.now))
