-- The grammar is one of the notation, with the numbers that it gives, and has no fault.
use Rattle.std.proofs.Common.{◌≡◌, ℕ, true, false, ltb, List, [], ◌∷◌, length, get_or, refl}
use Rattle.std.specs.List.{list_all, list_any}
use Rattle.codeco_checked.specs.Numbering.{IsNumbered}
use Rattle.codeco_checked.specs.Faults.{has_large_declarations, has_broad_category, is_large_rule, is_undeclared_rule, has_double_declaration, is_bad_rule, is_empty_rule, is_taking_rule, has_start}
use Rattle.codeco_checked.specs.Sound.{IsWritten, IsSound, is_labelled}
use Rattle.codeco_checked.specs.declared.labels.Kind.{Kind}
use Rattle.codeco_checked.specs.declared.labels.Kind.TheVariants.{Text, Sentence, VerbPhrase, NounPhrase, NounBar, Question, Mark}
use Rattle.codeco_checked.specs.Labels.{fits_label, differs_from_first}
use Rattle.codeco_checked.proofs.FaultTests.{falls, kind_in, is_marked_right, are_marks, PassesTests, faultless}
use Rattle.ace_grammar.specs.Statements.{statements}
use Rattle.ace_grammar.specs.VerbPhrases.{verb_phrases}
use Rattle.ace_grammar.specs.Predicates.{predicates}
use Rattle.ace_grammar.specs.RelativeClauses.{relative_clauses}
use Rattle.ace_grammar.specs.NounPhrases.{noun_phrases}
use Rattle.ace_grammar.specs.Quantifiers.{quantifiers}
use Rattle.ace_grammar.specs.Questions.{questions}
use Rattle.ace_grammar.specs.Grammar.{all_rules, ace_grammar}

-- a rank of each category, by its number: what stands first in a rule has a lower rank than the head
abbrev ranks : List ℕ
ranks = 0 ∷ 0 ∷ 0 ∷ 0 ∷ 0 ∷ 5 ∷ 4 ∷ 0 ∷ 3 ∷ 4 ∷ 2 ∷ 4 ∷ 2 ∷ 3 ∷ 4 ∷ 1 ∷ 2 ∷ 0 ∷ 0 ∷ 0 ∷ 0 ∷ 1 ∷ 0 ∷ 0 ∷ 3 ∷ 0 ∷ 0 ∷ 1 ∷ 2 ∷ 3 ∷ 0 ∷ 1 ∷ 0 ∷ 0 ∷ 0 ∷ 0 ∷ 0 ∷ []

abbrev rank : ℕ → ℕ
rank name = get_or ranks name 0

-- the kind of each category, by its number; those of preterminals and referents count for nothing
abbrev kinds : List Kind
kinds = Sentence ∷ Sentence ∷ Sentence ∷ Sentence ∷ Sentence ∷ Text
    -- s, q, c, cs, np
    ∷ Sentence ∷ Question ∷ Sentence ∷ Sentence ∷ NounPhrase
    -- vps, vpa, vpo, vpr, vp, obj, rnoun
    ∷ VerbPhrase ∷ VerbPhrase ∷ VerbPhrase ∷ VerbPhrase ∷ VerbPhrase ∷ NounPhrase ∷ Sentence
    -- do, vi, be, pr, det, pb, rels
    ∷ Mark ∷ VerbPhrase ∷ Mark ∷ VerbPhrase ∷ Mark ∷ VerbPhrase ∷ VerbPhrase
    -- term, pron, rel, relo, relr, rp, qp
    ∷ NounPhrase ∷ NounPhrase ∷ VerbPhrase ∷ VerbPhrase ∷ VerbPhrase ∷ Mark ∷ NounPhrase
    -- rname, rthing, rvar, nb, nq
    ∷ Sentence ∷ Sentence ∷ Sentence ∷ NounBar ∷ NounBar ∷ []

written : IsWritten ace_grammar
unfolding ace_grammar all_rules statements verb_phrases predicates relative_clauses noun_phrases quantifiers questions
written = record { features = refl; values = refl; atoms = refl; categories = refl; terminals = refl; rules = refl }

numbered : IsNumbered ace_grammar
unfolding ace_grammar all_rules statements verb_phrases predicates relative_clauses noun_phrases quantifiers questions
numbered = record {
  first_features = refl;
  first_atoms = refl;
  first_categories = refl;
  features = refl;
  atoms = refl;
  categories = refl;
  terminals = refl;
  variables = refl;
  different_atoms = refl;
  different_categories = refl;
  different_terminals = refl;
}

declarations_fit : has_large_declarations ace_grammar ≡ false
unfolding ace_grammar all_rules statements verb_phrases predicates relative_clauses noun_phrases quantifiers questions
declarations_fit = refl

none_broad : has_broad_category ace_grammar ≡ false
unfolding ace_grammar all_rules statements verb_phrases predicates relative_clauses noun_phrases quantifiers questions
none_broad = refl

none_large : list_any (is_large_rule ace_grammar) ace_grammar.rules ≡ false
unfolding ace_grammar all_rules statements verb_phrases predicates relative_clauses noun_phrases quantifiers questions
none_large = refl

few : ltb 500 (length ace_grammar.rules) ≡ false
unfolding ace_grammar all_rules statements verb_phrases predicates relative_clauses noun_phrases quantifiers questions
few = refl

all_declared : list_any (is_undeclared_rule ace_grammar) ace_grammar.rules ≡ false
unfolding ace_grammar all_rules statements verb_phrases predicates relative_clauses noun_phrases quantifiers questions
all_declared = refl

none_double : has_double_declaration ace_grammar ≡ false
unfolding ace_grammar all_rules statements verb_phrases predicates relative_clauses noun_phrases quantifiers questions
none_double = refl

none_bad : list_any (is_bad_rule ace_grammar) ace_grammar.rules ≡ false
unfolding ace_grammar all_rules statements verb_phrases predicates relative_clauses noun_phrases quantifiers questions
none_bad = refl

none_empty : list_any is_empty_rule ace_grammar.rules ≡ false
unfolding ace_grammar all_rules statements verb_phrases predicates relative_clauses noun_phrases quantifiers questions
none_empty = refl

all_fall : list_all (falls rank) ace_grammar.rules ≡ true
unfolding ace_grammar all_rules statements verb_phrases predicates relative_clauses noun_phrases quantifiers questions
all_fall = refl

none_takes : list_any is_taking_rule ace_grammar.rules ≡ false
unfolding ace_grammar all_rules statements verb_phrases predicates relative_clauses noun_phrases quantifiers questions
none_takes = refl

all_alike : list_any (differs_from_first ace_grammar.rules) ace_grammar.rules ≡ false
unfolding ace_grammar all_rules statements verb_phrases predicates relative_clauses noun_phrases quantifiers questions
all_alike = refl

all_marked : list_all (is_marked_right kinds) ace_grammar.rules ≡ true
unfolding ace_grammar all_rules statements verb_phrases predicates relative_clauses noun_phrases quantifiers questions
all_marked = refl

all_marks : are_marks ace_grammar.rules 0 kinds ≡ true
unfolding ace_grammar all_rules statements verb_phrases predicates relative_clauses noun_phrases quantifiers questions
all_marks = refl

all_fit : list_all (fits_label (kind_in kinds)) ace_grammar.rules ≡ true
unfolding ace_grammar all_rules statements verb_phrases predicates relative_clauses noun_phrases quantifiers questions
all_fit = refl

starts : has_start ace_grammar ≡ true
unfolding ace_grammar all_rules statements verb_phrases predicates relative_clauses noun_phrases quantifiers questions
starts = refl

passes : PassesTests ace_grammar rank kinds
passes = record {
  declarations = declarations_fit;
  broad = none_broad;
  large = none_large;
  count = few;
  undeclared = all_declared;
  double = none_double;
  bad = none_bad;
  empty = none_empty;
  falls = all_fall;
  taken = none_takes;
  alike = all_alike;
  marked = all_marked;
  marks = all_marks;
  text = refl;
  fit = all_fit;
  start = starts;
}

pub sound : IsSound ace_grammar
sound = record { written = written; numbered = numbered; faultless = faultless ace_grammar rank kinds passes }

pub labelled : is_labelled ace_grammar ≡ true
unfolding ace_grammar all_rules statements verb_phrases predicates relative_clauses noun_phrases quantifiers questions
labelled = refl
