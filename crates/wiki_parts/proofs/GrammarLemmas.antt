-- What is told of the text of a grammar.
use Rattle.std.proofs.Common.{◌≡◌, ℕ, List, [], ◌∷◌, Bool, true, false, not, cond, IsTrue, MatchBool, Option, Some, None, Result, Ok, Err, inl, inr, refl, sym, ap, subst, ◌∙◌}
use Rattle.std.proofs.lemmas.Bool.{false≢true}
use Rattle.std.specs.Option.{option_or}
use Rattle.codeco_terms.specs.GrammarParts.{GrammarParts}
use Rattle.codeco_checked.specs.declared.fault.GrammarFault.{GrammarFault}
use Rattle.codeco_checked.specs.declared.fault.GrammarFault.TheVariants as faults
use Rattle.codeco_checked.specs.Sound.{is_labelled}
use Rattle.codeco_reader.specs.Texts.{is_in_size, Makes, IsFaultless, SaysOf, IsTextOf, IsFaultOf, Gives}
use Rattle.lexicon.specs.declared.words.Word.{Word}
use Rattle.lexicon.specs.declared.words.LexFault.{LexFault}
use Rattle.lexicon.specs.declared.words.LexFault.TheVariants.{Reserved}
use Rattle.lexicon.specs.Terminals.{is_reserved}
use Rattle.lexicon.specs.Words.{first_reserved, reground_refusal}
use Rattle.wiki_talk.specs.declared.refusals.Refusal.{Refusal}
use Rattle.wiki_talk.specs.declared.refusals.Refusal.TheVariants.{GrammarRefused, Bare}
use Rattle.wiki_parts.specs.declared.faults.Fault.{Fault}
use Rattle.wiki_parts.specs.declared.faults.Fault.TheVariants.{Refused, Memory}
use Rattle.wiki_parts.specs.Faults.{IsFault}
use Rattle.plain_wiki.specs.Causes.{FirstOf, is_no_grammar, is_bare, fault_name, fault_place}

-- a grammar was read
abbrev is_grammar : Result GrammarParts GrammarFault → Bool
is_grammar (Ok g) = true
is_grammar (Err fault) = false

-- the fault for which none was
abbrev fault_or_memory : Result GrammarParts GrammarFault → GrammarFault
fault_or_memory (Ok g) = faults.Memory
fault_or_memory (Err fault) = fault

module _ (text : List ℕ) where
  -- a text of which a grammar is read is in size
  pub read_in_size : (read : Result GrammarParts GrammarFault) (g : GrammarParts) → read ≡ Ok g
      → (IsTrue (not (is_in_size text)) → read ≡ Err (faults.TooLarge 0))
      → IsTrue (is_in_size text)
  read_in_size read g is over = by (is_in_size text) over
    where
      by : (b : Bool) → (IsTrue (not b) → read ≡ Err (faults.TooLarge 0)) → IsTrue b
      by true h = refl
      by false h = absurd (false≢true (ap is_grammar (sym (h refl) ∙ is)))

  -- a fault that isn't want of memory is that of a text over the size, or is what is said of one in size
  in_or_over : (fault : GrammarFault) → (IsTrue (not (is_in_size text)) → fault ≡ faults.TooLarge 0) → (IsTrue (is_in_size text) → SaysOf text fault)
      → MatchBool (is_in_size text) (SaysOf text fault) (fault ≡ faults.TooLarge 0)
  in_or_over fault over within = by (is_in_size text) over within
    where
      by : (b : Bool) → (IsTrue (not b) → fault ≡ faults.TooLarge 0) → (IsTrue b → SaysOf text fault)
          → MatchBool b (SaysOf text fault) (fault ≡ faults.TooLarge 0)
      by true h k = k refl
      by false h k = h refl

  fault_of : (fault : GrammarFault) → ¬ (fault ≡ faults.Memory) → MatchBool (is_in_size text) (SaysOf text fault) (fault ≡ faults.TooLarge 0)
      → IsFaultOf text fault
  fault_of (faults.Syntax n) other h = h
  fault_of (faults.TooLarge n) other h = h
  fault_of (faults.Undeclared n) other h = h
  fault_of (faults.BadValue n) other h = h
  fault_of (faults.EmptyRule n) other h = h
  fault_of (faults.LeftRecursion n) other h = h
  fault_of (faults.TakenVariable n) other h = h
  fault_of (faults.LabelKind n) other h = h
  fault_of faults.NoStart other h = h
  fault_of faults.Memory other h = absurd (other refl)

  -- what is told of the fault
  pub no_grammar : (read : Result GrammarParts GrammarFault) (fault : GrammarFault) (told : Fault) → read ≡ Err fault
      → (IsTrue (not (is_in_size text)) → read ≡ Err (faults.TooLarge 0))
      → (IsTrue (is_in_size text) → SaysOf text fault)
      → ((g : GrammarParts) → IsTrue (is_in_size text) → Makes text g → IsFaultless g → Gives g read)
      → IsFault (λ refusal. refusal ≡ GrammarRefused (fault_name fault) (fault_place fault)) told
      → (fault ≡ faults.Memory → told ≡ Memory)
      → IsFault (FirstOf (is_no_grammar text ∷ is_bare text ∷ [])) told
  no_grammar read fault Memory is over within accepts tells memory = tt
  no_grammar read fault (Refused refusal) is over within accepts tells memory =
      let other : ¬ (fault ≡ faults.Memory) = λ same. refused_for_memory refusal (memory same) in
      inl (
        (λ g h. other (subst (λ (r : Result GrammarParts GrammarFault). Gives g r) is (accepts g h.in_size h.makes h.faultless))),
        (fault, fault_of fault other (in_or_over fault (λ large. sym (ap fault_or_memory is) ∙ ap fault_or_memory (over large)) within), tells),
      )
    where
      refused_for_memory : (r : Refusal) → Refused r ≡ Memory → ⊥
      refused_for_memory r same = cc same

  -- a text that makes a grammar isn't refused for a fault, but where the rules have no labels
  pub bare_grammar : (g : GrammarParts) → IsTextOf text g → is_labelled g ≡ false → IsFault (FirstOf (is_no_grammar text ∷ is_bare text ∷ [])) (Refused Bare)
  bare_grammar g is bare = inr ((λ refusal none. none.0 g is), inl (g, is, (bare, refl)))

-- ---- words beside other terminals

-- words beside other terminals are refused for a form alone
abbrev pub is_for_form : LexFault → Bool
is_for_form (Reserved form) = true
is_for_form fault = false

abbrev is_none_or_for_form : Option LexFault → Bool
is_none_or_for_form None = true
is_none_or_for_form (Some fault) = is_for_form fault

reserved_for_form : (terminals texts : List (List ℕ)) → is_none_or_for_form (first_reserved terminals texts) ≡ true
reserved_for_form terminals [] = refl
reserved_for_form terminals (text ∷ texts) = by (is_reserved terminals text) (reserved_for_form terminals texts)
  where
    by : (b : Bool) → is_none_or_for_form (first_reserved terminals texts) ≡ true
        → is_none_or_for_form (cond b (Some (Reserved text)) (first_reserved terminals texts)) ≡ true
    by true rest = refl
    by false rest = rest

reground_for_form : (live : List Word) (terminals : List (List ℕ)) → is_none_or_for_form (reground_refusal live terminals) ≡ true
reground_for_form [] terminals = refl
reground_for_form (word ∷ live) terminals =
    by (first_reserved terminals word.forms.texts) (reserved_for_form terminals word.forms.texts) (reground_for_form live terminals)
  where
    by : (o : Option LexFault) → is_none_or_for_form o ≡ true → is_none_or_for_form (reground_refusal live terminals) ≡ true
        → is_none_or_for_form (option_or o (reground_refusal live terminals)) ≡ true
    by None own rest = rest
    by (Some fault) own rest = own

pub form_alone : (live : List Word) (terminals : List (List ℕ)) (fault : LexFault) → reground_refusal live terminals ≡ Some fault → is_for_form fault ≡ true
form_alone live terminals fault is = ap is_none_or_for_form (sym is) ∙ reground_for_form live terminals
