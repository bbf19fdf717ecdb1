-- A lexicon beside other terminals.
use Rattle.std.proofs.Common.{◌≡◌, ℕ, zero, suc, ◌<◌, List, [], ◌∷◌, length, None, All, arith}
use Rattle.wiki_base.proofs.OptionLaws.{option_or-none}
use Rattle.lexicon.specs.declared.words.Word.{Word}
use Rattle.lexicon.specs.Words.{Listed, HasNoTerminal, IsLexicon, first_reserved, reground_refusal, with_terminals}
use Rattle.lexicon.proofs.Adding.{unreserved_texts}

-- where no form is reserved, each word has none of the terminals
pub unreserved_words : (live : List Word) (terminals : List (List ℕ)) → reground_refusal live terminals ≡ None → All (HasNoTerminal terminals) live
unreserved_words [] terminals free k d in_range = absurd (omega arith)
unreserved_words (word ∷ live) terminals free zero d in_range =
    unreserved_texts terminals word.forms.texts (option_or-none (first_reserved terminals word.forms.texts) (reground_refusal live terminals) free).0
unreserved_words (word ∷ live) terminals free (suc k) d in_range =
    unreserved_words live terminals (option_or-none (first_reserved terminals word.forms.texts) (reground_refusal live terminals) free).1 k d (omega arith)

-- a lexicon of which no form is reserved by other terminals is a lexicon beside them
pub lexicon_beside : (listed : Listed) → IsLexicon listed → (terminals : List (List ℕ)) → reground_refusal listed.live terminals ≡ None
    → IsLexicon (with_terminals listed terminals)
lexicon_beside listed lexicon terminals free = record {
  in_order = lexicon.in_order;
  given = lexicon.given;
  complete = lexicon.complete;
  spelled = lexicon.spelled;
  apart = lexicon.apart;
  unreserved = unreserved_words listed.live terminals free;
  few = lexicon.few;
  last_fits = lexicon.last_fits;
}
